-- The records that replay takes, and whether the main bytes of one hold its layout. Own: "The profile of replay".
use Rattle.std.specs.Prelude.{◌==◌, ◌&&◌, Bool, not, List, [], ◌∷◌, Option, Some, None, Result, Ok, Err, if◌then◌else◌}
use Rattle.block_refs.specs.Bytes.{main_bytes}
use Rattle.block_refs.specs.Outcomes.{record_parts, start_of}
use Rattle.block_refs.specs.Parts.{PartsView, no_parts}
use Rattle.block_refs.specs.declared.fault.PartsFault.{PartsFault}
use Rattle.block_refs.specs.declared.fault.PartsFault.TheVariants as parts
use Rattle.record_layouts.specs.Operation.{is_whole, operation_of}
use Rattle.record_layouts.specs.declared.operation.Operation.{Operation}
use Rattle.wal_records.specs.Reading.{LogRecord}
use Rattle.replay_profile.specs.Fields.{takes_fields}
use Rattle.replay_profile.specs.Names.{are_known}
use Rattle.replay_profile.specs.Operations.{is_known_operation}
use Rattle.replay_profile.specs.declared.fault.ProfileFault.{ProfileFault}
use Rattle.replay_profile.specs.declared.fault.ProfileFault.TheVariants.{BadParts, Compressed, NotInProfile}
use Rattle.rmgr_hooks.specs.Custom.{Extension}

-- what a record does
abbrev pub done_by : LogRecord → Operation
done_by rec = operation_of rec.header.manager rec.header.info

-- replay knows what a record does: by the manager of an extension of its own records, where one is handed in
abbrev pub is_known : Option Extension → LogRecord → Bool
is_known None rec = is_known_operation (done_by rec)
is_known (Some e) rec = if rec.header.manager == e.id then e.is_known rec.header.info else is_known_operation (done_by rec)

-- a record of these parts is in the profile
abbrev pub is_in_profile : Option Extension → LogRecord → PartsView → Bool
is_in_profile custom rec parts =
    are_known parts.blocks && is_known custom rec && takes_fields (done_by rec) (main_bytes rec.body parts)

-- its main bytes lack some of its layout
abbrev pub is_short : LogRecord → PartsView → Bool
is_short rec parts = not (is_whole (done_by rec) (main_bytes rec.body parts))

-- a record outside
abbrev pub outside : LogRecord → ProfileFault
outside rec = NotInProfile (start_of rec) rec.header.manager rec.header.info

-- why a record has no parts
abbrev pub without_parts : PartsFault → ProfileFault
without_parts (parts.BadParts start offset) = BadParts start offset
without_parts (parts.Compressed start id) = Compressed start id

-- the parts of a record of the profile, or why it is none
abbrev pub judged_by : Option Extension → LogRecord → Result PartsView PartsFault → Result PartsView ProfileFault
judged_by custom rec (Ok parts) = if is_in_profile custom rec parts then Ok parts else Err (outside rec)
judged_by custom rec (Err fault) = Err (without_parts fault)

abbrev pub judged : Option Extension → LogRecord → Result PartsView ProfileFault
judged custom rec = judged_by custom rec (record_parts rec)

-- the parts that a record has, or none
abbrev pub parts_or_none : Result PartsView PartsFault → PartsView
parts_or_none (Ok parts) = parts
parts_or_none (Err fault) = no_parts

-- the first fault of a list of records, in their order
abbrev pub first_of : Result PartsView ProfileFault → Option ProfileFault → Option ProfileFault
first_of (Err fault) later = Some fault
first_of (Ok parts) later = later

abbrev pub first_outside : Option Extension → List LogRecord → Option ProfileFault
first_outside custom [] = None
first_outside custom (rec ∷ records) = first_of (judged custom rec) (first_outside custom records)

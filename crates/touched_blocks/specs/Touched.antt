-- The blocks that records touch: PostgreSQL 16, src/bin/pg_rewind/parsexlog.c, extractPageInfo. Own: "What a record
-- touches".
use Rattle.std.specs.Prelude.{ℕ, Bool, not, ◌&&◌, List, [], ◌∷◌, ◌++◌, Option, Some, None, Result, Ok, Err, if◌then◌else◌}
use Rattle.std.specs.List.{flat_map, list_any}
use Rattle.block_refs.specs.Bits.{has_bits}
use Rattle.block_refs.specs.Bytes.{main_bytes}
use Rattle.block_refs.specs.Outcomes.{record_parts, start_of}
use Rattle.block_refs.specs.Parts.{PartsView}
use Rattle.block_refs.specs.declared.fault.PartsFault.{PartsFault}
use Rattle.block_refs.specs.declared.names.BlockName.{BlockName}
use Rattle.block_refs.specs.declared.names.Fork.{Fork}
use Rattle.block_refs.specs.declared.names.Fork.TheVariants as fork
use Rattle.block_refs.specs.declared.names.RelName.{RelName}
use Rattle.block_refs.specs.declared.placed.Placed.{Placed}
use Rattle.record_layouts.specs.Operation.{operation_of}
use Rattle.record_layouts.specs.declared.operation.Operation.{Operation}
use Rattle.wal_records.specs.Reading.{LogRecord}
use Rattle.touched_blocks.specs.Fields.{is_kind, named_by_fields}
use Rattle.touched_blocks.specs.Named.{covers}
use Rattle.touched_blocks.specs.declared.fault.TouchFault.{TouchFault}
use Rattle.touched_blocks.specs.declared.fault.TouchFault.TheVariants.{UnknownSpecial}
use Rattle.touched_blocks.specs.declared.named.Named.{Named}
use Rattle.touched_blocks.specs.declared.named.Named.TheVariants.{OneBlock}

-- a reference names its block where that is one of a main fork
abbrev pub named_in : Fork → RelName → ℕ → List Named
named_in fork.Main rel block = OneBlock rel block ∷ []
named_in f rel block = []

abbrev pub named_by_block : BlockName → List Named
named_by_block name = named_in name.fork name.rel name.block

-- what the references of a record name
abbrev pub named_by_references : List Placed → List Named
named_by_references blocks = flat_map (λ placed. named_by_block placed.block.name) blocks

-- what a record does
abbrev pub operation_in : LogRecord → Operation
operation_in rec = operation_of rec.header.manager rec.header.info

-- it changes relations without a reference, XLR_SPECIAL_REL_UPDATE
abbrev pub is_special : LogRecord → Bool
is_special rec = has_bits rec.header.info 1

-- the record isn't known
abbrev pub unknown : LogRecord → TouchFault
unknown rec = UnknownSpecial (start_of rec) rec.header.manager rec.header.info

-- what its references name, and then what its fields name, where they are whole
abbrev pub with_fields : LogRecord → List Named → Option (List Named) → Result (List Named) TouchFault
with_fields rec named None = Err (unknown rec)
with_fields rec named (Some more) = Ok (named ++ more)

-- what a record of these parts names, or that it isn't known
abbrev pub names_of : LogRecord → PartsView → Result (List Named) TouchFault
names_of rec parts =
    if is_special rec && not (is_kind (operation_in rec)) then Err (unknown rec)
    else with_fields rec (named_by_references parts.blocks)
    (named_by_fields (operation_in rec) (main_bytes rec.body parts))

-- the names; one that isn't known names nothing
abbrev pub names_or_none : Result (List Named) TouchFault → List Named
names_or_none (Ok names) = names
names_or_none (Err fault) = []

-- what a record names; one without parts names nothing
abbrev pub names_in : LogRecord → Result PartsView PartsFault → List Named
names_in rec (Ok parts) = names_or_none (names_of rec parts)
names_in rec (Err fault) = []

-- a record names a block of a relation's main fork
abbrev pub names_block : LogRecord → RelName → ℕ → Bool
names_block rec rel block = list_any (covers rel block) (names_in rec (record_parts rec))

-- some of these records does
abbrev pub touches : List LogRecord → RelName → ℕ → Bool
touches records rel block = list_any (λ rec. names_block rec rel block) records

-- What the steps of the reading give.
use Rattle.std.specs.Prelude.{Option, ◌≡◌, ◌⊎◌, ◌||◌, ◌+◌, ◌^◌, ◌<◌, ◌≤◌, List, None, Some, Result, Ok, Err, option_map}
use Rattle.std.specs.List.{list_any}
use Rattle.backup_label.specs.declared.reading.LabelPlaces.{LabelPlaces}
use Rattle.replay_profile.specs.Profile.{first_outside}
use Rattle.wal_records.specs.Cursor.{CursorView}
use Rattle.wal_records.specs.Log.{end_after}
use Rattle.wal_records.specs.Reading.{LogRecord}
use Rattle.replay_start.specs.Faults.{IsFree, of_profile}
use Rattle.replay_start.specs.Scanned.{is_labelled}
use Rattle.replay_start.specs.declared.fault.ReplayFault.{ReplayFault}
use Rattle.replay_start.specs.declared.scan.Seen.{Seen}
use Rattle.replay_start.specs.declared.scan.Turn.{Turn}
use Rattle.replay_start.specs.declared.scan.Turn.TheVariants.{More, Done}
use Rattle.rmgr_hooks.specs.Custom.{Extension}

-- what was seen with a record more
abbrev pub with_record : LabelPlaces → LogRecord → Seen → Seen
with_record label r seen = record { end = record { 0 = r.end }; found = seen.found || is_labelled label r }

-- what is asked of records is asked of the rest, the first ones having been seen
pub record Scans (custom : Option Extension) (label : LabelPlaces) (old new : List LogRecord) (before after : Seen) : Type 0 where
  pub outside : first_outside custom old ≡ first_outside custom new
  pub end : end_after before.end.0 old ≡ end_after after.end.0 new
  pub found : (before.found || list_any (is_labelled label) old) ≡ (after.found || list_any (is_labelled label) new)

-- all were seen, and are taken
pub record IsScanned (custom : Option Extension) (label : LabelPlaces) (records : List LogRecord) (before after : Seen) : Type 0 where
  pub taken : first_outside custom records ≡ None
  pub end : end_after before.end.0 records ≡ after.end.0
  pub found : (before.found || list_any (is_labelled label) records) ≡ after.found

abbrev pub IsRefused : Option Extension → List LogRecord → ReplayFault → Type 0
IsRefused custom records e = IsFree e ⊎ (option_map of_profile (first_outside custom records) ≡ Some e)

abbrev pub ScansAll : Option Extension → LabelPlaces → List LogRecord → Seen → Seen → Result (Unit {0}) ReplayFault → Type 0
ScansAll custom label records before after (Ok done) = IsScanned custom label records before after
ScansAll custom label records before after (Err e) = IsRefused custom records e

abbrev pub ScansNext : Option Extension → LabelPlaces → List LogRecord → List LogRecord → Seen → Seen → Result Turn ReplayFault → Type 0
ScansNext custom label old new before after (Ok More) = Scans custom label old new before after
ScansNext custom label old new before after (Ok Done) = IsScanned custom label old before after
ScansNext custom label old new before after (Err e) = IsRefused custom old e

-- behind a record the cursor stands further on, and hasn't ended
pub record IsFurther (old new : CursorView) : Type 0 where
  pub opened : new.ended ≡ None
  pub up : old.place + 24 ≤ new.place
  pub within : new.place < 2 ^ 64

abbrev pub MovesOn : CursorView → CursorView → Turn → Type 0
MovesOn old new More = IsFurther old new
MovesOn old new Done = Unit {0}

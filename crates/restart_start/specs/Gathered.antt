-- What is gathered of the first effects of a log while it is read once more. Own: "Blocks that are changed first".
use Rattle.std.specs.Prelude.{◌≡◌, ◌⊎◌, List, [], ◌∷◌, ◌++◌, map, Some, Result, Ok, Err, MatchResult, Option, option_map}
use Rattle.block_effects.specs.Lives.{Split}
use Rattle.block_refs.specs.Outcomes.{record_parts}
use Rattle.block_refs.specs.declared.names.BlockName.{BlockName}
use Rattle.first_effects.specs.First.{IsLeastChanged}
use Rattle.first_effects.specs.Gathered.{FirstView, Follows}
use Rattle.replay_profile.specs.Profile.{first_outside, parts_or_none}
use Rattle.replay_start.specs.Faults.{IsFree, of_profile}
use Rattle.replay_start.specs.declared.fault.ReplayFault.{ReplayFault}
use Rattle.restart_start.specs.declared.gather.Turn.{Turn}
use Rattle.restart_start.specs.declared.gather.Turn.TheVariants.{More, Done}
use Rattle.rmgr_hooks.specs.Custom.{Extension}
use Rattle.wal_records.specs.Reading.{LogRecord}

-- records, each with the parts that replay reads of it
abbrev pub split_of : LogRecord → Split
split_of rec = record { rec = rec; parts = parts_or_none (record_parts rec) }

abbrev pub splits_of : List LogRecord → List Split
splits_of records = map split_of records

-- behind these records what was gathered is of a log with them at its end
abbrev pub Gathers : Option Extension → List LogRecord → FirstView → FirstView → Type 0
Gathers custom records before after = (log : List Split) → Follows custom log before → Follows custom (log ++ splits_of records) after

-- the first records of a list were gathered, and these are left
pub record HasGathered (custom : Option Extension) (all left : List LogRecord) (before after : FirstView) : Type 0 where
  pub done : List LogRecord
  pub joins : all ≡ done ++ left
  pub outside : first_outside custom all ≡ first_outside custom left
  pub gathers : Gathers custom done before after

-- a record that isn't taken; or the answer is free
abbrev pub IsRefused : Option Extension → List LogRecord → ReplayFault → Type 0
IsRefused custom records e = IsFree e ⊎ (option_map of_profile (first_outside custom records) ≡ Some e)

abbrev pub GathersAll : Option Extension → List LogRecord → FirstView → FirstView → Result (Unit {0}) ReplayFault → Type 0
GathersAll custom records before after (Ok done) = Gathers custom records before after
GathersAll custom records before after (Err e) = IsRefused custom records e

-- one more was read and gathered, or none is left
abbrev pub GathersNext : Option Extension → (old new : List LogRecord) → FirstView → FirstView → Result Turn ReplayFault → Type 0
GathersNext custom old new before after (Ok More) = (rec : LogRecord) × (old ≡ rec ∷ new) × (first_outside custom old ≡ first_outside custom new) × Gathers custom (rec ∷ []) before after
GathersNext custom old new before after (Ok Done) = (old ≡ []) × (after ≡ before)
GathersNext custom old new before after (Err e) = IsRefused custom old e

-- the least block of a main fork that the records change first, if one is; or one isn't taken
abbrev pub TellsFirst : Option Extension → List LogRecord → Result (Option BlockName) ReplayFault → Type 0
TellsFirst custom records result = MatchResult result (λ least. IsLeastChanged custom (splits_of records) least) (IsRefused custom records)

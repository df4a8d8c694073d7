-- What is gathered of the first effects of a log. Own: "Blocks that are changed first".
use Rattle.std.specs.Prelude.{◌≡◌, ◌||◌, Bool, true, List, [], ◌∷◌, ◌++◌, Option}
use Rattle.std.specs.BTreeMap.{is_at}
use Rattle.std.specs.List.{list_any}
use Rattle.block_refs.specs.Order.{compared}
use Rattle.block_refs.specs.Parts.{PartsView}
use Rattle.block_refs.specs.declared.names.BlockName.{BlockName}
use Rattle.wal_records.specs.Reading.{LogRecord}
use Rattle.block_effects.specs.Gone.{is_main}
use Rattle.block_effects.specs.Lives.{Split, steps_of}
use Rattle.record_effects.specs.Managers.{rules_of}
use Rattle.rmgr_hooks.specs.Custom.{Extension}
use Rattle.first_effects.specs.First.{IsLeastChanged, is_met}
use Rattle.first_effects.specs.Taken.{TakenView, is_taken}

-- The blocks of main forks that images, pages made anew and changes met, each once, rising; what was taken away; and the
-- least block that was changed first.
pub record FirstView : Type 0 where
  pub met : List BlockName
  pub taken : TakenView
  pub least : Option BlockName

-- a block of a main fork was met or taken away
abbrev pub is_known : BlockName → FirstView → Bool
is_known name seen = list_any (is_at (compared name)) seen.met || is_taken name seen.taken

-- What is gathered is of this log: of the blocks of main forks those on which it has an effect are known, and no others,
-- and the least that it changes first is told.
pub record Follows (custom : Option Extension) (log : List Split) (seen : FirstView) : Type 0 where
  pub known : (name : BlockName) → is_main name.fork ≡ true → is_known name seen ≡ is_met (steps_of (rules_of custom) name log)
  pub least : IsLeastChanged custom log seen.least

-- a log, and a record with its parts behind it
abbrev pub with_record : List Split → LogRecord → PartsView → List Split
with_record log rec parts = log ++ record { rec = rec; parts = parts } ∷ []

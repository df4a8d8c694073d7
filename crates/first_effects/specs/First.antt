-- The first effect of a log on a block. Own: "Blocks that are changed first".
use Rattle.std.specs.Prelude.{◌≡◌, ◌≢◌, ◌&&◌, Bool, true, false, List, [], ◌∷◌, Option, None, Some}
use Rattle.std.specs.declared.cmp.Ordering.TheVariants.{Less}
use Rattle.block_refs.specs.Order.{compared}
use Rattle.block_refs.specs.declared.names.BlockName.{BlockName}
use Rattle.replay_law.specs.Effect.{Nothing, Change, Step, At}
use Rattle.block_effects.specs.Gone.{is_main}
use Rattle.block_effects.specs.Lives.{Split, steps_of}
use Rattle.record_effects.specs.Managers.{rules_of}
use Rattle.rmgr_hooks.specs.Custom.{Extension}

-- some record of a log has an effect on the block
abbrev pub is_met : List Step → Bool
is_met [] = false
is_met (At end Nothing ∷ log) = is_met log
is_met (At end effect ∷ log) = true

-- the first effect on it is a change of the page that stood there
abbrev pub is_changed_first : List Step → Bool
is_changed_first [] = false
is_changed_first (At end Nothing ∷ log) = is_changed_first log
is_changed_first (At end (Change change) ∷ log) = true
is_changed_first (At end effect ∷ log) = false

-- it is a block of a main fork, and the first effect of a log of records on it is a change
abbrev pub is_changed : Option Extension → List Split → BlockName → Bool
is_changed custom log name = is_main name.fork && is_changed_first (steps_of (rules_of custom) name log)

-- the least of some blocks in their order, or that there is none
abbrev pub IsLeastOf : (BlockName → Bool) → Option BlockName → Type 0
IsLeastOf is_it None = (name : BlockName) → is_it name ≡ false
IsLeastOf is_it (Some least) = (is_it least ≡ true) × ((name : BlockName) → is_it name ≡ true → compared name least ≢ Less)

-- one of some blocks, or none
abbrev pub IsOneOf : (BlockName → Bool) → Option BlockName → Type 0
IsOneOf is_it None = Unit {0}
IsOneOf is_it (Some name) = is_it name ≡ true

-- the least block of a main fork whose first effect in a log is a change, or that there is none
abbrev pub IsLeastChanged : Option Extension → List Split → Option BlockName → Type 0
IsLeastChanged custom log least = IsLeastOf (is_changed custom log) least

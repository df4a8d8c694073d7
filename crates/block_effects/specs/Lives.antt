-- A block in the life of the server that wrote the log, by the rules of the managers of its records. Own: "The law of one
-- block", "Effects of records".
use Rattle.std.specs.Prelude.{ℕ, List, [], ◌∷◌, Option}
use Rattle.block_refs.specs.Parts.{ArePartsOf, PartsView}
use Rattle.block_refs.specs.declared.names.BlockName.{BlockName}
use Rattle.page_masks.specs.Law.{view}
use Rattle.replay_law.specs.Effect.{Step, At}
use Rattle.replay_law.specs.Premises.{EndsRise, IsNoNewer, IsState, RunsOn}
use Rattle.wal_records.specs.Reading.{LogRecord}
use Rattle.block_effects.specs.Effects.{effect_by}
use Rattle.block_effects.specs.Rules.{BlockRules}

-- a record with its parts
pub record Split : Type 0 where
  pub rec : LogRecord
  pub parts : PartsView

abbrev pub AreSplit : List Split → Type 0
AreSplit [] = Unit {0}
AreSplit (split ∷ log) = ArePartsOf split.rec split.parts × AreSplit log

-- a log as one block meets it
abbrev pub steps_of : (LogRecord → BlockRules) → BlockName → List Split → List Step
steps_of rules name [] = []
steps_of rules name (split ∷ log) = At split.rec.end (effect_by (rules split.rec) split.rec split.parts name) ∷ steps_of rules name log

-- The log and the block's state in a base, as a server that logs hints leaves them. What the law of one block asks of
-- effects is left out: the managers owe it.
pub record IsLife (rules : LogRecord → BlockRules) (name : BlockName) (redo : ℕ) (base : Option (List ℕ)) (log : List Split) : Type 0 where
  pub split : AreSplit log
  pub rises : EndsRise redo (steps_of rules name log)
  pub page : IsState (view name.block) base
  pub old : IsNoNewer (view name.block) redo base
  pub runs : RunsOn (view name.block) base (steps_of rules name log)

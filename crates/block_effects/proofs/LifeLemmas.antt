-- The effects of a block's life are those that the law of one block asks, where the managers keep what they owe.
use Rattle.std.proofs.Common.{ℕ, ◌<◌, List, [], ◌∷◌, Option, arith}
use Rattle.block_refs.specs.declared.names.BlockName.{BlockName}
use Rattle.page_masks.specs.Law.{view}
use Rattle.replay_law.specs.Law.{EndAlike}
use Rattle.replay_law.specs.Premises.{AreEffects, EndsRise, IsState}
use Rattle.replay_law.specs.Stage.{Fits}
use Rattle.replay_law.proofs.BlockLaw.{alike}
use Rattle.wal_records.specs.Reading.{LogRecord}
use Rattle.block_effects.specs.Lives.{AreSplit, IsLife, Split, steps_of}
use Rattle.block_effects.specs.Rules.{AreRules, BlockRules}
use Rattle.block_effects.proofs.MeetLemmas.{meets}

effects_are : (rules : LogRecord → BlockRules) (name : BlockName) (low : ℕ) (log : List Split) → ((rec : LogRecord) → AreRules (rules rec)) → AreSplit log → EndsRise low (steps_of rules name log) → AreEffects (view name.block) (steps_of rules name log)
effects_are rules name low [] are split rises = tt
effects_are rules name low (first ∷ log) are split rises =
    let above : low < first.rec.end = rises.0 in
    (meets (rules first.rec) first.rec first.parts name (are first.rec) split.0 (omega arith), effects_are rules name first.rec.end log are split.1 rises.1)

pub converge : (rules : LogRecord → BlockRules) (name : BlockName) (redo : ℕ) (base a b : Option (List ℕ)) (log : List Split) → ((rec : LogRecord) → AreRules (rules rec)) → IsLife rules name redo base log
    → IsState (view name.block) a → IsState (view name.block) b → Fits (view name.block) base a (steps_of rules name log) → Fits (view name.block) base b (steps_of rules name log)
    → EndAlike (view name.block) a b (steps_of rules name log)
converge rules name redo base a b log are life page_a page_b fits_a fits_b =
    alike (view name.block) redo base a b (steps_of rules name log) (record {
      rises = life.rises;
      effects = effects_are rules name redo log are life.split life.rises;
      page = life.page;
      old = life.old;
      runs = life.runs;
    }) page_a page_b fits_a fits_b

use Rattle.block_effects.proofs.LifeLemmas.{converge}
use Rattle.block_effects.proofs.SlotLemmas.{slot_rules_are}
use Rattle.block_effects.specs.Slot.{slot_rules}
use Rattle.block_effects.proofs.laws.a_slot_joins.Goals as goal

pub returns-clause-rules : goal.returns-clause-rules
returns-clause-rules c = slot_rules_are

pub returns-clause-converges : goal.returns-clause-converges
returns-clause-converges c = λ name redo base a b log. converge (λ rec. slot_rules) name redo base a b log (λ rec. slot_rules_are)

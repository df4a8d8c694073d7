use Rattle.std.proofs.Common.{◌&&◌, ◌∙◌, ap, sym}
use Rattle.block_effects.specs.Lives.{steps_of}
use Rattle.record_effects.specs.Managers.{rules_of}
use Rattle.first_effects.specs.First.{is_changed_first}
use Rattle.first_effects.proofs.LawLemmas.{either}
use Rattle.first_effects.proofs.laws.logs_without_changes_begin_anew.Goals as goal

pub returns : goal.returns
returns c = λ custom log name least main.
    either (steps_of (rules_of custom) name log) (sym (ap (λ b. b && is_changed_first (steps_of (rules_of custom) name log)) main) ∙ least name)

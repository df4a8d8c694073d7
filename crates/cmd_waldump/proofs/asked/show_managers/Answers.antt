use Rattle.std.proofs.Common.{◌∙◌, [], ◌∷◌, inr, refl}
use Rattle.acts.specs.Acts.{Print}
use Rattle.run_acts.proofs.AnswerSteps.{carries_acts, carries_fault, last_exact, last_print}
use Rattle.cmd_waldump.specs.Waldump.{manager_list}
use Rattle.cmd_waldump.proofs.asked.show_managers.Goals as goal

pub returns-in-Ok-clause-carries : goal.returns-in-Ok-clause-carries
returns-in-Ok-clause-carries g c err_tells err contents calls =
    carries_acts (Print manager_list ∷ []) (λ h. refl) refl (last_exact c.tell.result c.tell.ensures.only) refl refl
    (last_print c.tell.result c.tell.ensures.whole c.tell.ensures.part c.tell.ensures.only (c.as_str.ensures.value ∙ c.in-Ok.ensures))

pub returns-in-Err-clause-carries : goal.returns-in-Err-clause-carries
returns-in-Err-clause-carries g c err_tells err contents calls = carries_fault refl tt (inr refl) refl refl

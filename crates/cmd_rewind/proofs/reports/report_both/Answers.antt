use Rattle.std.proofs.Common.{ap, refl}
use Rattle.acts.proofs.ActSteps.{report_goes_on, report_breaks}
use Rattle.run_acts.specs.Causes.{ending_of}
use Rattle.run_acts.proofs.AnswerSteps.{last_report}
use Rattle.cmd_rewind.proofs.reports.report_both.Goals as goal

pub returns-in-Ok-clause-performs : goal.returns-in-Ok-clause-performs
returns-in-Ok-clause-performs g c out_tells out contents calls =
    report_goes_on c.in-Ok.ensures.whole refl
    (last_report c.tell-in-Ok.result c.tell-in-Ok.ensures.whole c.tell-in-Ok.ensures.part c.tell-in-Ok.ensures.only refl)

pub returns-in-Err-clause-performs : goal.returns-in-Err-clause-performs
returns-in-Err-clause-performs g c out_tells out contents calls =
    report_breaks c.in-Err.ensures.part refl (ap ending_of c.in-Err.ensures.only)

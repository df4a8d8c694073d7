use Rattle.resumable_plans.proofs.MarkLemmas.{between-left}
use Rattle.resumable_plans.proofs.OutsideLemmas.{outside-stays}
use Rattle.resumable_plans.proofs.laws.resumes_stay_in_the_target.Goals as goal

pub returns : goal.returns
returns g = λ c i text w pairs control label plan path sides of left out.
    outside-stays c i text w pairs control label plan path sides of (between-left c i text w pairs control label plan sides of left) out

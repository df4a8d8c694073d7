use Rattle.resumable_plans.proofs.MarkLemmas.{between-left, resumes-rewind}
use Rattle.resumable_plans.proofs.laws.resumes_leave_the_rewound_tree.Goals as goal

pub returns : goal.returns
returns g = λ c i text w pairs control label plan sides of left.
    resumes-rewind c i text w pairs control label plan sides of (between-left c i text w pairs control label plan sides of left)

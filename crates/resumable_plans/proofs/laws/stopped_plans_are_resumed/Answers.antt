use Rattle.std.proofs.Common.{ap}
use Rattle.cluster_tree.specs.Tree.{bytes_in}
use Rattle.resumable_plans.proofs.MarkLemmas.{complete-resumes, resumes-rewind, under-between}
use Rattle.resumable_plans.proofs.laws.stopped_plans_are_resumed.Goals as goal

pub returns : goal.returns
returns g = λ c i text w pairs control label plan sides of left whole.
    let under = complete-resumes c i text w pairs control label plan sides of left whole in
    let resumed = resumes-rewind c i text w pairs control label plan sides of (under-between c i text w pairs control label plan sides of under).0 in
    (ap bytes_in under.holds, resumed.0, resumed.1)

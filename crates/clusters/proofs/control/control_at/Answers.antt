use Rattle.std.proofs.Common.{subst}
use Rattle.cluster_tree.specs.PathValue.{PathValue}
use Rattle.cluster_tree.specs.Contents.{entry_at}
use Rattle.cluster_tree.specs.Tree.{file_of}
use Rattle.cluster_tree.specs.Causes.{Meets}
use Rattle.clusters.specs.Faults.{IsFree}
use Rattle.clusters.specs.RootControl.{control_at, control_in}
use Rattle.clusters.proofs.control.control_at.Goals as goal

pub returns-clause-exact : goal.returns-clause-exact
unfolding control_at
returns-clause-exact g c = λ tells.
    let Answered : PathValue → Type 0 = λ path. Meets IsFree (control_in c.args.root.now (file_of (entry_at (g.F.Tree.contents c.args.tree.now) path))) c.control_in.result in
    subst Answered c.in_ok-path.ensures.is (c.control_in.ensures.exact tells)

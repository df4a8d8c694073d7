use Rattle.std.proofs.Common.{length}
use Rattle.std.proofs.lemmas.Result.{err_from_is_err_and}
use Rattle.cluster_tree.specs.PathValue.{PathValue}
use Rattle.cluster_tree.specs.Marks.{MarkPaths}
use Rattle.cluster_tree.proofs.PathLemmas.{too_deep-exactly}
use Rattle.cluster_tree.proofs.marks.Marks.new.Goals as goal

pub returns-in_err-join-clause-too_deep : goal.returns-in_err-join-clause-too_deep
returns-in_err-join-clause-too_deep c = let p = err_from_is_err_and c.from_residual.result c.from_residual.ensures.1 in rw (p.1, p.2) (too_deep-exactly PathValue MarkPaths (length c.args.root.now.parts) _ c.in_err-join.ensures.refused)

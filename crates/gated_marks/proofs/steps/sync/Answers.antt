use Rattle.std.proofs.Common.{Err, ap, sym, ◌∙◌}
use Rattle.cluster_tree.specs.Change.{Syncs}
use Rattle.marked_runs.specs.Settled.{settled}
use Rattle.marked_runs.proofs.CarriedLemmas.{carried-one, on_any, passes-unrefused}
use Rattle.gated_marks.proofs.steps.sync.Goals as goal

pub returns-in-Err-Failed-clause-carries : goal.returns-in-Err-Failed-clause-carries
returns-in-Err-Failed-clause-carries g c =
    carried-one g.F.Tree Syncs _ _ c.sync.result _ (sym (ap settled (c.in-Err-Failed.is ∙ ap Err c.in-Err-Failed.field-0-is))) (λ told. passes-unrefused c.sync.result c.sync.ensures.row) (λ told. on_any c.sync.result (c.sync.ensures.same told)) c.sync.ensures.made

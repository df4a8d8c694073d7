-- What is planned over a mark only reads.
use Rattle.std.proofs.Common.{rules, sym, subst}
use Rattle.cluster_tree.specs.Causes.{Rose}
use Rattle.without_file.proofs.BelowLemmas.{last-through, reads-through}
use Rattle.rewind_core.proofs.anew.plan_without.Goals as goal

pub returns-clause-reads : goal.returns-clause-reads
returns-clause-reads g c =
    reads-through g.F.Tree _ _ _ _ _ c.plan.ensures.reads.unstopped c.plan.ensures.reads.uncalled c.plan.ensures.reads.reads c.plan.ensures.reads.changes (search rules)

pub returns-clause-read_fault : goal.returns-clause-read_fault
returns-clause-read_fault g c failed =
    subst (λ t. Rose (g.F.Tree.failed_reads c.args.tree.now) (g.F.Tree.failed_reads t)) (sym (last-through g.F.Tree _ _ _ _ _ c.plan.ensures.reads.unstopped (search rules)))
    (c.plan.ensures.read_fault failed)

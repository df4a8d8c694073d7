use Rattle.std.proofs.Common.{◌≤◌, codes, length, subst, sym}
use Rattle.cluster_tree.specs.PathValue.{PathValue}
use Rattle.cmd_pair.proofs.CompareLemmas.{compare-free, no-difference}
use Rattle.cmd_pair.proofs.PlaceLemmas.{below-room}
use Rattle.cmd_pair.proofs.TrialLemmas.{freed}
use Rattle.cmd_pair.proofs.compares.compare.Goals as goal

pub compare_clusters-requires-clause-first_depth : goal.compare_clusters-requires-clause-first_depth
compare_clusters-requires-clause-first_depth g c = subst (λ (x : PathValue). length x.parts ≤ 61) (sym c.requires.copy) (below-room c.args.words.now.root (codes "c") c.requires.fit.depth)

pub compare_clusters-requires-clause-second_depth : goal.compare_clusters-requires-clause-second_depth
compare_clusters-requires-clause-second_depth g c = subst (λ (x : PathValue). length x.parts ≤ 61) (sym c.requires.target) (below-room c.args.words.now.root (codes "t") c.requires.fit.depth)

pub returns-in-Ok-Differs-clause-changed : goal.returns-in-Ok-Differs-clause-changed
returns-in-Ok-Differs-clause-changed g c told p is =
    let same = no-difference (g.F.Tree.contents c.args.tree.now) c.args.words.now.root c.args.pair.now.copy c.args.pair.now.target c.requires.copy c.requires.target (c.requires.same told) c.in-Ok-Differs.field-0 (c.in-Ok-Differs.ensures.exact told) in
    cc (same, c.in-Ok-Differs.field-0-is)

pub returns-clause-changed : goal.returns-clause-changed
returns-clause-changed g c told p is =
    freed p (c.compare_cause.ensures.free (compare-free (g.F.Tree.contents c.args.tree.now) c.args.words.now.root c.args.pair.now.copy c.args.pair.now.target c.requires.copy c.requires.target (c.requires.same told) c.in-Err.fault (c.in-Err.ensures.exact told))) is

use Rattle.std.proofs.Common.{sym, subst}
use Rattle.pair_laws.specs.Ends.{StaysBut}
use Rattle.cmd_pair.specs.Tried.{Ends}
use Rattle.cmd_pair.proofs.StayLemmas.{state, then-stays}
use Rattle.cmd_pair.proofs.TrialLemmas.{both-at, copy-ends, target-ends}
use Rattle.cmd_pair.proofs.trial.replay_both.Goals as goal

pub replay_cluster-requires-clause-ends : goal.replay_cluster-requires-clause-ends
replay_cluster-requires-clause-ends g c told =
    subst (Ends (g.F.Tree.contents c.rewind_target.new.tree)) (sym c.requires.target)
    (target-ends c.args.words.now.root c.args.words.now.seed c.args.words.now.blocks (g.F.Tree.contents c.args.tree.now) (g.F.Tree.contents c.rewind_target.new.tree) (c.requires.stands told) (c.in_ok-rewind_target.ensures.rewound told))

pub replay_cluster-requires-2-clause-ends : goal.replay_cluster-requires-2-clause-ends
replay_cluster-requires-2-clause-ends g c told =
    subst (Ends (g.F.Tree.contents c.replay_cluster.new.tree)) (sym c.requires.copy)
    (copy-ends c.args.words.now.root c.args.words.now.seed c.args.words.now.blocks (g.F.Tree.contents c.args.tree.now) (g.F.Tree.contents c.rewind_target.new.tree) (c.requires.stands told) (c.in_ok-rewind_target.ensures.rewound told)
    (g.F.Tree.contents c.replay_cluster.new.tree) (g.met.F.Tree.is_tree told c.replay_cluster.new.tree)
    (subst (λ x. StaysBut x (g.F.Tree.contents c.rewind_target.new.tree) (g.F.Tree.contents c.replay_cluster.new.tree)) c.requires.target (c.replay_cluster.ensures.alone told)))

pub returns-clause-replayed : goal.returns-clause-replayed
returns-clause-replayed g c told =
    both-at c.args.words.now.root c.args.words.now.seed c.args.words.now.blocks (g.F.Tree.contents c.args.tree.now) (g.F.Tree.contents c.rewind_target.new.tree) (c.requires.stands told) (c.in_ok-rewind_target.ensures.rewound told)
    c.args.pair.now.target c.args.pair.now.copy c.requires.target c.requires.copy
    (g.F.Tree.contents c.replay_cluster.new.tree) (g.F.Tree.contents c.replay_cluster-2.new.tree) (g.met.F.Tree.is_tree told c.replay_cluster.new.tree)
    (c.in_ok-replay_cluster.ensures.replayed told) (c.replay_cluster.ensures.alone told) c.replay_cluster-2.result (c.replay_cluster-2.ensures.replayed told) (c.replay_cluster-2.ensures.alone told)

pub returns-clause-within : goal.returns-clause-within
returns-clause-within g c told =
    let first = state (g.F.Tree.contents c.args.tree.now) (g.F.Tree.calls c.args.tree.now) in
    let second = state (g.F.Tree.contents c.rewind_target.new.tree) (g.F.Tree.calls c.rewind_target.new.tree) in
    let third = state (g.F.Tree.contents c.replay_cluster.new.tree) (g.F.Tree.calls c.replay_cluster.new.tree) in
    let last = state (g.F.Tree.contents c.replay_cluster-2.new.tree) (g.F.Tree.calls c.replay_cluster-2.new.tree) in
    then-stays c.args.words.now.root first second last (c.rewind_target.ensures.within told)
    (then-stays c.args.words.now.root second third last (c.replay_cluster.ensures.within told) (c.replay_cluster-2.ensures.within told))

pub returns-in_err-replay_cluster-clause-within : goal.returns-in_err-replay_cluster-clause-within
returns-in_err-replay_cluster-clause-within g c told =
    let first = state (g.F.Tree.contents c.args.tree.now) (g.F.Tree.calls c.args.tree.now) in
    let second = state (g.F.Tree.contents c.rewind_target.new.tree) (g.F.Tree.calls c.rewind_target.new.tree) in
    let third = state (g.F.Tree.contents c.replay_cluster.new.tree) (g.F.Tree.calls c.replay_cluster.new.tree) in
    then-stays c.args.words.now.root first second third (c.rewind_target.ensures.within told) (c.replay_cluster.ensures.within told)

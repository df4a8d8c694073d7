use Rattle.cmd_pair.proofs.StayLemmas.{read-stays, state, then-stays}
use Rattle.cmd_pair.proofs.TrialLemmas.{compares-same, tried-at}
use Rattle.cmd_pair.proofs.trial.try_pair.Goals as goal

pub compare-requires-clause-same : goal.compare-requires-clause-same
compare-requires-clause-same g c told =
    compares-same c.args.words.now.root c.args.words.now.seed c.args.words.now.blocks (g.F.Tree.contents c.make.new.tree) (g.F.Tree.contents c.replay_both.new.tree) (c.in_ok-pair.ensures.made told) (c.in_ok-replay_both.ensures.replayed told)

pub returns-clause-tried : goal.returns-clause-tried
returns-clause-tried g c told =
    tried-at c.args.words.now.root c.args.words.now.seed c.args.words.now.blocks (g.F.Tree.contents c.make.new.tree) (g.F.Tree.contents c.replay_both.new.tree) (g.F.Tree.contents c.compare.new.tree) (c.in_ok-pair.ensures.made told) (c.in_ok-replay_both.ensures.replayed told)
    c.compare.ensures.reads.same c.compare.result

pub returns-clause-within : goal.returns-clause-within
returns-clause-within g c told =
    let first = state (g.F.Tree.contents c.args.tree.now) (g.F.Tree.calls c.args.tree.now) in
    let second = state (g.F.Tree.contents c.make.new.tree) (g.F.Tree.calls c.make.new.tree) in
    let third = state (g.F.Tree.contents c.replay_both.new.tree) (g.F.Tree.calls c.replay_both.new.tree) in
    read-stays c.args.words.now.root first third c.compare.ensures.reads.same c.compare.ensures.reads.uncalled
    (then-stays c.args.words.now.root first second third (c.make.ensures.within told) (c.replay_both.ensures.within told))

pub returns-in_err-replay_both-clause-within : goal.returns-in_err-replay_both-clause-within
returns-in_err-replay_both-clause-within g c told =
    let first = state (g.F.Tree.contents c.args.tree.now) (g.F.Tree.calls c.args.tree.now) in
    let second = state (g.F.Tree.contents c.make.new.tree) (g.F.Tree.calls c.make.new.tree) in
    let third = state (g.F.Tree.contents c.replay_both.new.tree) (g.F.Tree.calls c.replay_both.new.tree) in
    then-stays c.args.words.now.root first second third (c.make.ensures.within told) (c.replay_both.ensures.within told)

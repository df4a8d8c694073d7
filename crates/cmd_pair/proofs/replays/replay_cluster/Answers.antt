use Rattle.cmd_pair.proofs.ReplayLemmas.{cluster-room, cluster-stays}
use Rattle.cmd_pair.proofs.StayLemmas.{state}
use Rattle.cmd_pair.proofs.TrialLemmas.{freed, replay-free, replayed-files}
use Rattle.cmd_pair.proofs.replays.replay_cluster.Goals as goal

pub replay-requires : goal.replay-requires
replay-requires g c = record { room = cluster-room c.args.words.now.root c.args.cluster.now c.requires.fit.depth c.requires.place }

pub returns-in-Ok-clause-replayed : goal.returns-in-Ok-clause-replayed
returns-in-Ok-clause-replayed g c told ends =
    replayed-files (g.F.Tree.contents c.args.tree.now) (g.F.Tree.contents c.replay.new.tree) c.args.cluster.now _ (c.in-Ok.ensures.done told) ends

pub returns-in-Ok-clause-alone : goal.returns-in-Ok-clause-alone
returns-in-Ok-clause-alone g c told = (c.replay.ensures.within told).elsewhere

pub returns-in-Ok-clause-within : goal.returns-in-Ok-clause-within
returns-in-Ok-clause-within g c told =
    cluster-stays c.args.words.now.root c.args.cluster.now (state (g.F.Tree.contents c.args.tree.now) (g.F.Tree.calls c.args.tree.now)) (state (g.F.Tree.contents c.replay.new.tree) (g.F.Tree.calls c.replay.new.tree)) c.requires.place (c.replay.ensures.within told)

pub returns-in-Err-clause-alone : goal.returns-in-Err-clause-alone
returns-in-Err-clause-alone g c told = (c.replay.ensures.within told).elsewhere

pub returns-in-Err-clause-within : goal.returns-in-Err-clause-within
returns-in-Err-clause-within g c told =
    cluster-stays c.args.words.now.root c.args.cluster.now (state (g.F.Tree.contents c.args.tree.now) (g.F.Tree.calls c.args.tree.now)) (state (g.F.Tree.contents c.replay.new.tree) (g.F.Tree.calls c.replay.new.tree)) c.requires.place (c.replay.ensures.within told)

pub returns-in-Err-clause-changed : goal.returns-in-Err-clause-changed
returns-in-Err-clause-changed g c told p is =
    freed p (c.replay_cause.ensures.free (replay-free (g.F.Tree.contents c.args.tree.now) c.args.cluster.now c.in-Err.fault (c.requires.ends told) (c.in-Err.ensures.refused told))) is

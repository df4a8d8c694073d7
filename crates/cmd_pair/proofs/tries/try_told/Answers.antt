use Rattle.std.proofs.Common.{Err, ap}
use Rattle.cmd_pair.proofs.CarryLemmas.{leaves-told, tried-told, try-faulted}
use Rattle.cmd_pair.proofs.LeftLemmas.{pair-left}
use Rattle.cmd_pair.proofs.RoomLemmas.{room-there}
use Rattle.cmd_pair.proofs.StayLemmas.{stays-beside}
use Rattle.cmd_pair.proofs.tries.try_told.Goals as goal

pub try_pair-requires-clause-room : goal.try_pair-requires-clause-room
try_pair-requires-clause-room g c told = room-there (g.F.Tree.contents c.args.tree.now) c.args.words.now.root (c.requires.room told)

pub returns-in-Ok-clause-carries : goal.returns-in-Ok-clause-carries
returns-in-Ok-clause-carries g c err_tells err =
    tried-told c.args.words.now (g.F.Tree.contents c.args.tree.now) (g.F.Tree.contents c.try_pair.new.tree) (g.F.Tree.calls c.args.tree.now) (g.F.Tree.calls c.try_pair.new.tree)
    g.F.Tree.tells c.tell.result c.requires.room c.try_pair.ensures.within c.tell.ensures.whole c.tell.ensures.part c.tell.ensures.only c.requires.line

pub returns-in-Ok-clause-leaves : goal.returns-in-Ok-clause-leaves
returns-in-Ok-clause-leaves g c told =
    leaves-told c.args.words.now g.O.Sink.tells (g.F.Tree.contents c.args.tree.now) (g.F.Tree.contents c.try_pair.new.tree) _ _ c.tell.result
    (c.in-Ok.ensures.tried told) (stays-beside c.args.words.now.root _ _ (c.try_pair.ensures.within told)) c.tell.ensures.whole c.requires.line

pub returns-in-Ok-clause-beside : goal.returns-in-Ok-clause-beside
returns-in-Ok-clause-beside g c told = stays-beside c.args.words.now.root _ _ (c.try_pair.ensures.within told)

pub returns-in-Ok-clause-stops : goal.returns-in-Ok-clause-stops
returns-in-Ok-clause-stops g c told = pair-left g.F.Tree c.args.words.now c.args.tree.now c.try_pair.new.tree c.try_pair.ensures.frame (c.try_pair.ensures.within told)

pub returns-in-Err-clause-carries : goal.returns-in-Err-clause-carries
returns-in-Err-clause-carries g c err_tells err =
    try-faulted c.args.words.now (g.F.Tree.contents c.args.tree.now) (g.F.Tree.contents c.try_pair.new.tree) (g.F.Tree.calls c.args.tree.now) (g.F.Tree.calls c.try_pair.new.tree)
    g.F.Tree.tells c.in-Err.e c.in-Err.ensures.trial (λ t path is. c.in-Err.ensures.changed t path (ap Err is)) c.requires.room c.try_pair.ensures.within

pub returns-in-Err-clause-beside : goal.returns-in-Err-clause-beside
returns-in-Err-clause-beside g c told = stays-beside c.args.words.now.root _ _ (c.try_pair.ensures.within told)

pub returns-in-Err-clause-stops : goal.returns-in-Err-clause-stops
returns-in-Err-clause-stops g c told = pair-left g.F.Tree c.args.words.now c.args.tree.now c.try_pair.new.tree c.try_pair.ensures.frame (c.try_pair.ensures.within told)

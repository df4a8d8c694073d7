use Rattle.std.proofs.Common.{◌∙◌, ap, arith}
use Rattle.run_acts.proofs.BlameSteps.{blames_after_reads}
use Rattle.cmd_pair.specs.Pair.{room_refusal}
use Rattle.cmd_pair.proofs.CarryLemmas.{look-beside, look-goes_on, look-leaves, look-refused}
use Rattle.cmd_pair.proofs.LeftLemmas.{read-on-left, reads-left}
use Rattle.cmd_pair.proofs.tries.pair.Goals as goal

pub try_told-requires-clause-room : goal.try_told-requires-clause-room
try_told-requires-clause-room g c told = ap (λ x. room_refusal x c.args.words.now.root) c.look.ensures.reads.same ∙ c.in-Ok.ensures.exact told

pub returns-in-Ok-clause-carries : goal.returns-in-Ok-clause-carries
returns-in-Ok-clause-carries g c err_tells err = look-goes_on c.args.words.now c.look.ensures.reads.same c.look.ensures.reads.uncalled g.F.Tree.tells (c.try_told.ensures.carries err_tells err)

pub returns-in-Ok-clause-leaves : goal.returns-in-Ok-clause-leaves
returns-in-Ok-clause-leaves g c told =
    look-leaves c.args.words.now c.look.ensures.reads.same c.look.ensures.reads.uncalled g.O.Sink.tells (g.F.Tree.contents c.try_told.new.tree) _ _ c.try_told.result (c.try_told.ensures.leaves told)

pub returns-in-Ok-clause-beside : goal.returns-in-Ok-clause-beside
returns-in-Ok-clause-beside g c told = look-beside c.args.words.now c.look.ensures.reads.same c.look.ensures.reads.uncalled (g.F.Tree.contents c.try_told.new.tree) (c.try_told.ensures.beside told)

pub returns-in-Ok-clause-stops : goal.returns-in-Ok-clause-stops
returns-in-Ok-clause-stops g c told = read-on-left g.F.Tree c.args.words.now c.args.tree.now c.look.new.tree c.try_told.new.tree c.look.ensures.reads (c.try_told.ensures.stops told)

pub returns-in-Err-clause-stops : goal.returns-in-Err-clause-stops
returns-in-Err-clause-stops g c told = reads-left g.F.Tree c.args.words.now c.args.tree.now c.look.new.tree c.look.ensures.reads

pub returns-in-Err-clause-carries : goal.returns-in-Err-clause-carries
returns-in-Err-clause-carries g c err_tells err =
    look-refused c.args.words.now c.look.ensures.reads.same c.look.ensures.reads.uncalled g.F.Tree.tells c.in-Err.e c.in-Err.ensures.look c.in-Err.ensures.exact

pub returns-in-Ok-clause-blames : goal.returns-in-Ok-clause-blames
returns-in-Ok-clause-blames g c n = blames_after_reads c.look.ensures.reads.reads (omega (arith, c.look.ensures.reads.changes)) (c.try_told.ensures.blames n)

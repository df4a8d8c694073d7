use Rattle.log_walk.proofs.StepLemmas.{common_found, common_goes, common_refused}
use Rattle.log_walk.proofs.back.common_checkpoint.Goals as goal

pub returns-in-Ok-Found-clause-exact : goal.returns-in-Ok-Found-clause-exact
returns-in-Ok-Found-clause-exact g c = λ told.
    common_found c.args.cursor.now.log (g.F.Tree.contents c.args.tree.now) c.args.size c.place_at-below.result.0 c.args.fork.0 c.in-Ok-Found.found c.in-Ok-Found.field-0 c.requires.size c.place_at-below.ensures.value
    c.in-Ok-Found.field-0-is (c.in-Ok-Found.ensures.step told)

pub returns-in-Ok-Goes-clause-exact : goal.returns-in-Ok-Goes-clause-exact
returns-in-Ok-Goes-clause-exact g c = λ told.
    common_goes c.args.cursor.now.log c.first_back.new.cursor.log (g.F.Tree.contents c.args.tree.now) (g.F.Tree.contents c.first_back.new.tree) c.args.size c.place_at-below.result.0 c.args.fork.0
    c.in-Ok-Goes.link c.in-Ok-Goes.field-0 c.walk_back.result c.requires.size c.place_at-below.ensures.value c.in-Ok-Goes.ensures.log c.in-Ok-Goes.ensures.reads.same c.in-Ok-Goes.field-0-is
    (c.in-Ok-Goes.ensures.step told) (c.walk_back.ensures.exact told)

pub returns-in-Err-clause-exact : goal.returns-in-Err-clause-exact
returns-in-Err-clause-exact g c = λ told.
    common_refused c.args.cursor.now.log (g.F.Tree.contents c.args.tree.now) c.args.size c.place_at-below.result.0 c.args.fork.0 c.in-Err.e c.requires.size c.place_at-below.ensures.value (c.in-Err.ensures.step told)

use Rattle.std.proofs.Common.{◌∙◌}
use Rattle.cluster_tree.proofs.RunLemmas.{reads_on}
use Rattle.log_walk.proofs.StepLemmas.{walk_found, walk_goes, walk_refused}
use Rattle.log_walk.proofs.back.walk_back.Goals as goal

pub records-preserved : goal.records-preserved
records-preserved g c = record {
  log = c.in-Ok-Goes.ensures.log ∙ c.records.invariant.log;
  reads = reads_on g.F.Tree _ _ _ c.records.invariant.reads c.in-Ok-Goes.ensures.reads;
  knows = c.in-Ok-Goes.ensures.knows;
  same = λ told.
      c.records.invariant.same told
      ∙ walk_goes c.args.cursor.now.log c.records.cursor.log (g.F.Tree.contents c.args.tree.now) (g.F.Tree.contents c.records.tree) c.args.below.0 c.records.place.0 c.in-Ok-Goes.link c.in-Ok-Goes.field-0
      c.records.invariant.log c.records.invariant.reads.same c.in-Ok-Goes.field-0-is (c.in-Ok-Goes.ensures.step told);
}

pub returns-in-Ok-Found-clause-exact : goal.returns-in-Ok-Found-clause-exact
returns-in-Ok-Found-clause-exact g c = λ told.
    c.records.invariant.same told
    ∙ walk_found c.args.cursor.now.log c.records.cursor.log (g.F.Tree.contents c.args.tree.now) (g.F.Tree.contents c.records.tree) c.args.below.0 c.records.place.0 c.in-Ok-Found.found c.in-Ok-Found.field-0
    c.records.invariant.log c.records.invariant.reads.same c.in-Ok-Found.field-0-is (c.in-Ok-Found.ensures.step told)

pub returns-in-Err-clause-exact : goal.returns-in-Err-clause-exact
returns-in-Err-clause-exact g c = λ told.
    walk_refused c.args.cursor.now.log c.records.cursor.log (g.F.Tree.contents c.args.tree.now) (g.F.Tree.contents c.records.tree) c.args.below.0 c.args.from.0 c.records.place.0 c.in-Err.e
    c.records.invariant.log c.records.invariant.reads.same (c.records.invariant.same told) (c.in-Err.ensures.step told)

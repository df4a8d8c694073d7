use Rattle.std.proofs.Common.{◌∙◌}
use Rattle.cluster_tree.proofs.RunLemmas.{reads_on}
use Rattle.wal_records.specs.Cursor.{to_come}
use Rattle.restart_start.proofs.GatherLemmas.{further_in, last_in, more_in, refused_in}
use Rattle.restart_start.proofs.gather.gather_all.Goals as goal

pub records-preserved : goal.records-preserved
records-preserved g c = record {
  opened = (further_in c.records.cursor c.gather_next.new.cursor c.in-Ok-More.field-0 c.in-Ok-More.field-0-is c.in-Ok-More.ensures.moves).opened;
  log = c.in-Ok-More.ensures.log ∙ c.records.invariant.log;
  reads = reads_on g.F.Tree _ _ _ c.records.invariant.reads c.in-Ok-More.ensures.reads;
  knows = c.in-Ok-More.ensures.knows;
  gathered = λ told.
      more_in _ (to_come c.args.cursor.now (g.F.Tree.contents c.args.tree.now)).records c.records.cursor c.gather_next.new.cursor (g.F.Tree.contents c.args.tree.now) (g.F.Tree.contents c.records.tree)
      c.args.firsts.now c.records.firsts c.gather_next.new.firsts c.in-Ok-More.field-0 c.records.invariant.reads.same c.in-Ok-More.field-0-is (c.records.invariant.gathered told) (c.in-Ok-More.ensures.step told);
}

pub returns-in-Ok-Done-clause-all : goal.returns-in-Ok-Done-clause-all
returns-in-Ok-Done-clause-all g c = λ told.
    last_in _ (to_come c.args.cursor.now (g.F.Tree.contents c.args.tree.now)).records c.records.cursor c.gather_next.new.cursor (g.F.Tree.contents c.args.tree.now) (g.F.Tree.contents c.records.tree)
    c.args.firsts.now c.records.firsts c.gather_next.new.firsts c.in-Ok-Done.field-0 c.records.invariant.reads.same c.in-Ok-Done.field-0-is (c.records.invariant.gathered told) (c.in-Ok-Done.ensures.step told)

pub returns-in-Err-clause-all : goal.returns-in-Err-clause-all
returns-in-Err-clause-all g c = λ told.
    refused_in _ (to_come c.args.cursor.now (g.F.Tree.contents c.args.tree.now)).records c.records.cursor c.gather_next.new.cursor (g.F.Tree.contents c.args.tree.now) (g.F.Tree.contents c.records.tree)
    c.args.firsts.now c.records.firsts c.gather_next.new.firsts c.in-Err.e c.records.invariant.reads.same (c.records.invariant.gathered told) (c.in-Err.ensures.step told)

use Rattle.std.proofs.Common.{◌∙◌, arith, ap, is_some, rules}
use Rattle.cluster_tree.specs.PathValue.{is_part}
use Rattle.cluster_tree.specs.Contents.{entry_at}
use Rattle.cluster_tree.proofs.RunLemmas.{reads_on}
use Rattle.cmd_archivecleanup.specs.Archivecleanup.{in_folder, removal}
use Rattle.cmd_archivecleanup.proofs.PartLemmas.{all_at}
use Rattle.cmd_archivecleanup.proofs.PlanLemmas.{item_more, none_left, refused_here, unremoved_on}
use Rattle.cmd_archivecleanup.proofs.plan.removals.Goals as goal

pub add-requires-clause-part : goal.add-requires-clause-part
add-requires-clause-part g c = all_at is_part c.args.names.now c.loop-at.at c.in-Some.name.now (search rules) c.requires.parts

pub add-requires-clause-there : goal.add-requires-clause-there
add-requires-clause-there g c told =
    ap (λ x. is_some (entry_at x (in_folder c.args.folder.now c.in-Some.name.now))) c.loop-at.invariant.reads.same
    ∙ all_at (λ name. is_some (entry_at (g.F.Tree.contents c.args.tree.now) (in_folder c.args.folder.now name))) c.args.names.now c.loop-at.at c.in-Some.name.now (search rules) (c.requires.there told)

pub returns-in-Err-clause-exact : goal.returns-in-Err-clause-exact
returns-in-Err-clause-exact g c told =
    refused_here (g.F.Tree.contents c.args.tree.now) (g.F.Tree.contents c.loop-at.tree) c.args.folder.now c.args.names.now c.loop-at.at c.in-Some.name.now c.in-Err.e c.loop-at.invariant.reads.same (search rules) (c.loop-at.invariant.files told) (c.in-Err.ensures.exact told)

pub returns-clause-exact : goal.returns-clause-exact
returns-clause-exact g c told = none_left (g.F.Tree.contents c.args.tree.now) c.args.folder.now c.args.names.now c.loop-at.at (c.loop-at.invariant.files told) (omega (arith, c.loop-at-test.false, c.loop-at.auto.at-end, c.len-at-end.ensures))

pub loop-at-preserved : goal.loop-at-preserved
loop-at-preserved g c = record {
  made = item_more (removal c.args.debug c.args.folder.now) c.args.names.now c.loop-at.at c.in-Some.name.now c.loop-at.queue.items c.add.new.queue.items (search rules) c.loop-at.invariant.made c.in-Ok.ensures.added;
  files = λ told. unremoved_on (g.F.Tree.contents c.args.tree.now) (g.F.Tree.contents c.loop-at.tree) c.args.folder.now c.args.names.now c.loop-at.at c.in-Some.name.now c.loop-at.invariant.reads.same (search rules) (c.loop-at.invariant.files told) (c.in-Ok.ensures.exact told);
  reads = reads_on g.F.Tree _ _ _ c.loop-at.invariant.reads c.in-Ok.ensures.reads;
}

use Rattle.std.proofs.Common.{arith, refl, rules}
use Rattle.run_acts.proofs.UnseenSteps.{unseen_start}
use Rattle.cluster_tree.proofs.RunLemmas.{came_on}
use Rattle.cmd_archivecleanup.proofs.RanLemmas.{ran-all, ran-broken, ran-on, ran-untold}
use Rattle.cmd_archivecleanup.proofs.RemovalLemmas.{all_removed, files_from, removed_from, unremoved_from, untold_from}
use Rattle.cmd_archivecleanup.proofs.removing.remove_all.Goals as goal

pub returns-in-Err-clause-performs : goal.returns-in-Err-clause-performs
returns-in-Err-clause-performs g c o out =
    untold_from c.loop-removal.queue.items c.in-Some.removal c.pop_front.new.self.items (g.F.Tree.contents c.loop-removal.tree) (g.F.Tree.calls c.loop-removal.tree) out _ _ _
    c.in-Some.ensures.items c.in-Err.ensures.only (c.loop-removal.invariant.leads o out) c.in-Err.ensures.part

pub returns-in-Err-remove-clause-performs : goal.returns-in-Err-remove-clause-performs
returns-in-Err-remove-clause-performs g c o out =
    unremoved_from c.loop-removal.queue.items c.in-Some.removal c.pop_front.new.self.items (g.F.Tree.contents c.loop-removal.tree) (g.F.Tree.contents c.remove.new.tree) (g.F.Tree.calls c.loop-removal.tree) (g.F.Tree.calls c.remove.new.tree) out _ _ c.in-Err-remove.e _
    c.in-Some.ensures.items c.in-Err-remove.ensures.only (search rules) (c.loop-removal.invariant.leads o out) c.in-Ok.ensures.whole c.in-Err-remove.ensures.runs

pub returns-clause-performs : goal.returns-clause-performs
returns-clause-performs g c o out = all_removed c.loop-removal.queue.items _ (search rules) (c.loop-removal.invariant.leads o out)

pub returns-in-Err-clause-runs : goal.returns-in-Err-clause-runs
returns-in-Err-clause-runs g c told =
    ran-untold c.args.queue.items (g.F.Tree.calls c.args.tree.now) (g.F.Tree.contents c.args.tree.now) c.loop-removal.queue.items (g.F.Tree.calls c.loop-removal.tree) (g.F.Tree.contents c.loop-removal.tree) (c.loop-removal.invariant.ran told)

pub returns-in-Err-remove-clause-runs : goal.returns-in-Err-remove-clause-runs
returns-in-Err-remove-clause-runs g c told =
    ran-broken c.args.queue.items (g.F.Tree.calls c.args.tree.now) (g.F.Tree.contents c.args.tree.now) c.loop-removal.queue.items (g.F.Tree.calls c.loop-removal.tree) (g.F.Tree.contents c.loop-removal.tree)
    c.in-Some.removal c.pop_front.new.self.items (g.F.Tree.calls c.remove.new.tree) (g.F.Tree.contents c.remove.new.tree) c.in-Some.ensures.items (c.loop-removal.invariant.ran told) (c.in-Err-remove.ensures.runs told)

pub returns-clause-runs : goal.returns-clause-runs
returns-clause-runs g c told =
    ran-all c.args.queue.items (g.F.Tree.calls c.args.tree.now) (g.F.Tree.contents c.args.tree.now) c.loop-removal.queue.items (g.F.Tree.calls c.loop-removal.tree) (g.F.Tree.contents c.loop-removal.tree) (search rules) (c.loop-removal.invariant.ran told)

pub loop-removal-init : goal.loop-removal-init
loop-removal-init g c = record {
  files = c.requires;
  leads = λ o out. unseen_start;
  ran = λ told l d done ran. ran;
  frame = search rules;
  later = omega arith;
}

pub loop-removal-preserved : goal.loop-removal-preserved
loop-removal-preserved g c = record {
  files = λ told. files_from (g.F.Tree.contents c.loop-removal.tree) (g.F.Tree.contents c.remove.new.tree) c.loop-removal.queue.items c.in-Some.removal c.pop_front.new.self.items
      c.in-Some.ensures.items ((c.in-Ok-remove.ensures.runs told).after refl) (c.loop-removal.invariant.files told);
  leads = λ o out. removed_from c.loop-removal.queue.items c.in-Some.removal c.pop_front.new.self.items (g.F.Tree.contents c.loop-removal.tree) (g.F.Tree.contents c.remove.new.tree) (g.F.Tree.calls c.loop-removal.tree) (g.F.Tree.calls c.remove.new.tree) out _ _
      c.in-Some.ensures.items (c.loop-removal.invariant.leads o out) c.in-Ok.ensures.whole c.in-Ok-remove.ensures.runs;
  ran = λ told. ran-on c.args.queue.items (g.F.Tree.calls c.args.tree.now) (g.F.Tree.contents c.args.tree.now) c.loop-removal.queue.items (g.F.Tree.calls c.loop-removal.tree) (g.F.Tree.contents c.loop-removal.tree)
      c.in-Some.removal c.pop_front.new.self.items (g.F.Tree.calls c.remove.new.tree) (g.F.Tree.contents c.remove.new.tree) c.in-Some.ensures.items (c.loop-removal.invariant.ran told) (c.in-Ok-remove.ensures.runs told);
  frame = came_on g.F.Tree _ _ _ c.loop-removal.invariant.frame c.in-Ok-remove.ensures.frame;
  later = omega (arith, c.loop-removal.invariant.later, c.in-Ok.ensures.later);
}

use Rattle.std.proofs.Common.{◌≡◌, true, arith}
use Rattle.block_layouts.specs.Update.{update_seen}
use Rattle.heap_tuples.specs.Heap.{has_tuple}
use Rattle.heap_pages.proofs.UpdateLemmas.{built}
use Rattle.heap_pages.proofs.update.redo_update.Goals as goal

pub returns-in-Built : goal.returns-in-Built
returns-in-Built c =
    let p = c.args.page.now in let op = c.args.op.now in
    let has : has_tuple p op.old_off ≡ true = grind (arith, c.has_tuple.ensures, c.if-not-has_tuple.false) in
    record {
      exact = built c.args.xid c.args.block c.args.kind op c.args.parts (update_seen c.args.tuple) p c.body_at.new.into _ c.put_updated-in-Built.new.page c.redo_update_new.new.page c.in-Built.size c.redo_update_new.result
          has c.in-Built.ensures.0 c.in-Built.ensures.1 (grind arith) c.put_updated-in-Built.ensures.value c.redo_update_new.ensures.exact;
    }

use Rattle.std.proofs.Common.{◌-◌, false, refl}
use Rattle.layout.specs.Splice.{splice}
use Rattle.page_layout.specs.Edits.{add_item}
use Rattle.redo_steps.specs.Redo.{on_page}
use Rattle.btree_pages.specs.Page.{on_btree}
use Rattle.btree_posting.proofs.InsertLemmas.{handed_on, swap_refused, swap_made}
use Rattle.btree_posting.proofs.insert.redo_insert_post.Goals as goal

pub returns-in_err-swap_item : goal.returns-in_err-swap_item
returns-in_err-swap_item c =
    let why = c.in_err-swap_item.field-0.0 in
    record {
      exact = handed_on _ why c.from_residual.result c.swap_item.new.page c.from_residual.ensures.1
          (swap_refused c.args.page.now c.args.post.tuple.now (c.args.op.now.off - 1) c.saturating_sub-before.result c.args.post.index c.saturating_sub-before.ensures _ why c.in_err-swap_item.ensures.exact);
    }

pub returns : goal.returns
returns c =
    let new = c.args.post.tuple.now in
    let off = c.args.op.now.off in
    record {
      exact = swap_made c.args.page.now new (off - 1) c.saturating_sub-before.result c.args.post.index c.saturating_sub-before.ensures
          (λ tid. on_btree (λ q. on_page (add_item q (splice new 0 tid) off false)))
          c.swap_item.new.page c.add_with_tid.new.page c.swap_item.new.lost c.add_with_tid.result c.in_ok-swap_item.ensures.exact (c.in_ok-swap_item.ensures.lost refl) c.add_with_tid.ensures;
    }

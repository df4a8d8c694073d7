use Rattle.std.proofs.Common.{◌≡◌, ◌-◌, ◌&&◌, true, sym, ◌∙◌, ap, arith}
use Rattle.page_layout.specs.Page.{item}
use Rattle.btree_posting.specs.Form.{can_swap, swapped_posting, last_tid}
use Rattle.btree_posting.proofs.insert.swapped_at.Goals as goal

pub returns : goal.returns
returns c =
    let there = c.in_ok-tuple.ensures.0 in
    let tuple = c.in_ok-tuple.ensures.1 in
    let can : can_swap c.args.k (item c.args.page.now (c.args.place - 1)) ≡ true = ap (can_swap c.args.k) (sym tuple) ∙ sym c.if-not-can_swap.ensures in
    record {
      made = ((λ i. there i && can i), omega (arith, c.in_ok-tuple.ensures.2), c.lay_swapped.ensures ∙ ap (swapped_posting c.args.k c.args.new.now) tuple, c.copy_from_slice.ensures.after ∙ c.last_tid.ensures.value ∙ ap last_tid tuple);
    }

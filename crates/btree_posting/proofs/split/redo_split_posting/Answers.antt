use Rattle.std.proofs.Common.{◌-◌, refl, sym, subst}
use Rattle.std.specs.Option.{option_copied}
use Rattle.layout.specs.Splice.{splice}
use Rattle.redo_steps.specs.Redo.{Makes}
use Rattle.btree_pages.specs.Page.{on_btree}
use Rattle.btree_pages.specs.Split.{split_left_page}
use Rattle.btree_posting.specs.Split.{left_new, split_posting_page}
use Rattle.btree_posting.proofs.InsertLemmas.{handed_on, swap_refused, swap_made}
use Rattle.btree_posting.proofs.split.redo_split_posting.Goals as goal

pub returns-in_err-swap_item : goal.returns-in_err-swap_item
returns-in_err-swap_item c =
    let p = c.args.page.now in
    let op = c.args.op.now in
    let key = c.args.tuples.high_key.now in
    let why = c.in_err-swap_item.field-0.0 in
    let made = handed_on _ why c.from_residual.result c.swap_item.new.page c.from_residual.ensures.1
    (swap_refused p c.in-Some.new.now (op.new_item - 1) c.saturating_sub-before.result op.posting c.saturating_sub-before.ensures _ why c.in_err-swap_item.ensures.exact)
    in
    record {
      exact = subst (λ n. Makes (split_posting_page c.args.right c.args.on_left op (record { new_tuple = option_copied n; high_key = key }) p) c.from_residual.result c.swap_item.new.page)
          (sym c.in-Some.is) made;
    }

pub returns : goal.returns
returns c =
    let p = c.args.page.now in
    let op = c.args.op.now in
    let new = c.in-Some.new.now in
    let key = c.args.tuples.high_key.now in
    let made = swap_made p new (op.new_item - 1) c.saturating_sub-before.result op.posting c.saturating_sub-before.ensures
    (λ tid. on_btree (split_left_page c.args.right op (record { new_tuple = left_new c.args.on_left (splice new 0 tid); high_key = key })))
    c.swap_item.new.page c.split_rest.new.page c.swap_item.new.lost c.split_rest.result c.in_ok-swap_item.ensures.exact (c.in_ok-swap_item.ensures.lost refl) c.split_rest.ensures
    in
    record {
      exact = subst (λ n. Makes (split_posting_page c.args.right c.args.on_left op (record { new_tuple = option_copied n; high_key = key }) p) c.split_rest.result c.split_rest.new.page)
          (sym c.in-Some.is) made;
    }

use Rattle.std.proofs.Common.{◌≡◌, ◌+◌, sym, ◌∙◌, ap, Ok, Err, arith}
use Rattle.btree_pages.specs.Items.{with_items}
use Rattle.btree_posting.specs.Dedup.{can_merge_all, dedup_tuples}
use Rattle.btree_posting.proofs.DedupLemmas.{added_next, can_next, merges}
use Rattle.btree_posting.proofs.InsertLemmas.{handed_on}
use Rattle.btree_posting.proofs.dedup.put_all.Goals as goal

pub returns-in_err-put_next : goal.returns-in_err-put_next
returns-in_err-put_next c =
    let p = c.args.page.now in
    let why = c.in_err-put_next.field-0.0 in
    let rest = added_next p c.loop-interval.from c.in-Some.interval c.loop-interval.intervals c.next.new.self c.in-Some.ensures.steps c.loop-interval.room (Err why) c.in_err-put_next.ensures.exact in
    handed_on _ why c.from_residual.result c.put_next.new.room c.from_residual.ensures.1 (c.loop-interval.invariant.rest ∙ rest)

pub loop-interval-preserved : goal.loop-interval-preserved
loop-interval-preserved c =
    let p = c.args.page.now in
    let from = c.loop-interval.from in
    let i = c.in-Some.interval in
    let rest = c.next.new.self in
    let here = c.in-Some.ensures.steps in
    let inv = c.loop-interval.invariant in
    let can = can_next p from i c.loop-interval.intervals rest here inv.can in
    let m = merges p from i can.0 in
    let to : c.from.result + c.from-in-Some.result ≡ i.base + i.count = (λ j. c.from.ensures j + c.from-in-Some.ensures j) in
    record {
      formed = c.in_ok-put_next.ensures.formed;
      above = omega (arith, m.base, m.some, inv.above, to);
      can = ap (λ n. can_merge_all p n rest) to ∙ can.1;
      rest = inv.rest ∙ added_next p from i c.loop-interval.intervals rest here c.loop-interval.room (Ok c.put_next.new.room) c.in_ok-put_next.ensures.exact
          ∙ ap (λ n. with_items (dedup_tuples p n rest) c.put_next.new.room) (sym to);
    }

use Rattle.std.proofs.Common.{◌+◌, drop, sym, ◌∙◌, ap, arith}
use Rattle.std.proofs.lemmas.List.{at_drop_all}
use Rattle.btree_posting.specs.Dedup.{can_merge_all}
use Rattle.btree_posting.proofs.DedupLemmas.{next_interval, stops, goes_on, merges}
use Rattle.btree_posting.proofs.dedup.can_merge_all.Goals as goal

pub returns-then-not-can_merge : goal.returns-then-not-can_merge
returns-then-not-can_merge c =
    let p = c.args.page.now in
    let intervals = c.args.intervals.now in
    let i = c.loop-i.i in
    let next = next_interval intervals i c.in-Some.interval (sym c.in-Some.ensures.value) in
    sym (c.loop-i.invariant.rest ∙ ap (can_merge_all p c.loop-i.from) next ∙ stops p c.loop-i.from c.in-Some.interval (drop (i + 1) intervals) (sym c.if-not-can_merge.ensures))

pub loop-i-preserved : goal.loop-i-preserved
loop-i-preserved c =
    let p = c.args.page.now in
    let intervals = c.args.intervals.now in
    let i = c.loop-i.i in
    let can = sym c.if-not-can_merge.ensures in
    let m = merges p c.loop-i.from c.in-Some.interval can in
    let next = next_interval intervals i c.in-Some.interval (sym c.in-Some.ensures.value) in
    record {
      above = omega (arith, m.base, c.loop-i.invariant.above);
      rest = c.loop-i.invariant.rest ∙ ap (can_merge_all p c.loop-i.from) next ∙ goes_on p c.loop-i.from c.in-Some.interval (drop (i + 1) intervals) can
          ∙ (λ j. can_merge_all p (sym c.from.ensures j + sym c.from-in-loop-i.ensures j) (drop (i + 1) intervals));
    }

pub returns : goal.returns
returns c = sym (c.loop-i.invariant.rest ∙ at_drop_all (can_merge_all c.args.page.now c.loop-i.from) c.args.intervals.now c.loop-i.i (omega arith))

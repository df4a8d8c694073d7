use Rattle.std.proofs.Common.{List, Some, sym, ap, ◌∙◌}
use Rattle.std.specs.Prelude.{slice_get}
use Rattle.block_layouts.specs.declared.dedup.Interval.{Interval}
use Rattle.block_layouts.proofs.ListLemmas.{interval_at-index, interval_past}
use Rattle.block_layouts.proofs.dedup.Intervals.get.Goals as goal

pub returns-then-self-at : goal.returns-then-self-at
returns-then-self-at c =
    let list = c.self.inside in
    let none = interval_past list.left list.at c.args.at list.bytes.now c.if-self-at.true in
    record { value = sym none ∙ ap (λ (xs : List Interval). slice_get xs c.args.at) c.self.view_is }

pub returns : goal.returns
returns c =
    let list = c.self.inside in
    let there = interval_at-index list.left list.at c.args.at list.bytes.now c.if-self-at.false in
    record { value = ap (λ (x : Interval). Some x) c.interval_at.ensures.value ∙ sym there ∙ ap (λ (xs : List Interval). slice_get xs c.args.at) c.self.view_is }

use Rattle.std.proofs.Common.{◌≡◌, ◌<◌, ◌+◌, ◌-◌, ℕ, List, Some, sym, ap, ◌∙◌, arith}
use Rattle.std.specs.Prelude.{slice_get}
use Rattle.block_layouts.specs.Row.{end_of}
use Rattle.block_layouts.specs.IndexTuples.{item_size, item_at, item_behind, item_stands}
use Rattle.block_layouts.proofs.RowLemmas.{end_of-all, end_of-step, whole_end-first}
use Rattle.block_layouts.proofs.ListLemmas.{slice_get-past, slice_get-row_of}
use Rattle.block_layouts.proofs.index_tuples.IndexTuples.get.Goals as goal

pub returns-then-self-at : goal.returns-then-self-at
returns-then-self-at c =
    let list = c.self.inside in
    let none = slice_get-past item_at item_behind list.left c.args.at list.bytes.now list.at c.if-self-at.true in
    record { value = ap (λ (xs : List (List ℕ)). slice_get xs c.args.at) (sym c.self.view_is) ∙ none }

pub loop-i-preserved : goal.loop-i-preserved
loop-i-preserved c =
    let list = c.self.inside in
    let bytes = list.bytes.now in
    let before = c.loop-i.invariant in
    let some : 0 < list.left - c.loop-i._i = omega (arith, c.loop-i-test.true, c.if-self-at.false) in
    let less : list.left - (c.loop-i._i + 1) ≡ list.left - c.loop-i._i - 1 = omega arith in
    record {
      same = rw c.item_size-from.ensures.value (end_of-step item_behind c.args.at c.loop-i._i bytes c.loop-i.from (end_of item_behind c.args.at bytes list.at) c.loop-i-test.true before.same);
      others = rw (c.item_size-from.ensures.value, less) (whole_end-first item_stands item_behind (list.left - c.loop-i._i) bytes c.loop-i.from some before.others).1;
    }

pub returns : goal.returns
returns c =
    let list = c.self.inside in
    let bytes = list.bytes.now in
    let place = end_of-all item_behind c.args.at c.loop-i._i bytes c.loop-i.from (end_of item_behind c.args.at bytes list.at) c.loop-i-test.false c.loop-i.invariant.same in
    let there = slice_get-row_of item_at item_behind list.left c.args.at bytes list.at c.if-self-at.false in
    let cut : c.loop-i.from + item_size bytes c.loop-i.from - c.loop-i.from ≡ item_size bytes c.loop-i.from = omega arith in
    let seen = ap (λ (xs : List (List ℕ)). slice_get xs c.args.at) (sym c.self.view_is) in
    record { value = rw (c.item_size.ensures.value, cut) (seen ∙ there ∙ ap (λ (k : ℕ). Some (item_at bytes k)) (sym place)) }

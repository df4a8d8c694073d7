-- Lines and tuples of trimmed heap pages with equal masks.
use Rattle.std.proofs.Common.{◌≡◌, ℕ, ◌+◌, ◌%◌, ◌<◌, ◌≤◌, List, length, sym, ◌∙◌, arith}
use Rattle.page_layout.specs.Page.{pd_lower, count, lp_off, lp_flags, lp_len, item, IsFormed}
use Rattle.page_layout.proofs.BytesLemmas.{length-cut}
use Rattle.page_layout.proofs.ShapeLemmas.{held_in}
use Rattle.page_masks.specs.Mask.{mask, masked_item}
use Rattle.page_laws.specs.Results.{TrimmedHeap}
use Rattle.page_laws.specs.Shown.{SameHeapItems}
use Rattle.page_laws.proofs.AddResult.{formed}
use Rattle.page_laws.proofs.PagesAlike.{PagesAlike, counts_same, off_alike, len_alike, flags_alike}
use Rattle.page_laws.proofs.StepLaws.{alike}
use Rattle.page_laws.proofs.TupleLaw.{TupleAlike, tuple_alike}

pub item_length : (p : List ℕ) (k : ℕ) → IsFormed p → k < count p → 23 ≤ lp_len p k → length (item p k) ≡ lp_len p k
item_length p k f lt long = let i = held_in p k f lt (omega (arith, long)) in length-cut p (lp_off p k) (lp_len p k) (omega (arith, i.to, f.head.top, f.size))

pub items_alike : (block : ℕ) (p q : List ℕ) → TrimmedHeap p → TrimmedHeap q → mask block p ≡ mask block q → (k : ℕ) → k < count p → lp_flags p k ≡ 1 → 23 ≤ lp_len p k
    → TupleAlike block (k + 1) (item p k) (item q k)
items_alike block p q tp tq same k lt normal long = tuple_alike block (k + 1) (item p k) (item q k) (omega (arith, len_p, long)) (len_p ∙ len ∙ sym len_q) masks
  where
    a : PagesAlike block p q
    a = alike block p q tp tq same

    flags : lp_flags p k ≡ lp_flags q k
    flags = flags_alike block p q a.same tp.page.head.low tp.page.head.by4 k lt

    len : lp_len p k ≡ lp_len q k
    len = len_alike block p q a.same tp.page.head.low tp.page.head.by4 k lt

    len_p : length (item p k) ≡ lp_len p k
    len_p = item_length p k (formed p tp.page) lt long

    len_q : length (item q k) ≡ lp_len q k
    len_q = item_length q k (formed q tq.page) (omega (arith, lt, counts_same block p q a.same tp.page.head.low tp.page.head.by4)) (omega (arith, long, len))

    masks : masked_item block (k + 1) 1 (item p k) ≡ masked_item block (k + 1) 1 (item q k)
    masks =
        let m = a.same.items k lt (omega (arith, long)) in
        (λ t. masked_item block (k + 1) (sym normal t) (item p k)) ∙ m ∙ (λ t. masked_item block (k + 1) ((sym flags ∙ normal) t) (item q k))

pub heap_shown : (block : ℕ) (p q : List ℕ) → TrimmedHeap p → TrimmedHeap q → mask block p ≡ mask block q → SameHeapItems block p q
heap_shown block p q tp tq same = record {
  lines = sym (counts_same block p q a.same low by4);
  off = λ k lt. sym (off_alike block p q a.same low by4 k lt);
  flags = λ k lt. sym (flags_alike block p q a.same low by4 k lt);
  len = λ k lt. sym (len_alike block p q a.same low by4 k lt);
  item = λ k lt some. sym (a.same.items k lt some);
  rest = λ k i lt normal long le. let t = items_alike block p q tp tq same k lt normal long in sym (t.rest i le);
}
  where
    a : PagesAlike block p q
    a = alike block p q tp tq same

    low : 24 ≤ pd_lower p
    low = tp.page.head.low

    by4 : pd_lower p % 4 ≡ 0
    by4 = tp.page.head.by4

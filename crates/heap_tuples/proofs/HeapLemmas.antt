-- What a heap page gives.
use Rattle.std.proofs.Common.{◌≡◌, ℕ, ◌-◌, ◌==◌, ◌&&◌, List, Bool, true, false, length, refl, ◌∙◌, arith}
use Rattle.std.specs.Prelude.{replicate}
use Rattle.std.proofs.lemmas.Bool.Decides.{nat_tests}
use Rattle.page_layout.specs.Page.{pd_lower, pd_upper, pd_special, count, header_fits, lines_fit, well_formed, IsFormed}
use Rattle.page_layout.specs.Bytes.{up8}
use Rattle.page_layout.specs.Edits.{trimmed, init_bytes}
use Rattle.page_layout.proofs.ReadLemmas.{lower_u16, upper_u16, special_u16}
use Rattle.page_layout.proofs.ShapeLemmas.{head_of, lines_below}
use Rattle.page_masks.specs.Shapes.{IsHeap}
use Rattle.page_masks.proofs.Trimmed.{trimmed_page}
use Rattle.page_laws.proofs.BtreeAnew.{init_size, empty_size, empty_lower, empty_upper, empty_special, empty_layout}
use Rattle.heap_tuples.specs.Heap.{is_heap_page}

pub both : (a b : Bool) → (a && b) ≡ true → (a ≡ true) × (b ≡ true)
both true b e = (refl, e)
both false b e = cc e

pub heap_of : (p : List ℕ) → length p ≡ 8192 → is_heap_page p ≡ true → IsHeap p
heap_of p size e =
    let a = both (well_formed p) (pd_special p == 8192) e in
    let b = both (header_fits p) (lines_fit p (count p)) a.0 in
    record { size = size; head = head_of p b.0; lines = b.1; heap = grind (arith, nat_tests) }

pub trimmed_formed : (p : List ℕ) → IsHeap p → IsFormed (trimmed p)
trimmed_formed p h = let t = trimmed_page p h in record { size = t.size; head = t.head; lines = t.lines }

-- an empty page
pub init_heap : IsHeap (init_bytes 0)
init_heap = record {
  size = empty_size (replicate 8192 0) init_size (8192 - up8 0);
  head = record {
    low = omega (arith, lower);
    mid = omega (arith, lower, upper);
    high = omega (arith, upper, special);
    top = omega (arith, special);
    by4 = omega (arith, lower);
    by8 = omega (arith, upper);
    special8 = omega (arith, special);
    layout = empty_layout (replicate 8192 0) init_size (8192 - up8 0);
  };
  lines = lines_below (init_bytes 0) (count (init_bytes 0)) (λ k lt. absurd (omega (arith, lt, lower)));
  heap = special;
}
  where
    lower : pd_lower (init_bytes 0) ≡ 24
    lower = lower_u16 (init_bytes 0) ∙ empty_lower (replicate 8192 0) init_size (8192 - up8 0)

    upper : pd_upper (init_bytes 0) ≡ 8192
    upper = upper_u16 (init_bytes 0) ∙ empty_upper (replicate 8192 0) init_size (8192 - up8 0)

    special : pd_special (init_bytes 0) ≡ 8192
    special = special_u16 (init_bytes 0) ∙ empty_special (replicate 8192 0) init_size (8192 - up8 0)

pub init_formed : IsFormed (init_bytes 0)
init_formed = let h = init_heap in record { size = h.size; head = h.head; lines = h.lines }

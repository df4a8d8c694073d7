-- A sound heap page, and every page with its mask: once trimmed, their items don't overlap.
use Rattle.std.proofs.Common.{◌≡◌, ◌≢◌, ℕ, zero, suc, ◌<◌, ◌==◌, ◌&&◌, ⊎_elim, List, Bool, true, false, IsTrue, length, refl, sym, ◌∙◌, ap, subst, arith}
use Rattle.std.specs.Prelude.{if◌then◌else◌}
use Rattle.std.proofs.lemmas.Bool.Decides.{nat_tests, eqb_tells}
use Rattle.page_layout.specs.Page.{count, lp_off, lp_len}
use Rattle.page_layout.specs.Apart.{AreApart}
use Rattle.page_layout.specs.Deletes.{all_apart}
use Rattle.page_layout.specs.Edits.{is_free, trimmed_count, trimmed}
use Rattle.page_layout.proofs.ApartLemmas.{test_apart}
use Rattle.page_layout.proofs.ShapeLemmas.{trimmed_count-le}
use Rattle.page_masks.specs.declared.kind.PageKind.TheVariants.{Heap}
use Rattle.page_masks.specs.Mask.{mask}
use Rattle.page_masks.specs.Shapes.{IsHeap}
use Rattle.page_masks.specs.Sound.{is_sound, sound_as, have_good_hoffs}
use Rattle.page_masks.proofs.Holders.{heap_mask}
use Rattle.page_masks.proofs.MaskShape.{kind_shown}
use Rattle.page_masks.proofs.ShapeKind.{shape_kind, shape_cases, shape_heap}
use Rattle.page_masks.proofs.Trimmed.{trimmed_page, trimmed_mask, trimmed_apart, count_q, off_q, len_q}
use Rattle.page_masks.proofs.Unshown.{heap_mask_is, is_heap, kind_heap}
use Rattle.page_laws.specs.Results.{TrimmedHeap}
use Rattle.page_laws.proofs.PagesAlike.{count_shown, off_shown, len_shown}

both : (a b : Bool) → IsTrue (a && b) → a ≡ true
both true b e = refl
both false b e = absurd (off e)
  where
    off : IsTrue false → ⊥
    off x = cc

sound_apart : (p : List ℕ) → IsHeap p → IsTrue (is_sound p) → AreApart p
unfolding is_sound
sound_apart p h s = test_apart p (both (all_apart p (count p)) (have_good_hoffs p (count p)) (subst (λ k. IsTrue (sound_as k p)) (kind_heap p h) s))

pub heap_shown : (block : ℕ) (p q : List ℕ) → IsHeap p → length q ≡ 8192 → mask block p ≡ mask block q → IsHeap q
heap_shown block p q h size same = shape_cases q (λ k. k ≡ Heap → IsHeap q) size (λ g e. g) (λ g w e. cc e) (λ g e. cc e) (λ g e. cc e) is
  where
    is : shape_kind q ≡ Heap
    is = sym (kind_shown block q size).is ∙ ap shape_kind (sym same) ∙ (kind_shown block p h.size).is ∙ (shape_heap p h).is

-- a line with a length stays when lines are trimmed
long_stays : (p : List ℕ) (n k : ℕ) → k < n → 0 < lp_len p k → k < trimmed_count p n
long_stays p zero k lt some = lt
long_stays p (suc n) k lt some = by_case (long_stays p n k) (is_free p n) refl
  where
    by_case : (k < n → 0 < lp_len p k → k < trimmed_count p n) → (b : Bool) → is_free p n ≡ b → k < (if b then trimmed_count p n else suc n)
    by_case before true e = ⊎_elim
        (λ (a : ((k == n) ≡ true) × (k ≡ n)). let len : lp_len p n ≡ 0 = grind (arith, nat_tests) in absurd (omega (arith, subst (λ x. 0 < lp_len p x) a.1 some, len)))
        (λ (a : ((k == n) ≡ false) × (k ≢ n)). before (omega (arith, a.1)) some)
        (eqb_tells k n)
    by_case before false e = lt

pub apart_shown : (block : ℕ) (p q : List ℕ) → IsHeap p → IsHeap q → mask block p ≡ mask block q → AreApart p → AreApart q
apart_shown block p q hp hq same apart = λ j k lt there some_j some_k.
    let tp = trimmed_page p hp in let tq = trimmed_page q hq in
    let m : heap_mask block (trimmed q) ≡ heap_mask block (trimmed p) =
    sym (heap_mask_is block (trimmed q) (is_heap (trimmed q) tq)) ∙ trimmed_mask q hq block ∙ sym same ∙ sym (trimmed_mask p hp block) ∙ heap_mask_is block (trimmed p) (is_heap (trimmed p) tp) in
    let k_q : k < count (trimmed q) = omega (arith, count_q q hq, long_stays q (count q) k there some_k) in
    let j_q : j < count (trimmed q) = omega (arith, k_q, lt) in
    let n = count_shown block (trimmed q) (trimmed p) tq tp m in
    let o : (i : ℕ) → i < count (trimmed q) → lp_off q i ≡ lp_off p i = λ i l. sym (off_q q hq i) ∙ off_shown block (trimmed q) (trimmed p) tq tp m i l ∙ off_q p hp i in
    let l : (i : ℕ) → i < count (trimmed q) → lp_len q i ≡ lp_len p i = λ i l. sym (len_q q hq i) ∙ len_shown block (trimmed q) (trimmed p) tq tp m i l ∙ len_q p hp i in
    rw (o j j_q, l j j_q, o k k_q, l k k_q) (apart j k lt (omega (arith, k_q, n, count_q p hp, trimmed_count-le p (count p))) (omega (arith, some_j, l j j_q)) (omega (arith, some_k, l k k_q)))

pub trims_alike : (block : ℕ) (p q : List ℕ) → IsHeap p → IsTrue (is_sound p) → length q ≡ 8192 → mask block p ≡ mask block q → TrimmedHeap (trimmed p) × TrimmedHeap (trimmed q)
trims_alike block p q h s size same =
    let g = heap_shown block p q h size same in
    let a = sound_apart p h s in
    (record { page = trimmed_page p h; apart = trimmed_apart p h a }, record { page = trimmed_page q g; apart = trimmed_apart q g (apart_shown block p q h g same a) })

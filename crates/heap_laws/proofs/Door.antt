-- What is done to the trimmed page, where the page is a heap page, is an operation.
use Rattle.std.proofs.Common.{◌≡◌, ◌≢◌, ℕ, zero, suc, ◌+◌, ◌<◌, ◌≤◌, ◌==◌, ◌&&◌, ⊎_elim, List, Bool, true, false, IsTrue, Ok, Err, length, refl, sym, ◌∙◌, ap, subst, arith}
use Rattle.std.specs.Prelude.{if◌then◌else◌, nat_le}
use Rattle.std.proofs.lemmas.Bool.Decides.{nat_tests, eqb_tells}
use Rattle.page_layout.specs.Bytes.{byte}
use Rattle.page_layout.specs.Page.{pd_special, count, lp_off, lp_flags, lp_len, item, IsFormed}
use Rattle.page_layout.specs.Edits.{trimmed, init_bytes}
use Rattle.page_layout.specs.Deletes.{all_apart}
use Rattle.page_layout.specs.declared.refusal.RedoWhy.TheVariants.{PageShape}
use Rattle.page_layout.proofs.BytesLemmas.{byte-cut}
use Rattle.page_layout.proofs.ShapeLemmas.{trimmed_count-le, held_in}
use Rattle.page_masks.specs.Law.{Redone, PageView, view, SameMasks, IsOperation, and_then}
use Rattle.page_masks.specs.Mask.{mask}
use Rattle.page_masks.specs.Shapes.{IsHeap}
use Rattle.page_masks.specs.Sound.{is_sound, sound_as, has_good_hoff, have_good_hoffs}
use Rattle.page_masks.proofs.Trimmed.{trimmed_mask, trimmed_shown, count_q, off_q, len_q, flags_q}
use Rattle.page_masks.proofs.Unshown.{well, kind_heap}
use Rattle.page_laws.specs.Results.{TrimmedHeap}
use Rattle.page_laws.proofs.AddResult.{heap_formed}
use Rattle.page_laws.proofs.PagesAlike.{counts_same, len_alike, flags_alike}
use Rattle.page_laws.proofs.SoundHeap.{heap_shown, trims_alike}
use Rattle.page_laws.proofs.StepLaws.{alike}
use Rattle.redo_steps.specs.Tuple.{hoff}
use Rattle.heap_tuples.specs.Heap.{is_heap_page, on_heap}
use Rattle.heap_tuples.proofs.HeapLemmas.{both, heap_of, trimmed_formed, init_formed}
use Rattle.heap_tuples.proofs.TupleLaws.{Done}
use Rattle.heap_laws.specs.GoodHeap.{GoodHeap}
use Rattle.heap_laws.proofs.Steps.{CantTell, IsStep}
use Rattle.page_laws.proofs.HeapShown.{items_alike}

-- the mask tells heap pages from others
heap_test : (p : List ℕ) → IsHeap p → is_heap_page p ≡ true
heap_test p h = let top : (pd_special p == 8192) ≡ true = grind (arith, nat_tests, h.heap) in rw (well p h.head h.lines, top) refl

test_same : (block : ℕ) (p q : List ℕ) → length p ≡ 8192 → length q ≡ 8192 → mask block p ≡ mask block q → is_heap_page p ≡ is_heap_page q
test_same block p q size_p size_q same = by_case (is_heap_page p) (is_heap_page q) refl refl
  where
    by_case : (a b : Bool) → is_heap_page p ≡ a → is_heap_page q ≡ b → is_heap_page p ≡ is_heap_page q
    by_case true b ea eb = ea ∙ sym (heap_test q (heap_shown block p q (heap_of p size_p ea) size_q same))
    by_case false true ea eb = heap_test p (heap_shown block q p (heap_of q size_q eb) size_p (sym same)) ∙ sym eb
    by_case false false ea eb = ea ∙ sym eb

-- the headers of a sound page
hoff_at : (p : List ℕ) (n k : ℕ) → have_good_hoffs p n ≡ true → k < n → has_good_hoff p k ≡ true
hoff_at p zero k e lt = absurd (omega (arith, lt))
hoff_at p (suc n) k e lt = step (both (have_good_hoffs p n) (has_good_hoff p n) e) (hoff_at p n k)
  where
    step : (have_good_hoffs p n ≡ true) × (has_good_hoff p n ≡ true) → (have_good_hoffs p n ≡ true → k < n → has_good_hoff p k ≡ true) → has_good_hoff p k ≡ true
    step b before = ⊎_elim
        (λ (t : ((k == n) ≡ true) × (k ≡ n)). subst (λ x. has_good_hoff p x ≡ true) (sym t.1) b.1)
        (λ (f : ((k == n) ≡ false) × (k ≢ n)). before b.0 (omega (arith, lt, f.1)))
        (eqb_tells k n)

good_hoff : (p : List ℕ) (k : ℕ) → has_good_hoff p k ≡ true → lp_flags p k ≡ 1 → 23 ≤ lp_len p k → 23 ≤ byte p (lp_off p k + 22)
good_hoff p k e normal long =
    let a : (lp_flags p k == 1) ≡ true = grind (arith, nat_tests, normal) in
    let b : nat_le 23 (lp_len p k) ≡ true = grind (arith, nat_tests, long) in
    let c : (nat_le 23 (byte p (lp_off p k + 22)) && nat_le (byte p (lp_off p k + 22)) (lp_len p k)) ≡ true = rw (a, b) at e in
    let d = both (nat_le 23 (byte p (lp_off p k + 22))) (nat_le (byte p (lp_off p k + 22)) (lp_len p k)) c in
    grind (arith, nat_tests, d.0)

second : (a b : Bool) → IsTrue (a && b) → b ≡ true
second true true e = refl
second true false e = absurd (off e)
  where
    off : IsTrue false → ⊥
    off x = cc
second false b e = absurd (off e)
  where
    off : IsTrue false → ⊥
    off x = cc

sound_hoffs : (p : List ℕ) → IsHeap p → IsTrue (is_sound p) → have_good_hoffs p (count p) ≡ true
unfolding is_sound
sound_hoffs p h s = second (all_apart p (count p)) (have_good_hoffs p (count p)) (subst (λ k. IsTrue (sound_as k p)) (kind_heap p h) s)

abbrev Hoffs : List ℕ → Type 0
Hoffs p = (k : ℕ) → k < count p → lp_flags p k ≡ 1 → 23 ≤ lp_len p k → 23 ≤ hoff (item p k)

trimmed_hoffs : (p : List ℕ) → IsHeap p → have_good_hoffs p (count p) ≡ true → Hoffs (trimmed p)
trimmed_hoffs p h e k lt normal long =
    let there : k < count p = omega (arith, lt, count_q p h, trimmed_count-le p (count p)) in
    let long_p : 23 ≤ lp_len p k = omega (arith, long, len_q p h k) in
    let i = held_in p k (heap_formed p h) there (omega (arith, long_p)) in
    let good = good_hoff p k (hoff_at p (count p) k e there) (sym (flags_q p h k) ∙ normal) long_p in
    let far : 24 ≤ lp_off p k + 22 = omega (arith, i.from, h.head.low, h.head.mid) in
    let s = trimmed_shown p h in
    subst (λ n. 23 ≤ n) (sym (byte-cut (trimmed p) (lp_off (trimmed p) k) (lp_len (trimmed p) k) 22 (omega (arith, long)) ∙ ap (λ o. byte (trimmed p) (o + 22)) (off_q p h k) ∙ s.rest (lp_off p k + 22) far)) good

shown_hoffs : (block : ℕ) (p q : List ℕ) → TrimmedHeap p → TrimmedHeap q → mask block p ≡ mask block q → Hoffs p → Hoffs q
shown_hoffs block p q tp tq same hoffs k lt normal long =
    let a = alike block q p tq tp (sym same) in
    let low = tq.page.head.low in
    let by4 = tq.page.head.by4 in
    let t = items_alike block q p tq tp (sym same) k lt normal long in
    let there : k < count p = omega (arith, lt, counts_same block q p a.same low by4) in
    let normal_p : lp_flags p k ≡ 1 = sym (flags_alike block q p a.same low by4 k lt) ∙ normal in
    let long_p : 23 ≤ lp_len p k = omega (arith, long, len_alike block q p a.same low by4 k lt) in
    subst (λ n. 23 ≤ n) (sym (t.rest 22 (omega arith))) (hoffs k there normal_p long_p)

pub sound_shown : (block : ℕ) (p q : List ℕ) → IsHeap p → IsTrue (is_sound p) → length q ≡ 8192 → mask block p ≡ mask block q → GoodHeap (trimmed p) × GoodHeap (trimmed q)
sound_shown block p q h sound size same =
    let g = heap_shown block p q h size same in
    let m = trimmed_mask p h block ∙ same ∙ sym (trimmed_mask q g block) in
    let t = trims_alike block p q h sound size same in
    let hoffs = trimmed_hoffs p h (sound_hoffs p h sound) in
    (record { heap = t.0; hoffs = hoffs }, record { heap = t.1; hoffs = shown_hoffs block (trimmed p) (trimmed q) t.0 t.1 m hoffs })

-- redo keeps 8192 bytes of a well formed page
abbrev pub KeepsSize : (List ℕ → Redone) → Type 0
KeepsSize go = (p r : List ℕ) → IsFormed p → go p ≡ Done r → length r ≡ 8192

pub trimmed_operation : (block : ℕ) (go : List ℕ → Redone) → KeepsSize go → CantTell block GoodHeap go → IsOperation (view block) (on_heap false go)
trimmed_operation block go size cant = record {
  page = λ p q size_p e. made p q size_p (is_heap_page p) refl e;
  mask = λ p q size_p size_q sound same. told p q size_p size_q sound same.mask (is_heap_page p) (is_heap_page q) refl refl (test_same block p q size_p size_q same.mask);
}
  where
    made : (p q : List ℕ) → length p ≡ 8192 → (b : Bool) → is_heap_page p ≡ b → and_then (if b then Done (trimmed p) else Err PageShape) go ≡ Done q → length q ≡ 8192
    made p q size_p true t e = size (trimmed p) q (trimmed_formed p (heap_of p size_p t)) e
    made p q size_p false t e = cc e

    told : (p q : List ℕ) → length p ≡ 8192 → length q ≡ 8192 → IsTrue (is_sound p) → mask block p ≡ mask block q → (a b : Bool) → is_heap_page p ≡ a → is_heap_page q ≡ b → is_heap_page p ≡ is_heap_page q
        → SameMasks (view block) (and_then (if a then Done (trimmed p) else Err PageShape) go) (and_then (if b then Done (trimmed q) else Err PageShape) go)
    told p q size_p size_q sound same true true ea eb e =
        let hp = heap_of p size_p ea in
        let hq = heap_of q size_q eb in
        let g = sound_shown block p q hp sound size_q same in
        cant (trimmed p) (trimmed q) g.0 g.1 (trimmed_mask p hp block ∙ same ∙ sym (trimmed_mask q hq block))
    told p q size_p size_q sound same false false ea eb e = refl
    told p q size_p size_q sound same true false ea eb e = let x = sym ea ∙ e ∙ eb in cc x
    told p q size_p size_q sound same false true ea eb e = let x = sym ea ∙ e ∙ eb in cc x

-- of a page that is made anew nothing is seen
same_self : (v : PageView) (a : Redone) → SameMasks v a a
same_self v (Ok p) = refl
same_self v (Err why) = refl

pub begun_operation : (block : ℕ) (init : Bool) (go : List ℕ → Redone) → KeepsSize go → CantTell block GoodHeap go → IsOperation (view block) (on_heap init go)
begun_operation block true go size cant = record {
  page = λ p q size_p e. size (init_bytes 0) q init_formed e;
  mask = λ p q size_p size_q sound same. same_self (view block) (go (init_bytes 0));
}
begun_operation block false go size cant = trimmed_operation block go size cant

pub step_operation : (block : ℕ) (init : Bool) (go : List ℕ → Redone) → IsStep block go → IsOperation (view block) (on_heap init go)
step_operation block init go s = begun_operation block init go (λ p r f e. let k = s.formed p r f e in k.size) (λ p q gp gq m. s.same p q gp.heap gq.heap m)

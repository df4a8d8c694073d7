-- VACUUM: lines without an item become unused, one after another; what it leaves need not be trimmed.
use Rattle.std.proofs.Common.{◌≡◌, ℕ, ◌-◌, ◌<◌, ◌≤◌, ◌==◌, ◌&&◌, List, [], ◌∷◌, Bool, true, false, refl, ◌∙◌, subst, arith}
use Rattle.std.specs.Prelude.{if◌then◌else◌, nat_lt, nat_le}
use Rattle.std.proofs.lemmas.Bool.Decides.{nat_tests}
use Rattle.page_layout.specs.Apart.{AreApart}
use Rattle.page_layout.specs.Page.{count, is_place, lp_len, IsFormed}
use Rattle.page_layout.specs.Edits.{with_pointer, trimmed}
use Rattle.page_layout.specs.declared.refusal.RedoWhy.TheVariants.{Place}
use Rattle.page_masks.specs.Law.{view, SameMasks}
use Rattle.page_masks.specs.Shapes.{IsHeap}
use Rattle.page_masks.proofs.Unshown.{is_heap}
use Rattle.page_laws.specs.Results.{TrimmedHeap}
use Rattle.page_laws.proofs.AddResult.{heap_formed}
use Rattle.page_laws.proofs.HeapSteps.{heap_again, set_apart}
use Rattle.page_laws.proofs.PagesAlike.{PagesAlike, counts_same, len_alike}
use Rattle.page_laws.proofs.SetLineLaw.{set_formed, set_special, set_alike}
use Rattle.page_laws.proofs.StepLaws.{alike, alike_masks}
use Rattle.heap_tuples.proofs.HeapLemmas.{both}
use Rattle.heap_tuples.proofs.TupleLaws.{Done, NoTuple, done_same}
use Rattle.heap_pages.specs.Vacuum.{freed, vacuum_page}
use Rattle.heap_laws.proofs.Steps.{Keeps, CantTell, keeps_then}
use Rattle.heap_laws.proofs.Carried.{Carried, masks_then, carried_where, tests_same}
use Rattle.heap_laws.proofs.Door.{KeepsSize}

-- a place is a line
pub line_there : (p : List ℕ) (place : ℕ) → is_place p place ≡ true → place - 1 < count p
line_there p place e =
    let a : 0 < place = grind (arith, nat_tests) in
    let c : place ≤ count p = grind (arith, nat_tests) in
    omega (arith, a, c)

-- what a line that becomes unused keeps
module _ (P : List ℕ → Type 0) (set : (p : List ℕ) (k : ℕ) → P p → k < count p → P (with_pointer p k 0 0 0)) where
  freed_keeps : (place : ℕ) → Keeps P (freed place)
  freed_keeps place = λ p r h e. kept p r h (is_place p place) (lp_len p (place - 1) == 0) refl e
    where
      kept : (p r : List ℕ) → P p → (x y : Bool) → is_place p place ≡ x → (if x && y then Done (with_pointer p (place - 1) 0 0 0) else NoTuple) ≡ Done r → P r
      kept p r h true true t e = subst P (done_same (with_pointer p (place - 1) 0 0 0) r e) (set p (place - 1) h (line_there p place t))
      kept p r h true false t e = cc e
      kept p r h false y t e = cc e

  vacuum_keeps : (places : List ℕ) → Keeps P (vacuum_page places)
  vacuum_keeps [] = λ p r h e. subst P (done_same p r e) h
  vacuum_keeps (place ∷ places) = keeps_then P (freed place) (vacuum_page places) (freed_keeps place) (vacuum_keeps places)

free_formed : (p : List ℕ) (k : ℕ) → IsFormed p → k < count p → IsFormed (with_pointer p k 0 0 0)
free_formed p k f lt = set_formed k 0 0 (omega arith) (omega arith) p f lt

free_heap : (p : List ℕ) (k : ℕ) → IsHeap p → k < count p → IsHeap (with_pointer p k 0 0 0)
free_heap p k h lt =
    let f = heap_formed p h in
    let g = free_formed p k f lt in
    record { size = g.size; head = g.head; lines = g.lines; heap = set_special k 0 0 (omega arith) (omega arith) p f lt ∙ h.heap }

pub vacuum_size : (places : List ℕ) → KeepsSize (vacuum_page places)
vacuum_size places = λ p r f e. let g = vacuum_keeps IsFormed free_formed places p r f e in g.size

-- a heap page whose items don't overlap
record Whole (p : List ℕ) : Type 0 where
  heap : IsHeap p
  apart : AreApart p

free_whole : (p : List ℕ) (k : ℕ) → Whole p → k < count p → Whole (with_pointer p k 0 0 0)
free_whole p k w lt = record { heap = free_heap p k w.heap lt; apart = set_apart k 0 0 p (omega arith) (omega arith) (heap_formed p w.heap) lt w.apart }

pub vacuum_leaves : (places p r : List ℕ) → TrimmedHeap p → vacuum_page places p ≡ Done r → IsHeap r × TrimmedHeap (trimmed r)
vacuum_leaves places p r t e =
    let w = vacuum_keeps Whole free_whole places p r (record { heap = is_heap p t.page; apart = t.apart }) e in
    heap_again r (heap_formed r w.heap) w.heap.heap w.apart

-- heap pages that the mask can't tell apart, trimmed or not
record Pair (b : ℕ) (p q : List ℕ) : Type 0 where
  heap_p : IsHeap p
  heap_q : IsHeap q
  alike : PagesAlike b p q

module _ (b : ℕ) where
  module _ (place : ℕ) (p q : List ℕ) (s : Pair b p q) where
    abbrev k : ℕ
    k = place - 1

    counts : count p ≡ count q
    counts = counts_same b p q s.alike.same s.heap_p.head.low s.heap_p.head.by4

    places_same : is_place p place ≡ is_place q place
    places_same = λ t. nat_lt 0 place && nat_le place (counts t)

    lens_same : is_place p place ≡ true → (lp_len p k == 0) ≡ (lp_len q k == 0)
    lens_same e = let l = len_alike b p q s.alike.same s.heap_p.head.low s.heap_p.head.by4 k (line_there p place e) in λ t. l t == 0

    freed_pair : (is_place p place && lp_len p k == 0) ≡ true → Pair b (with_pointer p k 0 0 0) (with_pointer q k 0 0 0)
    freed_pair e =
        let t = both (is_place p place) (lp_len p k == 0) e in
        let there = line_there p place t.0 in
        let there_q : k < count q = omega (arith, there, counts) in
        let none : lp_len p k ≡ 0 = grind (arith, nat_tests, t.1) in
        record {
          heap_p = free_heap p k s.heap_p there;
          heap_q = free_heap q k s.heap_q there_q;
          alike = set_alike k 0 0 (omega arith) (omega arith) b p q (heap_formed p s.heap_p) (heap_formed q s.heap_q) there none s.alike;
        }

    freed_carried : Carried (Pair b) (freed place p) (freed place q)
    freed_carried =
        carried_where (Pair b) (is_place p place && lp_len p k == 0) (is_place q place && lp_len q k == 0) Place (with_pointer p k 0 0 0) (with_pointer q k 0 0 0)
        (tests_same (is_place p place) (is_place q place) (lp_len p k == 0) (lp_len q k == 0) places_same lens_same) freed_pair

  vacuum_pairs : (places : List ℕ) (p q : List ℕ) → Pair b p q → SameMasks (view b) (vacuum_page places p) (vacuum_page places q)
  vacuum_pairs [] p q s = alike_masks b p q s.heap_p s.heap_q s.alike
  vacuum_pairs (place ∷ places) p q s = masks_then (Pair b) (view b) (freed place p) (freed place q) (vacuum_page places) (vacuum_page places) (freed_carried place p q s) (vacuum_pairs places)

  pub vacuum_alike : (places : List ℕ) → CantTell b TrimmedHeap (vacuum_page places)
  vacuum_alike places = λ p q tp tq same.
      vacuum_pairs places p q (record { heap_p = is_heap p tp.page; heap_q = is_heap q tq.page; alike = alike b p q tp tq same })

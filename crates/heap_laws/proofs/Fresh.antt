-- A record that makes its page anew looks at no byte of it; pages of zeros are sound.
use Rattle.std.proofs.Common.{◌≡◌, ℕ, ◌==◌, List, true, IsTrue, Ok, length, refl, sym, subst, arith}
use Rattle.std.specs.Prelude.{if◌then◌else◌}
use Rattle.std.proofs.lemmas.Bool.Decides.{nat_tests}
use Rattle.wal_records.specs.Reading.{LogRecord}
use Rattle.block_refs.specs.Parts.{PartsView}
use Rattle.record_layouts.specs.declared.heap.HeapOp.{HeapOp}
use Rattle.record_layouts.specs.declared.heap.HeapOp.TheVariants as heap
use Rattle.record_layouts.specs.declared.heap2.Heap2Op.{Heap2Op}
use Rattle.record_layouts.specs.declared.heap2.Heap2Op.TheVariants as heap2
use Rattle.record_layouts.specs.declared.operation.Operation.{Operation}
use Rattle.record_layouts.specs.declared.operation.Operation.TheVariants.{Heap2, Heap}
use Rattle.page_masks.specs.Kind.{is_zero, kind_of}
use Rattle.page_masks.specs.Law.{Redone, view, SamePage, SameMasks}
use Rattle.page_masks.specs.Sound.{is_sound}
use Rattle.heap_tuples.proofs.HeapLemmas.{both}
use Rattle.heap_replay.specs.Operation.{acts_on, makes_anew, heap_makes_anew, heap2_makes_anew, changed_by, done_by, heap_fresh, heap_operation}
use Rattle.heap_tuples.proofs.TupleLaws.{Done}
use Rattle.heap_laws.proofs.Replayed.{record_law}

module _ (rec : LogRecord) (parts : PartsView) (p q : List ℕ) where
  abbrev done : Operation → List ℕ → Redone
  done op r = if acts_on op 0 then changed_by op rec parts 0 r else Done r

  heap_anew : (op : HeapOp) → heap_makes_anew op ≡ true → done (Heap op) p ≡ done (Heap op) q
  heap_anew (heap.Insert init) e = subst (λ i. done (Heap (heap.Insert i)) p ≡ done (Heap (heap.Insert i)) q) (sym e) refl
  heap_anew (heap.Update init) e = subst (λ i. done (Heap (heap.Update i)) p ≡ done (Heap (heap.Update i)) q) (sym e) refl
  heap_anew (heap.HotUpdate init) e = subst (λ i. done (Heap (heap.HotUpdate i)) p ≡ done (Heap (heap.HotUpdate i)) q) (sym e) refl
  heap_anew _ e = cc e

  heap2_anew : (op : Heap2Op) → heap2_makes_anew op ≡ true → done (Heap2 op) p ≡ done (Heap2 op) q
  heap2_anew (heap2.MultiInsert init) e = subst (λ i. done (Heap2 (heap2.MultiInsert i)) p ≡ done (Heap2 (heap2.MultiInsert i)) q) (sym e) refl
  heap2_anew _ e = cc e

  anew : (op : Operation) → makes_anew op ≡ true → done op p ≡ done op q
  anew (Heap op) e = heap_anew op e
  anew (Heap2 op) e = heap2_anew op e
  anew _ e = cc e

pub fresh_same : (rec : LogRecord) (parts : PartsView) (id : ℕ) (p q : List ℕ) → heap_fresh rec parts id ≡ true → heap_operation rec parts id p ≡ heap_operation rec parts id q
fresh_same rec parts id p q e =
    let t = both (makes_anew (done_by rec)) (id == 0) e in
    let first : id ≡ 0 = grind (arith, nat_tests, t.1) in
    subst (λ i. heap_operation rec parts i p ≡ heap_operation rec parts i q) (sym first) (anew rec parts p q (done_by rec) t.0)

zeros_sound : (p : List ℕ) → is_zero p ≡ true → IsTrue (is_sound p)
unfolding is_sound kind_of
zeros_sound p e = rw e refl

pub zeros_same : (rec : LogRecord) (parts : PartsView) (id block : ℕ) (p q : List ℕ) → length p ≡ 8192 → length q ≡ 8192 → is_zero p ≡ true → SamePage (view block) p q
    → SameMasks (view block) (heap_operation rec parts id p) (heap_operation rec parts id q)
zeros_same rec parts id block p q size_p size_q e same = let law = record_law block rec parts id in law.mask p q size_p size_q (zeros_sound p e) same

pub size_kept : (rec : LogRecord) (parts : PartsView) (id : ℕ) (p q : List ℕ) → length p ≡ 8192 → heap_operation rec parts id p ≡ Ok q → length q ≡ 8192
size_kept rec parts id p q size e = let law = record_law 0 rec parts id in law.page p q size e

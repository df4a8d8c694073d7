-- Tuples of a heap page changed one after another: PostgreSQL 16, src/backend/access/heap/heapam.c, heap_xlog_freeze_page. Own: "Laws of the masks".
use Rattle.std.specs.Prelude.{ℕ, ◌+◌, ◌-◌, List, [], ◌∷◌, Ok}
use Rattle.page_masks.specs.Law.{Redone, and_then}
use Rattle.page_laws.specs.Change.{ItemChange}
use Rattle.heap_tuples.specs.Heap.{on_tuple}

-- a change of the tuple at a place
pub record TupleEdit : Type 0 where
  pub place : ℕ
  pub change : List ℕ → List ℕ

-- each change is one that the tuple's mask determines
abbrev pub AreEdits : ℕ → List TupleEdit → Type 0
AreEdits block [] = Unit {0}
AreEdits block (edit ∷ edits) = ItemChange block (edit.place - 1 + 1) edit.change × AreEdits block edits

-- the tuples changed, if there is one at each place
abbrev pub tuples_edited : List TupleEdit → List ℕ → Redone
tuples_edited [] p = Ok p
tuples_edited (edit ∷ edits) p = and_then (on_tuple edit.place edit.change p) (tuples_edited edits)

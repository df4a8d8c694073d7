-- Tuples changed one after another.
use Rattle.std.proofs.Common.{◌≡◌, ℕ, List, [], ◌∷◌}
use Rattle.page_masks.specs.Law.{view, SameMasks}
use Rattle.page_masks.specs.Mask.{mask}
use Rattle.page_laws.specs.Results.{TrimmedHeap}
use Rattle.heap_tuples.specs.Heap.{on_tuple}
use Rattle.heap_tuples.proofs.TupleLaws.{Done, nothing_more}
use Rattle.heap_laws.specs.Edits.{TupleEdit, AreEdits, tuples_edited}
use Rattle.heap_laws.proofs.Steps.{IsStep, both_steps, no_step, of_tuple}

pub edits_step : (block : ℕ) (edits : List TupleEdit) → AreEdits block edits → IsStep block (tuples_edited edits)
edits_step block [] are = no_step block
edits_step block (edit ∷ edits) are =
    both_steps block (on_tuple edit.place edit.change) (tuples_edited edits) (of_tuple block edit.place edit.change (λ r. r) are.0 nothing_more) (edits_step block edits are.1)

pub edits_same : (block : ℕ) (edits : List TupleEdit) (p q : List ℕ) → AreEdits block edits → TrimmedHeap p → TrimmedHeap q → mask block p ≡ mask block q → SameMasks (view block) (tuples_edited edits p) (tuples_edited edits q)
edits_same block edits p q are tp tq same = let s = edits_step block edits are in s.same p q tp tq same

pub edits_keep : (block : ℕ) (edits : List TupleEdit) (p r : List ℕ) → AreEdits block edits → TrimmedHeap p → tuples_edited edits p ≡ Done r → TrimmedHeap r
edits_keep block edits p r are t e = let s = edits_step block edits are in s.heap p r t e

-- The blocks whose bits of the map a record clears are ones that its references name.
use Rattle.std.proofs.Common.{◌≡◌, ℕ, ◌<◌, ◌^◌, ◌==◌, Bool, true, false, cond, List, [], ◌∷◌, ◌++◌, Option, None, Some, Ok, refl, subst}
use Rattle.std.specs.Prelude.{find}
use Rattle.std.specs.Option.{option_and_then, option_map_or}
use Rattle.std.specs.List.{AllByRecursion}
use Rattle.block_refs.specs.Bits.{has_bits}
use Rattle.block_refs.specs.Bytes.{block_with, main_bytes}
use Rattle.block_refs.specs.Parts.{PartsView}
use Rattle.block_refs.specs.declared.names.BlockName.{BlockName}
use Rattle.block_refs.specs.declared.names.Fork.TheVariants.{Main}
use Rattle.block_refs.specs.declared.placed.Placed.{Placed}
use Rattle.cluster_tree.specs.Contents.{Contents}
use Rattle.cluster_tree.specs.PathValue.{PathValue}
use Rattle.file_effects.specs.Done.{bits_cleared, for_each}
use Rattle.file_effects.specs.MapClears.{bits_number, bits_of, cleared_by, cleared_by_heap, cleared_by_heap2, flagged, frozen_cleared, listed, map_clears, no_clears, old_id, update_cleared, visible_cleared}
use Rattle.file_effects.specs.declared.clearing.ClearedBits.{ClearedBits}
use Rattle.file_effects.specs.declared.clearing.ClearedBits.TheVariants.{AllFrozen, Both}
use Rattle.file_effects.specs.declared.clearing.Clearing.{Clearing}
use Rattle.file_effects.specs.declared.clearing.Clears.{Clears}
use Rattle.record_layouts.specs.Heap.{heap_delete_of, heap_insert_of, heap_lock_of, heap_update_of}
use Rattle.record_layouts.specs.Heap2.{multi_insert_of}
use Rattle.record_layouts.specs.Operation.{operation_of}
use Rattle.record_layouts.specs.declared.heap.HeapOp.{HeapOp}
use Rattle.record_layouts.specs.declared.heap.HeapOp.TheVariants as heap
use Rattle.record_layouts.specs.declared.heap2.Heap2Op.{Heap2Op}
use Rattle.record_layouts.specs.declared.heap2.Heap2Op.TheVariants as heap2
use Rattle.record_layouts.specs.declared.operation.Operation.{Operation}
use Rattle.record_layouts.specs.declared.operation.Operation.TheVariants as op
use Rattle.storage_replay.specs.Cutting.{same_fork}
use Rattle.storage_replay.specs.declared.map_edit.MapEdit.TheVariants.{Clear}
use Rattle.storage_laws.specs.Names.{IsRel}
use Rattle.storage_laws.proofs.EditedLemmas.{given-done}
use Rattle.wal_records.specs.Reading.{LogRecord}
use Rattle.replay_laws.specs.Whole.{AreWhole}
use Rattle.replay_laws.proofs.LeaveLemmas.{Stays, edited-leaves, leaves-same}
use Rattle.replay_laws.proofs.ReadLemmas.{AreNumbered, IsNumbered}
use Rattle.replay_laws.proofs.SlruLemmas.{stays-then}

-- a clearing of a block by numbers that a record can name
record IsClearing (clearing : Clearing) : Type 0 where
  rel : IsRel clearing.rel
  block : clearing.block < 2 ^ 32

abbrev IfClearing : Option Clearing → Type 0
IfClearing None = Unit {0}
IfClearing (Some clearing) = IsClearing clearing

record AreClearings (clears : Clears) : Type 0 where
  first : IfClearing clears.first
  second : IfClearing clears.second

found_numbered : (p : Placed → Bool) (blocks : List Placed) (placed : Placed) → AreNumbered blocks → find p blocks ≡ Some placed → IsNumbered placed.block.name
found_numbered p [] placed are e = absurd cc
found_numbered p (x ∷ xs) placed are e = by (p x) (λ h. found_numbered p xs placed are.1 h) e
  where
    by : (b : Bool) → (find p xs ≡ Some placed → IsNumbered placed.block.name) → cond b (Some x) (find p xs) ≡ Some placed → IsNumbered placed.block.name
    by true later h = let same : x ≡ placed = cc in subst (λ (y : Placed). IsNumbered y.block.name) same are.0
    by false later h = later h

module _ (parts : PartsView) (are : AreNumbered parts.blocks) where
  named_clearing : (bits : ClearedBits) (name : BlockName) → IsNumbered name → IfClearing (bits_of bits name)
  named_clearing bits name is = by (same_fork name.fork Main)
    where
      by : (b : Bool) → IfClearing (cond b (Some record { rel = name.rel; block = name.block; bits = bits }) None)
      by true = record { rel = is.rel; block = is.block }
      by false = tt

  flagged_clearing : (bits : ClearedBits) (id flags flag : ℕ) → IfClearing (flagged parts bits id flags flag)
  flagged_clearing bits id flags flag = by (has_bits flags flag)
    where
      placed_by : (o : Option Placed) → block_with id parts.blocks ≡ o → IfClearing (option_and_then (λ (placed : Placed). bits_of bits placed.block.name) o)
      placed_by None e = tt
      placed_by (Some placed) e = named_clearing bits placed.block.name (found_numbered (λ (placed : Placed). placed.block.id == id) parts.blocks placed are e)

      by : (b : Bool) → IfClearing (cond b (option_and_then (λ (placed : Placed). bits_of bits placed.block.name) (block_with id parts.blocks)) None)
      by true = placed_by (block_with id parts.blocks) refl
      by false = tt

  visible_clears : (flags : ℕ) → AreClearings (visible_cleared parts flags)
  visible_clears flags = record { first = flagged_clearing Both 0 flags 1; second = tt }

  frozen_clears : (flags : ℕ) → AreClearings (frozen_cleared parts flags)
  frozen_clears flags = record { first = flagged_clearing AllFrozen 0 flags 1; second = tt }

  update_clears : (flags : ℕ) → AreClearings (update_cleared parts flags)
  update_clears flags = record { first = flagged_clearing Both (old_id parts) flags 1; second = flagged_clearing Both 0 flags 2 }

  none_clears : AreClearings no_clears
  none_clears = record { first = tt; second = tt }

  said_clears : {A : Type 0} (says : A → Clears) (fields : Option A) → ((value : A) → AreClearings (says value)) → AreClearings (option_map_or says fields no_clears)
  said_clears says None each = none_clears
  said_clears says (Some value) each = each value

  heap_clears : (o : HeapOp) (main : List ℕ) → AreClearings (cleared_by_heap o main parts)
  heap_clears (heap.Insert init) main = said_clears _ (heap_insert_of main) (λ insert. visible_clears insert.flags)
  heap_clears heap.Delete main = said_clears _ (heap_delete_of main) (λ delete. visible_clears delete.flags)
  heap_clears (heap.Update init) main = said_clears _ (heap_update_of main) (λ update. update_clears update.flags)
  heap_clears (heap.HotUpdate init) main = said_clears _ (heap_update_of main) (λ update. update_clears update.flags)
  heap_clears heap.Lock main = said_clears _ (heap_lock_of main) (λ lock. frozen_clears lock.flags)
  heap_clears _ main = none_clears

  heap2_clears : (o : Heap2Op) (main : List ℕ) → AreClearings (cleared_by_heap2 o main parts)
  heap2_clears (heap2.MultiInsert init) main = said_clears _ (multi_insert_of init main) (λ insert. visible_clears insert.flags)
  heap2_clears heap2.LockUpdated main = said_clears _ (heap_lock_of main) (λ lock. frozen_clears lock.flags)
  heap2_clears _ main = none_clears

  op_clears : (o : Operation) (main : List ℕ) → AreClearings (cleared_by o main parts)
  op_clears (op.Heap o) main = heap_clears o main
  op_clears (op.Heap2 o) main = heap2_clears o main
  op_clears _ main = none_clears

  -- as a list

  joined : (xs ys : List Clearing) → AllByRecursion IsClearing xs → AllByRecursion IsClearing ys → AllByRecursion IsClearing (xs ++ ys)
  joined [] ys a b = b
  joined (x ∷ xs) ys a b = (a.0, joined xs ys a.1 b)

  one_listed : (o : Option Clearing) → IfClearing o → AllByRecursion IsClearing (listed o)
  one_listed None is = tt
  one_listed (Some clearing) is = (is, tt)

  all_clearings : (rec : LogRecord) → AllByRecursion IsClearing (map_clears rec parts)
  all_clearings rec =
      let both = op_clears (operation_of rec.header.manager rec.header.info) (main_bytes rec.body parts) in
      joined (listed _) (listed _) (one_listed _ both.first) (one_listed _ both.second)

module _ (root : PathValue) (per : ℕ) (some : 0 < per) where
  each_stays : (clearings : List Clearing) (c d : Contents) → AllByRecursion IsClearing clearings → AreWhole root per c → for_each (bits_cleared root per) clearings c ≡ Ok d → Stays root per c d
  unfolding for_each
  each_stays [] c d are whole made = leaves-same root per c d whole cc
  each_stays (clearing ∷ clearings) c d are whole made =
      let two = given-done (bits_cleared root per clearing c) (for_each (bits_cleared root per) clearings) d made in
      let first = edited-leaves root per some c two.0 whole clearing.rel clearing.block (Clear (bits_number clearing.bits)) are.0.rel are.0.block two.1 in
      stays-then root per c two.0 d first (each_stays clearings two.0 d are.1 first.whole two.2)

  -- the bits that a record clears leave every page of a main fork
  pub clears-stay : (rec : LogRecord) (parts : PartsView) (c d : Contents) → AreNumbered parts.blocks → AreWhole root per c → for_each (bits_cleared root per) (map_clears rec parts) c ≡ Ok d → Stays root per c d
  clears-stay rec parts c d are whole made = each_stays (map_clears rec parts) c d (all_clearings parts are rec) whole made

-- The main bytes of an UPDATE and of a PRUNE as a server writes them: PostgreSQL 16, src/include/access/heapam_xlog.h,
-- xl_heap_update and xl_heap_prune.
use Rattle.std.specs.Prelude.{◌≡◌, ℕ, List, [], ◌∷◌, Option, Some, None}
use Rattle.layout.specs.declared.value.Value.{Value}
use Rattle.layout.specs.declared.value.Value.TheVariants.{Byte, Half, Word}
use Rattle.record_layouts.specs.declared.heap.HeapUpdate.{HeapUpdate}
use Rattle.record_layouts.specs.declared.heap2.HeapPrune.{HeapPrune}

-- UPDATE and HOT_UPDATE
abbrev pub update_values : HeapUpdate → List Value
update_values update =
    Word update.old_xmax ∷ Half update.old_off ∷ Byte update.old_infobits ∷ Byte update.flags ∷ Word update.new_xmax ∷ Half update.new_off ∷ []

-- PRUNE; whether the relation is a catalog is told by a last byte, which may be missing
abbrev pub catalog_values : Option ℕ → List Value
catalog_values None = []
catalog_values (Some told) = Byte told ∷ []

abbrev pub prune_values : HeapPrune → List Value
prune_values prune = Word prune.horizon ∷ Half prune.nredirected ∷ Half prune.ndead ∷ catalog_values prune.catalog

-- what may stand behind a PRUNE: nothing, where that byte is missing
abbrev pub MayFollow : Option ℕ → List ℕ → Type 0
MayFollow None rest = rest ≡ []
MayFollow (Some told) rest = Unit {0}

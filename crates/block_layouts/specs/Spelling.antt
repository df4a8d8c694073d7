-- The bytes of an UPDATE, of a PRUNE and of a B-tree's DELETE or VACUUM as a server writes them: PostgreSQL 16,
-- src/include/access/heapam_xlog.h and nbtxlog.h; src/backend/access/heap/heapam.c, log_heap_update, and pruneheap.c,
-- heap_page_prune; src/backend/access/nbtree/nbtpage.c, _bt_delitems_delete and _bt_delitems_vacuum.
use Rattle.std.specs.Prelude.{◌≡◌, ℕ, ◌+◌, ◌<◌, ◌||◌, Bool, true, false, List, [], ◌∷◌, ◌++◌, length, drop, map, if◌then◌else◌}
use Rattle.std.specs.List.{flat_map}
use Rattle.layout.specs.declared.value.Value.{Value}
use Rattle.layout.specs.declared.value.Value.TheVariants.{Byte, Half}
use Rattle.layout_readers.specs.Rows.{AllFit, row_bytes}
use Rattle.block_layouts.specs.declared.posting.PostingUpdates.{PostingUpdates}
use Rattle.block_layouts.specs.declared.prune.PrunePlaces.{PrunePlaces}
use Rattle.block_layouts.specs.declared.redirects.Redirect.{Redirect}
use Rattle.block_layouts.specs.declared.shortened.Update.{Update}
use Rattle.block_layouts.specs.declared.tuple.TupleHeader.{TupleHeader}
use Rattle.block_layouts.specs.declared.update.OldParts.{OldParts}
use Rattle.block_layouts.specs.Update.{UpdateView}

-- the length of a part of the old tuple, where there is one
abbrev pub length_values : Bool → ℕ → List Value
length_values there size = if there then Half size ∷ [] else []

-- a tuple's header: xl_heap_header
abbrev pub header_values : TupleHeader → List Value
header_values header = Half header.infomask2 ∷ Half header.infomask ∷ Byte header.hoff ∷ []

-- the numbers in front of the new tuple's bytes: how much is the old tuple's, the prefix first, and the header
abbrev pub front_values : OldParts → UpdateView → List Value
front_values parts tuple =
    length_values parts.prefix tuple.prefix ++ (length_values parts.suffix tuple.suffix ++ header_values tuple.header)

-- the bytes of an UPDATE
abbrev pub update_bytes : OldParts → UpdateView → List ℕ
update_bytes parts tuple = row_bytes (front_values parts tuple) ++ (tuple.bitmap ++ tuple.bytes)

-- a tuple that can be written: its numbers fit; with a part of the old tuple its bitmap reaches from 23 to hoff, and
-- else it has none apart; a part that isn't there has no length
pub record CanWriteUpdate (parts : OldParts) (tuple : UpdateView) : Type 0 where
  pub fit : AllFit (front_values parts tuple)
  pub whole : parts.prefix || parts.suffix ≡ false → tuple.bitmap ≡ []
  pub pieces : parts.prefix || parts.suffix ≡ true → 23 + length tuple.bitmap ≡ tuple.header.hoff
  pub no_prefix : parts.prefix ≡ false → tuple.prefix ≡ 0
  pub no_suffix : parts.suffix ≡ false → tuple.suffix ≡ 0

-- what a PRUNE makes of lines: pairs, dead places, unused places
abbrev pub redirect_values : Redirect → List Value
redirect_values pair = Half pair.from ∷ Half pair.to ∷ []

abbrev pub places_values : List ℕ → List Value
places_values places = map Half places

abbrev pub prune_values : PrunePlaces → List Value
prune_values places =
    flat_map redirect_values places.redirected ++ (places_values places.dead ++ places_values places.unused)

-- these bytes spell what a PRUNE makes of lines, whose main bytes tell the numbers of pairs and of dead places; behind
-- all places one byte may stand, which says nothing
pub record SpellsPrune (redirected dead : ℕ) (bytes : List ℕ) (places : PrunePlaces) : Type 0 where
  pub pairs : length places.redirected ≡ redirected
  pub singles : length places.dead ≡ dead
  pub fit : AllFit (prune_values places)
  pub spelled : row_bytes (prune_values places) ++ drop (length (row_bytes (prune_values places))) bytes ≡ bytes
  pub odd : length bytes < length (row_bytes (prune_values places)) + 2

-- the places of updates, and what one of them says: how many tids go, and their indexes
abbrev pub update_places : List Update → List ℕ
update_places updates = map (λ update. update.place) updates

abbrev pub list_values : Update → List Value
list_values update = Half (length update.gone) ∷ places_values update.gone

-- what a DELETE or a VACUUM with updates does to tuples: deleted places, places of posting lists, and these in turn
abbrev pub posting_values : PostingUpdates → List Value
posting_values lists =
    places_values lists.deleted ++ (places_values (update_places lists.updates) ++ flat_map list_values lists.updates)

-- these bytes spell it, whose main bytes tell the numbers of deleted places and of updates; what stands behind says nothing
pub record SpellsPosting (deleted updated : ℕ) (bytes : List ℕ) (lists : PostingUpdates) : Type 0 where
  pub singles : length lists.deleted ≡ deleted
  pub updates : length lists.updates ≡ updated
  pub fit : AllFit (posting_values lists)
  pub spelled : row_bytes (posting_values lists) ++ drop (length (row_bytes (posting_values lists))) bytes ≡ bytes

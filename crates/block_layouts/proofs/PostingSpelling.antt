-- What a DELETE or a VACUUM with updates does to tuples is spelled as it is read, and read where it is spelled.
use Rattle.std.proofs.Common.{◌≡◌, ◌≤◌, ◌+◌, ◌*◌, ◌++◌, ltb, Bool, true, false, cond, ℕ, zero, suc, List, [], ◌∷◌, length, drop, Some, None, option_map, refl, sym, ap, subst, ◌∙◌, arith, length-append, take-append-drop}
use Rattle.std.proofs.lemmas.List.{length-map}
use Rattle.std.specs.Prelude.{◌↔◌}
use Rattle.std.specs.List.{flat_map}
use Rattle.layout.specs.declared.value.Value.TheVariants.{Half}
use Rattle.layout.specs.Readers.{u16_at}
use Rattle.layout.specs.Values.{number}
use Rattle.layout_readers.specs.Rows.{AreBytes, StandFrom, row_bytes, row_width}
use Rattle.layout_readers.specs.Whole.{whole}
use Rattle.layout_readers.proofs.RowLemmas.{length_row, row_fits, row_read, row_spelled}
use Rattle.layout_readers.proofs.WholeLemmas.{whole_is, whole_there}
use Rattle.block_layouts.specs.declared.posting.PostingUpdates.{PostingUpdates}
use Rattle.block_layouts.specs.declared.shortened.Update.{Update}
use Rattle.block_layouts.specs.Places.{places_from}
use Rattle.block_layouts.specs.Posting.{posting_updates_of}
use Rattle.block_layouts.specs.Shortened.{UpdatePlace, first_update, gone_count, list_behind, lists_end, update_at, update_behind, updates_from}
use Rattle.block_layouts.specs.Spelling.{SpellsPosting, list_values, places_values, posting_values, update_places}
use Rattle.block_layouts.proofs.ListLemmas.{place_count-is}
use Rattle.block_layouts.proofs.PruneSpelling.{places_again, places_stand, places_width}
use Rattle.block_layouts.proofs.RowLemmas.{length-row_of}
use Rattle.block_layouts.proofs.SpellingLemmas.{stand_at, stand_joined, stand_parted, width_append}

-- ---- updates and their lists

places_are : (n : ℕ) (bytes : List ℕ) (at : UpdatePlace) → update_places (updates_from n bytes at) ≡ places_from n bytes at.place
places_are zero bytes at = refl
places_are (suc n) bytes at = ap (λ (ps : List ℕ). u16_at at.place bytes ∷ ps) (places_are n bytes (update_behind bytes at))

lists_stand : (n : ℕ) (bytes : List ℕ) (at : UpdatePlace) → StandFrom (flat_map list_values (updates_from n bytes at)) at.list bytes
lists_stand zero bytes at = tt
lists_stand (suc n) bytes at =
    let count = gone_count bytes at.list in
    let gone = places_from count bytes (at.list + 2) in
    let rest = flat_map list_values (updates_from n bytes (update_behind bytes at)) in
    let many : length gone ≡ count = place_count-is count (at.list + 2) bytes in
    let next : list_behind bytes at.list ≡ at.list + 2 + row_width (places_values gone) = omega (arith, many, places_width gone) in (
      ap Half (sym many),
      stand_joined (places_values gone) rest (at.list + 2) bytes (places_stand count (at.list + 2) bytes)
          (stand_at rest bytes (list_behind bytes at.list) (at.list + 2 + row_width (places_values gone)) next (lists_stand n bytes (update_behind bytes at))),
    )

lists_width : (n : ℕ) (bytes : List ℕ) (at : UpdatePlace) → at.list + row_width (flat_map list_values (updates_from n bytes at)) ≡ lists_end n bytes at.list
lists_width zero bytes at = omega arith
lists_width (suc n) bytes at =
    let count = gone_count bytes at.list in
    let gone = places_from count bytes (at.list + 2) in
    let rest = flat_map list_values (updates_from n bytes (update_behind bytes at)) in
    let others : list_behind bytes at.list + row_width rest ≡ lists_end n bytes (list_behind bytes at.list) = lists_width n bytes (update_behind bytes at) in
    let joined : row_width (places_values gone ++ rest) ≡ row_width (places_values gone) + row_width rest = width_append (places_values gone) rest in
    let many : length gone ≡ count = place_count-is count (at.list + 2) bytes in
    omega (arith, others, joined, many, places_width gone)

update_is : (bytes : List ℕ) (at : UpdatePlace) (u : Update) → u16_at at.place bytes ≡ u.place → places_from (gone_count bytes at.list) bytes (at.list + 2) ≡ u.gone → update_at bytes at ≡ u
update_is bytes at u place gone = rw (place, gone) refl

updates_again : (us : List Update) (bytes : List ℕ) (at : UpdatePlace) → StandFrom (places_values (update_places us)) at.place bytes
    → StandFrom (flat_map list_values us) at.list bytes → updates_from (length us) bytes at ≡ us
updates_again [] bytes at places lists = refl
updates_again (u ∷ us) bytes at places lists =
    let many : gone_count bytes at.list ≡ length u.gone = ap number lists.0 in
    let parts = stand_parted (places_values u.gone) (flat_map list_values us) (at.list + 2) bytes lists.1 in
    let gone = ap (λ (n : ℕ). places_from n bytes (at.list + 2)) many ∙ places_again u.gone (at.list + 2) bytes parts.0 in
    let first : update_at bytes at ≡ u = update_is bytes at u (ap number places.0) gone in
    let next : at.list + 2 + row_width (places_values u.gone) ≡ list_behind bytes at.list = omega (arith, many, places_width u.gone) in
    let others = updates_again us bytes (update_behind bytes at) places.1 (stand_at (flat_map list_values us) bytes (at.list + 2 + row_width (places_values u.gone)) (list_behind bytes at.list) next parts.1) in
    rw (first, others) refl

-- ---- the whole of them

abbrev with_updates : List ℕ → List Update → PostingUpdates
with_updates deleted updates = record { deleted = deleted; updates = updates }

abbrev read_of : ℕ → ℕ → List ℕ → PostingUpdates
read_of deleted updated bytes = with_updates (places_from deleted bytes 0) (updates_from updated bytes (first_update deleted updated))

abbrev behind_all : ℕ → ℕ → List ℕ → ℕ
behind_all deleted updated bytes = lists_end updated bytes (2 * deleted + 2 * updated)

map_whole : {A B : Type 0} (f : A → B) (size : ℕ) (bytes : List ℕ) (value : A) → option_map f (whole size bytes value) ≡ whole size bytes (f value)
map_whole f size bytes value = by (ltb (length bytes) size)
  where
    by : (b : Bool) → option_map f (cond b None (Some value)) ≡ cond b None (Some (f value))
    by true = refl
    by false = refl

read_is : (deleted updated : ℕ) (bytes : List ℕ) → posting_updates_of deleted updated bytes ≡ whole (behind_all deleted updated bytes) bytes (read_of deleted updated bytes)
read_is deleted updated bytes =
    map_whole (with_updates (places_from deleted bytes 0)) (behind_all deleted updated bytes) bytes (updates_from updated bytes (first_update deleted updated))

posting_width : (lists : PostingUpdates) → row_width (posting_values lists) ≡ 2 * length lists.deleted + (2 * length (update_places lists.updates) + row_width (flat_map list_values lists.updates))
posting_width lists =
    let singles = places_values lists.deleted in
    let places = places_values (update_places lists.updates) in
    let rows = flat_map list_values lists.updates in
    width_append singles (places ++ rows) ∙ rw (width_append places rows, places_width lists.deleted, places_width (update_places lists.updates)) refl

-- ---- what is read is spelled so

-- its numbers
read_counts : (deleted updated : ℕ) (bytes : List ℕ) → (length (places_from deleted bytes 0) ≡ deleted) × (length (update_places (updates_from updated bytes (first_update deleted updated))) ≡ updated)
read_counts deleted updated bytes =
    (place_count-is deleted 0 bytes, ap length (places_are updated bytes (first_update deleted updated)) ∙ place_count-is updated (2 * deleted) bytes)

read_stands : (deleted updated : ℕ) (bytes : List ℕ) → StandFrom (posting_values (read_of deleted updated bytes)) 0 bytes
read_stands deleted updated bytes =
    let first = first_update deleted updated in
    let read = read_of deleted updated bytes in
    let singles = places_values read.deleted in
    let places = places_values (update_places read.updates) in
    let rows = flat_map list_values read.updates in
    let counts = read_counts deleted updated bytes in
    let places_at : 2 * deleted ≡ 0 + row_width singles = omega (arith, places_width read.deleted, counts.0) in
    let rows_at : 2 * deleted + 2 * updated ≡ 0 + row_width singles + row_width places = omega (arith, places_at, places_width (update_places read.updates), counts.1) in
    let stand : StandFrom places (2 * deleted) bytes = subst (λ (ps : List ℕ). StandFrom (places_values ps) (2 * deleted) bytes) (sym (places_are updated bytes first)) (places_stand updated (2 * deleted) bytes) in
    stand_joined singles (places ++ rows) 0 bytes (places_stand deleted 0 bytes) (stand_joined places rows (0 + row_width singles) bytes
    (stand_at places bytes (2 * deleted) (0 + row_width singles) places_at stand)
    (stand_at rows bytes (2 * deleted + 2 * updated) (0 + row_width singles + row_width places) rows_at (lists_stand updated bytes first)))

read_spells : (deleted updated : ℕ) (bytes : List ℕ) → AreBytes bytes → behind_all deleted updated bytes ≤ length bytes → SpellsPosting deleted updated bytes (read_of deleted updated bytes)
read_spells deleted updated bytes are room =
    let first = first_update deleted updated in
    let read = read_of deleted updated bytes in
    let values = posting_values read in
    let counts = read_counts deleted updated bytes in
    let width : 0 + row_width values ≡ behind_all deleted updated bytes = omega (arith, posting_width read, counts.0, counts.1, lists_width updated bytes first) in
    let within : 0 + row_width values ≤ length bytes = omega (arith, width, room) in
    let stand = read_stands deleted updated bytes in
    let fit = row_fits values 0 bytes are within stand in
    let size : length (row_bytes values) ≡ row_width values = length_row values fit in
    record {
      singles = counts.0;
      updates = length-row_of update_at update_behind updated bytes first;
      fit = fit;
      spelled = ap (λ (n : ℕ). row_bytes values ++ drop n bytes) size ∙ ap (λ (xs : List ℕ). xs ++ drop (row_width values) bytes) (row_spelled values 0 bytes are within stand) ∙ take-append-drop (row_width values) bytes;
    }

spelled : (deleted updated : ℕ) (bytes : List ℕ) (lists : PostingUpdates) → AreBytes bytes → posting_updates_of deleted updated bytes ≡ Some lists → SpellsPosting deleted updated bytes lists
spelled deleted updated bytes lists are e =
    let w = whole_is (behind_all deleted updated bytes) bytes (read_of deleted updated bytes) lists (sym (read_is deleted updated bytes) ∙ e) in
    subst (λ (p : PostingUpdates). SpellsPosting deleted updated bytes p) w.same (read_spells deleted updated bytes are w.room)

-- ---- what is spelled is read

all_read : (deleted updated : ℕ) (bytes : List ℕ) (lists : PostingUpdates) → places_from deleted bytes 0 ≡ lists.deleted
    → updates_from updated bytes (first_update deleted updated) ≡ lists.updates → read_of deleted updated bytes ≡ lists
all_read deleted updated bytes lists singles updates = rw (singles, updates) refl

read_again : (deleted updated : ℕ) (bytes : List ℕ) (lists : PostingUpdates) → SpellsPosting deleted updated bytes lists → posting_updates_of deleted updated bytes ≡ Some lists
read_again deleted updated bytes lists s =
    let at = first_update deleted updated in
    let values = posting_values lists in
    let singles = places_values lists.deleted in
    let places = places_values (update_places lists.updates) in
    let rows = flat_map list_values lists.updates in
    let stand : StandFrom values 0 bytes = subst (λ (b : List ℕ). StandFrom values 0 b) s.spelled (row_read values [] (drop (length (row_bytes values)) bytes) s.fit) in
    let first = stand_parted singles (places ++ rows) 0 bytes stand in
    let second = stand_parted places rows (0 + row_width singles) bytes first.1 in
    let many : length (update_places lists.updates) ≡ updated = length-map lists.updates (λ (u : Update). u.place) ∙ s.updates in
    let places_at : 0 + row_width singles ≡ 2 * deleted = omega (arith, places_width lists.deleted, s.singles) in
    let rows_at : 0 + row_width singles + row_width places ≡ 2 * deleted + 2 * updated = omega (arith, places_at, places_width (update_places lists.updates), many) in
    let deleted_is = ap (λ (n : ℕ). places_from n bytes 0) (sym s.singles) ∙ places_again lists.deleted 0 bytes first.0 in
    let again = updates_again lists.updates bytes at (stand_at places bytes (0 + row_width singles) (2 * deleted) places_at second.0) (stand_at rows bytes (0 + row_width singles + row_width places) (2 * deleted + 2 * updated) rows_at second.1) in
    let updates_is : updates_from updated bytes at ≡ lists.updates = ap (λ (n : ℕ). updates_from n bytes at) (sym s.updates) ∙ again in
    let wide : row_width (flat_map list_values (updates_from updated bytes at)) ≡ row_width rows = ap (λ (us : List Update). row_width (flat_map list_values us)) updates_is in
    let least : length (row_bytes values) ≤ length bytes = subst (λ (b : List ℕ). length (row_bytes values) ≤ length b) s.spelled (omega (arith, length-append (row_bytes values) (drop (length (row_bytes values)) bytes))) in
    let room : behind_all deleted updated bytes ≤ length bytes = omega (arith, least, length_row values s.fit, posting_width lists, s.singles, many, wide, lists_width updated bytes at) in
    read_is deleted updated bytes ∙ whole_there (behind_all deleted updated bytes) bytes (read_of deleted updated bytes) room ∙ ap Some (all_read deleted updated bytes lists deleted_is updates_is)

pub posting : (deleted updated : ℕ) (bytes : List ℕ) (lists : PostingUpdates) → AreBytes bytes → (posting_updates_of deleted updated bytes ≡ Some lists) ↔ SpellsPosting deleted updated bytes lists
posting deleted updated bytes lists are = (spelled deleted updated bytes lists are, read_again deleted updated bytes lists)

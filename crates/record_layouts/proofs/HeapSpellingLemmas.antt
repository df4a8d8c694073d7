-- The main bytes of an UPDATE and of a PRUNE are read where they are spelled, and spelled as they are read.
use Rattle.std.proofs.Common.{◌≡◌, ◌≤◌, ◌<◌, ◌++◌, ltb, Bool, true, false, ℕ, List, [], ◌∷◌, length, take, get_or, Option, Some, None, refl, sym, ap, subst, ◌∙◌, arith, length-append, zero-add}
use Rattle.std.specs.Prelude.{slice_get}
use Rattle.std.proofs.lemmas.Bool.{ltb-false, ltb-true}
use Rattle.std.proofs.lemmas.List.{take_all}
use Rattle.std.proofs.lemmas.Option.{slice_get_past, slice_get_within, slice_get-get_or}
use Rattle.layout.specs.declared.value.Value.{Value}
use Rattle.layout.specs.declared.value.Value.TheVariants.{Byte, Half, Word}
use Rattle.layout.specs.Readers.{u8_at, u16_at, u32_at}
use Rattle.layout.specs.Values.{number}
use Rattle.layout_readers.specs.Rows.{AllFit, AreBytes, StandFrom, row_bytes, row_width}
use Rattle.layout_readers.proofs.RowLemmas.{length_row, row_fits, row_read, row_spelled}
use Rattle.layout_readers.proofs.WholeLemmas.{whole_is, whole_there}
use Rattle.record_layouts.specs.declared.heap.HeapUpdate.{HeapUpdate}
use Rattle.record_layouts.specs.declared.heap2.HeapPrune.{HeapPrune}
use Rattle.record_layouts.specs.Heap.{heap_update_of}
use Rattle.record_layouts.specs.Heap2.{heap_prune_of}
use Rattle.record_layouts.specs.HeapSpelling.{MayFollow, catalog_values, prune_values, update_values}

-- ---- UPDATE

update_there : (update : HeapUpdate) (bytes : List ℕ) → 14 ≤ length bytes → StandFrom (update_values update) 0 bytes → heap_update_of bytes ≡ Some update
update_there update bytes room stand =
    let xmax : u32_at 0 bytes ≡ update.old_xmax = ap number stand.0 in
    let off : u16_at 4 bytes ≡ update.old_off = ap number stand.1.0 in
    let infobits : u8_at 6 bytes ≡ update.old_infobits = ap number stand.1.1.0 in
    let flags : u8_at 7 bytes ≡ update.flags = ap number stand.1.1.1.0 in
    let new_xmax : u32_at 8 bytes ≡ update.new_xmax = ap number stand.1.1.1.1.0 in
    let new_off : u16_at 12 bytes ≡ update.new_off = ap number stand.1.1.1.1.1.0 in
    whole_there 14 bytes _ room ∙ rw (xmax, off, infobits, flags, new_xmax, new_off) refl

pub update_read : (update : HeapUpdate) (rest : List ℕ) → AllFit (update_values update) → heap_update_of (row_bytes (update_values update) ++ rest) ≡ Some update
update_read update rest fit =
    let bytes = row_bytes (update_values update) ++ rest in
    let size : length (row_bytes (update_values update)) ≡ 14 = length_row (update_values update) fit in
    update_there update bytes (omega (arith, length-append (row_bytes (update_values update)) rest, size)) (row_read (update_values update) [] rest fit)

update_stands : (update : HeapUpdate) (bytes : List ℕ) → heap_update_of bytes ≡ Some update → (14 ≤ length bytes) × StandFrom (update_values update) 0 bytes
update_stands update bytes e =
    let w = whole_is 14 bytes _ update e in
    (w.room, subst (λ (u : HeapUpdate). StandFrom (update_values u) 0 bytes) w.same (refl, (refl, (refl, (refl, (refl, (refl, tt)))))))

pub update_fits : (update : HeapUpdate) (bytes : List ℕ) → AreBytes bytes → heap_update_of bytes ≡ Some update → AllFit (update_values update)
update_fits update bytes are e =
    let s = update_stands update bytes e in
    row_fits (update_values update) 0 bytes are s.0 s.1

pub update_spelled : (update : HeapUpdate) (bytes : List ℕ) → AreBytes bytes → heap_update_of bytes ≡ Some update → row_bytes (update_values update) ≡ take 14 bytes
update_spelled update bytes are e =
    let s = update_stands update bytes e in
    row_spelled (update_values update) 0 bytes are s.0 s.1

-- ---- PRUNE

prune_there : (prune : HeapPrune) (bytes : List ℕ) → 8 ≤ length bytes → StandFrom (prune_values prune) 0 bytes → slice_get bytes 8 ≡ prune.catalog → heap_prune_of bytes ≡ Some prune
prune_there prune bytes room stand catalog =
    let horizon : u32_at 0 bytes ≡ prune.horizon = ap number stand.0 in
    let redirected : u16_at 4 bytes ≡ prune.nredirected = ap number stand.1.0 in
    let dead : u16_at 6 bytes ≡ prune.ndead = ap number stand.1.1.0 in
    whole_there 8 bytes _ room ∙ rw (horizon, redirected, dead, catalog) refl

abbrev behind_front : Option ℕ → ℕ → ℕ → ℕ → List Value
behind_front catalog horizon redirected dead = Word horizon ∷ Half redirected ∷ Half dead ∷ catalog_values catalog

-- a byte that stands there is got, and past the bytes there is none
told_there : (told : ℕ) (bytes : List ℕ) → 8 < length bytes → u8_at 8 bytes ≡ told → slice_get bytes 8 ≡ Some told
unfolding u8_at
told_there told bytes room e = slice_get-get_or bytes 8 0 room ∙ ap Some e

read_with : (catalog : Option ℕ) (horizon redirected dead : ℕ) (rest : List ℕ) → AllFit (behind_front catalog horizon redirected dead) → MayFollow catalog rest
    → heap_prune_of (row_bytes (behind_front catalog horizon redirected dead) ++ rest) ≡ Some record { horizon = horizon; nredirected = redirected; ndead = dead; catalog = catalog }
read_with None horizon redirected dead rest fit follows =
    let row = row_bytes (behind_front None horizon redirected dead) in
    let size : length row ≡ 8 = length_row (behind_front None horizon redirected dead) fit in
    let all : length (row ++ rest) ≡ 8 = ap (λ (r : List ℕ). length (row ++ r)) follows ∙ length-append row [] ∙ omega (arith, size) in
    prune_there record { horizon = horizon; nredirected = redirected; ndead = dead; catalog = None } (row ++ rest) (omega (arith, all)) (row_read (behind_front None horizon redirected dead) [] rest fit) (slice_get_past (row ++ rest) 8 (omega (arith, all)))
read_with (Some told) horizon redirected dead rest fit follows =
    let row = row_bytes (behind_front (Some told) horizon redirected dead) in
    let size : length row ≡ 9 = length_row (behind_front (Some told) horizon redirected dead) fit in
    let all : 9 ≤ length (row ++ rest) = omega (arith, length-append row rest, size) in
    let stand : StandFrom (behind_front (Some told) horizon redirected dead) 0 (row ++ rest) = row_read (behind_front (Some told) horizon redirected dead) [] rest fit in
    prune_there record { horizon = horizon; nredirected = redirected; ndead = dead; catalog = Some told } (row ++ rest) (omega (arith, all)) stand (told_there told (row ++ rest) (omega (arith, all)) (ap number stand.1.1.1.0))

pub prune_read : (prune : HeapPrune) (rest : List ℕ) → AllFit (prune_values prune) → MayFollow prune.catalog rest → heap_prune_of (row_bytes (prune_values prune) ++ rest) ≡ Some prune
prune_read prune rest fit follows = read_with prune.catalog prune.horizon prune.nredirected prune.ndead rest fit follows

-- the values that stand in bytes that were read, and how many bytes they are
record Stood (prune : HeapPrune) (bytes : List ℕ) : Type 0 where
  room : row_width (prune_values prune) ≤ length bytes
  all : take (row_width (prune_values prune)) bytes ≡ take 9 bytes
  stand : StandFrom (prune_values prune) 0 bytes

none_behind : (bytes : List ℕ) → slice_get bytes 8 ≡ None → length bytes ≤ 8
none_behind bytes e = by (ltb 8 (length bytes)) refl
  where
    by : (b : Bool) → ltb 8 (length bytes) ≡ b → length bytes ≤ 8
    by true h = let some : slice_get bytes 8 ≡ Some (get_or bytes 8 0) = slice_get-get_or bytes 8 0 (ltb-true _ _ h) in absurd cc
    by false h = ltb-false _ _ h

told_is : (bytes : List ℕ) (told : ℕ) → 8 < length bytes → slice_get bytes 8 ≡ Some told → u8_at 8 bytes ≡ told
unfolding u8_at
told_is bytes told more e =
    let some : slice_get bytes 8 ≡ Some (get_or bytes 8 0) = slice_get-get_or bytes 8 0 more in
    let same : Some (get_or bytes 8 0) ≡ Some told = sym some ∙ e in
    cc

stood_with : (catalog : Option ℕ) (bytes : List ℕ) → 8 ≤ length bytes → slice_get bytes 8 ≡ catalog
    → Stood record { horizon = u32_at 0 bytes; nredirected = u16_at 4 bytes; ndead = u16_at 6 bytes; catalog = catalog } bytes
stood_with None bytes room e =
    let last : length bytes ≤ 8 = none_behind bytes e in
    record { room = room; all = take_all 8 bytes last ∙ sym (take_all 9 bytes (omega (arith, last))); stand = (refl, (refl, (refl, tt))) }
stood_with (Some told) bytes room e =
    let more : 8 < length bytes = slice_get_within bytes 8 told e in
    let is : u8_at 8 bytes ≡ told = told_is bytes told more e in
    record { room = more; all = refl; stand = (refl, (refl, (refl, (ap Byte is, tt)))) }

prune_stood : (prune : HeapPrune) (bytes : List ℕ) → heap_prune_of bytes ≡ Some prune → Stood prune bytes
prune_stood prune bytes e =
    let w = whole_is 8 bytes _ prune e in
    subst (λ (p : HeapPrune). Stood p bytes) w.same (stood_with (slice_get bytes 8) bytes w.room refl)

pub prune_fits : (prune : HeapPrune) (bytes : List ℕ) → AreBytes bytes → heap_prune_of bytes ≡ Some prune → AllFit (prune_values prune)
prune_fits prune bytes are e =
    let s = prune_stood prune bytes e in
    row_fits (prune_values prune) 0 bytes are (rw (zero-add (row_width (prune_values prune))) s.room) s.stand

pub prune_spelled : (prune : HeapPrune) (bytes : List ℕ) → AreBytes bytes → heap_prune_of bytes ≡ Some prune → row_bytes (prune_values prune) ≡ take 9 bytes
prune_spelled prune bytes are e =
    let s = prune_stood prune bytes e in
    row_spelled (prune_values prune) 0 bytes are (rw (zero-add (row_width (prune_values prune))) s.room) s.stand ∙ s.all

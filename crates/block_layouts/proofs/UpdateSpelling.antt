-- The bytes of an UPDATE are spelled as they are read, and read where they are spelled.
use Rattle.std.proofs.Common.{◌≡◌, ◌≤◌, ◌+◌, ◌-◌, ◌++◌, ◌||◌, Bool, true, false, cond, ltb, ℕ, List, [], length, take, drop, Option, Some, None, refl, sym, ap, subst, ◌∙◌, arith, append_assoc, length-append, take-append-drop, zero-add}
use Rattle.std.specs.Prelude.{◌↔◌, option_and_then}
use Rattle.std.proofs.lemmas.Bool.{le-ltb, ltb-false}
use Rattle.std.proofs.lemmas.List.{drop_at, take_at}
use Rattle.layout.specs.Readers.{u8_at, u16_at}
use Rattle.layout.specs.Values.{number}
use Rattle.layout_readers.specs.Rows.{AreBytes, StandFrom, row_bytes, row_width}
use Rattle.layout_readers.proofs.RowLemmas.{length_row, row_fits, row_read, row_spelled}
use Rattle.block_layouts.specs.declared.tuple.TupleHeader.{TupleHeader}
use Rattle.block_layouts.specs.declared.update.OldParts.{OldParts}
use Rattle.block_layouts.specs.Spelling.{CanWriteUpdate, front_values, update_bytes}
use Rattle.block_layouts.specs.Tuple.{header_at}
use Rattle.block_layouts.specs.Update.{UpdateView, bitmap_size, header_place, length_at, length_size, update_tuple_of, update_tuple_with}
use Rattle.block_layouts.proofs.HoldLemmas.{else_some, some_is, update_holds}

abbrev parts_with : Bool → Bool → OldParts
parts_with prefix suffix = record { prefix = prefix; suffix = suffix }

abbrev read_at : OldParts → List ℕ → ℕ → UpdateView
read_at parts bytes size = record {
  prefix = length_at parts.prefix 0 bytes;
  suffix = length_at parts.suffix (length_size parts.prefix) bytes;
  header = header_at (header_place parts) bytes;
  bitmap = take size (drop (header_place parts + 5) bytes);
  bytes = drop (header_place parts + 5 + size) bytes;
}

-- ---- what is read is spelled so

front_stands : (p s : Bool) (bytes : List ℕ) (size : ℕ) → StandFrom (front_values (parts_with p s) (read_at (parts_with p s) bytes size)) 0 bytes
front_stands true true bytes size = (refl, (refl, (refl, (refl, (refl, tt)))))
front_stands true false bytes size = (refl, (refl, (refl, (refl, tt))))
front_stands false true bytes size = (refl, (refl, (refl, (refl, tt))))
front_stands false false bytes size = (refl, (refl, (refl, tt)))

front_width : (p s : Bool) (tuple : UpdateView) → row_width (front_values (parts_with p s) tuple) ≡ header_place (parts_with p s) + 5
front_width true true tuple = refl
front_width true false tuple = refl
front_width false true tuple = refl
front_width false false tuple = refl

record Fronts (parts : OldParts) (bytes : List ℕ) (tuple : UpdateView) : Type 0 where
  room : header_place parts + 5 ≤ length bytes
  stand : StandFrom (front_values parts tuple) 0 bytes

fronts_with : (parts : OldParts) (bytes : List ℕ) (size : ℕ) (tuple : UpdateView) → header_place parts + 5 ≤ length bytes → update_tuple_with parts bytes (header_place parts) size ≡ Some tuple → Fronts parts bytes tuple
fronts_with parts bytes size tuple room e =
    let g = else_some (ltb (length bytes) (header_place parts + 5 + size)) (Some (read_at parts bytes size)) tuple e in
    record {
      room = room;
      stand = subst (λ (t : UpdateView). StandFrom (front_values parts t) 0 bytes) (some_is (read_at parts bytes size) tuple g.1) (front_stands parts.prefix parts.suffix bytes size);
    }

fronts : (parts : OldParts) (bytes : List ℕ) (tuple : UpdateView) → update_tuple_of parts bytes ≡ Some tuple → Fronts parts bytes tuple
unfolding update_tuple_of
fronts parts bytes tuple e =
    let hoff = (header_at (header_place parts) bytes).hoff in
    let g = else_some (ltb (length bytes) (header_place parts + 5)) (option_and_then (update_tuple_with parts bytes (header_place parts)) (bitmap_size parts hoff)) tuple e in
    by (bitmap_size parts hoff) (ltb-false _ _ g.0) g.1
  where
    by : (o : Option ℕ) → header_place parts + 5 ≤ length bytes → option_and_then (update_tuple_with parts bytes (header_place parts)) o ≡ Some tuple → Fronts parts bytes tuple
    by None room h = absurd cc
    by (Some size) room h = fronts_with parts bytes size tuple room h

spelled : (parts : OldParts) (bytes : List ℕ) (tuple : UpdateView) → AreBytes bytes → update_tuple_of parts bytes ≡ Some tuple → CanWriteUpdate parts tuple × (update_bytes parts tuple ≡ bytes)
spelled parts bytes tuple are e =
    let f = fronts parts bytes tuple e in
    let h = update_holds parts bytes tuple e in
    let values = front_values parts tuple in
    let w : row_width values ≡ header_place parts + 5 = front_width parts.prefix parts.suffix tuple in
    let room : 0 + row_width values ≤ length bytes = rw (zero-add (row_width values), w) f.room in
    let front : row_bytes values ≡ take (header_place parts + 5) bytes = row_spelled values 0 bytes are room f.stand ∙ ap (λ (n : ℕ). take n bytes) w in (
      record {
        fit = row_fits values 0 bytes are room f.stand;
        whole = h.whole;
        pieces = h.pieces;
        no_prefix = h.no_prefix;
        no_suffix = h.no_suffix;
      },
      ap (λ (xs : List ℕ). xs ++ (tuple.bitmap ++ tuple.bytes)) front ∙ ap (λ (xs : List ℕ). take (header_place parts + 5) bytes ++ xs) h.joined ∙ take-append-drop (header_place parts + 5) bytes,
    )

-- ---- what is spelled is read

record Told (parts : OldParts) (bytes : List ℕ) (tuple : UpdateView) : Type 0 where
  prefix : length_at parts.prefix 0 bytes ≡ tuple.prefix
  suffix : length_at parts.suffix (length_size parts.prefix) bytes ≡ tuple.suffix
  header : header_at (header_place parts) bytes ≡ tuple.header

header_is : (at : ℕ) (bytes : List ℕ) (header : TupleHeader) → u16_at at bytes ≡ header.infomask2 → u16_at (at + 2) bytes ≡ header.infomask → u8_at (at + 4) bytes ≡ header.hoff → header_at at bytes ≡ header
header_is at bytes header a b c = rw (a, b, c) refl

told : (p s : Bool) (bytes : List ℕ) (tuple : UpdateView) → StandFrom (front_values (parts_with p s) tuple) 0 bytes → (p ≡ false → tuple.prefix ≡ 0) → (s ≡ false → tuple.suffix ≡ 0) → Told (parts_with p s) bytes tuple
told true true bytes tuple st np ns = record { prefix = ap number st.0; suffix = ap number st.1.0; header = header_is 4 bytes tuple.header (ap number st.1.1.0) (ap number st.1.1.1.0) (ap number st.1.1.1.1.0) }
told true false bytes tuple st np ns = record { prefix = ap number st.0; suffix = sym (ns refl); header = header_is 2 bytes tuple.header (ap number st.1.0) (ap number st.1.1.0) (ap number st.1.1.1.0) }
told false true bytes tuple st np ns = record { prefix = sym (np refl); suffix = ap number st.0; header = header_is 2 bytes tuple.header (ap number st.1.0) (ap number st.1.1.0) (ap number st.1.1.1.0) }
told false false bytes tuple st np ns = record { prefix = sym (np refl); suffix = sym (ns refl); header = header_is 0 bytes tuple.header (ap number st.0) (ap number st.1.0) (ap number st.1.1.0) }

sized : (parts : OldParts) (tuple : UpdateView) → CanWriteUpdate parts tuple → bitmap_size parts tuple.header.hoff ≡ Some (length tuple.bitmap)
sized parts tuple can = by (parts.prefix || parts.suffix) refl
  where
    by : (b : Bool) → parts.prefix || parts.suffix ≡ b → cond b (cond (ltb tuple.header.hoff 23) None (Some (tuple.header.hoff - 23))) (Some 0) ≡ Some (length tuple.bitmap)
    by false h = ap (λ (xs : List ℕ). Some (length xs)) (sym (can.whole h))
    by true h =
        let e = can.pieces h in
        let long : 23 ≤ tuple.header.hoff = omega (arith, e) in
        let is : tuple.header.hoff - 23 ≡ length tuple.bitmap = omega (arith, e) in
        rw (le-ltb tuple.header.hoff 23 long, is) refl

with_there : (parts : OldParts) (bytes : List ℕ) (tuple : UpdateView) → Told parts bytes tuple → header_place parts + 5 + length tuple.bitmap ≤ length bytes → take (length tuple.bitmap) (drop (header_place parts + 5) bytes) ≡ tuple.bitmap
    → drop (header_place parts + 5 + length tuple.bitmap) bytes ≡ tuple.bytes → update_tuple_with parts bytes (header_place parts) (length tuple.bitmap) ≡ Some tuple
with_there parts bytes tuple t room bitmap rest = rw (le-ltb (length bytes) (header_place parts + 5 + length tuple.bitmap) room, t.prefix, t.suffix, t.header, bitmap, rest) refl

read_again : (parts : OldParts) (tuple : UpdateView) → CanWriteUpdate parts tuple → update_tuple_of parts (update_bytes parts tuple) ≡ Some tuple
unfolding update_tuple_of
read_again parts tuple can =
    let values = front_values parts tuple in
    let front = row_bytes values in
    let bytes = update_bytes parts tuple in
    let size : length front ≡ header_place parts + 5 = length_row values can.fit ∙ front_width parts.prefix parts.suffix tuple in
    let all : length bytes ≡ length front + (length tuple.bitmap + length tuple.bytes) = length-append front (tuple.bitmap ++ tuple.bytes) ∙ ap (λ (n : ℕ). length front + n) (length-append tuple.bitmap tuple.bytes) in
    let t = told parts.prefix parts.suffix bytes tuple (row_read values [] (tuple.bitmap ++ tuple.bytes) can.fit) can.no_prefix can.no_suffix in
    let behind : drop (header_place parts + 5) bytes ≡ tuple.bitmap ++ tuple.bytes = drop_at front (tuple.bitmap ++ tuple.bytes) (header_place parts + 5) size in
    let bitmap : take (length tuple.bitmap) (drop (header_place parts + 5) bytes) ≡ tuple.bitmap = ap (take (length tuple.bitmap)) behind ∙ take_at tuple.bitmap tuple.bytes (length tuple.bitmap) refl in
    let len : length (front ++ tuple.bitmap) ≡ header_place parts + 5 + length tuple.bitmap = length-append front tuple.bitmap ∙ omega (arith, size) in
    let rest : drop (header_place parts + 5 + length tuple.bitmap) bytes ≡ tuple.bytes =
    ap (drop (header_place parts + 5 + length tuple.bitmap)) (sym (append_assoc front tuple.bitmap tuple.bytes)) ∙ drop_at (front ++ tuple.bitmap) tuple.bytes (header_place parts + 5 + length tuple.bitmap) len in
    let hoff : bitmap_size parts (header_at (header_place parts) bytes).hoff ≡ Some (length tuple.bitmap) = ap (λ (h : TupleHeader). bitmap_size parts h.hoff) t.header ∙ sized parts tuple can in
    let found = with_there parts bytes tuple t (omega (arith, all, size)) bitmap rest in
    rw (le-ltb (length bytes) (header_place parts + 5) (omega (arith, all, size)), hoff) found

pub updates : (parts : OldParts) (bytes : List ℕ) (tuple : UpdateView) → AreBytes bytes → (update_tuple_of parts bytes ≡ Some tuple) ↔ (CanWriteUpdate parts tuple × (update_bytes parts tuple ≡ bytes))
updates parts bytes tuple are =
    (spelled parts bytes tuple are, λ h. subst (λ (b : List ℕ). update_tuple_of parts b ≡ Some tuple) h.1 (read_again parts tuple h.0))

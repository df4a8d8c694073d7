-- Values in a row are read where they are spelled, and are spelled as the bytes that they are read off.
use Rattle.std.proofs.Common.{◌≡◌, ◌≤◌, ◌+◌, ◌++◌, ℕ, List, [], ◌∷◌, length, take, drop, refl, sym, ap, ◌∙◌, arith, append_assoc, length-append}
use Rattle.std.proofs.Math.Seq.{take-add}
use Rattle.std.proofs.lemmas.List.{drop-drop}
use Rattle.layout.specs.declared.value.Value.{Value}
use Rattle.layout.specs.Readers.{value_at}
use Rattle.layout.specs.Values.{width}
use Rattle.layout.specs.Writing.{value_bytes}
use Rattle.layout.proofs.PutLemmas.{length-value_bytes}
use Rattle.layout_readers.specs.Rows.{AllFit, AreBytes, StandFrom, row_bytes, row_width}
use Rattle.layout_readers.proofs.ValueLemmas.{value_in}
use Rattle.layout_readers.proofs.SpelledLemmas.{value_spelled}

-- a row has so many bytes
pub length_row : (vs : List Value) → AllFit vs → length (row_bytes vs) ≡ row_width vs
length_row [] fit = refl
length_row (v ∷ vs) fit = length-append (value_bytes v) (row_bytes vs) ∙ rw (length-value_bytes v fit.0, length_row vs fit.1) refl

-- the rest of a row behind its first value
behind_first : (v : Value) (vs : List Value) (front behind : List ℕ) → front ++ (row_bytes (v ∷ vs) ++ behind) ≡ (front ++ value_bytes v) ++ (row_bytes vs ++ behind)
behind_first v vs front behind = simp append_assoc

pub row_read : (values : List Value) (front behind : List ℕ) → AllFit values → StandFrom values (length front) (front ++ (row_bytes values ++ behind))
row_read [] front behind fit = tt
row_read (v ∷ vs) front behind fit =
    let all : front ++ (row_bytes (v ∷ vs) ++ behind) ≡ front ++ (value_bytes v ++ (row_bytes vs ++ behind)) = ap (λ (xs : List ℕ). front ++ xs) (append_assoc (value_bytes v) (row_bytes vs) behind) in
    let on : length (front ++ value_bytes v) ≡ length front + width v = length-append front (value_bytes v) ∙ ap (λ (n : ℕ). length front + n) (length-value_bytes v fit.0) in
    let first : value_at v (length front) (front ++ (row_bytes (v ∷ vs) ++ behind)) ≡ v = ap (value_at v (length front)) all ∙ value_in v front (row_bytes vs ++ behind) fit.0 in
    let others : StandFrom vs (length (front ++ value_bytes v)) ((front ++ value_bytes v) ++ (row_bytes vs ++ behind)) = row_read vs (front ++ value_bytes v) behind fit.1 in
    (first, rw (behind_first v vs front behind, sym on) others)

pub row_fits : (values : List Value) (at : ℕ) (bytes : List ℕ) → AreBytes bytes → at + row_width values ≤ length bytes → StandFrom values at bytes → AllFit values
row_fits [] at bytes are room stand = tt
row_fits (v ∷ vs) at bytes are room stand =
    ((value_spelled v at bytes are (omega (arith, room)) stand.0).fits, row_fits vs (at + width v) bytes are (omega (arith, room)) stand.1)

pub row_spelled : (values : List Value) (at : ℕ) (bytes : List ℕ) → AreBytes bytes → at + row_width values ≤ length bytes → StandFrom values at bytes → row_bytes values ≡ take (row_width values) (drop at bytes)
row_spelled [] at bytes are room stand = refl
row_spelled (v ∷ vs) at bytes are room stand =
    let first = (value_spelled v at bytes are (omega (arith, room)) stand.0).is in
    let others = row_spelled vs (at + width v) bytes are (omega (arith, room)) stand.1 in
    let on : drop (at + width v) bytes ≡ drop (width v) (drop at bytes) = sym (drop-drop (width v) at bytes) in
    ap (λ (xs : List ℕ). xs ++ row_bytes vs) first
    ∙ ap (λ (xs : List ℕ). take (width v) (drop at bytes) ++ xs) (others ∙ ap (take (row_width vs)) on)
    ∙ sym (take-add (width v) (row_width vs) (drop at bytes))

-- The tuples of a MULTI_INSERT are the bytes, and tuples that are the bytes are read.
use Rattle.std.proofs.Common.{◌≡◌, ℕ, zero, suc, ◌+◌, Bool, true, false, cond, eqb, leb, List, [], ◌∷◌, length, take, drop, Option, Some, None, refl, sym, ap, subst, ◌∙◌, arith, length-drop, length-take-le}
use Rattle.std.proofs.lemmas.Bool.{and_from, eqb-true}
use Rattle.std.proofs.lemmas.Bool.Decides.{nat_tests}
use Rattle.block_layouts.specs.declared.tuple.TupleHeader.{TupleHeader}
use Rattle.block_layouts.specs.Tuple.{TupleView}
use Rattle.block_layouts.specs.MultiInsert.{even, tuple_length, tuple_behind, tuple_stands, tuple_at, tuples_from, tuples_end, is_end, multi_insert_tuples_of}
use Rattle.block_layouts.specs.Laws.{IsTupleAt, AreTuplesFrom}
use Rattle.block_layouts.proofs.RowLemmas.{length-row_of}
use Rattle.block_layouts.proofs.TupleLemmas.{HasTuple, tuple_stands-facts, with_parts}

bytes_length : (bytes : List ℕ) (at : ℕ) → HasTuple bytes at → length (take (tuple_length bytes at) (drop (even at + 7) bytes)) ≡ tuple_length bytes at
bytes_length bytes at has = length-take-le (tuple_length bytes at) (drop (even at + 7) bytes) (omega (arith, length-drop (even at + 7) bytes, has.whole))

tuple_is : (bytes : List ℕ) (at : ℕ) → HasTuple bytes at → IsTupleAt bytes (even at) (tuple_at bytes at)
tuple_is bytes at has =
    let len = bytes_length bytes at has in
    record {
      room = omega (arith, len, has.whole);
      size = sym len;
      header = refl;
      body = ap (λ (n : ℕ). take n (drop (even at + 7) bytes)) len;
    }

pub tuples_found : (n : ℕ) (bytes : List ℕ) (at : ℕ) → tuples_end n bytes at ≡ Some (length bytes) → AreTuplesFrom bytes at (tuples_from n bytes at)
tuples_found zero bytes at e = cc
tuples_found (suc n) bytes at e = by (tuple_stands bytes at) refl (tuples_found n bytes (tuple_behind bytes at)) e
  where
    by : (s : Bool) → tuple_stands bytes at ≡ s
        → (tuples_end n bytes (tuple_behind bytes at) ≡ Some (length bytes) → AreTuplesFrom bytes (tuple_behind bytes at) (tuples_from n bytes (tuple_behind bytes at)))
        → cond s (tuples_end n bytes (tuple_behind bytes at)) None ≡ Some (length bytes)
        → AreTuplesFrom bytes at (tuple_at bytes at ∷ tuples_from n bytes (tuple_behind bytes at))
    by false hs others e = absurd cc
    by true hs others e =
        let has = tuple_stands-facts bytes at hs in
        let rest = others e in
        let P : ℕ → Type 0 = λ k. AreTuplesFrom bytes (even at + 7 + k) (tuples_from n bytes (tuple_behind bytes at)) in
        (tuple_is bytes at has, subst P (sym (bytes_length bytes at has)) rest)

-- ---- the other way

same_tuple : (t u : TupleView) → t.header ≡ u.header → t.bytes ≡ u.bytes → t ≡ u
same_tuple t u header bytes =
    let first : with_parts t.header t.bytes ≡ with_parts u.header t.bytes = ap (λ (h : TupleHeader). with_parts h t.bytes) header in
    let second : with_parts u.header t.bytes ≡ with_parts u.header u.bytes = ap (λ (b : List ℕ). with_parts u.header b) bytes in
    first ∙ second

-- the tuples are there and are read
pub record AreRead (bytes : List ℕ) (at : ℕ) (tuples : List TupleView) : Type 0 where
  pub end : tuples_end (length tuples) bytes at ≡ Some (length bytes)
  pub all : tuples_from (length tuples) bytes at ≡ tuples

pub tuples_only : (tuples : List TupleView) (bytes : List ℕ) (at : ℕ) → AreTuplesFrom bytes at tuples → AreRead bytes at tuples
tuples_only [] bytes at are = record { end = ap (λ (k : ℕ). Some k) are; all = refl }
tuples_only (tuple ∷ tuples) bytes at are =
    let is = are.0 in
    let front : leb (even at + 7) (length bytes) ≡ true = grind (arith, nat_tests, is.room) in
    let whole : leb (tuple_behind bytes at) (length bytes) ≡ true = grind (arith, nat_tests, is.room, is.size) in
    let stands : tuple_stands bytes at ≡ true = and_from (leb (even at + 7) (length bytes)) (leb (tuple_behind bytes at) (length bytes)) front whole in
    let P : ℕ → Type 0 = λ k. AreTuplesFrom bytes (even at + 7 + k) tuples in
    let rest = tuples_only tuples bytes (tuple_behind bytes at) (subst P (sym is.size) are.1) in
    let first : tuple_at bytes at ≡ tuple = same_tuple (tuple_at bytes at) tuple is.header (ap (λ (n : ℕ). take n (drop (even at + 7) bytes)) is.size ∙ is.body) in
    record { end = rw stands rest.end; all = rw (first, rest.all) refl }

pub inserted_found : (count : ℕ) (bytes : List ℕ) (tuples : List TupleView) → multi_insert_tuples_of count bytes ≡ Some tuples → (length tuples ≡ count) × AreTuplesFrom bytes 0 tuples
unfolding multi_insert_tuples_of
inserted_found count bytes tuples e = by (tuples_end count bytes 0) refl e
  where
    ended : (end : ℕ) → tuples_end count bytes 0 ≡ Some end → (b : Bool) → eqb end (length bytes) ≡ b → cond b (Some (tuples_from count bytes 0)) None ≡ Some tuples
        → (length tuples ≡ count) × AreTuplesFrom bytes 0 tuples
    ended end he false hb e = absurd cc
    ended end he true hb e =
        let same : tuples_from count bytes 0 ≡ tuples = cc in
        let whole : tuples_end count bytes 0 ≡ Some (length bytes) = he ∙ ap (λ (k : ℕ). Some k) (eqb-true end (length bytes) hb) in
        subst (λ ts. (length ts ≡ count) × AreTuplesFrom bytes 0 ts) same (length-row_of tuple_at tuple_behind count bytes 0, tuples_found count bytes 0 whole)

    by : (o : Option ℕ) → tuples_end count bytes 0 ≡ o → cond (is_end bytes o) (Some (tuples_from count bytes 0)) None ≡ Some tuples
        → (length tuples ≡ count) × AreTuplesFrom bytes 0 tuples
    by None ho e = absurd cc
    by (Some end) ho e = ended end ho (eqb end (length bytes)) refl e

pub inserted_only : (count : ℕ) (bytes : List ℕ) (tuples : List TupleView) → (length tuples ≡ count) × AreTuplesFrom bytes 0 tuples → multi_insert_tuples_of count bytes ≡ Some tuples
unfolding multi_insert_tuples_of
inserted_only count bytes tuples are =
    let read = tuples_only tuples bytes 0 are.1 in
    let end : tuples_end count bytes 0 ≡ Some (length bytes) = subst (λ k. tuples_end k bytes 0 ≡ Some (length bytes)) are.0 read.end in
    let all : tuples_from count bytes 0 ≡ tuples = subst (λ k. tuples_from k bytes 0 ≡ tuples) are.0 read.all in
    let same : eqb (length bytes) (length bytes) ≡ true = grind (arith, nat_tests) in
    rw (end, same, all) refl

-- What an update and a prune that were read hold of the bytes.
use Rattle.std.proofs.Common.{◌≡◌, ℕ, ◌+◌, ◌-◌, ◌*◌, ◌/◌, ◌<◌, ◌≤◌, Bool, true, false, cond, ltb, ◌||◌, List, ◌++◌, length, take, drop, Option, Some, None, refl, sym, ap, subst, ◌∙◌, arith, length-drop, length-take-le, take-append-drop}
use Rattle.std.specs.Prelude.{option_and_then}
use Rattle.std.proofs.lemmas.Bool.{ltb-false}
use Rattle.std.proofs.lemmas.List.{drop-drop}
use Rattle.block_layouts.specs.declared.prune.PrunePlaces.{PrunePlaces}
use Rattle.block_layouts.specs.declared.update.OldParts.{OldParts}
use Rattle.block_layouts.specs.Tuple.{header_at}
use Rattle.block_layouts.specs.Update.{UpdateView, length_size, length_at, header_place, bitmap_size, update_tuple_with, update_tuple_of}
use Rattle.block_layouts.specs.Places.{places_from}
use Rattle.block_layouts.specs.Redirects.{redirects_from}
use Rattle.block_layouts.specs.Prune.{places_left, prune_places_of}
use Rattle.block_layouts.specs.Laws.{HoldsUpdate, HoldsPrune}
use Rattle.block_layouts.proofs.ListLemmas.{place_count-is, redirect_count-is}

pub else_some : {A : Type 0} (b : Bool) (x : Option A) (y : A) → cond b None x ≡ Some y → (b ≡ false) × (x ≡ Some y)
else_some true x y e = absurd cc
else_some false x y e = (refl, e)

pub some_is : {A : Type 0} (x y : A) → Some x ≡ Some y → x ≡ y
some_is x y e = cc

-- the size of the bitmap
pub record HasSize (parts : OldParts) (hoff size : ℕ) : Type 0 where
  pub whole : parts.prefix || parts.suffix ≡ false → size ≡ 0
  pub pieces : parts.prefix || parts.suffix ≡ true → 23 + size ≡ hoff

size_is : (parts : OldParts) (hoff size : ℕ) → bitmap_size parts hoff ≡ Some size → HasSize parts hoff size
size_is parts hoff size e = by (parts.prefix || parts.suffix) refl e
  where
    by : (b : Bool) → parts.prefix || parts.suffix ≡ b → cond b (cond (ltb hoff 23) None (Some (hoff - 23))) (Some 0) ≡ Some size → HasSize parts hoff size
    by false h e = record { whole = λ p. sym (some_is 0 size e); pieces = λ p. absurd cc }
    by true h e =
        let g = else_some (ltb hoff 23) (Some (hoff - 23)) size e in
        let long : 23 ≤ hoff = ltb-false _ _ g.0 in
        let is : hoff - 23 ≡ size = some_is (hoff - 23) size g.1 in
        record { whole = λ p. absurd cc; pieces = λ p. omega (arith, long, is) }

update_with : (parts : OldParts) (bytes : List ℕ) (size : ℕ) (tuple : UpdateView) → HasSize parts (header_at (header_place parts) bytes).hoff size
    → update_tuple_with parts bytes (header_place parts) size ≡ Some tuple → HoldsUpdate parts bytes tuple
update_with parts bytes size tuple is e =
    let at = header_place parts in
    let read : UpdateView = record {
      prefix = length_at parts.prefix 0 bytes;
      suffix = length_at parts.suffix (length_size parts.prefix) bytes;
      header = header_at at bytes;
      bitmap = take size (drop (at + 5) bytes);
      bytes = drop (at + 5 + size) bytes;
    } in
    let g = else_some (ltb (length bytes) (at + 5 + size)) (Some read) tuple e in
    let room : at + 5 + size ≤ length bytes = ltb-false _ _ g.0 in
    let len : length (take size (drop (at + 5) bytes)) ≡ size = length-take-le size (drop (at + 5) bytes) (omega (arith, length-drop (at + 5) bytes, room)) in
    subst (λ t. HoldsUpdate parts bytes t) (some_is read tuple g.1) (record {
      joined = ap (λ (r : List ℕ). take size (drop (at + 5) bytes) ++ r) (sym (drop-drop size (at + 5) bytes)) ∙ take-append-drop size (drop (at + 5) bytes);
      whole = λ p. ap (λ (n : ℕ). take n (drop (at + 5) bytes)) (is.whole p);
      pieces = λ p. ap (λ (n : ℕ). 23 + n) len ∙ is.pieces p;
      no_prefix = λ p. rw p refl;
      no_suffix = λ p. rw p refl;
    })

pub update_holds : (parts : OldParts) (bytes : List ℕ) (tuple : UpdateView) → update_tuple_of parts bytes ≡ Some tuple → HoldsUpdate parts bytes tuple
unfolding update_tuple_of
update_holds parts bytes tuple e =
    let at = header_place parts in
    let hoff = (header_at at bytes).hoff in
    let g = else_some (ltb (length bytes) (at + 5)) (option_and_then (update_tuple_with parts bytes at) (bitmap_size parts hoff)) tuple e in
    by (bitmap_size parts hoff) refl g.1
  where
    by : (o : Option ℕ) → bitmap_size parts (header_at (header_place parts) bytes).hoff ≡ o → option_and_then (update_tuple_with parts bytes (header_place parts)) o ≡ Some tuple → HoldsUpdate parts bytes tuple
    by None h e = absurd cc
    by (Some size) h e = update_with parts bytes size tuple (size_is parts (header_at (header_place parts) bytes).hoff size h) e

pub halved : (n : ℕ) → (2 * (n / 2) ≤ n) × (n < 2 * (n / 2) + 2)
halved n = (omega arith, omega arith)

pub prune_holds : (redirected dead : ℕ) (bytes : List ℕ) (places : PrunePlaces) → prune_places_of redirected dead bytes ≡ Some places → HoldsPrune redirected dead bytes places
prune_holds redirected dead bytes places e =
    let dead_at = 4 * redirected in
    let unused_at = dead_at + 2 * dead in
    let left = places_left unused_at bytes in
    let read : PrunePlaces = record {
      redirected = redirects_from redirected bytes 0;
      dead = places_from dead bytes dead_at;
      unused = places_from left bytes unused_at;
    } in
    let g = else_some (ltb (length bytes) unused_at) (Some read) places e in
    let room : unused_at ≤ length bytes = ltb-false _ _ g.0 in
    let unused : length (places_from left bytes unused_at) ≡ left = place_count-is left unused_at bytes in
    let half = halved (length bytes - unused_at) in
    subst (λ p. HoldsPrune redirected dead bytes p) (some_is read places g.1) (record {
      redirected = redirect_count-is redirected 0 bytes;
      dead = place_count-is dead dead_at bytes;
      within = omega (arith, room, unused, half.0);
      all = omega (arith, room, unused, half.1);
    })

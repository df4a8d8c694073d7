-- A restored page's bytes are the tuples that are read, and index tuples that are the bytes are read.
use Rattle.std.proofs.Common.{◌≡◌, ℕ, zero, suc, ◌+◌, ◌-◌, ◌*◌, ◌/◌, ◌%◌, ◌<◌, ◌≤◌, Bool, true, false, cond, eqb, leb, ◌&&◌, List, [], ◌∷◌, ◌++◌, length, take, drop, Option, Some, None, option_map, refl, sym, ap, subst, ◌∙◌, arith, length-append, length-drop, length-take-le, take-append-drop}
use Rattle.std.specs.List.{AllByRecursion, concat}
use Rattle.std.proofs.lemmas.Bool.{and_from}
use Rattle.std.proofs.lemmas.Bool.Decides.{nat_tests}
use Rattle.std.proofs.lemmas.List.{drop_all, drop-drop, drop_at, take_at}
use Rattle.block_layouts.specs.IndexTuples.{told_size, item_size, item_at, item_behind, item_stands, items_from, items_end, count_below, restored_tuples_of}
use Rattle.block_layouts.specs.Laws.{IsIndexTuple, AreIndexTuples}
use Rattle.block_layouts.proofs.IndexLemmas.{HasItem, item_stands-facts, items_end-count, count_below-next}
use Rattle.block_layouts.proofs.PieceLemmas.{u16_at-piece, u16_at-front}

pub item_is : (bytes : List ℕ) (at : ℕ) → HasItem bytes at → IsIndexTuple (item_at bytes at)
item_is bytes at has =
    let size = item_size bytes at in
    let big : 8 ≤ size = omega (arith, has.told) in
    let len : length (item_at bytes at) ≡ size = length-take-le size (drop at bytes) (omega (arith, length-drop at bytes, has.whole)) in
    let same : told_size (item_at bytes at) 0 ≡ told_size bytes at = ap (λ (n : ℕ). n % 8192) (u16_at-piece bytes at size 6 big) in
    record {
      header = omega (arith, len, big);
      told = omega (arith, same, has.told);
      size = len ∙ ap (λ (n : ℕ). (n + 7) / 8 * 8) (sym same);
    }

pub items_found : (n : ℕ) (bytes : List ℕ) (at : ℕ) → at ≤ length bytes → items_end n bytes at ≡ Some (length bytes) → AreIndexTuples (drop at bytes) (items_from n bytes at)
items_found zero bytes at le e =
    let end : at ≡ length bytes = cc in
    record { joined = sym (drop_all at bytes (omega (arith, end))); each = tt }
items_found (suc n) bytes at le e = by (item_stands bytes at) refl (items_found n bytes (item_behind bytes at)) e
  where
    by : (s : Bool) → item_stands bytes at ≡ s
        → (item_behind bytes at ≤ length bytes → items_end n bytes (item_behind bytes at) ≡ Some (length bytes) → AreIndexTuples (drop (item_behind bytes at) bytes) (items_from n bytes (item_behind bytes at)))
        → cond s (items_end n bytes (item_behind bytes at)) None ≡ Some (length bytes)
        → AreIndexTuples (drop at bytes) (item_at bytes at ∷ items_from n bytes (item_behind bytes at))
    by false hs others e = absurd cc
    by true hs others e =
        let has = item_stands-facts bytes at hs in
        let size = item_size bytes at in
        let rest = others has.whole e in
        record {
          joined = ap (λ xs. item_at bytes at ++ xs) (rest.joined ∙ sym (drop-drop size at bytes)) ∙ take-append-drop size (drop at bytes);
          each = (item_is bytes at has, rest.each);
        }

-- ---- the other way

-- the bytes go on with an index tuple
pub record GoesOn (bytes : List ℕ) (at : ℕ) (tuple rest : List ℕ) : Type 0 where
  pub size : item_size bytes at ≡ length tuple
  pub stands : item_stands bytes at ≡ true
  pub item : item_at bytes at ≡ tuple
  pub behind : drop (item_behind bytes at) bytes ≡ rest

pub goes_on : (bytes : List ℕ) (at : ℕ) (tuple rest : List ℕ) → at ≤ length bytes → drop at bytes ≡ tuple ++ rest → IsIndexTuple tuple → GoesOn bytes at tuple rest
goes_on bytes at tuple rest le e is =
    let told : told_size bytes at ≡ told_size tuple 0 = ap (λ (n : ℕ). n % 8192) (u16_at-front bytes tuple rest at 6 e is.header) in
    let size : item_size bytes at ≡ length tuple = ap (λ (n : ℕ). (n + 7) / 8 * 8) told ∙ sym is.size in
    let len : length bytes - at ≡ length tuple + length rest = sym (length-drop at bytes) ∙ ap length e ∙ length-append tuple rest in
    let front : leb (at + 8) (length bytes) ≡ true = grind (arith, nat_tests, len, is.header) in
    let enough : leb 1 (told_size bytes at) ≡ true = rw told (grind (arith, nat_tests, is.told)) in
    let whole : leb (item_behind bytes at) (length bytes) ≡ true = grind (arith, nat_tests, len, size) in
    record {
      size = size;
      stands = and_from (leb (at + 8) (length bytes)) (leb 1 (told_size bytes at) && leb (item_behind bytes at) (length bytes)) front (and_from (leb 1 (told_size bytes at)) (leb (item_behind bytes at) (length bytes)) enough whole);
      item = ap (λ (n : ℕ). take n (drop at bytes)) size ∙ ap (take (length tuple)) e ∙ take_at tuple rest (length tuple) refl;
      behind = sym (drop-drop (item_size bytes at) at bytes) ∙ ap (λ (n : ℕ). drop n (drop at bytes)) size ∙ ap (drop (length tuple)) e ∙ drop_at tuple rest (length tuple) refl;
    }

-- the tuples are counted and read
pub record AreRead (m : ℕ) (bytes : List ℕ) (at : ℕ) (tuples : List (List ℕ)) : Type 0 where
  pub count : count_below m bytes at ≡ Some (length tuples)
  pub items : items_from (length tuples) bytes at ≡ tuples

pub items_only : (tuples : List (List ℕ)) (bytes : List ℕ) (at m : ℕ) → at ≤ length bytes → drop at bytes ≡ concat tuples → AllByRecursion IsIndexTuple tuples → length tuples < m
    → AreRead m bytes at tuples
items_only [] bytes at m le e each lt =
    let end : length bytes - at ≡ 0 = sym (length-drop at bytes) ∙ ap length e in
    let there : eqb at (length bytes) ≡ true = grind (arith, nat_tests, end) in
    record { count = count_below-next m bytes at lt ∙ rw there refl; items = refl }
items_only (tuple ∷ tuples) bytes at m le e each lt =
    let on = goes_on bytes at tuple (concat tuples) le e each.0 in
    let len : length bytes - at ≡ length tuple + length (concat tuples) = sym (length-drop at bytes) ∙ ap length e ∙ length-append tuple (concat tuples) in
    let next : item_behind bytes at ≤ length bytes = omega (arith, len, on.size, each.0.header) in
    let rest = items_only tuples bytes (item_behind bytes at) (m - 1) next on.behind each.1 (omega (arith, lt)) in
    let apart : eqb at (length bytes) ≡ false = grind (arith, nat_tests, len, each.0.header) in
    record {
      count = count_below-next m bytes at (omega (arith, lt)) ∙ rw (apart, on.stands, rest.count) refl;
      items = rw (on.item, rest.items) refl;
    }

-- no more tuples than bytes
few : (tuples : List (List ℕ)) → AllByRecursion IsIndexTuple tuples → length tuples ≤ length (concat tuples)
few [] each = omega arith
few (tuple ∷ tuples) each = omega (arith, few tuples each.1, each.0.header, length-append tuple (concat tuples))

pub restored_found : (bytes : List ℕ) (tuples : List (List ℕ)) → restored_tuples_of bytes ≡ Some tuples → AreIndexTuples bytes tuples
unfolding restored_tuples_of
restored_found bytes tuples e = by (count_below (suc (length bytes)) bytes 0) refl e
  where
    by : (c : Option ℕ) → count_below (suc (length bytes)) bytes 0 ≡ c → option_map (λ n. items_from n bytes 0) c ≡ Some tuples → AreIndexTuples bytes tuples
    by None hc e = absurd cc
    by (Some n) hc e =
        let same : items_from n bytes 0 ≡ tuples = cc in
        subst (λ ts. AreIndexTuples bytes ts) same (items_found n bytes 0 (omega arith) (items_end-count (suc (length bytes)) bytes 0 n hc))

pub restored_only : (bytes : List ℕ) (tuples : List (List ℕ)) → AreIndexTuples bytes tuples → restored_tuples_of bytes ≡ Some tuples
unfolding restored_tuples_of
restored_only bytes tuples are =
    let read = items_only tuples bytes 0 (suc (length bytes)) (omega arith) (sym are.joined) are.each (omega (arith, few tuples are.each, ap length are.joined)) in
    rw read.count (ap (λ (ts : List (List ℕ)). Some ts) read.items)

-- The tuples of a split are those that the bytes begin with.
use Rattle.std.proofs.Common.{◌≡◌, ℕ, Bool, true, false, cond, ◌&&◌, List, [], ◌++◌, length, drop, Option, Some, None, refl, sym, ap, subst, ◌∙◌, arith, append_assoc, take-append-drop}
use Rattle.std.proofs.lemmas.Bool.{and_parts}
use Rattle.std.proofs.lemmas.List.{append-nil, drop_at, drop-drop}
use Rattle.block_layouts.specs.IndexTuples.{item_size, item_at, item_behind, item_stands}
use Rattle.block_layouts.specs.Split.{SplitView, split_tuples_of}
use Rattle.block_layouts.specs.Laws.{HoldsSplit}
use Rattle.block_layouts.proofs.IndexLemmas.{item_stands-facts}
use Rattle.block_layouts.proofs.RestoredLemmas.{item_is, goes_on}

then_some : {A : Type 0} (b : Bool) (x y : A) → cond b (Some x) None ≡ Some y → (b ≡ true) × (x ≡ y)
then_some true x y e = (refl, cc)
then_some false x y e = absurd cc

-- what the bytes begin with
begins : (front rest bytes : List ℕ) → bytes ≡ front ++ rest → front ++ drop (length front) bytes ≡ bytes
begins front rest bytes e =
    ap (λ (r : List ℕ). front ++ r) (ap (drop (length front)) e ∙ drop_at front rest (length front) refl) ∙ sym e

one_row : (a rest : List ℕ) → a ++ rest ≡ (a ++ []) ++ rest
one_row a rest = ap (λ (x : List ℕ). x ++ rest) (sym (append-nil a))

two_rows : (a b rest : List ℕ) → a ++ (b ++ rest) ≡ (a ++ (b ++ [])) ++ rest
two_rows a b rest = sym (append_assoc a b rest) ∙ ap (λ (x : List ℕ). (a ++ x) ++ rest) (sym (append-nil b))

-- the bytes from an offset on are a tuple and what is behind it
cut : (bytes : List ℕ) (at : ℕ) → drop at bytes ≡ item_at bytes at ++ drop (item_behind bytes at) bytes
cut bytes at = sym (take-append-drop (item_size bytes at) (drop at bytes)) ∙ ap (λ (r : List ℕ). item_at bytes at ++ r) (drop-drop (item_size bytes at) at bytes)

pub split_found : (with_new : Bool) (bytes : List ℕ) (split : SplitView) → split_tuples_of with_new bytes ≡ Some split → HoldsSplit with_new bytes split
unfolding split_tuples_of
split_found true bytes split e =
    let next = item_behind bytes 0 in
    let read : SplitView = record { new_tuple = Some (item_at bytes 0); high_key = item_at bytes next } in
    let g = then_some (item_stands bytes 0 && item_stands bytes next) read split e in
    let p = and_parts (item_stands bytes 0) (item_stands bytes next) g.0 in
    let whole : bytes ≡ item_at bytes 0 ++ (item_at bytes next ++ drop (item_behind bytes next) bytes) = cut bytes 0 ∙ ap (λ (r : List ℕ). item_at bytes 0 ++ r) (cut bytes next) in
    subst (λ s. HoldsSplit true bytes s) g.1 (record {
      new = refl;
      each = (item_is bytes 0 (item_stands-facts bytes 0 p.0), (item_is bytes next (item_stands-facts bytes next p.1), tt));
      joined = begins (item_at bytes 0 ++ (item_at bytes next ++ [])) (drop (item_behind bytes next) bytes) bytes (whole ∙ two_rows (item_at bytes 0) (item_at bytes next) (drop (item_behind bytes next) bytes));
    })
split_found false bytes split e =
    let read : SplitView = record { new_tuple = None; high_key = item_at bytes 0 } in
    let g = then_some (item_stands bytes 0) read split e in
    subst (λ s. HoldsSplit false bytes s) g.1 (record {
      new = refl;
      each = (item_is bytes 0 (item_stands-facts bytes 0 g.0), tt);
      joined = begins (item_at bytes 0 ++ []) (drop (item_behind bytes 0) bytes) bytes (cut bytes 0 ∙ one_row (item_at bytes 0) (drop (item_behind bytes 0) bytes));
    })

with_parts : Option (List ℕ) → List ℕ → SplitView
with_parts new key = record { new_tuple = new; high_key = key }

only_of : (with_new : Bool) (bytes : List ℕ) (new : Option (List ℕ)) (key : List ℕ) → HoldsSplit with_new bytes (with_parts new key) → split_tuples_of with_new bytes ≡ Some (with_parts new key)
unfolding split_tuples_of with_parts
only_of true bytes None key holds = absurd (let h = holds.new in cc)
only_of false bytes (Some new) key holds = absurd (let h = holds.new in cc)
only_of true bytes (Some new) key holds =
    let rest = drop (length (new ++ (key ++ []))) bytes in
    let whole : bytes ≡ new ++ (key ++ rest) = sym holds.joined ∙ sym (two_rows new key rest) in
    let first = goes_on bytes 0 new (key ++ rest) (omega arith) whole holds.each.0 in
    let second = goes_on bytes (item_behind bytes 0) key rest (item_stands-facts bytes 0 first.stands).whole first.behind holds.each.1.0 in
    rw (first.stands, second.stands, first.item, second.item) refl
only_of false bytes None key holds =
    let rest = drop (length (key ++ [])) bytes in
    let whole : bytes ≡ key ++ rest = sym holds.joined ∙ sym (one_row key rest) in
    let first = goes_on bytes 0 key rest (omega arith) whole holds.each.0 in
    rw (first.stands, first.item) refl

pub split_only : (with_new : Bool) (bytes : List ℕ) (split : SplitView) → HoldsSplit with_new bytes split → split_tuples_of with_new bytes ≡ Some split
unfolding with_parts
split_only with_new bytes split holds = only_of with_new bytes split.new_tuple split.high_key holds

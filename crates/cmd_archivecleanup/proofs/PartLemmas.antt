-- A name of a listing is one part of a path; and what all names meet, each one does.
use Rattle.std.proofs.Common.{◌≡◌, ℕ, zero, suc, ◌≤◌, ◌&&◌, Bool, true, false, List, [], ◌∷◌, Some, Ok, refl, sym, ap, ◌∙◌, arith, slice_get, true≢false}
use Rattle.std.specs.List.{list_all}
use Rattle.cluster_tree.specs.PathValue.{is_part}
use Rattle.cluster_tree.specs.Paths.{checked}
use Rattle.cluster_tree.proofs.PartLemmas.{part_kept, part_admitted}

pub name_admitted : (have : ℕ) (name : List ℕ) → is_part name ≡ true → have ≤ 62 → checked have name ≡ Ok tt
name_admitted have name h room = part_admitted have name (omega (arith, room)) h

pub ruleset part_steps = (name_admitted, part_kept)

pub both_true : (a b : Bool) → (a && b) ≡ true → (a ≡ true) × (b ≡ true)
both_true true b e = (refl, e)
both_true false b e = absurd (true≢false (sym e))

same_name : (x y : List ℕ) → Some x ≡ Some y → x ≡ y
same_name x y e = cc

pub all_at : (p : List ℕ → Bool) (xs : List (List ℕ)) (i : ℕ) (x : List ℕ) → slice_get xs i ≡ Some x → list_all p xs ≡ true → p x ≡ true
all_at p [] i x at all = absurd (cc at)
all_at p (y ∷ ys) zero x at all = ap p (sym (same_name y x at)) ∙ (both_true _ _ all).0
all_at p (y ∷ ys) (suc i) x at all = all_at p ys i x at (both_true _ _ all).1

-- Which paths lie elsewhere, by their first part behind the root.
use Rattle.std.proofs.Common.{◌≡◌, ◌↔◌, ℕ, zero, suc, Bool, true, false, not, ◌&&◌, List, [], ◌∷◌, drop, length, slice_get, IsTrue, None, Some, refl, ap, sym, ◌∙◌}
use Rattle.cluster_tree.specs.PathValue.{PathValue, Holds}
use Rattle.cluster_tree.proofs.HoldLemmas.{is_held-test}
use Rattle.mark_lines.specs.Paths.{parts_below}
use Rattle.replay_list.specs.Areas.{is_area}
use Rattle.areas_alone.specs.Alone.{is_elsewhere, lies_elsewhere}

-- what is dropped in front of a place
first_at : (n : ℕ) (parts : List (List ℕ)) (name : List ℕ) → slice_get parts n ≡ Some name → drop n parts ≡ name ∷ drop (suc n) parts
first_at n [] name e = absurd cc
first_at zero (part ∷ parts) name e = let same : part ≡ name = cc in ap (λ p. p ∷ parts) same
first_at (suc n) (part ∷ parts) name e = first_at n parts name e

none_at : (n : ℕ) (parts : List (List ℕ)) → slice_get parts n ≡ None → drop n parts ≡ []
none_at zero [] e = refl
none_at (suc n) [] e = refl
none_at zero (part ∷ parts) e = absurd cc
none_at (suc n) (part ∷ parts) e = none_at n parts e

pub by_name : (root path : PathValue) (name : List ℕ) → slice_get path.parts (length root.parts) ≡ Some name → not (is_area name) ≡ is_elsewhere (parts_below root path)
by_name root path name is = sym (ap is_elsewhere (first_at (length root.parts) path.parts name is))

pub by_none : (root path : PathValue) → slice_get path.parts (length root.parts) ≡ None → false ≡ is_elsewhere (parts_below root path)
by_none root path e = sym (ap is_elsewhere (none_at (length root.parts) path.parts e))

pub held_so : (root path : PathValue) (b c : Bool) → IsTrue b ↔ Holds root path → b ≡ true → c ≡ is_elsewhere (parts_below root path) → c ≡ lies_elsewhere root path
held_so root path b c is e f = f ∙ ap (λ h. h && is_elsewhere (parts_below root path)) (sym e ∙ is_held-test root path b is)

pub unheld : (root path : PathValue) (b : Bool) → IsTrue b ↔ Holds root path → b ≡ false → b ≡ lies_elsewhere root path
unheld root path b is e = e ∙ ap (λ h. h && is_elsewhere (parts_below root path)) (sym e ∙ is_held-test root path b is)

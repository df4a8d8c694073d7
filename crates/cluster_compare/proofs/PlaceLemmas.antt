-- A path below a root, part by part.
use Rattle.std.proofs.Common.{◌≡◌, ℕ, zero, suc, ◌+◌, ◌<◌, ◌≤◌, List, [], ◌∷◌, ◌++◌, length, take, slice_get, Some, refl, sym, ap, ◌∙◌, append_assoc, arith}
use Rattle.std.proofs.lemmas.List.{length-append, length-take-le}
use Rattle.cluster_tree.specs.PathValue.{PathValue, below}
use Rattle.cluster_tree.proofs.OrderLemmas.{same_path}

take-next : {X : Type 0} (xs : List X) (i : ℕ) (x : X) → Some x ≡ slice_get xs i → take (suc i) xs ≡ take i xs ++ x ∷ []
take-next [] i x h = absurd cc
take-next (y ∷ xs) zero x h = let same : x ≡ y = cc in ap (λ z. z ∷ []) (sym same)
take-next (y ∷ xs) (suc i) x h = ap (λ l. y ∷ l) (take-next xs i x h)

-- a place, one part on
pub place_more : (root place : PathValue) (parts : List (List ℕ)) (at : ℕ) (part : List ℕ) → Some part ≡ slice_get parts at → place ≡ below root (take at parts) → below place (part ∷ []) ≡ below root (take (suc at) parts)
place_more root place parts at part h is =
    ap (λ p. below p (part ∷ [])) is
    ∙ same_path (below (below root (take at parts)) (part ∷ [])) (below root (take (suc at) parts)) refl
    (append_assoc root.parts (take at parts) (part ∷ []) ∙ ap (λ l. root.parts ++ l) (sym (take-next parts at part h)))

pub place_room : (root place : PathValue) (parts : List (List ℕ)) (at : ℕ) → place ≡ below root (take at parts) → at < length parts → length root.parts + length parts ≤ 64 → length place.parts ≤ 63
place_room root place parts at is l room =
    let size : length place.parts ≡ length root.parts + length (take at parts) = ap (λ (p : PathValue). length p.parts) is ∙ length-append root.parts (take at parts) in
    omega (arith, size, length-take-le at parts)

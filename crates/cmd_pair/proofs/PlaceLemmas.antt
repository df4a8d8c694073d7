-- Where the clusters of a pair stand: neither of two holds the other, and all leave room for what is below a root.
use Rattle.std.proofs.Common.{◌≡◌, ◌∙◌, ℕ, ◌≤◌, List, [], ◌∷◌, ◌++◌, length, take, codes, refl, sym, ap, arith}
use Rattle.std.proofs.lemmas.List.{append_cancel_left, length-append}
use Rattle.cluster_tree.specs.Apart.{AreApart}
use Rattle.cluster_tree.specs.PathValue.{Holds, PathValue, below}
use Rattle.pair_laws.specs.Stands.{source_of, target_of}

abbrev first_byte : List (List ℕ) → ℕ
first_byte ((b ∷ bytes) ∷ rest) = b
first_byte ([] ∷ rest) = 0
first_byte [] = 0

-- of two names in a root that holds the other which one holds
same_name : (root : PathValue) (one other : List ℕ) → Holds (below root (one ∷ [])) (below root (other ∷ [])) → first_byte (other ∷ []) ≡ first_byte (one ∷ [])
same_name root one other held =
    let a = root.parts ++ one ∷ [] in
    let b = root.parts ++ other ∷ [] in
    let long : length a ≡ length b = omega (arith, length-append root.parts (one ∷ []), length-append root.parts (other ∷ [])) in
    let same : b ≡ a = sym (take-length b) ∙ ap (λ n. take n b) (sym long) ∙ held.prefix in
    ap first_byte (append_cancel_left root.parts (other ∷ []) (one ∷ []) same)
  where
    take-length : (l : List (List ℕ)) → take (length l) l ≡ l
    take-length [] = refl
    take-length (x ∷ l) = ap (λ m. x ∷ m) (take-length l)

pub target-apart : (root : PathValue) → AreApart (target_of root) (source_of root)
target-apart root = (
  (λ held. let byte : 115 ≡ 116 = same_name root (codes "t") (codes "s") held in absurd (omega (arith, byte))),
  (λ held. let byte : 116 ≡ 115 = same_name root (codes "s") (codes "t") held in absurd (omega (arith, byte))),
)

pub below-room : (root : PathValue) (name : List ℕ) → length root.parts ≤ 60 → length (below root (name ∷ [])).parts ≤ 61
below-room root name room = omega (arith, length-append root.parts (name ∷ []), room)

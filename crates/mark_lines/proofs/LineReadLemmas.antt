-- Lines that are read: what was cut is joined again.
use Rattle.std.proofs.Common.{◌≡◌, ℕ, List, [], ◌∷◌, ◌++◌, Option, None, Some, Ok, refl, sym, ap, ◌∙◌, append_assoc}
use Rattle.std.proofs.lemmas.List.Splits.{join_with_byte-slice_split}
use Rattle.std.specs.List.{join_with_byte}
use Rattle.mark_lines.specs.Words.{line, words_of}
use Rattle.mark_lines.specs.Lines.{ended_by, or_at, said_first}

-- the first piece and what stands behind it
pub line_joined : (piece next : List ℕ) (more : List (List ℕ)) (words : List (List ℕ)) → words_of piece ≡ words
    → join_with_byte 10 (piece ∷ next ∷ more) ≡ line words ++ join_with_byte 10 (next ∷ more)
line_joined piece next more words e =
    let is : piece ≡ join_with_byte 32 words = sym (join_with_byte-slice_split 32 piece) ∙ ap (join_with_byte 32) e in
    ap (λ p. p ++ 10 ∷ join_with_byte 10 (next ∷ more)) is ∙ sym (append_assoc (join_with_byte 32 words) (10 ∷ []) (join_with_byte 10 (next ∷ more)))

-- what a first line says, and its words
pub record IsFirst {A : Type 0} (form : List (List ℕ) → Option A) (pieces : List (List ℕ)) (value : A) (rest : List (List ℕ)) : Type 0 where
  pub words : List (List ℕ)
  pub says : form words ≡ Some value
  pub text : join_with_byte 10 pieces ≡ line words ++ join_with_byte 10 rest

by_form : {A : Type 0} (form : List (List ℕ) → Option A) (n : ℕ) (piece next : List ℕ) (more : List (List ℕ)) (value : A) (rest : List (List ℕ)) (o : Option A)
    → form (words_of piece) ≡ o → or_at {B = A × List (List ℕ)} n o (λ v. Ok (v, next ∷ more)) ≡ Ok (value, rest) → IsFirst form (piece ∷ next ∷ more) value rest
by_form form n piece next more value rest None is e = absurd cc
by_form {A} form n piece next more value rest (Some v) is e =
    let both : ◌≡◌ {A = A × List (List ℕ)} (v, next ∷ more) (value, rest) = cc in
    let same : v ≡ value = ap (λ (p : A × List (List ℕ)). p.0) both in
    let behind : next ∷ more ≡ rest = ap (λ (p : A × List (List ℕ)). p.1) both in
    record { words = words_of piece; says = is ∙ ap Some same; text = line_joined piece next more (words_of piece) refl ∙ ap (λ r. line (words_of piece) ++ join_with_byte 10 r) behind }

pub first_known : {A : Type 0} (form : List (List ℕ) → Option A) (n : ℕ) (pieces : List (List ℕ)) (value : A) (rest : List (List ℕ))
    → said_first form n pieces ≡ Ok (value, rest) → IsFirst form pieces value rest
first_known form n [] value rest e = absurd cc
first_known form n (piece ∷ []) value rest e = absurd cc
first_known form n (piece ∷ next ∷ more) value rest e = by_form form n piece next more value rest (form (words_of piece)) refl e

-- nothing stands behind the last line
pub end_known : {A : Type 0} (value known : A) (n : ℕ) (pieces : List (List ℕ)) → ended_by value n pieces ≡ Ok known → (value ≡ known) × (join_with_byte 10 pieces ≡ [])
end_known value known n [] e = absurd cc
end_known value known n ([] ∷ []) e = let same : value ≡ known = cc in (same, refl)
end_known value known n ([] ∷ next ∷ more) e = absurd cc
end_known value known n ((c ∷ cs) ∷ pieces) e = absurd cc

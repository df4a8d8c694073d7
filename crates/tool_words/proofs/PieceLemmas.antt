-- The parts of a text, each read again, are those parts.
use Rattle.std.proofs.Common.{◌≡◌, ◌∙◌, ◌==◌, Bool, true, false, ℕ, zero, suc, List, [], ◌∷◌, ◌++◌, filter, take, cond, refl, ap}
use Rattle.std.specs.List.{All, AllByRecursion, flat_map, slice_split, onto_first}
use Rattle.std.proofs.lemmas.List.Elements.{All-nil, All-cons}
use Rattle.std.proofs.lemmas.List.Splits.{slice_split_none}
use Rattle.cluster_tree.specs.PathValue.{pieces, is_kept, kept_parts}

-- a piece in which no byte passes the test
abbrev pub Clean : (ℕ → Bool) → List ℕ → Type 0
Clean p piece = All (λ b. p b ≡ false) piece

-- a part that is the one part of its text
abbrev Alone : List ℕ → Type 0
Alone part = kept_parts part ≡ part ∷ []

onto-clean : (p : ℕ → Bool) (b : ℕ) (parts : List (List ℕ)) → p b ≡ false → AllByRecursion (Clean p) parts → AllByRecursion (Clean p) (onto_first b parts)
onto-clean p b [] e h = (All-cons (λ b. p b ≡ false) b [] e (All-nil (λ b. p b ≡ false)), tt)
onto-clean p b (part ∷ parts) e h = (All-cons (λ b. p b ≡ false) b part e h.0, h.1)

pub pieces-clean : (p : ℕ → Bool) (bs : List ℕ) → AllByRecursion (Clean p) (slice_split p bs)
pieces-clean p [] = (All-nil (λ b. p b ≡ false), tt)
pieces-clean p (b ∷ bs) =
    elim (p b) as (λ t. p b ≡ t → AllByRecursion (Clean p) (cond t ([] ∷ slice_split p bs) (onto_first b (slice_split p bs)))) [
      | true ↦ λ e. (All-nil (λ b. p b ≡ false), pieces-clean p bs)
      | false ↦ λ e. onto-clean p b (slice_split p bs) e (pieces-clean p bs)
    ] refl

kept-alone : (parts : List (List ℕ)) → AllByRecursion (Clean (λ b. b == 47)) parts → AllByRecursion Alone (filter is_kept parts)
kept-alone [] h = tt
kept-alone (part ∷ parts) h =
    elim (is_kept part) as (λ t. is_kept part ≡ t → AllByRecursion Alone (cond t (part ∷ filter is_kept parts) (filter is_kept parts))) [
      | true ↦ λ e. (ap (filter is_kept) (slice_split_none (λ b. b == 47) part h.0) ∙ ap (λ t. cond t (part ∷ []) []) e, kept-alone parts h.1)
      | false ↦ λ e. kept-alone parts h.1
    ] refl

taken-alone : (n : ℕ) (parts : List (List ℕ)) → AllByRecursion Alone parts → flat_map kept_parts (take n parts) ≡ take n parts
taken-alone zero parts h = refl
taken-alone (suc n) [] h = refl
taken-alone (suc n) (part ∷ parts) h = ap (λ l. l ++ flat_map kept_parts (take n parts)) h.0 ∙ ap (λ l. part ∷ l) (taken-alone n parts h.1)

-- the parts of a text, each read again, are those parts
pub front-again : (n : ℕ) (text : List ℕ) → flat_map kept_parts (take n (kept_parts text)) ≡ take n (kept_parts text)
front-again n text = taken-alone n (kept_parts text) (kept-alone (pieces text) (pieces-clean (λ b. b == 47) text))

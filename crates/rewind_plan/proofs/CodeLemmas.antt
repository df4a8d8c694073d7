-- The loops of the code that makes a plan.
use Rattle.std.proofs.Common.{◌≡◌, ℕ, zero, suc, ◌+◌, ◌-◌, ◌<◌, ◌≤◌, Bool, true, false, cond, List, [], ◌∷◌, ◌++◌, length, map, take, drop, slice_get, Some, refl, sym, ap, ◌∙◌, append_assoc, arith}
use Rattle.std.proofs.lemmas.List.{length-append, length-take-le}
use Rattle.cluster_tree.specs.PathValue.{PathValue, below}
use Rattle.cluster_tree.proofs.OrderLemmas.{same_path}
use Rattle.rewind_writes.specs.declared.step.Step.{Step}
use Rattle.rewind_plan.specs.Blocks.{AllEnd, onto_runs, runs_of}
use Rattle.rewind_plan.specs.declared.runs.Run.{Run}

pub take-next : {X : Type 0} (xs : List X) (i : ℕ) (x : X) → Some x ≡ slice_get xs i → take (suc i) xs ≡ take i xs ++ x ∷ []
take-next [] i x h = absurd cc
take-next (y ∷ xs) zero x h = let same : x ≡ y = cc in ap (λ z. z ∷ []) (sym same)
take-next (y ∷ xs) (suc i) x h = ap (λ l. y ∷ l) (take-next xs i x h)

pub drop-next : {X : Type 0} (xs : List X) (i : ℕ) (x : X) → Some x ≡ slice_get xs i → drop i xs ≡ x ∷ drop (suc i) xs
drop-next [] i x h = absurd cc
drop-next (y ∷ xs) zero x h = let same : x ≡ y = cc in ap (λ z. z ∷ xs) (sym same)
drop-next (y ∷ xs) (suc i) x h = drop-next xs i x h

-- a place, one part on
pub place_more : (root place : PathValue) (parts : List (List ℕ)) (at : ℕ) (part : List ℕ) → Some part ≡ slice_get parts at → place ≡ below root (take at parts) → below place (part ∷ []) ≡ below root (take (suc at) parts)
place_more root place parts at part h is =
    ap (λ p. below p (part ∷ [])) is
    ∙ same_path (below (below root (take at parts)) (part ∷ [])) (below root (take (suc at) parts)) refl
    (append_assoc root.parts (take at parts) (part ∷ []) ∙ ap (λ l. root.parts ++ l) (sym (take-next parts at part h)))

pub place_room : (root place : PathValue) (parts : List (List ℕ)) (at : ℕ) → place ≡ below root (take at parts) → at < length parts → length root.parts + length parts ≤ 64 → length place.parts ≤ 63
place_room root place parts at is l room =
    let size : length place.parts ≡ length root.parts + length (take at parts) = ap (λ (p : PathValue). length p.parts) is ∙ length-append root.parts (take at parts) in
    omega (arith, size, length-take-le at parts)

-- runs, the last of which is taken
pub ends-last : (n : ℕ) (runs : List Run) (run : Run) → AllEnd n (runs ++ run ∷ []) → AllEnd n runs × (run.first + run.count ≤ n)
ends-last n [] run ends = (tt, ends.0)
ends-last n (x ∷ runs) run ends = let rest = ends-last n runs run ends.1 in ((ends.0, rest.0), rest.1)

map-last : (f : Run → Step) (runs : List Run) (run : Run) (steps : List Step) → map f (runs ++ run ∷ []) ++ steps ≡ map f runs ++ f run ∷ steps
map-last f [] run steps = refl
map-last f (x ∷ runs) run steps = ap (λ l. f x ∷ l) (map-last f runs run steps)

pub ranges-more : (f : Run → Step) (old new : List Run) (run : Run) (step : Step) (steps added all : List Step) → old ≡ new ++ run ∷ [] → step ≡ f run → added ≡ step ∷ steps → map f old ++ steps ≡ all → map f new ++ added ≡ all
ranges-more f old new run step steps added all split is put done =
    ap (λ l. map f new ++ l) (put ∙ ap (λ s. s ∷ steps) is)
    ∙ sym (map-last f new run steps)
    ∙ sym (ap (λ l. map f l ++ steps) split)
    ∙ done

-- the runs from a block on, one block before
one_more : (n b : ℕ) → 0 < b → b ≤ n → n - (b - 1) ≡ suc (n - b)
one_more n b some l = omega arith

back_one : (b : ℕ) → 0 < b → (b - 1) + 1 ≡ b
back_one b some = omega arith

pub runs-put : (p : ℕ → Bool) (n b : ℕ) (runs added : List Run) → 0 < b → b ≤ n → p (b - 1) ≡ true → runs ≡ runs_of p b (n - b) → added ≡ onto_runs (b - 1) runs → added ≡ runs_of p (b - 1) (n - (b - 1))
runs-put p n b runs added some l copied is put =
    put
    ∙ ap (onto_runs (b - 1)) (is ∙ ap (λ c. runs_of p c (n - b)) (sym (back_one b some)))
    ∙ sym (ap (λ t. cond t (onto_runs (b - 1) (runs_of p ((b - 1) + 1) (n - b))) (runs_of p ((b - 1) + 1) (n - b))) copied)
    ∙ sym (ap (runs_of p (b - 1)) (one_more n b some l))

pub runs-kept : (p : ℕ → Bool) (n b : ℕ) (runs : List Run) → 0 < b → b ≤ n → p (b - 1) ≡ false → runs ≡ runs_of p b (n - b) → runs ≡ runs_of p (b - 1) (n - (b - 1))
runs-kept p n b runs some l kept is =
    (is ∙ ap (λ c. runs_of p c (n - b)) (sym (back_one b some)))
    ∙ sym (ap (λ t. cond t (onto_runs (b - 1) (runs_of p ((b - 1) + 1) (n - b))) (runs_of p ((b - 1) + 1) (n - b))) kept)
    ∙ sym (ap (runs_of p (b - 1)) (one_more n b some l))

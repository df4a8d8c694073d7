-- The steps that lines say.
use Rattle.std.proofs.Common.{◌≡◌, ℕ, ◌+◌, ◌<◌, ◌≤◌, ◌^◌, Bool, true, false, List, [], ◌∷◌, ◌++◌, length, drop, nat_le, nat_lt, Option, None, Some, IfSome, option_and_then, option_map, refl, sym, ap, ◌∙◌, arith, bytes_eq, codes, append_assoc, length-append, length-drop, if◌then◌else◌}
use Rattle.std.proofs.lemmas.Bool.Decides.{nat_tests}
use Rattle.std.proofs.lemmas.List.{append-nil, drop-drop}
use Rattle.cluster_tree.specs.PathValue.{PathValue, below}
use Rattle.rewind_writes.specs.declared.step.Step.{Step}
use Rattle.rewind_writes.specs.declared.step.Step.TheVariants.{Folder, Whole, Cut, Range, Remove}
use Rattle.rewind_writes.specs.Steps.{AllAreFit, IsFit}
use Rattle.mark_lines.specs.Lines.{led_by}
use Rattle.mark_lines.specs.Words.{size_in, words_of}
use Rattle.plan_text.specs.Paths.{step_parts_in}
use Rattle.plan_text.specs.Steps.{cut_in, folder_in, of_size, parts_both, pathed, range_in, ranged, removed_in, step_of, turn, whole_in}
use Rattle.plan_text.specs.Reading.{first_step, in_turn, next_step, steps_in}

-- a step has at least two words, and fewer than five
pub without_words : (target source : PathValue) (words : List (List ℕ)) → length words < 2 → None ≡ step_of target source words
without_words target source [] few = refl
without_words target source (a ∷ []) few = refl
without_words target source (a ∷ b ∷ words) few = absurd (omega (arith, few))

pub with_more : (target source : PathValue) (words : List (List ℕ)) → 5 ≤ length words → None ≡ step_of target source words
with_more target source [] many = absurd (omega (arith, many))
with_more target source (a ∷ []) many = absurd (omega (arith, many))
with_more target source (a ∷ b ∷ []) many = absurd (omega (arith, many))
with_more target source (a ∷ b ∷ c ∷ []) many = absurd (omega (arith, many))
with_more target source (a ∷ b ∷ c ∷ d ∷ []) many = absurd (omega (arith, many))
with_more target source (a ∷ b ∷ c ∷ d ∷ e ∷ words) many = refl

-- a step in its turn, and those behind it
pub led : (target source : PathValue) (least : ℕ) (pieces : List (List ℕ)) (step : Step) → first_step target source least pieces ≡ Some step
    → (0 < length pieces) × (steps_in target source least pieces ≡ step ∷ steps_in target source (turn step) (drop 1 pieces))
unfolding steps_in
led target source least [] step e = absurd cc
led target source least (line ∷ []) step e = absurd cc
led target source least (line ∷ next ∷ more) step e = (omega arith, ap (λ o. led_by o (λ s. steps_in target source (turn s) (next ∷ more))) e)

-- .. or none
pub ended : (target source : PathValue) (least : ℕ) (pieces : List (List ℕ)) → first_step target source least pieces ≡ None → steps_in target source least pieces ≡ []
unfolding steps_in
ended target source least [] e = refl
ended target source least (line ∷ []) e = refl
ended target source least (line ∷ next ∷ more) e = ap (λ o. led_by o (λ s. steps_in target source (turn s) (next ∷ more))) e

-- so one step more was read
pub one_step : (target source : PathValue) (least next : ℕ) (done more all : List Step) (pieces : List (List ℕ)) (step : Step)
    → Some step ≡ first_step target source least (drop (length done) pieces) → all ≡ done ++ steps_in target source least (drop (length done) pieces)
    → more ≡ done ++ step ∷ [] → next ≡ turn step → all ≡ more ++ steps_in target source next (drop (length more) pieces)
one_step target source least next done more all pieces step e h pushed turned =
    let front = (led target source least (drop (length done) pieces) step (sym e)).1 in
    let size : length done + 1 ≡ length (done ++ step ∷ []) = omega (arith, length-append done (step ∷ [])) in
    let rest : drop 1 (drop (length done) pieces) ≡ drop (length (done ++ step ∷ [])) pieces = drop-drop 1 (length done) pieces ∙ ap (λ n. drop n pieces) size in
    let one : all ≡ (done ++ step ∷ []) ++ steps_in target source (turn step) (drop (length (done ++ step ∷ [])) pieces) =
    h ∙ ap (λ x. done ++ x) (front ∙ ap (λ p. step ∷ steps_in target source (turn step) p) rest)
    ∙ sym (append_assoc done (step ∷ []) (steps_in target source (turn step) (drop (length (done ++ step ∷ [])) pieces))) in
    one ∙ ap (λ n. (done ++ step ∷ []) ++ steps_in target source n (drop (length (done ++ step ∷ [])) pieces)) (sym turned)
    ∙ ap (λ d. d ++ steps_in target source next (drop (length d) pieces)) (sym pushed)

pub one_within : (target source : PathValue) (least n : ℕ) (pieces : List (List ℕ)) (step : Step) → Some step ≡ first_step target source least (drop n pieces) → n + 1 ≤ length pieces
one_within target source least n pieces step e = omega (arith, (led target source least (drop n pieces) step (sym e)).0, length-drop n pieces)

-- and none is left
pub no_step : (target source : PathValue) (least : ℕ) (done all : List Step) (pieces : List (List ℕ))
    → None ≡ first_step target source least (drop (length done) pieces) → all ≡ done ++ steps_in target source least (drop (length done) pieces) → done ≡ all
no_step target source least done all pieces e h = sym (h ∙ ap (λ x. done ++ x) (ended target source least (drop (length done) pieces) (sym e)) ∙ append-nil done)

-- the end of each range that is read is a number of 64 bits
fit_made : {A : Type 0} (f : A → Step) (o : Option A) → ((a : A) → IsFit (f a)) → IfSome (option_map f o) IsFit
fit_made f None h = tt
fit_made f (Some a) h = h a

fit_chosen : (b : Bool) (o p : Option Step) → IfSome o IsFit → IfSome p IsFit → IfSome (if b then o else p) IsFit
fit_chosen true o p h k = h
fit_chosen false o p h k = k

fit_then : {A : Type 0} (f : A → Option Step) (o : Option A) → ((a : A) → IfSome (f a) IsFit) → IfSome (option_and_then f o) IsFit
fit_then f None h = tt
fit_then f (Some a) h = h a

fit_range : (b : Bool) (target source : PathValue) (at size : ℕ) (o : Option (List (List ℕ))) → nat_lt (at + size) (2 ^ 64) ≡ b
    → IfSome (if b then option_map (λ parts. Range (below source parts) (below target parts) at size) o else None) IsFit
fit_range true target source at size o e =
    let fits : at + size < 2 ^ 64 = grind (arith, nat_tests) in fit_made (λ parts. Range (below source parts) (below target parts) at size) o (λ parts. fits)
fit_range false target source at size o e = tt

fit_pathed : (target source : PathValue) (verb path : List ℕ) → IfSome (pathed target source verb path) IsFit
fit_pathed target source verb path =
    fit_chosen (bytes_eq verb (codes "folder")) (folder_in target source path) _
    (fit_made (λ parts. Folder (below target parts)) (parts_both target source path) (λ parts. tt))
    (fit_chosen (bytes_eq verb (codes "remove")) (removed_in target path) None
    (fit_made (λ parts. Remove (below target parts)) (step_parts_in (length target.parts) path) (λ parts. tt)) tt)

fit_of_size : (target source : PathValue) (verb path : List ℕ) (size : ℕ) → IfSome (of_size target source verb path size) IsFit
fit_of_size target source verb path size =
    fit_chosen (bytes_eq verb (codes "whole")) (whole_in target source path size) _
    (fit_made (λ parts. Whole (below source parts) (below target parts) size) (parts_both target source path) (λ parts. tt))
    (fit_chosen (bytes_eq verb (codes "cut")) (cut_in target source path size) None
    (fit_made (λ parts. Cut (below target parts) size) (parts_both target source path) (λ parts. tt)) tt)

fit_ranged : (target source : PathValue) (verb path at size : List ℕ) → IfSome (ranged target source verb path at size) IsFit
fit_ranged target source verb path at size =
    fit_chosen (bytes_eq verb (codes "range")) (option_and_then (λ n. option_and_then (range_in target source path n) (size_in size)) (size_in at)) None
    (fit_then (λ n. option_and_then (range_in target source path n) (size_in size)) (size_in at)
    (λ n. fit_then (range_in target source path n) (size_in size) (λ k. fit_range (nat_lt (n + k) (2 ^ 64)) target source n k (parts_both target source path) refl))) tt

fit_step : (target source : PathValue) (words : List (List ℕ)) → IfSome (step_of target source words) IsFit
fit_step target source [] = tt
fit_step target source (a ∷ []) = tt
fit_step target source (a ∷ b ∷ []) = fit_pathed target source a b
fit_step target source (a ∷ b ∷ c ∷ []) = fit_then (of_size target source a b) (size_in c) (fit_of_size target source a b)
fit_step target source (a ∷ b ∷ c ∷ d ∷ []) = fit_ranged target source a b c d
fit_step target source (a ∷ b ∷ c ∷ d ∷ e ∷ words) = tt

fit_next : (least : ℕ) (o : Option Step) → IfSome o IsFit → IfSome (option_and_then (in_turn least) o) IsFit
fit_next least None h = tt
fit_next least (Some step) h = fit_chosen (nat_le least (turn step)) (Some step) None h tt

fit_led : (o : Option Step) (more : Step → List Step) → IfSome o IsFit → ((step : Step) → AllAreFit (more step)) → AllAreFit (led_by o more)
fit_led None more h k = tt
fit_led (Some step) more h k = (h, k step)

pub steps_are_fit : (target source : PathValue) (least : ℕ) (pieces : List (List ℕ)) → AllAreFit (steps_in target source least pieces)
unfolding steps_in
steps_are_fit target source least [] = tt
steps_are_fit target source least (line ∷ []) = tt
steps_are_fit target source least (line ∷ next ∷ more) =
    fit_led (next_step target source least line) (λ step. steps_in target source (turn step) (next ∷ more))
    (fit_next least (step_of target source (words_of line)) (fit_step target source (words_of line)))
    (λ step. steps_are_fit target source (turn step) (next ∷ more))

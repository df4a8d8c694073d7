-- A plan's text, read line by line.
use Rattle.std.proofs.Common.{◌≡◌, ℕ, ◌+◌, List, length, drop, map, slice_range, Result, Ok, Err, sym, ap, ◌∙◌}
use Rattle.cluster_tree.specs.PathValue.{PathValue}
use Rattle.rewind_survey.specs.declared.outcome.Told.{Told}
use Rattle.rewind_writes.specs.declared.step.Step.{Step}
use Rattle.plan_text.specs.declared.fault.StoredFault.{StoredFault}
use Rattle.plan_text.specs.declared.fault.StoredFault.TheVariants.{BadPlan, OutOfMemory}
use Rattle.mark_lines.specs.Lines.{and_then, said_first}
use Rattle.plan_text.specs.Reading.{behind_head, closing_in, said_in, source_of, steps_in, told_of, with_closing}
use Rattle.plan_text.specs.Stored.{IsFault}
use Rattle.mark_lines.proofs.LineLemmas.{behind}

-- a fault stays one
pub fault_kept : {A B : Type 0} (m : Result A ℕ) (n : Result B ℕ) (fault : StoredFault) → ((k : ℕ) → m ≡ Err k → n ≡ Err k) → IsFault m fault → IsFault n fault
fault_kept m n (BadPlan k) h e = h k e
fault_kept m n OutOfMemory h e = tt

-- the first two lines, and what stands behind them
pub headed : (target source : PathValue) (pieces behind rest : List (List ℕ)) (sum : ℕ) (told : Told)
    → said_first source_of 1 pieces ≡ Ok (sum, behind) → said_first told_of 2 behind ≡ Ok (told, rest)
    → behind_head target source sum told rest ≡ said_in target source pieces
unfolding said_in
headed target source pieces behind rest sum told e f = sym (
    ap (λ r. and_then r (λ s. and_then (said_first told_of 2 s.1) (λ t. behind_head target source s.0 t.0 t.1))) e
    ∙ ap (λ r. and_then r (λ t. behind_head target source sum t.0 t.1)) f)

pub no_source : (target source : PathValue) (pieces : List (List ℕ)) (k : ℕ) → said_first source_of 1 pieces ≡ Err k → said_in target source pieces ≡ Err k
unfolding said_in
no_source target source pieces k e = ap (λ r. and_then r (λ s. and_then (said_first told_of 2 s.1) (λ t. behind_head target source s.0 t.0 t.1))) e

pub no_told : (target source : PathValue) (pieces behind : List (List ℕ)) (sum k : ℕ)
    → said_first source_of 1 pieces ≡ Ok (sum, behind) → said_first told_of 2 behind ≡ Err k → said_in target source pieces ≡ Err k
unfolding said_in
no_told target source pieces behind sum k e f =
    ap (λ r. and_then r (λ s. and_then (said_first told_of 2 s.1) (λ t. behind_head target source s.0 t.0 t.1))) e
    ∙ ap (λ r. and_then r (λ t. behind_head target source sum t.0 t.1)) f

-- the steps, and what closes a plan
pub closed : (target source : PathValue) (sum : ℕ) (told : Told) (pieces : List (List ℕ)) (steps : List Step) → steps ≡ steps_in target source 0 pieces
    → behind_head target source sum told pieces
    ≡ and_then (closing_in (length steps + 3) (drop (length steps) pieces)) (λ closing. Ok (with_closing sum told steps closing))
closed target source sum told pieces steps e =
    ap (λ x. and_then (closing_in (length x + 3) (drop (length x) pieces)) (λ closing. Ok (with_closing sum told x closing))) (sym e)

pub closing_behind : {X : Type 0} (f : X → List ℕ) (pieces : List X) (k l n : ℕ) → k ≡ n → l ≡ n
    → closing_in (k + 3) (map f (slice_range pieces l (length pieces))) ≡ closing_in (n + 3) (drop n (map f pieces))
closing_behind f pieces k l n e g = ap (λ m. closing_in (m + 3) (map f (slice_range pieces l (length pieces)))) e ∙ ap (closing_in (n + 3)) (behind f pieces l n g)

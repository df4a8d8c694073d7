-- The rewind that the mark of a target holds, or why it isn't resumed. Own: "A rewind that is resumed".
use Rattle.std.specs.Prelude.{◌≡◌, ◌⊎◌, ℕ, List, drop, Option, None, Some, Result, Ok, Err, MatchResult, option_map}
use Rattle.cluster_tree.specs.Causes.{given, unless}
use Rattle.cluster_tree.specs.Contents.{Contents}
use Rattle.cluster_tree.specs.PathValue.{PathValue}
use Rattle.clusters.specs.Marks.{unfinished}
use Rattle.clusters.specs.RootControl.{control_at}
use Rattle.rewind_writes.specs.Steps.{AllAreFit}
use Rattle.plan_text.specs.Laws.{IsSaid}
use Rattle.plan_text.specs.Reading.{said_of}
use Rattle.plan_text.specs.Stored.{IsPlacedAt}
use Rattle.plan_text.specs.Text.{Saying, said_by}
use Rattle.plan_text.specs.declared.stored.StoredPlan.{StoredPlan}
use Rattle.resume_core.specs.Faults.{IsFree, of_cluster, told_by}
use Rattle.resume_core.specs.Marks.{mark_at}
use Rattle.resume_core.specs.Source.{source_difference}
use Rattle.resume_core.specs.declared.fault.ResumeFault.{ResumeFault}
use Rattle.resume_core.specs.declared.fault.ResumeFault.TheVariants as fault

-- what a plan's text says, or the target with the first line at fault
abbrev pub or_bad : PathValue → Result Saying ℕ → Result Saying ResumeFault
or_bad target (Ok said) = Ok said
or_bad target (Err number) = Err (fault.BadPlan target number)

-- the plan in the bytes of a complete mark, from byte 14 on
abbrev pub plan_in : (target source : PathValue) → List ℕ → Result Saying ResumeFault
plan_in target source bytes = or_bad target (said_of target source (drop 14 bytes))

-- that plan, of the source that it was made for
abbrev pub held_to : Contents → PathValue → Saying → Result Saying ResumeFault
held_to c source said = unless (option_map fault.SourceDiffers (source_difference c source said)) (Ok said)

-- before that, the source's control file
abbrev pub with_source : Contents → PathValue → Saying → Result Saying ResumeFault
with_source c source said = given (told_by (control_at c source)) (λ control. held_to c source said)

-- before that, the plan's text
abbrev pub held_in : Contents → (target source : PathValue) → List ℕ → Result Saying ResumeFault
held_in c target source bytes = given (plan_in target source bytes) (with_source c source)

-- by the bytes of a complete mark; without one nothing is stored
abbrev pub found_in : Contents → (target source : PathValue) → Option (List ℕ) → Result (Option Saying) ResumeFault
found_in c target source None = Ok None
found_in c target source (Some bytes) = given (held_in c target source bytes) (λ said. Ok (Some said))

-- The first point that refuses decides: first of all the marks of the target, and then of the source.
abbrev pub stored_of : Contents → (target source : PathValue) → Result (Option Saying) ResumeFault
stored_of c target source =
    given (told_by (mark_at c target)) (λ bytes. unless (option_map of_cluster (unfinished c source)) (found_in c target source bytes))

-- the plan is the one that is meant, or that is refused; or a fault of the device, or want of memory
abbrev pub Holds : Result Saying ResumeFault → Result StoredPlan ResumeFault → Type 0
Holds meant result = MatchResult result (λ stored. meant ≡ Ok (said_by stored)) (λ e. IsFree e ⊎ (meant ≡ Err e))

-- the answer is what is stored, or why it isn't resumed; or a fault of the device, or want of memory
abbrev pub Stores : Result (Option Saying) ResumeFault → Result (Option StoredPlan) ResumeFault → Type 0
Stores meant result = MatchResult result (λ stored. meant ≡ Ok (option_map said_by stored)) (λ e. IsFree e ⊎ (meant ≡ Err e))

-- a plan is one between these roots, at the target's, and the ends of its ranges are numbers of 64 bits
pub record IsStoredBetween (target source : PathValue) (stored : StoredPlan) : Type 0 where
  pub placed : IsPlacedAt target stored.plan
  pub said : IsSaid target source (said_by stored)
  pub fit : AllAreFit stored.plan.steps.items

abbrev pub IsBetween : (target source : PathValue) → Option StoredPlan → Type 0
IsBetween target source None = Unit {0}
IsBetween target source (Some stored) = IsStoredBetween target source stored

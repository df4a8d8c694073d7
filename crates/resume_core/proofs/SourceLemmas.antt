-- Going through the steps of a plan for the first file that isn't as it was.
use Rattle.std.proofs.Common.{◌≡◌, ◌⊎◌, ℕ, ◌==◌, List, [], ◌∷◌, Option, None, Some, Result, Err, inl, inr, refl, sym, ap, ap₂, subst, ◌∙◌}
use Rattle.std.specs.Prelude.{codes, option_map}
use Rattle.cluster_tree.specs.Causes.{Passes, first_of}
use Rattle.cluster_tree.proofs.PointLemmas.{first_of-none, first_of-some}
use Rattle.cluster_tree.specs.Contents.{Contents}
use Rattle.cluster_tree.specs.PathValue.{PathValue, below}
use Rattle.clusters.specs.Roots.{path_in}
use Rattle.plan_text.specs.Text.{Saying}
use Rattle.rewind_core.specs.Text.{sum_at}
use Rattle.rewind_plan.specs.Sides.{control_parts}
use Rattle.rewind_writes.specs.declared.step.Step.{Step}
use Rattle.resume_core.specs.Faults.{IsFree}
use Rattle.resume_core.specs.Source.{first_lost, lost_by, or_later, other_sum, source_difference, unless_so}
use Rattle.resume_core.specs.declared.fault.ResumeFault.{ResumeFault}
use Rattle.resume_core.specs.declared.fault.ResumeFault.TheVariants as fault

abbrev pub differs : Option PathValue → Option ResumeFault
differs o = option_map fault.SourceDiffers o

lost-next : (c : Contents) (step : Step) (more : List Step) → first_lost c (step ∷ more) ≡ or_later (lost_by c step) (first_lost c more)
unfolding first_lost
lost-next c step more = refl

lost-none : (c : Contents) → first_lost c [] ≡ None
unfolding first_lost
lost-none c = refl

none-found : (o : Option PathValue) → differs o ≡ None → o ≡ None
none-found None is = refl
none-found (Some p) is = cc is

found-first : (o later : Option PathValue) (e : ResumeFault) → differs o ≡ Some e → differs (or_later o later) ≡ Some e
found-first None later e is = cc is
found-first (Some p) later e is = is

module _ (c : Contents) (steps rest : List Step) (so : first_lost c steps ≡ first_lost c rest) where
  pub goes-on : (step : Step) (more : List Step) → rest ≡ step ∷ more → differs (lost_by c step) ≡ None → first_lost c steps ≡ first_lost c more
  goes-on step more is none =
      so ∙ ap (first_lost c) is ∙ lost-next c step more ∙ ap (λ o. or_later o (first_lost c more)) (none-found (lost_by c step) none)

  pub breaks : (step : Step) (more : List Step) (e : ResumeFault) → rest ≡ step ∷ more → IsFree e ⊎ (differs (lost_by c step) ≡ Some e) → IsFree e ⊎ (differs (first_lost c steps) ≡ Some e)
  breaks step more e is (inl free) = inl free
  breaks step more e is (inr found) =
      inr (ap differs (so ∙ ap (first_lost c) is ∙ lost-next c step more) ∙ found-first (lost_by c step) (first_lost c more) e found)

  pub ends : rest ≡ [] → differs (first_lost c steps) ≡ None
  ends is = ap differs (so ∙ ap (first_lost c) is ∙ lost-none c)

-- ---- before that, the control file

first-one : (o : Option PathValue) → first_of (o ∷ []) ≡ o
unfolding first_of
first-one None = refl
first-one (Some path) = refl

control-at : (root : PathValue) → path_in root (codes "global/pg_control") ≡ below root control_parts
unfolding path_in
control-at root = refl

module _ (c : Contents) (source path : PathValue) (said : Saying) (sum : ℕ) (at : path ≡ path_in source (codes "global/pg_control")) (is : sum ≡ sum_at c source) where
  other-is : unless_so (sum == said.source) path ≡ other_sum c source said.source
  other-is = ap₂ (λ s p. unless_so (s == said.source) p) is (at ∙ control-at source)

  pub sum-differs : (e : ResumeFault) → IsFree e ⊎ (differs (unless_so (sum == said.source) path) ≡ Some e) → IsFree e ⊎ (differs (source_difference c source said) ≡ Some e)
  sum-differs e (inl free) = inl free
  sum-differs e (inr found) = inr (by (other_sum c source said.source) (ap differs (sym other-is) ∙ found))
    where
      by : (o : Option PathValue) → differs o ≡ Some e → differs (first_of (o ∷ first_lost c said.steps ∷ [])) ≡ Some e
      by None is = cc is
      by (Some p) is = ap differs (first_of-some (Some p) p (first_lost c said.steps ∷ []) refl) ∙ is

  pub sum-passes : (r : Result (Unit {0}) ResumeFault) → differs (unless_so (sum == said.source) path) ≡ None → Passes IsFree (differs (first_lost c said.steps)) r → Passes IsFree (differs (source_difference c source said)) r
  sum-passes r none passes =
      let same : other_sum c source said.source ≡ None = none-found (other_sum c source said.source) (ap differs (sym other-is) ∙ none) in
      subst (λ o. Passes IsFree (differs o) r) (sym (first_of-none (other_sum c source said.source) (first_lost c said.steps ∷ []) same ∙ first-one (first_lost c said.steps))) passes

-- what is known of the fault that a callee gave holds of the one that is handed on
pub handed : {A : Type 0} (P : Result A ResumeFault → Type 0) (r : Result A ResumeFault) (e : ResumeFault) → ((f : ResumeFault) × (r ≡ Err f) × (f ≡ e)) → P (Err e) → P r
handed P r e (f, is, same) h = subst P (sym (is ∙ ap Err same)) h

-- A plan that broke off, over whatever the tree is taken to have.
use Rattle.std.proofs.Common.{◌≡◌, ◌≢◌, ◌∙◌, ℕ, ℤ, ◌∷◌, Bool, false, IsTrue, List, inl, inr, refl, sym, subst, Result, Ok, Err, OnOk}
use Rattle.cluster_tree.specs.Contents.{Contents}
use Rattle.cluster_tree.specs.PathValue.{PathValue}
use Rattle.cluster_tree.specs.declared.tree.ChangeCall.{ChangeCall}
use Rattle.marked_runs.specs.Runs.{Runs}
use Rattle.marked_runs.specs.declared.faults.PerformFault.{PerformFault}
use Rattle.marked_runs.specs.declared.faults.PerformFault.TheVariants as perform
use Rattle.rewind_writes.specs.Plan.{plan_changes}
use Rattle.rewind_survey.specs.declared.fault.RewindFault.{RewindFault}
use Rattle.rewind_core.specs.Fits.{IsRewound}
use Rattle.rewind_core.specs.Planned.{Meant, Needing, Needs, planned_of}
use Rattle.rewind_core.specs.declared.outcome.Plan.{Plan}
use Rattle.commands.specs.declared.rewind.RewindWords.{RewindWords}
use Rattle.acts.specs.Acts.{Report, Seen, Sunk, seen}
use Rattle.run_acts.specs.Unseen.{PerformsUnseen}
use Rattle.run_acts.specs.declared.cause.Cause.{Cause}
use Rattle.run_acts.specs.declared.cause.Cause.TheVariants as cause
use Rattle.run_acts.proofs.MadeSteps.{makes_changed, makes_part}
use Rattle.cluster_causes.specs.Performed.{perform_cause}
use Rattle.cmd_rewind.specs.Rewind.{LeavesRewound}
use Rattle.cmd_rewind.specs.Tasks.{made_of}

-- one cause alone is a change that contradicts
pub changed_by : (f : PerformFault) (p : PathValue) → perform_cause f ≡ cause.Changed p → f ≡ perform.Changed p
changed_by perform.ReadFault p is = absurd (cc is)
changed_by perform.WriteFault p is = absurd (cc is)
changed_by (perform.Changed q) p is = cc is

pub on_ok : {A E P : Type 0} (r : Result A E) → P → OnOk r P
on_ok (Ok v) p = p
on_ok (Err e) p = tt

module _ (tells : Bool) (plan : Plan) (c c' : Contents) (k k' : List ChangeCall) {o e : Bool} {out err : Sunk} where
  by_fault : (f : PerformFault) → (IsTrue tells → Runs (plan_changes c plan.text plan.writes) k k' c c' false) → (IsTrue tells → (p : PathValue) → f ≢ perform.Changed p)
      → PerformsUnseen (IsTrue tells) o e (perform_cause f) (made_of plan) (seen c k out err) (seen c' k' out err)
  by_fault perform.ReadFault ran never = makes_part tells (λ d. plan_changes d plan.text plan.writes) c c' k k' cause.ReadFault false (inr refl) ran
  by_fault perform.WriteFault ran never = makes_part tells (λ d. plan_changes d plan.text plan.writes) c c' k k' cause.WriteFault false (inl refl) ran
  by_fault (perform.Changed p) ran never = makes_changed tells (λ d. plan_changes d plan.text plan.writes) c c' k k' p (λ t. never t p refl)

  -- its cause under another name
  pub broken_off : (f : PerformFault) (why : Cause) → why ≡ perform_cause f → (IsTrue tells → Runs (plan_changes c plan.text plan.writes) k k' c c' false) → (IsTrue tells → (p : PathValue) → f ≢ perform.Changed p)
      → PerformsUnseen (IsTrue tells) o e why (made_of plan) (seen c k out err) (seen c' k' out err)
  broken_off f why is ran never =
      let P : Cause → Type 0 = λ x. PerformsUnseen (IsTrue tells) o e x (made_of plan) (seen c k out err) (seen c' k' out err) in
      subst P (sym is) (by_fault f ran never)

-- the lines under another name
pub lines_as : {Seeing : Type 0} {o e : Bool} {ended : Cause} {s u : Seen} (plan : Plan) {first first' second second' : List ℕ} → first ≡ first' → second ≡ second'
    → PerformsUnseen Seeing o e ended (λ d. Report first ∷ Report second ∷ made_of plan d) s u → PerformsUnseen Seeing o e ended (λ d. Report first' ∷ Report second' ∷ made_of plan d) s u
lines_as {Seeing} {o} {e} {ended} {s} {u} plan {first' = first'} {second} is js p =
    let P : List ℕ → List ℕ → Type 0 = λ x y. PerformsUnseen Seeing o e ended (λ d. Report x ∷ Report y ∷ made_of plan d) s u in
    let Q : List ℕ → Type 0 = λ x. P x second in
    let R : List ℕ → Type 0 = λ y. P first' y in
    subst R js (subst Q is p)

-- what a plan leaves that is of just what is needed
pub leaves : (r : Result (Unit {0}) Cause) (words : RewindWords) (now : ℤ) (s c' : Contents) (m : Needing) → planned_of s words.target words.source now ≡ Ok (Needs m)
    → OnOk r (IsRewound s m c') → OnOk r (LeavesRewound words now s c')
leaves (Ok u) words now s c' m meant left = λ n wet is.
    let one : ◌≡◌ {A = Result Meant RewindFault} (Ok (Needs m)) (Ok (Needs n)) = sym meant ∙ is in
    let needs : m ≡ n = cc one in
    let P : Needing → Type 0 = λ x. IsRewound s x c' in
    subst P needs left
leaves (Err e) words now s c' m meant left = tt

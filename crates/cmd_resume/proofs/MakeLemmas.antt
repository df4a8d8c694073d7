-- What is made again, and how it broke off.
use Rattle.std.proofs.Common.{◌≡◌, ◌⊎◌, Bool, IsTrue, List, inl, inr, refl, sym, subst, Result, Ok, Err, OnOk}
use Rattle.cluster_tree.specs.Change.{Change}
use Rattle.cluster_tree.specs.Contents.{Contents}
use Rattle.cluster_tree.specs.PathValue.{PathValue}
use Rattle.cluster_tree.specs.Run.{Moment}
use Rattle.cluster_tree.specs.declared.tree.ChangeCall.{ChangeCall}
use Rattle.marked_runs.specs.Moments.{StandsSynced}
use Rattle.resumed_writes.specs.Tried.{Tried}
use Rattle.resumed_writes.specs.declared.faults.StoredPerformFault.{StoredPerformFault}
use Rattle.resumed_writes.specs.declared.faults.StoredPerformFault.TheVariants as stored
use Rattle.rewind_paths.specs.Laws.{AreOf}
use Rattle.acts.specs.Acts.{Sunk, seen}
use Rattle.run_acts.specs.Causes.{is_of_files}
use Rattle.run_acts.specs.Unseen.{CarriesUnseen}
use Rattle.run_acts.specs.declared.cause.Cause.{Cause}
use Rattle.run_acts.specs.declared.cause.Cause.TheVariants as cause
use Rattle.run_acts.proofs.UnseenSteps.{unseen_told}
use Rattle.cmd_resume.specs.Resume.{again_cause, rest_of}
use Rattle.cmd_resume.specs.Rests.{IsRest}
use Rattle.cmd_resume.proofs.CarryLemmas.{again_changed, again_differs, again_failed}

-- the cause is the fault's own, or memory was wanting where the target refused a change
abbrev pub IsCauseOf : PathValue → StoredPerformFault → Cause → Type 0
IsCauseOf target fault ended = (ended ≡ again_cause target fault) ⊎ ((ended ≡ cause.OutOfMemory) × (path : PathValue) × (fault ≡ stored.TargetDiffers path))

module _ (target : PathValue) (xs : Contents → List Change) (of : (d : Contents) → AreOf target (xs d)) (c c' : Contents) (k k' : List ChangeCall) {o e : Bool} {out err : Sunk} (tells : Bool) (ended : Cause) where
  pub broken_off : (fault : StoredPerformFault) → (IsTrue tells → Tried (xs c) (record { contents = c; calls = k }) (record { contents = c'; calls = k' }) (Err fault)) → IsCauseOf target fault ended
      → CarriesUnseen (IsTrue tells) (IsTrue tells) (rest_of target c (xs c)) (IsRest target) o e ended (seen c k out err) (seen c' k' out err)
  broken_off stored.ReadFault tried (inl is) = again_failed target xs of c c' k k' tells ended (inr is) (λ t. (tried t).runs)
  broken_off stored.WriteFault tried (inl is) = again_failed target xs of c c' k k' tells ended (inl is) (λ t. (tried t).runs)
  broken_off (stored.Changed path) tried (inl is) = unseen_told is (again_changed target xs of c c' k k' tells path (λ t. (tried t).agreed path refl))
  broken_off (stored.TargetDiffers path) tried (inl is) = again_differs target xs of c c' k k' tells ended path (inl is) (λ t. (tried t).differs path refl)
  broken_off (stored.TargetDiffers path) tried (inr is) = again_differs target xs of c c' k k' tells ended path (inr is.0) (λ t. (tried t).differs path refl)
  broken_off stored.ReadFault tried (inr is) = absurd (cc is.2)
  broken_off stored.WriteFault tried (inr is) = absurd (cc is.2)
  broken_off (stored.Changed path) tried (inr is) = absurd (cc is.2)

-- one cause alone is a change that contradicts
pub changed_by : (target : PathValue) (fault : StoredPerformFault) (ended : Cause) (path : PathValue) → IsCauseOf target fault ended → ended ≡ cause.Changed path → fault ≡ stored.Changed path
changed_by target stored.ReadFault ended path (inl is) at = absurd (cc (is, at))
changed_by target stored.WriteFault ended path (inl is) at = absurd (cc (is, at))
changed_by target (stored.Changed other) ended path (inl is) at = cc (is, at)
changed_by target (stored.TargetDiffers other) ended path (inl is) at = absurd (cc (is, at))
changed_by target fault ended path (inr is) at = absurd (cc (is.0, at))

-- each is one of files, or a failed write
cause-only : (target : PathValue) (fault : StoredPerformFault) → IsTrue (is_of_files (again_cause target fault)) ⊎ (again_cause target fault ≡ cause.WriteFault)
cause-only target stored.ReadFault = inl refl
cause-only target stored.WriteFault = inr refl
cause-only target (stored.Changed path) = inl refl
cause-only target (stored.TargetDiffers path) = inl refl

pub only_of : (target : PathValue) (fault : StoredPerformFault) (ended : Cause) → IsCauseOf target fault ended → IsTrue (is_of_files ended) ⊎ (ended ≡ cause.WriteFault)
only_of target fault ended (inl is) = let P : Cause → Type 0 = λ e. IsTrue (is_of_files e) ⊎ (e ≡ cause.WriteFault) in subst P (sym is) (cause-only target fault)
only_of target fault ended (inr is) = let P : Cause → Type 0 = λ e. IsTrue (is_of_files e) ⊎ (e ≡ cause.WriteFault) in subst P (sym is.0) (inl refl)

-- what is said of all that is well, whatever the outcome
pub on_ok : {A E P : Type 0} (r : Result A E) → P → OnOk r P
on_ok (Ok v) p = p
on_ok (Err e) p = tt

-- what stands once all was made
pub stands_by : (moment : Moment) (end : Contents) → moment.state.contents ≡ end → StandsSynced end moment → StandsSynced moment.state.contents moment
stands_by moment end same stands = subst (λ c. StandsSynced c moment) (sym same) stands

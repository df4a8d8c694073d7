-- The changing calls of a resume.
use Rattle.std.proofs.Common.{◌≡◌, ◌≢◌, ◌∙◌, Bool, true, false, List, [], map, Some, Result, Ok, Err, IfErr, inl, inr, refl, sym, ap, subst}
use Rattle.std.proofs.lemmas.List.{append-nil}
use Rattle.cluster_tree.specs.Change.{Change, all_changed, call_of, refusal_of}
use Rattle.cluster_tree.specs.Contents.{Contents}
use Rattle.cluster_tree.specs.PathValue.{PathValue}
use Rattle.cluster_tree.specs.declared.tree.ChangeCall.{ChangeCall}
use Rattle.marked_runs.specs.Runs.{Runs}
use Rattle.marked_runs.proofs.RunLemmas.{made-all, made-part}
use Rattle.resumed_writes.specs.Tried.{IsRefusedAt, Tried}
use Rattle.resumed_writes.specs.declared.faults.StoredPerformFault.{StoredPerformFault}
use Rattle.resumed_writes.specs.declared.faults.StoredPerformFault.TheVariants as stored
use Rattle.acts.specs.Acts.{Begins, MakesAll}
use Rattle.run_acts.specs.Causes.{cause_of}
use Rattle.run_acts.specs.declared.cause.Cause.{Cause}
use Rattle.run_acts.specs.declared.cause.Cause.TheVariants as cause
use Rattle.run_acts.specs.declared.cause.RewindCause.TheVariants as unfit
use Rattle.cmd_resume.specs.Calls.{MakesTried}
use Rattle.cmd_resume.specs.Changes.{Trial, tried}
use Rattle.cmd_resume.proofs.CarryLemmas.{at-path}
use Rattle.cmd_resume.proofs.MakeLemmas.{IsCauseOf}
use Rattle.cmd_resume.proofs.TriedLemmas.{tried-refused}

-- ---- calls of changes

none-begun : (calls all : List ChangeCall) → Begins all calls calls
none-begun calls all = record { made = []; grew = sym (append-nil calls); part = tt }

begun-by : (xs : List Change) (k l : List ChangeCall) (c d : Contents) (done : Bool) → Runs xs k l c d done → Begins (map call_of xs) k l
begun-by xs k l c d done ran = let (made, grew, part) = made-part xs k l c d done ran in record { made = made; grew = grew; part = part }

all-made : (xs : List Change) (k l : List ChangeCall) (c d : Contents) → Runs xs k l c d true → MakesAll (map call_of xs) k l
all-made xs k l c d ran = let (made, grew, joined) = made-all xs k l c d ran in record { made = made; grew = grew; joined = joined }

-- ---- nothing was made, and nothing is said to differ

abbrev IsDifferent : Cause → PathValue → Type 0
IsDifferent ended way = ended ≡ cause.Rewind (unfit.TargetDiffers way)

pub none-tried : (c : Contents) (changes : List Change) (calls : List ChangeCall) (ended : Cause) → ((way : PathValue) → ended ≢ cause.Rewind (unfit.TargetDiffers way)) → MakesTried c changes calls calls ended
none-tried c changes calls ended other = record { first = none-begun calls (map call_of changes); differs = λ way is. absurd (other way is) }

pub sink-other : (r : Result (Unit {0}) Cause) (ended : Cause) → r ≡ Err ended → IfErr r (λ e. e ≡ cause.SinkFault) → (way : PathValue) → ended ≢ cause.Rewind (unfit.TargetDiffers way)
sink-other (Ok u) ended told only way is = absurd (cc told)
sink-other (Err e) ended told only way is = let same : e ≡ ended = cc told in cc (sym only ∙ same ∙ is)

-- ---- all were made

told-other : (r : Result (Unit {0}) Cause) → IfErr r (λ e. e ≡ cause.SinkFault) → (way : PathValue) → cause_of r ≢ cause.Rewind (unfit.TargetDiffers way)
told-other (Ok u) only way is = cc is
told-other (Err e) only way is = cc (sym only ∙ is)

pub all-tried : (c d : Contents) (changes : List Change) (k l : List ChangeCall) (r : Result (Unit {0}) Cause) → Runs changes k l c d true → IfErr r (λ e. e ≡ cause.SinkFault) → MakesTried c changes k l (cause_of r)
all-tried c d changes k l r ran only = record { first = begun-by changes k l c d true ran; differs = λ way is. absurd (told-other r only way is) }

-- ---- it broke off

module _ (target : PathValue) (c d : Contents) (changes : List Change) (k l : List ChangeCall) where
  abbrev IsTriedTo : StoredPerformFault → Type 0
  IsTriedTo fault = Tried changes (record { contents = c; calls = k }) (record { contents = d; calls = l }) (Err fault)

  before-made : (path : PathValue) → IsRefusedAt path changes (record { contents = c; calls = k }) (record { contents = d; calls = l }) → MakesAll (map call_of (tried c changes).before) k l
  before-made path at =
      let left : d ≡ all_changed c at.before = at.ran.after refl in
      let trial : tried c changes ≡ record { before = at.before; differs = Some path } =
      ap (tried c) at.split ∙ tried-refused c at.before at.change at.rest path at.unrefused (λ none. at.refused (ap (λ x. refusal_of x at.change) left ∙ none)) (at-path path at.change at.here) in
      subst (λ xs. MakesAll (map call_of xs) k l) (sym (ap (λ (t : Trial). t.before) trial)) (all-made at.before k l c d at.ran)

  -- the cause of a fault says that what stands differs only where the fault does
  differs-by : (fault : StoredPerformFault) (ended : Cause) (way : PathValue) → IsTriedTo fault → IsCauseOf target fault ended → IsDifferent ended way → MakesAll (map call_of (tried c changes).before) k l
  differs-by stored.ReadFault ended way ran (inl is) at = absurd (cc (is, at))
  differs-by stored.WriteFault ended way ran (inl is) at = absurd (cc (is, at))
  differs-by (stored.Changed path) ended way ran (inl is) at = absurd (cc (is, at))
  differs-by (stored.TargetDiffers path) ended way ran (inl is) at = before-made path (ran.differs path refl)
  differs-by fault ended way ran (inr is) at = absurd (cc (is.0, at))

  pub broken-tried : (fault : StoredPerformFault) (ended : Cause) → IsTriedTo fault → IsCauseOf target fault ended → MakesTried c changes k l ended
  broken-tried fault ended ran of = record {
    first = begun-by changes k l c d false ran.runs;
    differs = λ way at. differs-by fault ended way ran of at;
  }

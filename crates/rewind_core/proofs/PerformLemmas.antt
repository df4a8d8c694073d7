-- What a plan's changes leave where they ran.
use Rattle.std.proofs.Common.{◌≡◌, ◌≢◌, ◌⊎◌, inl, inr, ℕ, Bool, false, List, [], length, None, IsTrue, Result, Ok, Err, IfErr, IfOk, OnOk, refl, ap, sym, subst, ◌∙◌, arith}
use Rattle.std.specs.List.{list_any}
use Rattle.cluster_tree.specs.Change.{all_changed, first_refusal, is_on}
use Rattle.cluster_tree.specs.Contents.{Contents, entry_at}
use Rattle.cluster_tree.specs.PathValue.{PathValue, below}
use Rattle.cluster_tree.specs.Frame.{moment_of}
use Rattle.cluster_tree.specs.Stops.{LeavesOnly}
use Rattle.cluster_tree.specs.declared.tree.ChangeCall.{ChangeCall}
use Rattle.cluster_tree.specs.declared.tree.Tree.{Ghosts}
use Rattle.cluster_tree.proofs.ChangeLemmas.{changed-elsewhere}
use Rattle.cluster_tree.specs.Tree.{bytes_at, bytes_in}
use Rattle.gated_marks.specs.Gates.{IsComplete}
use Rattle.gated_marks.proofs.ByteLemmas.{short-incomplete}
use Rattle.marked_runs.specs.Moments.{IsSafe, StandsSynced}
use Rattle.marked_runs.specs.Performed.{Performs}
use Rattle.marked_runs.specs.Runs.{Runs}
use Rattle.marked_runs.specs.declared.faults.PerformFault.{PerformFault}
use Rattle.marked_runs.specs.declared.faults.PerformFault.TheVariants as perform
use Rattle.rewind_writes.specs.Plan.{IsFound, IsResumable, body_changes, mark_gate, mark_head, plan_changes}
use Rattle.rewind_writes.specs.declared.plan.Plan.{Plan as Writes}
use Rattle.rewind_plan.proofs.FinalLemmas.{plan-leaves-all, plan-unrefused}
use Rattle.rewind_plan.specs.Sides.{mark_parts}
use Rattle.clusters.specs.declared.fault.ClusterFault.TheVariants as cluster
use Rattle.rewind_plan.proofs.FoundLemmas.{plan-found}
use Rattle.rewind_plan.proofs.OffLemmas.{plan-below, plan-unmarked}
use Rattle.rewind_survey.specs.declared.fault.RewindFault.{RewindFault}
use Rattle.rewind_survey.specs.declared.fault.RewindFault.TheVariants as fault
use Rattle.rewind_core.specs.Faults.{of_perform}
use Rattle.rewind_core.specs.Fits.{Fits, FitsMeant, IsCause, IsDone, IsPlanFor, IsRewound, Went}
use Rattle.rewind_core.specs.Planned.{AtFork, Meant, Needing, Needs, OneTimeline}
use Rattle.rewind_core.specs.declared.outcome.Plan.{Plan}
use Rattle.rewind_core.specs.declared.outcome.Planned.{Planned}
use Rattle.rewind_core.specs.declared.outcome.Planned.TheVariants as planned
use Rattle.rewind_core.specs.declared.outcome.RewindDone.{RewindDone}
use Rattle.rewind_core.specs.declared.outcome.RewindDone.TheVariants as done

bare_short : (bytes : List ℕ) → bytes ≡ [] → IsComplete mark_head mark_gate bytes → ⊥
bare_short bytes none = short-incomplete mark_head mark_gate bytes (omega (arith, ap length none))

module _ (c : Contents) (n : Needing) (plan : Plan) (is : IsPlanFor c n plan) where
  pub found : IsFound c plan.text plan.writes
  found = plan-found c plan.text n.aim.between n.pairs n.aim.control n.aim.label plan.writes is.sides is.writes

  pub unrefused : first_refusal c (plan_changes c plan.text plan.writes) ≡ None
  unrefused = plan-unrefused c plan.text n.aim.between n.pairs n.aim.control n.aim.label plan.writes is.sides is.writes

  pub unmarked : list_any (is_on plan.writes.mark) (body_changes c plan.writes) ≡ false
  unmarked = plan-unmarked c n.aim.between n.pairs n.aim.control n.aim.label plan.writes is.sides is.writes

  -- no mark stands before it
  pub unbegun : IsComplete mark_head mark_gate (bytes_at c plan.writes.mark) → ⊥
  unbegun = bare_short (bytes_at c plan.writes.mark) (ap (bytes_at c) is.writes.mark ∙ ap bytes_in (is.sides.marks_target mark_parts refl))

  pub left-by : (c' : Contents) → c' ≡ all_changed c (plan_changes c plan.text plan.writes) → IsRewound c n c'
  left-by c' after = record {
    sides = is.sides;
    inside = λ parts. ap (λ c. entry_at c (below n.aim.between.target parts)) after
        ∙ plan-leaves-all c plan.text n.aim.between n.pairs n.aim.control n.aim.label plan.writes is.sides is.writes parts;
    elsewhere = λ path out. ap (λ c. entry_at c path) after
        ∙ changed-elsewhere c (plan_changes c plan.text plan.writes) path (plan-below c plan.text n.aim.between n.pairs n.aim.control n.aim.label plan.writes is.sides is.writes path out);
  }

-- faults of what is carried out, as those of a rewind
pub changed-of : (f : PerformFault) (p : PathValue) → of_perform f ≡ fault.Cluster (cluster.Changed p) → f ≡ perform.Changed p
changed-of perform.ReadFault p h = absurd (cc h)
changed-of perform.WriteFault p h = absurd (cc h)
changed-of (perform.Changed path) p h = cc h

-- a plan that is needed, by what was planned
needed-by : (c : Contents) (m : Meant) (plan : Plan) → Fits c m (planned.Needed plan) → (n : Needing) × (m ≡ Needs n) × IsPlanFor c n plan
needed-by c OneTimeline plan fits = absurd fits
needed-by c (AtFork fork) plan fits = absurd fits
needed-by c (Needs n) plan fits = (n, refl, fits)

pub needed-of : (c : Contents) (meant : Result Meant RewindFault) (v : Planned) (plan : Plan) → FitsMeant c meant v → v ≡ planned.Needed plan
    → (n : Needing) × (meant ≡ Ok (Needs n)) × IsPlanFor c n plan
needed-of c meant v plan fits is =
    let p : (n : Needing) × (fits.meaning ≡ Needs n) × IsPlanFor c n plan = needed-by c fits.meaning plan (subst (Fits c fits.meaning) is fits.fits) in
    (p.0, fits.found ∙ ap (λ m. Ok m) p.1, p.2)

module _ (c : Contents) (meant : Result Meant RewindFault) (n : Needing) (plan : Plan) (is : IsPlanFor c n plan) (found : meant ≡ Ok (Needs n)) where
  pub done-by : (c' : Contents) (r : Result RewindDone RewindFault) → IfOk r (λ d. d ≡ done.Rewound plan.told) → OnOk r (IsRewound c n c') → IfOk r (λ d. IsDone c meant d c')
  done-by c' (Ok d) told left = subst (λ x. IsDone c meant x c') (sym told) (n, found, is.told, left)
  done-by c' (Err e) told left = tt

  cause-in : (e : RewindFault) → (e ≡ fault.Cluster cluster.ReadFault) ⊎ (e ≡ fault.WriteFault) ⊎ ((p : PathValue) × (e ≡ fault.Cluster (cluster.Changed p))) → ((p : PathValue) → e ≢ fault.Cluster (cluster.Changed p)) → IsCause meant e
  cause-in e (inl read) never = inl (inl read)
  cause-in e (inr (inl write)) never = inr (inl write)
  cause-in e (inr (inr changed)) never = absurd (never changed.0 changed.1)

  pub cause-by : (r : Result RewindDone RewindFault) → IfErr r (λ e. (e ≡ fault.Cluster cluster.ReadFault) ⊎ (e ≡ fault.WriteFault) ⊎ ((p : PathValue) × (e ≡ fault.Cluster (cluster.Changed p))))
      → ((p : PathValue) → r ≢ Err (fault.Cluster (cluster.Changed p))) → IfErr r (IsCause meant)
  cause-by (Ok d) only never = tt
  cause-by (Err e) only never = cause-in e only (λ p h. never p (ap (λ x. Err x) h))

-- and where the tree is as it was planned for
module _ (c c1 c' : Contents) (meant : Result Meant RewindFault) (n : Needing) (plan : Plan) (same : c1 ≡ c) (is : IsPlanFor c n plan) (found : meant ≡ Ok (Needs n)) where
  there : IsPlanFor c1 n plan
  there = subst (λ x. IsPlanFor x n plan) (sym same) is

  pub done-at : (r : Result RewindDone RewindFault) → IfOk r (λ d. d ≡ done.Rewound plan.told) → (IsPlanFor c1 n plan → OnOk r (IsRewound c1 n c')) → IfOk r (λ d. IsDone c meant d c')
  done-at r told left = done-by c meant n plan is found c' r told (subst (λ x. OnOk r (IsRewound x n c')) same (left there))

  pub cause-at : (r : Result RewindDone RewindFault) → IfErr r (λ e. (e ≡ fault.Cluster cluster.ReadFault) ⊎ (e ≡ fault.WriteFault) ⊎ ((p : PathValue) × (e ≡ fault.Cluster (cluster.Changed p))))
      → (IsPlanFor c1 n plan → (p : PathValue) → r ≢ Err (fault.Cluster (cluster.Changed p))) → IfErr r (IsCause meant)
  cause-at r only never = cause-by c meant n plan is found r only (never there)

  pub went-at : (k k1 k' : List ChangeCall) (ok : Bool) → k1 ≡ k → (IsPlanFor c1 n plan → Runs (plan_changes c1 plan.text plan.writes) k1 k' c1 c' ok)
      → Went meant (record { contents = c; calls = k }) (record { contents = c'; calls = k' }) ok
  went-at k k1 k' ok uncalled runs =
      inr (n, plan, found, is, subst (λ x. Runs (plan_changes x plan.text plan.writes) k k' x c' ok) same (subst (λ l. Runs (plan_changes c1 plan.text plan.writes) l k' c1 c' ok) uncalled (runs there)))

  pub never-at : {P : PathValue → Type 0} → (IsPlanFor c1 n plan → (p : PathValue) → P p) → (p : PathValue) → P p
  never-at never = never there

-- ---- the text that is handed on

module _ {F : Type 0} (tree : Ghosts F) (writes : Writes) (text own : List ℕ) (old new : F) (r : Result (Unit {0}) PerformFault) (same : text ≡ own) where
  pub performs-own : (IsFound (tree.contents old) text writes → Performs tree (plan_changes (tree.contents old) text writes) old new r) → IsFound (tree.contents old) own writes → Performs tree (plan_changes (tree.contents old) own writes) old new r
  performs-own = subst (λ t. IsFound (tree.contents old) t writes → Performs tree (plan_changes (tree.contents old) t writes) old new r) same

  pub stops-own : (IsTrue tree.tells → IsFound (tree.contents old) text writes → first_refusal (tree.contents old) (plan_changes (tree.contents old) text writes) ≡ None → list_any (is_on writes.mark) (body_changes (tree.contents old) writes) ≡ false
      → LeavesOnly (IsSafe writes.mark (moment_of tree old) (all_changed (tree.contents old) (plan_changes (tree.contents old) text writes))) (tree.stops old) (tree.stops new))
      → IsTrue tree.tells → IsFound (tree.contents old) own writes → first_refusal (tree.contents old) (plan_changes (tree.contents old) own writes) ≡ None → list_any (is_on writes.mark) (body_changes (tree.contents old) writes) ≡ false
      → LeavesOnly (IsSafe writes.mark (moment_of tree old) (all_changed (tree.contents old) (plan_changes (tree.contents old) own writes))) (tree.stops old) (tree.stops new)
  stops-own = subst (λ t. IsTrue tree.tells → IsFound (tree.contents old) t writes → first_refusal (tree.contents old) (plan_changes (tree.contents old) t writes) ≡ None → list_any (is_on writes.mark) (body_changes (tree.contents old) writes) ≡ false
      → LeavesOnly (IsSafe writes.mark (moment_of tree old) (all_changed (tree.contents old) (plan_changes (tree.contents old) t writes))) (tree.stops old) (tree.stops new)) same

  pub synced-own : (IsTrue tree.tells → IsFound (tree.contents old) text writes → first_refusal (tree.contents old) (plan_changes (tree.contents old) text writes) ≡ None → OnOk r (StandsSynced (tree.contents new) (moment_of tree new)))
      → IsTrue tree.tells → IsFound (tree.contents old) own writes → first_refusal (tree.contents old) (plan_changes (tree.contents old) own writes) ≡ None → OnOk r (StandsSynced (tree.contents new) (moment_of tree new))
  synced-own = subst (λ t. IsTrue tree.tells → IsFound (tree.contents old) t writes → first_refusal (tree.contents old) (plan_changes (tree.contents old) t writes) ≡ None → OnOk r (StandsSynced (tree.contents new) (moment_of tree new))) same

  pub resumable-own : (IsTrue tree.tells → IsFound (tree.contents old) text writes → first_refusal (tree.contents old) (plan_changes (tree.contents old) text writes) ≡ None → list_any (is_on writes.mark) (body_changes (tree.contents old) writes) ≡ false
      → StandsSynced (tree.contents old) (moment_of tree old) → (IsComplete mark_head mark_gate (bytes_at (tree.contents old) writes.mark) → ⊥) → LeavesOnly (IsResumable (tree.contents old) text writes) (tree.stops old) (tree.stops new))
      → IsTrue tree.tells → IsFound (tree.contents old) own writes → first_refusal (tree.contents old) (plan_changes (tree.contents old) own writes) ≡ None → list_any (is_on writes.mark) (body_changes (tree.contents old) writes) ≡ false
      → StandsSynced (tree.contents old) (moment_of tree old) → (IsComplete mark_head mark_gate (bytes_at (tree.contents old) writes.mark) → ⊥) → LeavesOnly (IsResumable (tree.contents old) own writes) (tree.stops old) (tree.stops new)
  resumable-own = subst (λ t. IsTrue tree.tells → IsFound (tree.contents old) t writes → first_refusal (tree.contents old) (plan_changes (tree.contents old) t writes) ≡ None → list_any (is_on writes.mark) (body_changes (tree.contents old) writes) ≡ false
      → StandsSynced (tree.contents old) (moment_of tree old) → (IsComplete mark_head mark_gate (bytes_at (tree.contents old) writes.mark) → ⊥) → LeavesOnly (IsResumable (tree.contents old) t writes) (tree.stops old) (tree.stops new)) same

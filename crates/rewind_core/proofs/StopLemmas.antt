-- What a stop may leave of a rewind.
use Rattle.std.proofs.Common.{◌≡◌, Result, Ok, Err, IfOk, OnOk, inl, inr, ⊎_elim, refl, sym, ap, ◌∙◌, subst}
use Rattle.cluster_tree.specs.Contents.{Contents}
use Rattle.cluster_tree.specs.Frame.{Reads, moment_of}
use Rattle.cluster_tree.specs.Marks.{marks_of}
use Rattle.cluster_tree.specs.PathValue.{PathValue}
use Rattle.cluster_tree.specs.Run.{Moment}
use Rattle.cluster_tree.specs.Stops.{LeavesOnly, Stops}
use Rattle.cluster_tree.specs.declared.tree.Tree.{Ghosts}
use Rattle.cluster_tree.proofs.Images.{Within, holds_first, leaves_only}
use Rattle.marked_runs.specs.Moments.{IsMarked, IsUntouched, StandsSynced}
use Rattle.marked_runs.proofs.StopLemmas.{leaves_weaker}
use Rattle.rewind_survey.specs.declared.fault.RewindFault.{RewindFault}
use Rattle.rewind_core.specs.Fits.{IsMadeBetween, IsPlanBetween, IsPlanFor}
use Rattle.rewind_core.specs.Planned.{Meant, Needing, Needs}
use Rattle.rewind_core.specs.Stops.{IsLeft, IsLeftBy, IsSyncedBy}
use Rattle.rewind_core.specs.declared.outcome.Plan.{Plan}
use Rattle.rewind_core.specs.declared.outcome.Planned.{Planned}
use Rattle.rewind_core.specs.declared.outcome.Planned.TheVariants as planned
use Rattle.rewind_core.specs.declared.outcome.RewindDone.{RewindDone}
use Rattle.rewind_core.specs.declared.outcome.RewindDone.TheVariants as done

-- a call that only reads leaves all untouched
pub reads-leave : {F : Type 0} (tree : Ghosts F) (P : Contents → Type 0) (a b : F) → Reads tree a b → Within (IsUntouched (moment_of tree a)) P → LeavesOnly P (tree.stops a) (tree.stops b)
reads-leave tree P a b reads within =
    let U : Contents → Type 0 = IsUntouched (moment_of tree a) in
    subst (LeavesOnly P (tree.stops a)) (sym reads.unstopped)
    (leaves_only P U (moment_of tree a) (moment_of tree a) (holds_first P U (moment_of tree a) (inl refl) (λ c image. inr image)) within)

-- and what follows it counts from its start
pub reads-on : {F : Type 0} (tree : Ghosts F) (P : Moment → Contents → Type 0) (a b d : F) → Reads tree a b → LeavesOnly (P (moment_of tree b)) (tree.stops b) (tree.stops d) → LeavesOnly (P (moment_of tree a)) (tree.stops a) (tree.stops d)
reads-on tree P a b d reads left =
    let same : moment_of tree b ≡ moment_of tree a = λ i. record { state = record { contents = reads.same i; calls = reads.uncalled i }; stops = reads.unstopped i } in
    subst (λ (m : Moment). LeavesOnly (P m) m.stops (tree.stops d)) same left

-- of a plan between two roots the mark is at the target's
pub needed-left : (meant : Result Meant RewindFault) (target source : PathValue) (first : Moment) (s : Stops) (n : Needing) (plan : Plan) → meant ≡ Ok (Needs n) → IsPlanFor first.state.contents n plan → IsPlanBetween target source plan
    → LeavesOnly (IsLeftBy first.state.contents n first) first.stops s → LeavesOnly (IsLeft meant target first) first.stops s
needed-left meant target source first s n plan found is made left =
    let same : (marks_of n.aim.between.target).rewind ≡ (marks_of target).rewind = sym is.writes.mark ∙ made.writes.mark ∙ ap (λ r. (marks_of r).rewind) made.target_is in
    leaves_weaker (IsLeftBy first.state.contents n first) (IsLeft meant target first) first.stops s
    (λ c. ⊎_elim (λ untouched. inl untouched) (λ other. inr (n, found, ⊎_elim (λ marked. inl (subst (λ p. IsMarked p c) same marked)) (λ done. inr done) other))) left

-- so it is of a plan that was made by reading alone
pub planned-left : {F : Type 0} (tree : Ghosts F) (meant : Result Meant RewindFault) (target source : PathValue) (a b d : F) (n : Needing) (plan : Plan) (v : Planned) → Reads tree a b → meant ≡ Ok (Needs n) → IsPlanFor (tree.contents a) n plan → v ≡ planned.Needed plan → IsMadeBetween target source v
    → (IsPlanFor (tree.contents b) n plan → LeavesOnly (IsLeftBy (tree.contents b) n (moment_of tree b)) (tree.stops b) (tree.stops d)) → LeavesOnly (IsLeft meant target (moment_of tree a)) (tree.stops a) (tree.stops d)
planned-left tree meant target source a b d n plan v reads found is same made left =
    needed-left meant target source (moment_of tree a) (tree.stops d) n plan found is (subst (IsMadeBetween target source) same made)
    (reads-on tree (λ m. IsLeftBy m.state.contents n m) a b d reads (left (subst (λ c. IsPlanFor c n plan) (sym reads.same) is)))

-- once it is carried out, a stop leaves what stands
pub synced-by : (moment : Moment) (r : Result RewindDone RewindFault) → OnOk r (StandsSynced moment.state.contents moment) → IfOk r (λ d. IsSyncedBy d moment)
synced-by moment (Ok (done.NotNeeded fork)) stands = tt
synced-by moment (Ok (done.Rewound told)) stands = stands
synced-by moment (Err e) stands = tt

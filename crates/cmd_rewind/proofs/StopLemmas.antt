-- What a stop may leave of what pg_rewind does.
use Rattle.std.proofs.Common.{◌≡◌, ℤ, false, Result, Ok, Err, OnOk, inl, inr, ⊎_elim, refl, subst, sym, ◌∙◌}
use Rattle.cluster_tree.specs.Contents.{Contents}
use Rattle.cluster_tree.specs.Frame.{Reads, moment_of}
use Rattle.cluster_tree.specs.Run.{Moment}
use Rattle.cluster_tree.specs.Stops.{LeavesOnly}
use Rattle.cluster_tree.specs.declared.tree.Tree.{Ghosts}
use Rattle.cluster_tree.proofs.Images.{holds_first, leaves_only}
use Rattle.marked_runs.specs.Moments.{IsUntouched, StandsSynced}
use Rattle.marked_runs.proofs.StopLemmas.{leaves_weaker}
use Rattle.commands.specs.declared.rewind.RewindWords.{RewindWords}
use Rattle.rewind_core.specs.Fits.{IsPlanFor, IsSaidIn}
use Rattle.rewind_core.specs.Planned.{Needing, Needs, planned_of}
use Rattle.rewind_core.specs.Stops.{IsLeftBy, IsUnderway}
use Rattle.rewind_core.specs.declared.outcome.Plan.{Plan}
use Rattle.rewind_core.proofs.StopLemmas.{reads-leave, reads-on}
use Rattle.run_acts.specs.declared.cause.Cause.{Cause}
use Rattle.rewind_writes.specs.Plan.{IsResumable}
use Rattle.cmd_rewind.specs.Rewind.{IsDurable, IsLeftByRewind, IsLeftToResume}
use Rattle.rewind_paths.proofs.BelowLemmas.{Aims, planned-aims}

module _ {F : Type 0} (tree : Ghosts F) (words : RewindWords) (now : ℤ) (s : Contents) (a b : F) (reads : Reads tree a b) where
  -- while it looks, and where it changes nothing
  pub looks-left : LeavesOnly (IsLeftByRewind words now s (moment_of tree a)) (tree.stops a) (tree.stops b)
  looks-left = reads-leave tree (IsLeftByRewind words now s (moment_of tree a)) a b reads (λ c untouched. inl untouched)

  -- and of a rewind that is made, whose mark is at the target's root
  pub makes-left : (d : F) → words.dry_run ≡ false → (n : Needing) → planned_of s words.target words.source now ≡ Ok (Needs n)
      → LeavesOnly (IsLeftBy s n (moment_of tree b)) (tree.stops b) (tree.stops d) → LeavesOnly (IsLeftByRewind words now s (moment_of tree a)) (tree.stops a) (tree.stops d)
  makes-left d wet n found left =
      let root : n.aim.between.target ≡ words.target = subst (Aims words.target) found (planned-aims s words.target words.source now) in
      leaves_weaker (IsLeftBy s n (moment_of tree a)) (IsLeftByRewind words now s (moment_of tree a)) (tree.stops a) (tree.stops d)
      (λ c. ⊎_elim (λ untouched. inl untouched) (λ underway. inr (n, wet, found, subst (λ r. IsUnderway r s n c) root underway)))
      (reads-on tree (IsLeftBy s n) a b d reads left)

-- ---- where it begins on synced contents

synced-same : (c : Contents) (first : Moment) → StandsSynced c first → (i : Contents) → IsUntouched first i → i ≡ c
synced-same c first stands i (inl is) = is ∙ stands.now
synced-same c first stands i (inr left) = stands.left i left

-- no call at all leaves what stood
pub still-same : (P : Contents → Type 0) (c : Contents) (first : Moment) → StandsSynced c first → ((i : Contents) → i ≡ c → P i) → LeavesOnly P first.stops first.stops
still-same P c first stands same =
    leaves_only P (IsUntouched first) first first (holds_first P (IsUntouched first) first (inl refl) (λ i image. inr image)) (λ i untouched. same i (synced-same c first stands i untouched))

module _ {F : Type 0} (tree : Ghosts F) (words : RewindWords) (now : ℤ) (s : Contents) (a b : F) (reads : Reads tree a b) (stands : StandsSynced (tree.contents a) (moment_of tree a)) where
  -- while it looks, and where it changes nothing
  pub looks-same : LeavesOnly (IsLeftToResume words now s (tree.contents a)) (tree.stops a) (tree.stops b)
  looks-same = reads-leave tree (IsLeftToResume words now s (tree.contents a)) a b reads (λ i untouched. inl (synced-same (tree.contents a) (moment_of tree a) stands i untouched))

  -- and of a rewind that is made
  pub makes-resumable : (d : F) (plan : Plan) → words.dry_run ≡ false → (n : Needing) → planned_of s words.target words.source now ≡ Ok (Needs n) → IsPlanFor s n plan → IsSaidIn s words.target words.source plan
      → (StandsSynced (tree.contents b) (moment_of tree b) → LeavesOnly (IsResumable s plan.text plan.writes) (tree.stops b) (tree.stops d)) → LeavesOnly (IsLeftToResume words now s (tree.contents a)) (tree.stops a) (tree.stops d)
  makes-resumable d plan wet n found is said left =
      let same : moment_of tree b ≡ moment_of tree a = λ i. record { state = record { contents = reads.same i; calls = reads.uncalled i }; stops = reads.unstopped i } in
      let begun : StandsSynced (tree.contents b) (moment_of tree b) = subst (λ (m : Moment). StandsSynced m.state.contents m) (sym same) stands in
      leaves_weaker (IsResumable s plan.text plan.writes) (IsLeftToResume words now s (tree.contents a)) (tree.stops a) (tree.stops d)
      (λ i resumable. inr (n, plan, wet, found, is, said, resumable))
      (reads-on tree (λ m. IsResumable s plan.text plan.writes) a b d reads (left begun))

-- and once it is made, what stands
pub durable-by : (r : Result (Unit {0}) Cause) (words : RewindWords) (now : ℤ) (s : Contents) (moment : Moment) → OnOk r (StandsSynced moment.state.contents moment) → OnOk r (IsDurable words now s moment)
durable-by (Ok u) words now s moment stands = λ n wet needed. stands
durable-by (Err e) words now s moment stands = tt

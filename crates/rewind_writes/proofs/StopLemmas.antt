-- What a stop may leave of a plan that is carried out.
use Rattle.std.proofs.Common.{◌≡◌, ℕ, false, IsTrue, List, ◌++◌, None, Some, Result, Ok, Err, OnOk, is_some, ap, sym, ◌∙◌, subst, refl, inl, inr, arith}
use Rattle.std.specs.FinMap.{remove}
use Rattle.std.specs.List.{list_any}
use Rattle.cluster_tree.specs.Change.{Change, all_changed, first_refusal, is_on}
use Rattle.cluster_tree.specs.Contents.{Contents, FileEntry, entry_at}
use Rattle.cluster_tree.specs.Frame.{Came, moment_of}
use Rattle.cluster_tree.specs.Run.{Moment}
use Rattle.cluster_tree.specs.Stops.{LeavesOnly}
use Rattle.cluster_tree.specs.Tree.{bytes_at}
use Rattle.cluster_tree.specs.declared.tree.Tree.{Ghosts}
use Rattle.cluster_tree.proofs.ChangeLemmas.{changed-in_turn}
use Rattle.cluster_tree.proofs.ContentsLemmas.{entry-put}
use Rattle.cluster_tree.proofs.Images.{Within}
use Rattle.cluster_tree.proofs.RunLemmas.{course_of}
use Rattle.marked_runs.specs.Carried.{Carries}
use Rattle.marked_runs.specs.Moments.{IsMarked, IsSafe, StandsSynced}
use Rattle.marked_runs.specs.Performed.{Performs}
use Rattle.marked_runs.specs.Runs.{Runs, ended, is_done}
use Rattle.marked_runs.specs.declared.faults.PerformFault.{PerformFault}
use Rattle.marked_runs.proofs.CarriedLemmas.{both_unrefused}
use Rattle.marked_runs.proofs.StopLemmas.{leaves_weaker}
use Rattle.gated_marks.specs.Gates.{IsComplete}
use Rattle.gated_marks.specs.Left.{IsGatedToEnd, IsMarkLaid, IsUnder, IsUnderToEnd, with_mark}
use Rattle.gated_marks.proofs.BeginLemmas.{begun-after}
use Rattle.gated_marks.proofs.UnderLemmas.{body-under, end-told, laid-then, under-ended}
use Rattle.rewind_writes.specs.Plan.{IsFound, IsResumable, body_changes, mark_bytes, mark_gate, mark_head, mark_laid, plan_changes}
use Rattle.rewind_writes.specs.Steps.{FindAll}
use Rattle.rewind_writes.specs.Taken.{AllAreAsFound, EndsMarked, SyncsMarked, TakesBody}
use Rattle.rewind_writes.specs.declared.plan.Plan.{Plan}
use Rattle.rewind_writes.proofs.StepLemmas.{find-both, found-then, in-parts, parts-unrefused}

-- ---- under the mark

-- what is synced is what stands
standing : (synced : Contents) (moment : Moment) (r : Result (Unit {0}) PerformFault) → OnOk r (StandsSynced synced moment) → OnOk r (StandsSynced moment.state.contents moment)
standing synced moment (Ok u) stands = record { now = refl; left = λ c image. stands.left c image ∙ sym stands.now }
standing synced moment (Err e) stands = tt

module _ {F : Type 0} (tree : Ghosts F) (c : Contents) (plan : Plan) (old mid : F) where
  -- the changes under it ran, or a first part of them
  body-ran : (r : Result (Unit {0}) PerformFault) → TakesBody tree c plan.steps.items plan.label plan.control old mid r → IsTrue tree.tells → FindAll c (body_changes c plan ++ ended plan.mark) plan.steps.items
      → AllAreAsFound c (tree.contents old) plan.steps.items → first_refusal (tree.contents old) (body_changes c plan ++ ended plan.mark) ≡ None
      → Runs (body_changes c plan) (tree.calls old) (tree.calls mid) (tree.contents old) (tree.contents mid) (is_done r)
  body-ran r takes told found as_found none =
      (takes (find-both c (body_changes c plan) (ended plan.mark) plan.steps.items found).0 as_found told (both_unrefused (tree.contents old) (body_changes c plan) (ended plan.mark) none).0).runs

  -- and once they did, nothing refuses the end of the mark
  end-unrefused : (u : Unit {0}) → TakesBody tree c plan.steps.items plan.label plan.control old mid (Ok u) → IsTrue tree.tells → FindAll c (body_changes c plan ++ ended plan.mark) plan.steps.items
      → AllAreAsFound c (tree.contents old) plan.steps.items → first_refusal (tree.contents old) (body_changes c plan ++ ended plan.mark) ≡ None → first_refusal (tree.contents mid) (ended plan.mark) ≡ None
  end-unrefused u takes told found as_found none =
      ap (λ d. first_refusal d (ended plan.mark)) ((body-ran (Ok u) takes told found as_found none).after refl) ∙ (both_unrefused (tree.contents old) (body_changes c plan) (ended plan.mark) none).1

  pub ends-broken : (e : PerformFault) → TakesBody tree c plan.steps.items plan.label plan.control old mid (Err e) → Came tree old mid → EndsMarked tree c plan old mid
  ends-broken e takes came told found as_found none off before bytes stands =
      let ran = body-ran (Err e) takes told found as_found none in
      let under = body-under before plan.mark bytes (body_changes c plan) (moment_of tree old) (moment_of tree mid) false stands (course_of tree old mid came) ran off in
      leaves_weaker (IsUnder before plan.mark bytes (body_changes c plan)) (IsUnderToEnd before plan.mark bytes (body_changes c plan) (all_changed (with_mark before plan.mark bytes) (body_changes c plan ++ ended plan.mark)))
      (tree.stops old) (tree.stops mid) (λ d q. inl q) under.1

  pub ends-marked : (u : Unit {0}) (new : F) (r : Result (Unit {0}) PerformFault) → TakesBody tree c plan.steps.items plan.label plan.control old mid (Ok u) → Came tree old mid → Came tree mid new
      → Performs tree (ended plan.mark) mid new r → EndsMarked tree c plan old new
  ends-marked u new r takes came more ending told found as_found none off before bytes stands =
      let ran = body-ran (Ok u) takes told found as_found none in
      let rest = ending told (end-unrefused u takes told found as_found none) in
      under-ended before plan.mark bytes (body_changes c plan) (moment_of tree old) (moment_of tree mid) (moment_of tree new) (is_done r) stands (course_of tree old mid came) (course_of tree mid new more) ran off rest.runs

  pub syncs-marked : (u : Unit {0}) (new : F) (r : Result (Unit {0}) PerformFault) → TakesBody tree c plan.steps.items plan.label plan.control old mid (Ok u)
      → (IsTrue tree.tells → first_refusal (tree.contents mid) (ended plan.mark) ≡ None → OnOk r (StandsSynced (remove (tree.contents mid) plan.mark) (moment_of tree new)))
      → SyncsMarked tree c plan old new r
  syncs-marked u new r takes synced told found as_found none =
      standing (remove (tree.contents mid) plan.mark) (moment_of tree new) r (synced told (end-unrefused u takes told found as_found none))

-- ---- from its making on

-- what a plan begins with: nothing refuses its changes, and none under the mark is on it
abbrev pub Begins : {F : Type 0} → Ghosts F → List ℕ → Plan → F → (Contents → Type 0) → F → Type 0
Begins tree text plan old P new =
    IsTrue tree.tells → IsFound (tree.contents old) text plan → first_refusal (tree.contents old) (plan_changes (tree.contents old) text plan) ≡ None → list_any (is_on plan.mark) (body_changes (tree.contents old) plan) ≡ false
    → LeavesOnly P (tree.stops old) (tree.stops new)

-- while the mark is laid, under it, or all that was to be
abbrev pub IsRun : {F : Type 0} → Ghosts F → List ℕ → Plan → F → Contents → Type 0
IsRun tree text plan old = IsGatedToEnd (moment_of tree old) plan.mark mark_head mark_gate text (body_changes (tree.contents old) plan) (all_changed (tree.contents old) (plan_changes (tree.contents old) text plan))

module _ {F : Type 0} (tree : Ghosts F) (text : List ℕ) (plan : Plan) (old : F) where
  abbrev first : List Change
  first = mark_laid (tree.contents old) text plan

  abbrev rest : List Change
  rest = body_changes (tree.contents old) plan ++ ended plan.mark

  abbrev finished : Contents
  finished = all_changed (tree.contents old) (plan_changes (tree.contents old) text plan)

  abbrev laid : Contents → Type 0
  laid = IsMarkLaid (moment_of tree old) plan.mark mark_head mark_gate text

  abbrev whole : Contents
  whole = with_mark (tree.contents old) plan.mark (mark_bytes text)

  made : all_changed (tree.contents old) first ≡ whole
  made = begun-after (tree.contents old) plan.mark mark_head mark_gate text (omega arith)

  finished-is : all_changed whole rest ≡ finished
  finished-is = ap (λ k. all_changed k rest) (sym made) ∙ sym (changed-in_turn (tree.contents old) first rest) ∙ ap (all_changed (tree.contents old)) (sym (in-parts (tree.contents old) text plan))

  module _ (mid : F) (left : IsTrue tree.tells → first_refusal (tree.contents old) first ≡ None → LeavesOnly laid (tree.stops old) (tree.stops mid)) where
    begins : IsTrue tree.tells → first_refusal (tree.contents old) (plan_changes (tree.contents old) text plan) ≡ None → LeavesOnly laid (tree.stops old) (tree.stops mid)
    begins told none = left told (parts-unrefused (tree.contents old) text plan none).0

    pub run-broken : Begins tree text plan old (IsRun tree text plan old) mid
    run-broken told found none off = leaves_weaker laid (IsRun tree text plan old) (tree.stops old) (tree.stops mid) (λ d q. inl (inl q)) (begins told none)

    pub run-on : (u : Unit {0}) (new : F) → (IsTrue tree.tells → first_refusal (tree.contents old) first ≡ None → StandsSynced whole (moment_of tree mid)) → Carries tree first old mid (Ok u) → Came tree old mid → Came tree mid new
        → EndsMarked tree (tree.contents old) plan mid new → Begins tree text plan old (IsRun tree text plan old) new
    run-on u new stands carries came more ends told found none off =
        let two = parts-unrefused (tree.contents old) text plan none in
        let there = found-then tree text plan old mid u carries told found none in
        let after : tree.contents mid ≡ all_changed (tree.contents old) first = (carries told two.0).runs.after refl in
        let end = ends told there.0 there.1 (ap (λ d. first_refusal d rest) after ∙ two.1) off (tree.contents old) (mark_bytes text) (stands told two.0) in
        laid-then plan.mark mark_head mark_gate text (body_changes (tree.contents old) plan) finished (moment_of tree old) (moment_of tree mid) (moment_of tree new) (course_of tree old mid came) (course_of tree mid new more) (begins told none)
        (subst (λ k. LeavesOnly (IsUnderToEnd (tree.contents old) plan.mark (mark_bytes text) (body_changes (tree.contents old) plan) k) (tree.stops mid) (tree.stops new)) finished-is end)

  -- a file at the mark marks
  marked-by : (c : Contents) (bytes : List ℕ) → entry_at c plan.mark ≡ Some (FileEntry bytes) → IsMarked plan.mark c
  marked-by c bytes is = ap is_some is

  run-safe : Within (IsRun tree text plan old) (IsSafe plan.mark (moment_of tree old) finished)
  run-safe c (inl (inl (inl untouched))) = inl untouched
  run-safe c (inl (inl (inr but))) = inr (inl (marked-by c but.bytes (ap (λ k. entry_at k plan.mark) but.is ∙ entry-put but.before plan.mark (FileEntry but.bytes))))
  run-safe c (inl (inr under)) = inr (inl (marked-by c (mark_bytes text) under.holds))
  run-safe c (inr done) = inr (inr done)

  -- so a stop leaves the mark, ..
  pub safe-of : (new : F) → Begins tree text plan old (IsRun tree text plan old) new → Begins tree text plan old (IsSafe plan.mark (moment_of tree old) finished) new
  safe-of new begins told found none off =
      leaves_weaker (IsRun tree text plan old) (IsSafe plan.mark (moment_of tree old) finished) (tree.stops old) (tree.stops new) run-safe (begins told found none off)

  -- .. and from synced contents without a complete one what a resume goes on from
  pub resumable-of : (new : F) → Begins tree text plan old (IsRun tree text plan old) new → IsTrue tree.tells → IsFound (tree.contents old) text plan → first_refusal (tree.contents old) (plan_changes (tree.contents old) text plan) ≡ None
      → list_any (is_on plan.mark) (body_changes (tree.contents old) plan) ≡ false → StandsSynced (tree.contents old) (moment_of tree old) → (IsComplete mark_head mark_gate (bytes_at (tree.contents old) plan.mark) → ⊥)
      → LeavesOnly (IsResumable (tree.contents old) text plan) (tree.stops old) (tree.stops new)
  resumable-of new begins told found none off synced bare =
      leaves_weaker (IsRun tree text plan old) (IsResumable (tree.contents old) text plan) (tree.stops old) (tree.stops new)
      (λ c. end-told (moment_of tree old) plan.mark mark_head mark_gate text (body_changes (tree.contents old) plan) finished (tree.contents old) c synced bare) (begins told found none off)

  pub synced-on : (mid new : F) (u : Unit {0}) (r : Result (Unit {0}) PerformFault) → Carries tree first old mid (Ok u) → SyncsMarked tree (tree.contents old) plan mid new r
      → IsTrue tree.tells → IsFound (tree.contents old) text plan → first_refusal (tree.contents old) (plan_changes (tree.contents old) text plan) ≡ None → OnOk r (StandsSynced (tree.contents new) (moment_of tree new))
  synced-on mid new u r carries syncs told found none =
      let two = parts-unrefused (tree.contents old) text plan none in
      let after : tree.contents mid ≡ all_changed (tree.contents old) first = (carries told two.0).runs.after refl in
      let there = found-then tree text plan old mid u carries told found none in
      syncs told there.0 there.1 (ap (λ d. first_refusal d rest) after ∙ two.1)

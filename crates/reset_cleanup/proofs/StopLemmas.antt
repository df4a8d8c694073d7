-- What a stop at any moment of a reset may leave, part by part.
use Rattle.std.proofs.Common.{◌≡◌, ◌∙◌, ◌++◌, ℤ, IsTrue, List, false, true, length, codes, None, OnOk, refl, sym, ap, subst, inl, inr, ⊎_elim, Result, Ok, Err}
use Rattle.std.specs.FinMap.{remove}
use Rattle.std.specs.List.{list_any}
use Rattle.cluster_tree.specs.Change.{Change, all_changed, first_refusal, is_on}
use Rattle.cluster_tree.specs.Contents.{Contents, IsTree}
use Rattle.cluster_tree.specs.Frame.{Came, Reads, moment_of}
use Rattle.cluster_tree.specs.PathValue.{PathValue}
use Rattle.cluster_tree.specs.Run.{Moment}
use Rattle.cluster_tree.specs.Stops.{LeavesOnly}
use Rattle.cluster_tree.specs.declared.tree.Tree.{Ghosts}
use Rattle.cluster_tree.proofs.ChangeLemmas.{changed-in_turn}
use Rattle.cluster_tree.proofs.Images.{holds_first, leaves_only}
use Rattle.cluster_tree.proofs.RunLemmas.{course_of}
use Rattle.control_file.specs.Writing.{control_bytes}
use Rattle.control_file.specs.declared.control.Control.{Control}
use Rattle.marked_runs.specs.Carried.{Carries}
use Rattle.marked_runs.specs.Moments.{IsBegun, IsEnded, IsMarked, IsUntouched, StandsMarked, StandsSynced}
use Rattle.marked_runs.specs.Performed.{Performs}
use Rattle.marked_runs.specs.Runs.{begun, ended}
use Rattle.marked_runs.specs.declared.faults.PerformFault.{PerformFault}
use Rattle.marked_runs.proofs.CarriedLemmas.{both_unrefused}
use Rattle.marked_runs.proofs.StopLemmas.{body-left, body-stands, leaves_on, leaves_weaker}
use Rattle.reset_numbers.specs.declared.options.ResetOptions.{ResetOptions}
use Rattle.reset_plan.specs.Plan.{body_changes, plan_changes}
use Rattle.reset_plan.specs.Prepared.{reset_by}
use Rattle.reset_plan.specs.Reset.{reset_of}
use Rattle.reset_plan.specs.declared.plan.Plan.{Plan}
use Rattle.reset_plan.specs.declared.plan.Prepared.{Prepared}
use Rattle.reset_plan.specs.declared.plan.Prepared.TheVariants.{Dry, Ready}
use Rattle.reset_cleanup.specs.Stopping.{IsLeft, IsOffMark, IsPerformed, IsPreparedLeft}
use Rattle.reset_cleanup.proofs.MeantLemmas.{after-reset, ready-of}

-- ---- the body, and the end of the mark

module _ {F : Type 0} (tree : Ghosts F) (mark : PathValue) (body : List Change) (told : IsTrue tree.tells) (a b : F) (none : first_refusal (tree.contents a) (body ++ ended mark) ≡ None) (off : list_any (is_on mark) body ≡ false) (stands : StandsMarked mark (moment_of tree a)) (came : Came tree a b) where
  pub body-broken : (e : PerformFault) → Performs tree body a b (Err e) → LeavesOnly (IsEnded mark (all_changed (tree.contents a) (body ++ ended mark))) (tree.stops a) (tree.stops b)
  body-broken e performs =
      leaves_weaker (IsMarked mark) (IsEnded mark (all_changed (tree.contents a) (body ++ ended mark))) (tree.stops a) (tree.stops b) (λ c m. inl m)
      (body-left mark body (moment_of tree a) (moment_of tree b) false stands (course_of tree a b came) (performs told (both_unrefused (tree.contents a) body (ended mark) none).0).runs off)

  pub body-ended : (d : F) (u : Unit {0}) → Performs tree body a b (Ok u) → Came tree b d → (StandsMarked mark (moment_of tree b) → LeavesOnly (IsEnded mark (remove (tree.contents b) mark)) (tree.stops b) (tree.stops d))
      → LeavesOnly (IsEnded mark (all_changed (tree.contents a) (body ++ ended mark))) (tree.stops a) (tree.stops d)
  body-ended d u performs more left =
      let P : Contents → Type 0 = IsEnded mark (all_changed (tree.contents a) (body ++ ended mark)) in
      let ran = (performs told (both_unrefused (tree.contents a) body (ended mark) none).0).runs in
      let all : remove (tree.contents b) mark ≡ all_changed (tree.contents a) (body ++ ended mark) = ap (λ c. remove c mark) (ran.after refl) ∙ sym (changed-in_turn (tree.contents a) body (ended mark)) in
      leaves_on P (moment_of tree a) (moment_of tree b) (moment_of tree d) (course_of tree a b came) (course_of tree b d more)
      (leaves_weaker (IsMarked mark) P (tree.stops a) (tree.stops b) (λ c m. inl m) (body-left mark body (moment_of tree a) (moment_of tree b) true stands (course_of tree a b came) ran off))
      (leaves_weaker (IsEnded mark (remove (tree.contents b) mark)) P (tree.stops b) (tree.stops d) (λ c. ⊎_elim (λ m. inl m) (λ e. inr (e ∙ all))) (left (body-stands mark body (moment_of tree a) (moment_of tree b) true stands (course_of tree a b came) ran off)))

-- ---- once they are done, a stop leaves what stands

standing : (synced : Contents) (moment : Moment) (r : Result (Unit {0}) PerformFault) → OnOk r (StandsSynced synced moment) → OnOk r (StandsSynced moment.state.contents moment)
standing synced moment (Ok u) stands = record { now = refl; left = λ c image. stands.left c image ∙ sym stands.now }
standing synced moment (Err e) stands = tt

pub body-synced : {F : Type 0} (tree : Ghosts F) (mark : PathValue) (body : List Change) (told : IsTrue tree.tells) (a b d : F) (u : Unit {0}) (r : Result (Unit {0}) PerformFault)
    → first_refusal (tree.contents a) (body ++ ended mark) ≡ None → Performs tree body a b (Ok u)
    → (first_refusal (tree.contents b) (ended mark) ≡ None → OnOk r (StandsSynced (remove (tree.contents b) mark) (moment_of tree d))) → OnOk r (StandsSynced (tree.contents d) (moment_of tree d))
body-synced tree mark body told a b d u r none performs synced =
    let two = both_unrefused (tree.contents a) body (ended mark) none in
    let after : tree.contents b ≡ all_changed (tree.contents a) body = (performs told two.0).runs.after refl in
    standing (remove (tree.contents b) mark) (moment_of tree d) r (synced (ap (λ c. first_refusal c (ended mark)) after ∙ two.1))

-- what holds where the rest isn't refused behind the mark
pub plan-synced : {F : Type 0} (tree : Ghosts F) (plan : Plan) (told : IsTrue tree.tells) (a b : F) (u : Unit {0}) (P : Type 0)
    → first_refusal (tree.contents a) (plan_changes plan) ≡ None → Carries tree (begun plan.mark (codes "pg_resetwal 1\n")) a b (Ok u)
    → (first_refusal (tree.contents b) (body_changes plan.body ++ ended plan.mark) ≡ None → P) → P
plan-synced tree plan told a b u P none carries held =
    let first = begun plan.mark (codes "pg_resetwal 1\n") in
    let rest = body_changes plan.body ++ ended plan.mark in
    let two = both_unrefused (tree.contents a) first rest none in
    let after : tree.contents b ≡ all_changed (tree.contents a) first = (carries told two.0).runs.after refl in
    held (ap (λ c. first_refusal c rest) after ∙ two.1)

-- ---- before them the mark

module _ {F : Type 0} (tree : Ghosts F) (plan : Plan) (told : IsTrue tree.tells) (a b : F) (none : first_refusal (tree.contents a) (plan_changes plan) ≡ None) (made : first_refusal (tree.contents a) (begun plan.mark (codes "pg_resetwal 1\n")) ≡ None → LeavesOnly (IsBegun plan.mark (moment_of tree a)) (tree.stops a) (tree.stops b)) where
  pub plan-broken : LeavesOnly (IsPerformed plan (moment_of tree a)) (tree.stops a) (tree.stops b)
  plan-broken =
      leaves_weaker (IsBegun plan.mark (moment_of tree a)) (IsPerformed plan (moment_of tree a)) (tree.stops a) (tree.stops b) (λ c. ⊎_elim (λ u. inl u) (λ m. inr (inl m)))
      (made (both_unrefused (tree.contents a) (begun plan.mark (codes "pg_resetwal 1\n")) (body_changes plan.body ++ ended plan.mark) none).0)

  pub plan-left : (d : F) (u : Unit {0}) → Carries tree (begun plan.mark (codes "pg_resetwal 1\n")) a b (Ok u) → Came tree a b → Came tree b d → length (control_bytes plan.body.control) ≡ 8192
      → (first_refusal (tree.contents a) (begun plan.mark (codes "pg_resetwal 1\n")) ≡ None → StandsMarked plan.mark (moment_of tree b))
      → (first_refusal (tree.contents b) (body_changes plan.body ++ ended plan.mark) ≡ None → StandsMarked plan.mark (moment_of tree b)
      → LeavesOnly (IsEnded plan.mark (all_changed (tree.contents b) (body_changes plan.body ++ ended plan.mark))) (tree.stops b) (tree.stops d))
      → LeavesOnly (IsPerformed plan (moment_of tree a)) (tree.stops a) (tree.stops d)
  plan-left d u carries came more size stands left =
      let P : Contents → Type 0 = IsPerformed plan (moment_of tree a) in
      let first = begun plan.mark (codes "pg_resetwal 1\n") in
      let rest = body_changes plan.body ++ ended plan.mark in
      let two = both_unrefused (tree.contents a) first rest none in
      let after : tree.contents b ≡ all_changed (tree.contents a) first = (carries told two.0).runs.after refl in
      let all : all_changed (tree.contents b) rest ≡ all_changed (tree.contents a) (plan_changes plan) = ap (λ c. all_changed c rest) after ∙ sym (changed-in_turn (tree.contents a) first rest) in
      leaves_on P (moment_of tree a) (moment_of tree b) (moment_of tree d) (course_of tree a b came) (course_of tree b d more) plan-broken
      (leaves_weaker (IsEnded plan.mark (all_changed (tree.contents b) rest)) P (tree.stops b) (tree.stops d) (λ c. ⊎_elim (λ m. inr (inl m)) (λ e. inr (inr (record { is = e ∙ all; size = size }))))
      (left (ap (λ c. first_refusal c rest) after ∙ two.1) (stands two.0)))

-- ---- what was looked at

-- what only reads leaves all untouched
pub reads-leave : {F : Type 0} (tree : Ghosts F) (P : Contents → Type 0) (a b : F) → Reads tree a b → ((c : Contents) → IsUntouched (moment_of tree a) c → P c) → LeavesOnly P (tree.stops a) (tree.stops b)
reads-leave tree P a b reads within =
    subst (λ s. LeavesOnly P (tree.stops a) s) (sym reads.unstopped)
    (leaves_only P (IsUntouched (moment_of tree a)) (moment_of tree a) (moment_of tree a) (holds_first P (IsUntouched (moment_of tree a)) (moment_of tree a) (inl refl) (λ c left. inr left)) within)

pub dry-left : {F : Type 0} (tree : Ghosts F) (p : Prepared) (control : Control) (a : F) → p ≡ Dry control → LeavesOnly (IsPreparedLeft p (moment_of tree a)) (tree.stops a) (tree.stops a)
dry-left tree p control a is =
    let P : Contents → Type 0 = IsUntouched (moment_of tree a) in
    subst (λ (q : Prepared). LeavesOnly (IsPreparedLeft q (moment_of tree a)) (tree.stops a) (tree.stops a)) (sym is)
    (leaves_only P P (moment_of tree a) (moment_of tree a) (holds_first P P (moment_of tree a) (inl refl) (λ c left. inr left)) (λ c u. u))

pub ready-left : {F : Type 0} (tree : Ghosts F) (p : Prepared) (plan : Plan) (a b : F) → p ≡ Ready plan
    → (first_refusal (tree.contents a) (plan_changes plan) ≡ None → list_any (is_on plan.mark) (body_changes plan.body) ≡ false → LeavesOnly (IsPerformed plan (moment_of tree a)) (tree.stops a) (tree.stops b))
    → first_refusal (tree.contents a) (reset_by p).changes ≡ None → IsOffMark p → LeavesOnly (IsPreparedLeft p (moment_of tree a)) (tree.stops a) (tree.stops b)
ready-left tree p plan a b is left =
    subst (λ (q : Prepared). first_refusal (tree.contents a) (reset_by q).changes ≡ None → IsOffMark q → LeavesOnly (IsPreparedLeft q (moment_of tree a)) (tree.stops a) (tree.stops b)) (sym is) left

pub ready-synced : (P : Type 0) (c : Contents) (p : Prepared) (plan : Plan) → p ≡ Ready plan → (first_refusal c (plan_changes plan) ≡ None → P) → first_refusal c (reset_by p).changes ≡ None → P
ready-synced P c p plan is held = subst (λ (q : Prepared). first_refusal c (reset_by q).changes ≡ None → P) (sym is) held

-- ---- and what is meant

module _ (c : Contents) (root : PathValue) (options : ResetOptions) (now : ℤ) (tree : IsTree c) where
  pub off-mark : (p : Prepared) → reset_of c root options now ≡ Ok (reset_by p) → IsOffMark p
  off-mark (Dry control) meant = tt
  off-mark (Ready plan) meant = (ready-of c root options now plan tree meant).off

  within : (p : Prepared) (first : Moment) → first.state.contents ≡ c → reset_of c root options now ≡ Ok (reset_by p) → (x : Contents) → IsPreparedLeft p first x → IsLeft root options now first x
  within (Dry control) first here meant x left = inl left
  within (Ready plan) first here meant x (inl untouched) = inl untouched
  within (Ready plan) first here meant x (inr left) =
      let ready = ready-of c root options now plan tree meant in
      let again : reset_of first.state.contents root options now ≡ Ok (reset_by (Ready plan)) = ap (λ y. reset_of y root options now) here ∙ meant in
      inr (record {
        wet = ready.wet;
        reset = reset_by (Ready plan);
        meant = again;
        left = ⊎_elim (λ m. inl (subst (λ q. IsMarked q x) ready.mark m))
            (λ w. inr (record {
              is = w.is;
              after = after-reset first.state.contents x root options now (reset_by (Ready plan)) plan.body.control (subst IsTree (sym here) tree) ready.wet again refl w.size w.is;
            })) left;
      })

  pub meant-left : {F : Type 0} (t : Ghosts F) (p : Prepared) (a b d : F) → t.contents a ≡ c → reset_of c root options now ≡ Ok (reset_by p) → Reads t a b → LeavesOnly (IsPreparedLeft p (moment_of t b)) (t.stops b) (t.stops d) → LeavesOnly (IsLeft root options now (moment_of t a)) (t.stops a) (t.stops d)
  meant-left t p a b d here meant reads left =
      let same : moment_of t b ≡ moment_of t a = λ i. record { state = record { contents = reads.same i; calls = reads.uncalled i }; stops = reads.unstopped i } in
      leaves_weaker (IsPreparedLeft p (moment_of t a)) (IsLeft root options now (moment_of t a)) (t.stops a) (t.stops d) (within p (moment_of t a) here meant)
      (subst (λ (m : Moment). LeavesOnly (IsPreparedLeft p m) m.stops (t.stops d)) same left)

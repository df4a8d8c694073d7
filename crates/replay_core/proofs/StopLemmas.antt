-- What a stop may leave of the parts of a replay.
use Rattle.std.proofs.Common.{Option, ◌≡◌, ◌≢◌, ◌∙◌, ℕ, Bool, true, false, cond, List, [], ◌∷◌, ◌++◌, length, None, Some, is_some, option_map, Result, Ok, Err, OnOk, inl, inr, ⊎_elim, refl, sym, ap, subst, true≢false, append_assoc, append-nil}
use Rattle.std.specs.FinMap.{remove}
use Rattle.block_replay.specs.World.{least_name}
use Rattle.cluster_tree.specs.Causes.{given, unless}
use Rattle.cluster_tree.specs.Change.{all_changed, first_refusal}
use Rattle.cluster_tree.specs.Contents.{Contents}
use Rattle.cluster_tree.specs.Frame.{Came, Reads, moment_of}
use Rattle.cluster_tree.specs.Laws.{changed_path}
use Rattle.cluster_tree.specs.Marks.{is_there, marks_of}
use Rattle.cluster_tree.specs.PathValue.{PathValue}
use Rattle.cluster_tree.specs.Run.{Moment, Course}
use Rattle.cluster_tree.specs.Stops.{Stops, LeavesOnly, MayBeLeft}
use Rattle.cluster_tree.specs.declared.tree.ChangeCall.{ChangeCall}
use Rattle.cluster_tree.specs.declared.tree.Tree.{Ghosts}
use Rattle.cluster_tree.proofs.Images.{Each, HoldsSince, KeptBy, holds_first, holds_run, leaves_only}
use Rattle.cluster_tree.proofs.RunLemmas.{course_of}
use Rattle.cluster_tree.proofs.StepLemmas.{step-elsewhere}
use Rattle.clusters.specs.Marks.{unfinished, with_mark}
use Rattle.clusters.specs.RootControl.{control_at}
use Rattle.clusters.specs.declared.fault.ClusterFault.TheVariants as cluster
use Rattle.control_file.specs.Reading.{timeline_of}
use Rattle.control_file.specs.declared.control.Control.{Control}
use Rattle.file_edits.specs.Own.{GoesOn, Same, More, OnOwn, is_on as is_on_own, is_own}
use Rattle.file_effects.specs.Own.{is_replayed}
use Rattle.marked_runs.specs.Moments.{IsBegun, IsEnded, IsMarked, IsUntouched, StandsMarked, StandsSynced}
use Rattle.marked_runs.specs.Runs.{Runs, begun}
use Rattle.marked_runs.specs.declared.faults.PerformFault.{PerformFault}
use Rattle.marked_runs.proofs.StopLemmas.{body-left, body-stands, leaves_on, leaves_weaker}
use Rattle.replay_control.specs.Following.{control_left}
use Rattle.replay_start.specs.Checked.{Start, from_control, start_of}
use Rattle.replay_start.specs.Faults.{told_by}
use Rattle.replay_start.specs.declared.fault.ReplayFault.{ReplayFault}
use Rattle.replay_start.specs.declared.fault.ReplayFault.TheVariants as fault
use Rattle.replay_world.specs.Records.{records_after}
use Rattle.replay_world.specs.World.{World}
use Rattle.replay_core.specs.Faults.{recorded}
use Rattle.replay_core.specs.Replayed.{After, after_replay, beginning, closed, closed_or, closing, closing_files, end_of, first_world, mark_of, mark_text, replayed_into}
use Rattle.replay_core.specs.Stops.{IsDurable, IsLeft, IsMarkedOrDone, MarkIsRefused, first_standing}
use Rattle.replay_core.proofs.EndLemmas.{files-off}
use Rattle.replay_core.proofs.PathLemmas.{mark-kept}
use Rattle.rmgr_hooks.specs.Custom.{Extension}

-- ---- calls at other paths than a mark's

pub own-apart : (own : PathValue → Bool) (path : PathValue) (call : ChangeCall) → own path ≡ false → is_own own call ≡ true → changed_path call ≢ Some path
own-apart own path call off is = λ same. true≢false (sym is ∙ ap (is_on_own own) same ∙ off)

each-last : {A : Type 0} (P : A → Type 0) (xs : List A) (x : A) → Each P xs → P x → Each P (xs ++ x ∷ [])
each-last P [] x all last = (last, tt)
each-last P (y ∷ xs) x all last = (all.0, each-last P xs x all.1 last)

module _ (Q : Contents → Type 0) (own : PathValue → Bool) (keeps : (call : ChangeCall) → is_own own call ≡ true → KeptBy Q call) where
  goes-kept : (old new : List ChangeCall) → GoesOn own old new → (xs : List ChangeCall) × (new ≡ old ++ xs) × Each (KeptBy Q) xs
  goes-kept old _ Same = ([], sym (append-nil old), tt)
  goes-kept old _ (More {mid} call before is grew) =
      let (xs, e, all) = goes-kept old mid before in
      (xs ++ call ∷ [], grew ∙ ap (λ l. l ++ call ∷ []) e ∙ append_assoc old xs (call ∷ []), each-last (KeptBy Q) xs call all (keeps call is))

  -- what own calls keep holds behind them, and of all that a stop at any moment of them leaves
  pub own_holds : (a b : Moment) → Q a.state.contents → ((c : Contents) → MayBeLeft a.stops c → Q c) → Course a b → GoesOn own a.state.calls b.state.calls → HoldsSince Q Q a b
  own_holds a b now left course goes =
      let (xs, grew, kept) = goes-kept a.state.calls b.state.calls goes in
      holds_run Q Q a a b xs (holds_first Q Q a now left) (λ c q. q) course grew kept

own-keeps : (own : PathValue → Bool) (mark : PathValue) → own mark ≡ false → (call : ChangeCall) → is_own own call ≡ true → KeptBy (IsMarked mark) call
own-keeps own mark off call is c d marked step = ap is_some (step-elsewhere call c d mark step (own-apart own mark call off is)) ∙ marked

own-holds : (own : PathValue → Bool) (mark : PathValue) (a b : Moment) → own mark ≡ false → StandsMarked mark a → Course a b → GoesOn own a.state.calls b.state.calls → HoldsSince (IsMarked mark) (IsMarked mark) a b
own-holds own mark a b off stands = own_holds (IsMarked mark) own (own-keeps own mark off) a b stands.now stands.left

-- a mark that stands in all that a stop may leave does so behind them, and a stop at any moment of them leaves it
pub own-stands : (own : PathValue → Bool) (mark : PathValue) (a b : Moment) → own mark ≡ false → StandsMarked mark a → Course a b → GoesOn own a.state.calls b.state.calls → StandsMarked mark b
own-stands own mark a b off stands course goes = let h = own-holds own mark a b off stands course goes in record { now = h.now; left = h.left }

pub own-left : (own : PathValue → Bool) (mark : PathValue) (a b : Moment) → own mark ≡ false → StandsMarked mark a → Course a b → GoesOn own a.state.calls b.state.calls → LeavesOnly (IsMarked mark) a.stops b.stops
own-left own mark a b off stands course goes = leaves_only (IsMarked mark) (IsMarked mark) a b (own-holds own mark a b off stands course goes) (λ c q. q)

-- ---- where nothing is changed

untouched-still : (a : Moment) → LeavesOnly (IsUntouched a) a.stops a.stops
untouched-still a = leaves_only (IsUntouched a) (IsUntouched a) a a (holds_first (IsUntouched a) (IsUntouched a) a (inl refl) (λ c image. inr image)) (λ c q. q)

pub nothing-left : (root : PathValue) (a : Moment) (meant : Result After ReplayFault) → LeavesOnly (IsLeft root a meant) a.stops a.stops
nothing-left root a meant = leaves_weaker (IsUntouched a) (IsLeft root a meant) a.stops a.stops (λ c u. inl u) (untouched-still a)

-- ---- the changes at the end

-- where all is done, a stop leaves what stands
pub durable : (synced : Contents) (moment : Moment) (r : Result (Unit {0}) PerformFault) → OnOk r (StandsSynced synced moment) → OnOk r (IsDurable moment)
durable synced moment (Ok u) stands = record { now = refl; left = λ c image. stands.left c image ∙ sym stands.now }
durable synced moment (Err e) stands = tt

module _ {F : Type 0} (tree : Ghosts F) (root : PathValue) (k : Control) (a b : F) (came : Came tree a b) (marked : StandsMarked (mark_of root) (moment_of tree a)) (done : Bool) (ran : Runs (closing_files root k) (tree.calls a) (tree.calls b) (tree.contents a) (tree.contents b) done) where
  files-left : LeavesOnly (IsMarked (mark_of root)) (tree.stops a) (tree.stops b)
  files-left = body-left (mark_of root) (closing_files root k) (moment_of tree a) (moment_of tree b) done marked (course_of tree a b came) ran (files-off root k)

  -- the mark is there
  pub files-marked : (meant : Result After ReplayFault) → LeavesOnly (IsMarkedOrDone root meant) (tree.stops a) (tree.stops b)
  files-marked meant = leaves_weaker (IsMarked (mark_of root)) (IsMarkedOrDone root meant) (tree.stops a) (tree.stops b) (λ c m. inl m) files-left

  -- or all is done
  pub close-left : (mark : PathValue) (d : F) → mark ≡ mark_of root → done ≡ true → Came tree b d
      → (StandsMarked mark (moment_of tree b) → LeavesOnly (IsEnded mark (remove (tree.contents b) mark)) (tree.stops b) (tree.stops d))
      → LeavesOnly (IsEnded (mark_of root) (all_changed (tree.contents a) (closing root k))) (tree.stops a) (tree.stops d)
  close-left mark d is all other left =
      let own = mark_of root in
      let Ends : Contents → Type 0 = IsEnded own (all_changed (tree.contents a) (closing root k)) in
      let stands = body-stands own (closing_files root k) (moment_of tree a) (moment_of tree b) done marked (course_of tree a b came) ran (files-off root k) in
      let last : LeavesOnly (IsEnded own (remove (tree.contents b) own)) (tree.stops b) (tree.stops d)
      = subst (λ m. StandsMarked m (moment_of tree b) → LeavesOnly (IsEnded m (remove (tree.contents b) m)) (tree.stops b) (tree.stops d)) is left stands in
      leaves_on Ends (moment_of tree a) (moment_of tree b) (moment_of tree d) (course_of tree a b came) (course_of tree b d other)
      (leaves_weaker (IsMarked own) Ends (tree.stops a) (tree.stops b) (λ c m. inl m) files-left)
      (subst (λ c. LeavesOnly (IsEnded own c) (tree.stops b) (tree.stops d)) (ap (λ c. remove c own) (ran.after all)) last)

-- ---- what is meant

-- nothing is missing behind the last record
pub closed-left : (root : PathValue) (tli n e : ℕ) (w : World) (k : Control) (a d : Stops) → least_name w.skipped ≡ None → k ≡ control_left tli e w.control → LeavesOnly (IsEnded (mark_of root) (all_changed w.files (closing root k))) a d
    → LeavesOnly (IsMarkedOrDone root (closed_or root tli n e w)) a d
closed-left root tli n e w k a d none is left =
    let meant : closed_or root tli n e w ≡ Ok (closed root tli n e w) = ap (λ o. unless (option_map fault.MissingPage o) (Ok (closed root tli n e w))) none in
    leaves_weaker (IsEnded (mark_of root) (all_changed w.files (closing root k))) (IsMarkedOrDone root (closed_or root tli n e w)) a d
    (λ c. ⊎_elim (λ m. inl m) (λ done. inr (closed root tli n e w, meant, done ∙ ap (λ (x : Control). all_changed w.files (closing root x)) is))) left

-- all records were replayed
pub replayed-meant : (custom : Option Extension) (root : PathValue) (s : Start) (w v : World) (tli n e : ℕ) → records_after custom root s.control.relseg s.records w ≡ Ok v → tli ≡ timeline_of s.control → n ≡ length s.records → e ≡ end_of s → closed_or root tli n e v ≡ replayed_into custom root s w
replayed-meant custom root s w v tli n e all time count end =
    ap (λ x. closed_or root x n e v) time ∙ ap (λ x. closed_or root (timeline_of s.control) x e v) count ∙ ap (λ x. closed_or root (timeline_of s.control) (length s.records) x v) end
    ∙ sym (ap (λ r. given (recorded r) (closed_or root (timeline_of s.control) (length s.records) (end_of s))) all)

module _ {F : Type 0} (tree : Ghosts F) (root : PathValue) (a b : F) (came : Came tree a b) (own : OnOwn tree.calls (is_replayed root) a b) (marked : StandsMarked (mark_of root) (moment_of tree a)) where
  goes : GoesOn (is_replayed root) (tree.calls a) (tree.calls b)
  goes = own (tree.calls a) Same

  pub records-stand : StandsMarked (mark_of root) (moment_of tree b)
  records-stand = own-stands (is_replayed root) (mark_of root) (moment_of tree a) (moment_of tree b) (mark-kept root) marked (course_of tree a b came) goes

  pub records-left : (meant : Result After ReplayFault) → LeavesOnly (IsMarkedOrDone root meant) (tree.stops a) (tree.stops b)
  records-left meant =
      leaves_weaker (IsMarked (mark_of root)) (IsMarkedOrDone root meant) (tree.stops a) (tree.stops b) (λ c m. inl m)
      (own-left (is_replayed root) (mark_of root) (moment_of tree a) (moment_of tree b) (mark-kept root) marked (course_of tree a b came) goes)

  -- and then the end
  pub records-then : (meant other : Result After ReplayFault) (d : F) → Came tree b d → other ≡ meant → LeavesOnly (IsMarkedOrDone root other) (tree.stops b) (tree.stops d) → LeavesOnly (IsMarkedOrDone root meant) (tree.stops a) (tree.stops d)
  records-then meant other d more same left =
      leaves_on (IsMarkedOrDone root meant) (moment_of tree a) (moment_of tree b) (moment_of tree d) (course_of tree a b came) (course_of tree b d more) (records-left meant)
      (subst (λ m. LeavesOnly (IsMarkedOrDone root m) (tree.stops b) (tree.stops d)) same left)

-- ---- the whole

module _ {F : Type 0} (tree : Ghosts F) (root mark : PathValue) (meant : Result After ReplayFault) (a b : F) (is : mark ≡ mark_of root) (begun : LeavesOnly (IsBegun mark (moment_of tree a)) (tree.stops a) (tree.stops b)) where
  pub begun-left : LeavesOnly (IsLeft root (moment_of tree a) meant) (tree.stops a) (tree.stops b)
  begun-left =
      leaves_weaker (IsBegun mark (moment_of tree a)) (IsLeft root (moment_of tree a) meant) (tree.stops a) (tree.stops b)
      (λ c. ⊎_elim (λ u. inl u) (λ m. inr (inl (subst (λ p. IsMarked p c) is m)))) begun

  pub begun-then : (other : Result After ReplayFault) (d : F) → Came tree a b → Came tree b d → other ≡ meant → LeavesOnly (IsMarkedOrDone root other) (tree.stops b) (tree.stops d) → LeavesOnly (IsLeft root (moment_of tree a) meant) (tree.stops a) (tree.stops d)
  begun-then other d one more same left =
      leaves_on (IsLeft root (moment_of tree a) meant) (moment_of tree a) (moment_of tree b) (moment_of tree d) (course_of tree a b one) (course_of tree b d more) begun-left
      (leaves_weaker (IsMarkedOrDone root meant) (IsLeft root (moment_of tree a) meant) (tree.stops b) (tree.stops d) (λ c m. inr m)
      (subst (λ m. LeavesOnly (IsMarkedOrDone root m) (tree.stops b) (tree.stops d)) same left))

-- the mark isn't refused at its path either
pub begun-unrefused : (c : Contents) (root mark : PathValue) → mark ≡ mark_of root → first_refusal c (beginning root) ≡ None → first_refusal c (begun mark mark_text) ≡ None
begun-unrefused c root mark is none = subst (λ m. first_refusal c (begun m mark_text) ≡ None) (sym is) none

-- what only reads leaves the moment
pub reads-moment : {F : Type 0} (tree : Ghosts F) (a b : F) → Reads tree a b → moment_of tree b ≡ moment_of tree a
reads-moment tree a b reads = λ i. record { state = record { contents = reads.same i; calls = reads.uncalled i }; stops = reads.unstopped i }

pub checked-left : {F : Type 0} (tree : Ghosts F) (root : PathValue) (meant other : Result After ReplayFault) (a b d : F) → Reads tree a b → other ≡ meant → LeavesOnly (IsLeft root (moment_of tree b) other) (tree.stops b) (tree.stops d)
    → LeavesOnly (IsLeft root (moment_of tree a) meant) (tree.stops a) (tree.stops d)
checked-left tree root meant other a b d reads same left =
    subst (λ (m : Moment). LeavesOnly (IsLeft root m meant) m.stops (tree.stops d)) (reads-moment tree a b reads)
    (subst (λ r. LeavesOnly (IsLeft root (moment_of tree b) r) (tree.stops b) (tree.stops d)) same left)

pub refused-left : {F : Type 0} (tree : Ghosts F) (root : PathValue) (meant : Result After ReplayFault) (a b : F) → Reads tree a b → LeavesOnly (IsLeft root (moment_of tree a) meant) (tree.stops a) (tree.stops b)
refused-left tree root meant a b reads = checked-left tree root meant meant a b b reads refl (nothing-left root (moment_of tree b) meant)

-- ---- a marked cluster is refused

standing-first : (root : PathValue) (c : Contents) → IsMarked (mark_of root) c → unfinished c root ≡ Some (cluster.Unfinished (first_standing c root))
unfolding unfinished
standing-first root c marked = by (is_there c (marks_of root).rewind)
  where
    by : (b : Bool) → with_mark (marks_of root) (cond b (Some 0) (cond (is_there c (marks_of root).replay) (Some 1) (cond (is_there c (marks_of root).reset) (Some 2) None))) ≡ Some (cluster.Unfinished (cond b (marks_of root).rewind (mark_of root)))
    by true = refl
    by false = ap (λ b. with_mark (marks_of root) (cond b (Some 1) (cond (is_there c (marks_of root).reset) (Some 2) None))) marked

pub mark-found : (custom : Option Extension) (root : PathValue) (c : Contents) → IsMarked (mark_of root) c → start_of custom c root ≡ told_by (Err (cluster.Unfinished (first_standing c root)))
unfolding start_of
mark-found custom root c marked = ap (λ o. unless (option_map fault.Cluster o) (given (told_by (control_at c root)) (from_control custom c root))) (standing-first root c marked)

pub mark-refused : MarkIsRefused
unfolding after_replay
mark-refused custom root c marked = ap (λ r. given r (λ s. replayed_into custom root s (first_world c root s))) (mark-found custom root c marked)

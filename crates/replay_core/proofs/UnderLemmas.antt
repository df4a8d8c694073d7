-- A replay under a mark that its caller laid: where its changes go, and what that leaves as it was.
use Rattle.std.proofs.Common.{◌≡◌, ◌∙◌, ◌||◌, ◌<◌, inl, inr, ℕ, Bool, true, false, [], length, Option, Result, Ok, Err, refl, sym, ap, subst, true≢false, List, codes, bytes_eq}
use Rattle.block_refs.specs.declared.names.BlockName.{BlockName}
use Rattle.cluster_tree.specs.Causes.{given}
use Rattle.cluster_tree.specs.Contents.{Contents, entry_at}
use Rattle.cluster_tree.specs.Frame.{Came, moment_of}
use Rattle.cluster_tree.specs.PathOrder.{path_eq}
use Rattle.cluster_tree.specs.PathValue.{PathValue}
use Rattle.cluster_tree.specs.Run.{Still, state_by}
use Rattle.cluster_tree.specs.Stops.{LeavesOnly}
use Rattle.cluster_tree.specs.declared.tree.ChangeCall.{ChangeCall}
use Rattle.cluster_tree.specs.declared.tree.Tree.{Ghosts}
use Rattle.cluster_tree.proofs.Images.{KeptBy, leaves_only}
use Rattle.cluster_tree.proofs.OrderLemmas.{path_eq-own}
use Rattle.cluster_tree.proofs.RunLemmas.{course_of}
use Rattle.cluster_tree.proofs.StepLemmas.{step-elsewhere}
use Rattle.control_file.specs.Reading.{timeline_of}
use Rattle.control_file.specs.declared.control.Control.{Control}
use Rattle.file_edits.specs.Own.{OnOwn, Same, is_on, is_own}
use Rattle.file_edits.specs.Sparing.{Spares}
use Rattle.file_edits.proofs.LawLemmas.{own-elsewhere}
use Rattle.file_edits.proofs.OwnLemmas.{goes_on, own-wider}
use Rattle.file_effects.specs.Own.{is_apart, is_at, is_replayed}
use Rattle.file_effects.specs.Touched.{IsOfMain}
use Rattle.file_effects.proofs.ApartLemmas.{others-not-replayed}
use Rattle.marked_runs.specs.Moments.{StandsSynced}
use Rattle.marked_runs.specs.Runs.{Runs}
use Rattle.replay_start.specs.Checked.{Start}
use Rattle.replay_start.specs.declared.fault.ReplayFault.{ReplayFault}
use Rattle.replay_world.specs.Records.{records_after}
use Rattle.replay_world.specs.World.{World}
use Rattle.replay_core.specs.Faults.{recorded}
use Rattle.replay_core.specs.Replayed.{After, closing_files, control_path, end_of, label_path}
use Rattle.replay_core.specs.Steps.{BreaksOff}
use Rattle.replay_core.specs.Under.{SameBesideReplay, is_changed_by_replay, left_under_or, replayed_under, world_under}
use Rattle.replay_core.specs.Went.{Answers, IsCause}
use Rattle.replay_core.specs.declared.outcome.Replayed.{Replayed}
use Rattle.replay_core.proofs.CallLemmas.{runs_go}
use Rattle.replay_core.proofs.SparingLemmas.{block-replayed, files-spare}
use Rattle.replay_core.proofs.StopLemmas.{own-apart, own_holds}
use Rattle.replay_core.proofs.WithinLemmas.{beside-entry, control-at, entry-at}
use Rattle.rmgr_hooks.specs.Custom.{Extension}
use Rattle.storage_replay.specs.Sparing.{piece_of}

-- ---- where its changes go

or-first : (a b : Bool) → a ≡ true → (a || b) ≡ true
or-first true b e = refl
or-first false b e = absurd (true≢false (sym e))

or-second : (a b : Bool) → b ≡ true → (a || b) ≡ true
or-second true b e = refl
or-second false b e = e

pub records-changed : (root path : PathValue) → is_replayed root path ≡ true → is_changed_by_replay root path ≡ true
records-changed root path is = or-first (is_replayed root path) (path_eq path (control_path root) || path_eq path (label_path root)) is

control-changed : (root : PathValue) → is_changed_by_replay root (control_path root) ≡ true
control-changed root =
    let path = control_path root in
    or-second (is_replayed root path) (path_eq path path || path_eq path (label_path root)) (or-first (path_eq path path) (path_eq path (label_path root)) (path_eq-own path))

label-changed : (root : PathValue) → is_changed_by_replay root (label_path root) ≡ true
label-changed root =
    let path = label_path root in
    or-second (is_replayed root path) (path_eq path (control_path root) || path_eq path path) (or-second (path_eq path (control_path root)) (path_eq path path) (path_eq-own path))

-- what lies at other entries of the root isn't changed: a mark, what its caller laid beside it, and the log
pub apart-unchanged : (root path : PathValue) (name : List ℕ) → is_apart name ≡ true → bytes_eq name (codes "global") ≡ false → bytes_eq name (codes "backup_label") ≡ false → is_at root name path ≡ true → is_changed_by_replay root path ≡ false
apart-unchanged root path name apart global label at =
    ap (λ b. b || (path_eq path (control_path root) || path_eq path (label_path root))) (others-not-replayed root name path apart at)
    ∙ ap (λ b. b || path_eq path (label_path root)) (beside-entry root path (control_path root) name (codes "global") global at (control-at root))
    ∙ beside-entry root path (label_path root) name (codes "backup_label") label at (entry-at root (codes "backup_label"))

-- of the path of a call, if it has one
abbrev ChangedAt : PathValue → Option PathValue → Type 0
ChangedAt root o = is_on (is_changed_by_replay root) o ≡ true

module _ {F : Type 0} (tree : Ghosts F) (root other : PathValue) (same : other ≡ root) (a b : F) where
  pub records-own : OnOwn tree.calls (is_replayed other) a b → OnOwn tree.calls (is_changed_by_replay root) a b
  records-own own = own-wider tree.calls (is_replayed root) (is_changed_by_replay root) a b (records-changed root) (subst (λ p. OnOwn tree.calls (is_replayed p) a b) same own)

  pub records-spare : (per n : ℕ) (name : BlockName) → per ≡ n → Spares tree (piece_of other per name) a b → Spares tree (piece_of root n name) a b
  records-spare per n name is spared = subst (λ (m : ℕ). Spares tree (piece_of root m name) a b) is (subst (λ p. Spares tree (piece_of p per name) a b) same spared)

  module _ (k : Control) (done : Bool) (ran : Runs (closing_files other k) (tree.calls a) (tree.calls b) (tree.contents a) (tree.contents b) done) where
    here : Runs (closing_files root k) (tree.calls a) (tree.calls b) (tree.contents a) (tree.contents b) done
    here = subst (λ p. Runs (closing_files p k) (tree.calls a) (tree.calls b) (tree.contents a) (tree.contents b) done) same ran

    pub files-own : OnOwn tree.calls (is_changed_by_replay root) a b
    files-own first before =
        goes_on (is_changed_by_replay root) first (tree.calls a) (tree.calls b) before
        (runs_go (ChangedAt root) (is_own (is_changed_by_replay root)) (λ call on. on) (closing_files root k) (tree.calls a) (tree.calls b) (tree.contents a) (tree.contents b) done (control-changed root, (label-changed root, tt)) here)

    pub block-spared : (per : ℕ) (name : BlockName) → 0 < per → IsOfMain name → Came tree a b → Spares tree (piece_of root per name) a b
    block-spared per name some is came = files-spare root (piece_of root per name) (block-replayed root per name some is) tree k a b done came here

-- ---- all else is as it was

module _ {F : Type 0} (tree : Ghosts F) (root : PathValue) (a b : F) (came : Came tree a b) (own : OnOwn tree.calls (is_changed_by_replay root) a b) where
  pub same-beside : SameBesideReplay root (tree.contents a) (tree.contents b)
  same-beside path off =
      own-elsewhere (is_changed_by_replay root) (state_by tree.contents tree.calls a) (state_by tree.contents tree.calls b) path (came.run (state_by tree.contents tree.calls a) Still) (own (tree.calls a) Same) off

  abbrev Beside : Contents → Type 0
  Beside = SameBesideReplay root (tree.contents a)

  beside-kept : (call : ChangeCall) → is_own (is_changed_by_replay root) call ≡ true → KeptBy Beside call
  beside-kept call is c d same step path off = step-elsewhere call c d path step (own-apart (is_changed_by_replay root) path call off is) ∙ same path off

  -- and so is it in all that a stop leaves
  pub beside-left : StandsSynced (tree.contents a) (moment_of tree a) → LeavesOnly Beside (tree.stops a) (tree.stops b)
  beside-left synced =
      leaves_only Beside Beside (moment_of tree a) (moment_of tree b)
      (own_holds Beside (is_changed_by_replay root) beside-kept (moment_of tree a) (moment_of tree b) (λ path off. refl) (λ c image path off. ap (λ x. entry_at x path) (synced.left c image))
      (course_of tree a b came) (own (tree.calls a) Same))
      (λ c same. same)

-- ---- what is meant

pub world-meant : (s : Start) (c : Contents) (w : World) → w.files ≡ c → w.control ≡ s.control → w.skipped ≡ [] → w ≡ world_under s c
world-meant s c w files control skipped =
    ap (λ f. record w { files = f }) files ∙ ap (λ k. record { files = c; control = k; skipped = w.skipped }) control ∙ ap (λ l. record { files = c; control = s.control; skipped = l }) skipped

module _ (custom : Option Extension) (root other : PathValue) (per : ℕ) (s : Start) (c : Contents) (w : World) (same : other ≡ root) (files : per ≡ s.control.relseg) (is : w ≡ world_under s c) where
  left : records_after custom other per s.records w ≡ records_after custom root s.control.relseg s.records (world_under s c)
  left = ap (λ p. records_after custom p per s.records w) same ∙ ap (λ n. records_after custom root n s.records w) files ∙ ap (records_after custom root s.control.relseg s.records) is

  -- all records were replayed
  pub under-meant : (v : World) (tli n e : ℕ) → records_after custom other per s.records w ≡ Ok v → tli ≡ timeline_of s.control → n ≡ length s.records → e ≡ end_of s → left_under_or root tli n e v ≡ replayed_under custom root s c
  under-meant v tli n e all time count end =
      ap (λ x. left_under_or root x n e v) time ∙ ap (λ x. left_under_or root (timeline_of s.control) x e v) count ∙ ap (λ x. left_under_or root (timeline_of s.control) (length s.records) x v) end
      ∙ sym (ap (λ r. given (recorded r) (left_under_or root (timeline_of s.control) (length s.records) (end_of s))) (sym left ∙ all))

  -- or one was refused
  pub under-broken : (f : ReplayFault) → BreaksOff custom other per s.records w f → IsCause (replayed_under custom root s c) f
  under-broken f (inl free) = inl free
  under-broken f (inr refused) = inr (ap (λ r. given r (left_under_or root (timeline_of s.control) (length s.records) (end_of s))) (ap recorded (sym left) ∙ refused))

pub answers-broken : (meant : Result After ReplayFault) (d : Contents) (r : Result Replayed ReplayFault) (f : ReplayFault) → r ≡ Err f → IsCause meant f → Answers meant d r
answers-broken meant d r f is cause = subst (Answers meant d) (sym is) cause

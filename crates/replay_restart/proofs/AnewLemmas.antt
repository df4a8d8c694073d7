-- A replay that is begun where none was, step by step.
use Rattle.std.proofs.Common.{◌≡◌, ◌≢◌, ◌∙◌, ◌⊎◌, inl, inr, ⊎_elim, List, Option, Result, Ok, Err, true≢false, refl, ap, sym, subst, arith}
use Rattle.cluster_tree.specs.Contents.{Contents, IsTree, entry_at, is_file}
use Rattle.cluster_tree.specs.PathValue.{PathValue}
use Rattle.cluster_tree.specs.Run.{Course, Moment}
use Rattle.cluster_tree.specs.Stops.{LeavesOnly}
use Rattle.cluster_tree.specs.declared.file_fault.FileFault.{FileFault}
use Rattle.cluster_tree.proofs.Images.{holds_first, leaves_only}
use Rattle.marked_runs.specs.Moments.{IsBegun, IsUntouched, StandsSynced}
use Rattle.marked_runs.proofs.StopLemmas.{leaves_on, leaves_weaker}
use Rattle.replay_copies.specs.Calls.{LaysOnly}
use Rattle.replay_copies.specs.Ended.{HasMark}
use Rattle.replay_copies.specs.Laid.{IsLaid, IsReady, SameElsewhere, mark_of}
use Rattle.replay_copies.specs.Left.{IsBeginLeft, IsKept, LeavesFile}
use Rattle.replay_core.specs.Replayed.{control_path, label_path}
use Rattle.replay_core.specs.Under.{WasStart}
use Rattle.replay_core.specs.Within.{LogStays, StaysWithin}
use Rattle.replay_core.specs.declared.outcome.Replayed.{Replayed as Count}
use Rattle.replay_core.proofs.StartedLemmas.{is_given}
use Rattle.replay_core.proofs.WithinLemmas.{then_within}
use Rattle.replay_list.specs.declared.listed.Listed.{Listed}
use Rattle.replay_start.specs.Checked.{IsStart, Start, start_of}
use Rattle.replay_start.specs.declared.checked.Checked.{Checked}
use Rattle.restart_start.specs.Beginning.{Changed, IsBegun as IsBeginning, IsFree as IsFreeOfStarts, MayBegin, Refused, WhyNot, Wrong, without_own}
use Rattle.restart_start.specs.declared.fault.RestartFault.{RestartFault as StartFault}
use Rattle.restart_start.specs.declared.fault.RestartFault.TheVariants as start
use Rattle.restart_start.specs.declared.starting.Beginning.{Beginning}
use Rattle.restart_start.specs.Gathered.{splits_of}
use Rattle.cluster_tree.specs.declared.file_fault.FileFault.TheVariants as file
use Rattle.clusters.specs.declared.fault.ClusterFault.TheVariants as cluster
use Rattle.file_walk.specs.declared.fault.WalkFault.TheVariants as walk
use Rattle.replay_start.specs.declared.fault.ReplayFault.TheVariants as replay
use Rattle.replay_list.specs.Laws.{IsListOf}
use Rattle.replay_copies.proofs.TellLemmas.{laid-told}
use Rattle.first_effects.specs.First.{is_changed}
use Rattle.cluster_tree.specs.Frame.{Reads, moment_of}
use Rattle.cluster_tree.specs.declared.tree.Tree.{Ghosts}
use Rattle.rmgr_hooks.specs.Custom.{Extension}
use Rattle.stored_replay.specs.Stored.{Begun, HadEnded, NotBegun, Told}
use Rattle.wal_records.specs.Cursor.{Knows}
use Rattle.cluster_tree.proofs.OrderLemmas.{path_eq-other}
use Rattle.replay_copies.proofs.ListLemmas.{mark-size, off-both}
use Rattle.without_file.specs.Without.{seen}
use Rattle.without_file.proofs.SeenLemmas.{entry-seen}
use Rattle.replay_restart.specs.Faults.{IsFree, of_files, of_start}
use Rattle.replay_restart.specs.Left.{IsLeftByRestart, IsLeftUnder, Restarts, RunsOver}
use Rattle.replay_restart.specs.Meant.{First, IsOver, NotBegins, NotLaid, NotTaken, Over, WasReplayed, WhyFirst, taken_of}
use Rattle.replay_restart.specs.declared.fault.RestartFault.{RestartFault}
use Rattle.replay_restart.specs.declared.outcome.Restarted.{Restarted}
use Rattle.replay_restart.specs.declared.outcome.Restarted.TheVariants as told
use Rattle.replay_restart.proofs.CallLemmas.{lays-within, still-within}
use Rattle.replay_restart.proofs.OverLemmas.{NotChanged, file-marked, files-free}
use Rattle.replay_restart.proofs.PlaceLemmas.{control-own, entry-own, log-not_laid, not-laid}
use Rattle.replay_restart.proofs.ReadyLemmas.{can-lay, own-file}
use Rattle.replay_restart.specs.Stopped.{IsRunLeft, IsStopped, Laying, Replaying, Untouched}
use Rattle.replay_restart.proofs.TakenLemmas.{begun-in, unbegun}

-- ---- a run that changed nothing

untouched-still : (a : Moment) → LeavesOnly (IsUntouched a) a.stops a.stops
untouched-still a = leaves_only (IsUntouched a) (IsUntouched a) a a (holds_first (IsUntouched a) (IsUntouched a) a (inl refl) (λ c image. inr image)) (λ c q. q)

pub stopped-still : (custom : Option Extension) (root : PathValue) (a : Moment) → StandsSynced a.state.contents a → LeavesOnly (IsStopped custom root a.state.contents) a.stops a.stops
stopped-still custom root a synced =
    let P : Contents → Type 0 = IsStopped custom root a.state.contents in
    leaves_only P P a a (holds_first P P a (Untouched refl) (λ c image. Untouched (synced.left c image))) (λ c q. q)

-- .. and was refused, or met a fault
pub nothing-done : (custom : Option Extension) (root : PathValue) (a b : Moment) (e : RestartFault) → b ≡ a → IsFree e ⊎ WhyFirst custom a.state.contents root e → Restarts custom root a b (Err e)
nothing-done custom root a b e same why = record {
  done = tt;
  refused = ⊎_elim (λ free. inl free) (λ first. inr (First e first)) why;
  stands = ⊎_elim (λ free. inl free) (λ first. inr (inl first)) why;
  stops = subst (λ (m : Moment). LeavesOnly (IsLeftByRestart custom root a) a.stops m.stops) (sym same)
      (leaves_weaker (IsUntouched a) (IsLeftByRestart custom root a) a.stops a.stops (λ x u. inl u) (untouched-still a));
  left = λ synced. subst (λ (m : Moment). LeavesOnly (IsStopped custom root a.state.contents) a.stops m.stops) (sym same) (stopped-still custom root a synced);
  synced = tt;
  within = still-within root a.state b.state (ap (λ (m : Moment). m.state) same);
  log = λ path holds. ap (λ (m : Moment). entry_at m.state.contents path) same;
}

-- what only reads leaves the moment
pub reads-still : {F : Type 0} (t : Ghosts F) (a b : F) → Reads t a b → moment_of t b ≡ moment_of t a
reads-still t a b reads =
    ap (λ x. record { state = record { contents = x; calls = t.calls b }; stops = t.stops b }) reads.same
    ∙ ap (λ x. record { state = record { contents = t.contents a; calls = x }; stops = t.stops b }) reads.uncalled
    ∙ ap (λ x. record { state = record { contents = t.contents a; calls = t.calls a }; stops = x }) reads.unstopped

-- ---- why it isn't begun

pub start-free : (f : StartFault) → IsFreeOfStarts f → IsFree (of_start f)
start-free (start.Replay e) (inl is) = inl is
start-free (start.Replay e) (inr is) = inr (inr (inl is))
start-free (start.Walk e) free = free
start-free (start.NotRestartable name) free = absurd free

pub start-why : (custom : Option Extension) (c : Contents) (root : PathValue) (f : StartFault) → taken_of c root ≡ Ok NotBegun → IsFreeOfStarts f ⊎ WhyNot custom (without_own c root) root f → IsFree (of_start f) ⊎ WhyFirst custom c root (of_start f)
start-why custom c root f taken (inl free) = inl (start-free f free)
start-why custom c root f taken (inr why) = inr (NotBegins f taken why)

never-both : (custom : Option Extension) (c : Contents) (root : PathValue) (s : Start) (listed : List Listed) (f : StartFault) → MayBegin custom c root s listed → WhyNot custom c root f → ⊥
never-both custom c root s listed _ may (Refused e is) = absurd (let same : Ok s ≡ Err e = sym may.passes ∙ is in cc)
never-both custom c root s listed _ may (Wrong other e passes is) = absurd (let same : Ok listed ≡ Err e = sym may.lists ∙ is in cc)
never-both custom c root s listed _ may (Changed other more name passes lists least) =
    let starts : Ok s ≡ Ok other = sym may.passes ∙ passes in
    let same : s ≡ other = cc in
    true≢false (sym least.0 ∙ ap (λ (x : Start). is_changed custom (splits_of x.records) name) (sym same) ∙ may.anew name)

-- where it may be begun no point refuses
pub first-not : {P : Type 0} (custom : Option Extension) (c : Contents) (root : PathValue) (s : Start) (listed : List Listed) (e : RestartFault) → taken_of c root ≡ Ok NotBegun → MayBegin custom (without_own c root) root s listed → WhyFirst custom c root e → P
first-not custom c root s listed e taken may (NotTaken _ is) = absurd (let same : Ok NotBegun ≡ Err e = sym taken ∙ is in cc)
first-not custom c root s listed _ taken may (NotBegins f other why) = absurd (never-both custom (without_own c root) root s listed f may why)

-- ---- over what the replay was checked

own-log : (c : Contents) (root : PathValue) → LogStays root (without_own c root) c
own-log c root path holds =
    sym (entry-seen c (mark_of root) path (omega (arith, mark-size root)) ∙ ap (λ b. seen b (entry_at c path)) (path_eq-other path (mark_of root) (off-both root path (log-not_laid root path holds)).0))

-- contents with the log, the control file and the label of those that were checked without their mark
pub was-start : (custom : Option Extension) (root : PathValue) (c d : Contents) (checked : Checked) (s : Start) → start_of custom (without_own c root) root ≡ Ok s → IsStart s checked → Knows checked.cursor (without_own c root)
    → LogStays root c d → SameElsewhere root c d → WasStart custom root checked s d
was-start custom root c d checked s passed is knows log elsewhere =
    let given = is_given custom (without_own c root) root s passed in
    record {
      before = without_own c root;
      passed = passed;
      is = is;
      knows = knows;
      log = λ path holds. log path holds ∙ own-log c root path holds;
      control = ap is_file (elsewhere (control_path root) (not-laid root (control_path root) _ refl refl (control-own root))) ∙ own-file c root (control_path root) given.control;
      label = ap is_file (elsewhere (label_path root) (not-laid root (label_path root) _ refl refl (entry-own root _))) ∙ own-file c root (label_path root) given.label;
    }

-- ---- the mark and the copies are laid

module _ (custom : Option Extension) (root : PathValue) (a b : Moment) where
  abbrev c : Contents
  c = a.state.contents

  begun-left : (x : Contents) → IsBegun (mark_of root) a x → IsLeftByRestart custom root a x
  begun-left x (inl untouched) = inl untouched
  begun-left x (inr marked) = inr (inl marked)

  -- what a stop left while both were laid
  abbrev IsLeftWhileLaid : List Listed → Type 0
  IsLeftWhileLaid listed = StandsSynced c a → LeavesOnly (IsBeginLeft root listed c) a.stops b.stops

  module _ (s : Start) (listed : List Listed) (taken : taken_of c root ≡ Ok NotBegun) (may : MayBegin custom (without_own c root) root s listed) (list : IsListOf root listed) (begun : IsLeftWhileLaid listed) where
    begin-stopped : (x : Contents) → IsBeginLeft root listed c x → IsStopped custom root c x
    begin-stopped x left =
        ⊎_elim (λ shut. Laying s listed taken may left.elsewhere shut)
        (λ laid. Replaying s listed x taken may list laid (inl (record { beside = λ p off. refl; blocks = λ name page main off has. has }))) left.told

    pub stopped-begun : StandsSynced c a → LeavesOnly (IsStopped custom root c) a.stops b.stops
    stopped-begun synced = leaves_weaker (IsBeginLeft root listed c) (IsStopped custom root c) a.stops b.stops begin-stopped (begun synced)

  module _ (elsewhere : SameElsewhere root c b.state.contents) (calls : LaysOnly root a.state.calls b.state.calls) (marked : LeavesOnly (IsBegun (mark_of root) a) a.stops b.stops) where
    pub laid-within : StaysWithin root a.state b.state
    laid-within = lays-within root a.state b.state calls elsewhere

    pub laid-log : LogStays root c b.state.contents
    laid-log path holds = elsewhere path (log-not_laid root path holds)

    pub not-laid_done : (s : Start) (listed : List Listed) (f : FileFault) → taken_of c root ≡ Ok NotBegun → MayBegin custom (without_own c root) root s listed → IsListOf root listed → IsLeftWhileLaid listed
        → IsKept root c f → LeavesFile root b.state.contents f → Restarts custom root a b (Err (of_files f))
    not-laid_done s listed f taken may list begun kept file = record {
      done = tt;
      refused = ⊎_elim (λ free. inl (files-free f free)) (λ is. inr (NotLaid s listed f taken may is)) kept;
      stands = ⊎_elim (λ free. inl (files-free f free)) (λ there. inr (inr (file-marked root b.state.contents there))) file;
      stops = leaves_weaker (IsBegun (mark_of root) a) (IsLeftByRestart custom root a) a.stops b.stops begun-left marked;
      left = stopped-begun s listed taken may list begun;
      synced = tt;
      within = laid-within;
      log = laid-log;
    }

  -- ---- and the replay runs over them

  module _ (s : Start) (e : Moment) (ab : Course a b) (be : Course b e) (is : IsOver custom c root s b.state.contents) (before : LeavesOnly (IsBegun (mark_of root) a) a.stops b.stops)
      (within : StaysWithin root a.state b.state) (log : LogStays root c b.state.contents)
      (stopped : StandsSynced c a → LeavesOnly (IsStopped custom root c) a.stops b.stops) (run : (x : Contents) → IsRunLeft custom root s b.state.contents x → IsStopped custom root c x) where
    under-left : (x : Contents) → IsLeftUnder custom root s b.state.contents x → IsLeftByRestart custom root a x
    under-left x (inl marked) = inr (inl marked)
    under-left x (inr (count, over)) = inr (inr (told.Replayed count, WasReplayed s b.state.contents is over))

    left-over : LeavesOnly (IsLeftUnder custom root s b.state.contents) b.stops e.stops → LeavesOnly (IsLeftByRestart custom root a) a.stops e.stops
    left-over stops =
        leaves_on (IsLeftByRestart custom root a) a b e ab be
        (leaves_weaker (IsBegun (mark_of root) a) (IsLeftByRestart custom root a) a.stops b.stops begun-left before)
        (leaves_weaker (IsLeftUnder custom root s b.state.contents) (IsLeftByRestart custom root a) b.stops e.stops under-left stops)

    stopped-over : LeavesOnly (IsRunLeft custom root s b.state.contents) b.stops e.stops → StandsSynced c a → LeavesOnly (IsStopped custom root c) a.stops e.stops
    stopped-over left synced =
        leaves_on (IsStopped custom root c) a b e ab be (stopped synced) (leaves_weaker (IsRunLeft custom root s b.state.contents) (IsStopped custom root c) b.stops e.stops run left)

    log-over : LogStays root b.state.contents e.state.contents → LogStays root c e.state.contents
    log-over later path holds = later path holds ∙ log path holds

    pub over-done : (count : Count) → RunsOver custom root s b e (Ok count) → Restarts custom root a e (Ok (told.Replayed count))
    over-done count runs = record {
      done = WasReplayed s b.state.contents is runs.done;
      refused = tt;
      stands = tt;
      stops = left-over runs.stops;
      left = stopped-over runs.left;
      synced = runs.synced;
      within = then_within root a.state b.state e.state within runs.within;
      log = log-over runs.log;
    }

    pub over-broken : (f : RestartFault) → RunsOver custom root s b e (Err f) → Restarts custom root a e (Err f)
    over-broken f runs = record {
      done = tt;
      refused = ⊎_elim (λ free. inl free) (λ why. inr (Over s b.state.contents f is why)) runs.refused;
      stands = ⊎_elim (λ free. inl free) (λ marked. inr (inr marked)) runs.stands;
      stops = left-over runs.stops;
      left = stopped-over runs.left;
      synced = tt;
      within = then_within root a.state b.state e.state within runs.within;
      log = log-over runs.log;
    }

-- ---- what is known once it may be begun

pub record Prepared (custom : Option Extension) (root : PathValue) (c : Contents) (checked : Checked) (listed : List Listed) : Type 0 where
  pub s : Start
  pub may : MayBegin custom (without_own c root) root s listed
  pub is : IsStart s checked
  pub ready : IsReady root listed c
  pub taken : taken_of c root ≡ Ok NotBegun

-- of what was only read since
pub again-begun : (custom : Option Extension) (root : PathValue) (c0 c : Contents) (begun : Beginning) → c ≡ c0 → IsBeginning custom (without_own c0 root) root begun → IsBeginning custom (without_own c root) root begun
again-begun custom root c0 c begun same exact = subst (λ x. IsBeginning custom (without_own x root) root begun) (sym same) exact

pub prepared : (custom : Option Extension) (root : PathValue) (c0 c : Contents) (begun : Beginning) (listed : List Listed) → c ≡ c0 → IsTree c → taken_of c0 root ≡ Ok NotBegun
    → IsBeginning custom (without_own c0 root) root begun → IsListOf root begun.listed → listed ≡ begun.listed → Prepared custom root c begun.checked listed
prepared custom root c0 c begun listed same tree taken exact list listed_is =
    let here = again-begun custom root c0 c begun same exact in
    let taken_here = subst (λ x. taken_of x root ≡ Ok NotBegun) (sym same) taken in
    let may = subst (MayBegin custom (without_own c root) root here.start) (sym listed_is) here.may in
    record {
      s = here.start;
      may = may;
      is = here.is;
      ready = can-lay c root custom here.start listed tree (unbegun c root taken_here) may (subst (IsListOf root) (sym listed_is) list);
      taken = taken_here;
    }

pub has-laid : (root : PathValue) (listed : List Listed) (c d : Contents) → IsReady root listed c → IsLaid root listed c d → HasMark root d
has-laid root listed c d ready laid = (begun-in d root listed (laid-told root listed c d ready laid)).has

pub from-same : (custom : Option Extension) (root : PathValue) (a a' b : Moment) (r : Result Restarted RestartFault) → a' ≡ a → Restarts custom root a' b r → Restarts custom root a b r
from-same custom root a a' b r same restarts = subst (λ m. Restarts custom root m b r) same restarts

-- ---- a fault of the start that isn't of what changed

pub start-not_changed : {A : Type 0} (f : StartFault)
    → ((p : PathValue) → (f ≢ start.Replay (replay.Cluster (cluster.Changed p))) × (f ≢ start.Walk (walk.File (file.Changed p)))) → NotChanged {A = A} (Err (of_start f))
start-not_changed (start.Replay e) never p =
    ((λ is. let same : e ≡ replay.Cluster (cluster.Changed p) = cc in (never p).0 (ap (λ x. start.Replay x) same)), (λ is. cc))
start-not_changed (start.Walk e) never p =
    ((λ is. cc), (λ is. let same : e ≡ walk.File (file.Changed p) = cc in (never p).1 (ap (λ x. start.Walk x) same)))
start-not_changed (start.NotRestartable name) never p = ((λ is. cc), (λ is. cc))

pub err-not_start : {A : Type 0} (f : StartFault)
    → ((p : PathValue) → (◌≢◌ {A = Result A StartFault} (Err f) (Err (start.Replay (replay.Cluster (cluster.Changed p))))) × (◌≢◌ {A = Result A StartFault} (Err f) (Err (start.Walk (walk.File (file.Changed p))))))
    → (p : PathValue) → (f ≢ start.Replay (replay.Cluster (cluster.Changed p))) × (f ≢ start.Walk (walk.File (file.Changed p)))
err-not_start f never p = ((λ is. (never p).0 (ap (λ x. Err x) is)), (λ is. (never p).1 (ap (λ x. Err x) is)))

pub runs-same : (custom : Option Extension) (root : PathValue) (s : Start) (a a' e : Moment) (r : Result Count RestartFault) → a ≡ a' → RunsOver custom root s a e r → RunsOver custom root s a' e r
runs-same custom root s a a' e r same runs = subst (λ m. RunsOver custom root s m e r) same runs

-- where a mark is taken up no point refuses before the first change
pub begun-not_first : {P : Type 0} (custom : Option Extension) (c : Contents) (root : PathValue) (listed : List Listed) (e : RestartFault) → taken_of c root ≡ Ok (Begun listed) → WhyFirst custom c root e → P
begun-not_first custom c root listed e taken (NotTaken _ is) = absurd (let same : ◌≡◌ {A = Result Told RestartFault} (Ok (Begun listed)) (Err e) = sym taken ∙ is in cc)
begun-not_first custom c root listed _ taken (NotBegins f other why) = absurd (let same : ◌≡◌ {A = Result Told RestartFault} (Ok (Begun listed)) (Ok NotBegun) = sym taken ∙ other in cc)

pub ended-not_first : {P : Type 0} (custom : Option Extension) (c : Contents) (root : PathValue) (e : RestartFault) → taken_of c root ≡ Ok HadEnded → WhyFirst custom c root e → P
ended-not_first custom c root e taken (NotTaken _ is) = absurd (let same : ◌≡◌ {A = Result Told RestartFault} (Ok HadEnded) (Err e) = sym taken ∙ is in cc)
ended-not_first custom c root _ taken (NotBegins f other why) = absurd (let same : ◌≡◌ {A = Result Told RestartFault} (Ok HadEnded) (Ok NotBegun) = sym taken ∙ other in cc)

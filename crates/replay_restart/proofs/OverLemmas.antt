-- A replay under its mark, and the end of that mark, step by step.
use Rattle.std.proofs.Common.{◌≡◌, ◌≢◌, ◌∙◌, ◌<◌, ◌⊎◌, ℕ, false, inl, inr, ⊎_elim, List, length, Option, None, Some, is_some, Result, Ok, Err, true, true≢false, refl, ap, sym, subst, arith}
use Rattle.cluster_tree.specs.Contents.{Contents, Entry, entry_at, is_file}
use Rattle.cluster_tree.specs.PathValue.{PathValue}
use Rattle.cluster_tree.specs.Run.{Course, Moment, Occurs}
use Rattle.cluster_tree.specs.Stops.{LeavesOnly}
use Rattle.cluster_tree.specs.Tree.{bytes_in}
use Rattle.cluster_tree.specs.declared.file_fault.FileFault.{FileFault}
use Rattle.cluster_tree.specs.declared.file_fault.FileFault.TheVariants as file
use Rattle.cluster_tree.proofs.RunLemmas.{calls_on}
use Rattle.clusters.specs.declared.fault.ClusterFault.TheVariants as cluster
use Rattle.file_edits.specs.Answers.{IsFree as IsFreeOfFiles}
use Rattle.file_walk.specs.declared.fault.WalkFault.TheVariants as walk
use Rattle.file_edits.specs.Clearing.{tree_removed}
use Rattle.file_edits.specs.Own.{GoesOn}
use Rattle.marked_runs.specs.Moments.{IsMarked, IsUntouched, StandsSynced}
use Rattle.marked_runs.proofs.StopLemmas.{leaves_on, leaves_weaker}
use Rattle.replay_copies.specs.Calls.{LaysOnly}
use Rattle.replay_copies.specs.Ended.{HasMark, IsEndLeft, IsGone}
use Rattle.replay_copies.specs.Laid.{SameElsewhere, mark_head, mark_of}
use Rattle.replay_copies.specs.Left.{HasFile, IsKept, LeavesFile}
use Rattle.replay_core.specs.Faults.{of_file}
use Rattle.block_refs.specs.declared.names.BlockName.{BlockName}
use Rattle.file_effects.specs.Touched.{IsOfMain}
use Rattle.replay_core.specs.Sparing.{HasPage, LeavesUntouched, StaysThrough}
use Rattle.replay_world.specs.Touched.{touched_by}
use Rattle.replay_restart.specs.Stopped.{IsReplaying, IsRunLeft}
use Rattle.replay_core.specs.Under.{SameBesideReplay, is_changed_by_replay, replayed_under}
use Rattle.replay_core.specs.Went.{IsAfter, IsCause}
use Rattle.replay_core.specs.Within.{LogStays, StaysWithin}
use Rattle.replay_core.specs.declared.outcome.Replayed.{Replayed as Count}
use Rattle.replay_core.proofs.WithinLemmas.{then_within}
use Rattle.replay_start.specs.Checked.{Start}
use Rattle.replay_start.specs.declared.fault.ReplayFault.{ReplayFault}
use Rattle.replay_start.specs.declared.fault.ReplayFault.TheVariants as replay
use Rattle.rmgr_hooks.specs.Custom.{Extension}
use Rattle.stored_replay.specs.Shadows.{shadow_folder}
use Rattle.replay_restart.specs.Faults.{IsFree, of_files}
use Rattle.replay_restart.specs.Left.{IsLeftUnder, RunsOver}
use Rattle.replay_restart.specs.Meant.{IsLeftOver, NotCleared, NotReplayed, WhyOver}
use Rattle.replay_restart.specs.declared.fault.RestartFault.{RestartFault}
use Rattle.replay_restart.specs.declared.fault.RestartFault.TheVariants as fault
use Rattle.replay_restart.proofs.CallLemmas.{lays-within, own-within}
use Rattle.replay_restart.proofs.PlaceLemmas.{changed-held, laid-unchanged, log-not_laid, log-unchanged, mark-laid}

-- ---- faults

pub files-free : (e : FileFault) → IsFreeOfFiles e → IsFree (of_files e)
files-free e (inl is) = subst (λ f. IsFree (of_files f)) (sym is) (inl refl)
files-free e (inr (inl is)) = subst (λ f. IsFree (of_files f)) (sym is) (inr (inl refl))
files-free e (inr (inr (inl is))) = subst (λ f. IsFree (of_files f)) (sym is) (inr (inr (inl refl)))
files-free e (inr (inr (inr none))) = absurd none

pub handed : {A : Type 0} (P : Result A RestartFault → Type 0) (r : Result A RestartFault) (e : RestartFault) → ((f : RestartFault) × (r ≡ Err f) × (f ≡ e)) → P (Err e) → P r
handed P r e (f, is, same) h = subst P (sym (is ∙ ap (λ x. Err x) same)) h

-- a fault of the files that isn't of what changed isn't told as one
abbrev pub NotChanged : {A : Type 0} → Result A RestartFault → Type 0
NotChanged r = (p : PathValue) → (r ≢ Err (fault.Replay (replay.Cluster (cluster.Changed p)))) × (r ≢ Err (fault.Walk (walk.File (file.Changed p))))

changed-file : (f : FileFault) (p : PathValue) → of_file f ≡ replay.Cluster (cluster.Changed p) → f ≡ file.Changed p
changed-file file.ReadFault p e = absurd cc
changed-file file.WriteFault p e = absurd cc
changed-file (file.Link path) p e = absurd cc
changed-file (file.NotFolder path) p e = absurd cc
changed-file (file.IsFolder path) p e = absurd cc
changed-file (file.NameNotText path) p e = absurd cc
changed-file (file.TooDeep path) p e = absurd cc
changed-file (file.Changed path) p e = let same : path ≡ p = cc in ap (λ q. file.Changed q) same
changed-file file.OutOfMemory p e = absurd cc

pub files-not_changed : {A : Type 0} (f : FileFault) → ((p : PathValue) → f ≢ file.Changed p) → NotChanged {A = A} (Err (of_files f))
files-not_changed f never p = ((λ e. let same : of_file f ≡ replay.Cluster (cluster.Changed p) = cc in never p (changed-file f p same)), (λ e. cc))

pub as-any : {A B : Type 0} (e : RestartFault) → NotChanged {A = A} (Err e) → NotChanged {A = B} (Err e)
as-any e never p =
    ((λ is. let same : e ≡ fault.Replay (replay.Cluster (cluster.Changed p)) = cc in (never p).0 (ap (λ x. Err x) same)), (λ is. let same : e ≡ fault.Walk (walk.File (file.Changed p)) = cc in (never p).1 (ap (λ x. Err x) same)))

pub err-not : {A : Type 0} (f g : FileFault) → ◌≢◌ {A = Result A FileFault} (Err f) (Err g) → f ≢ g
err-not f g never same = never (ap (λ x. Err x) same)

-- ---- the mark

file-there : (o : Option Entry) → length mark_head < length (bytes_in o) → is_some o ≡ true
file-there None more = absurd (omega (arith, more))
file-there (Some entry) more = refl

pub has-there : (root : PathValue) (c : Contents) → HasMark root c → IsMarked (mark_of root) c
has-there root c has = file-there (entry_at c (mark_of root)) has

pub has-same : (root : PathValue) (c d : Contents) → entry_at d (mark_of root) ≡ entry_at c (mark_of root) → HasMark root c → HasMark root d
has-same root c d same has = subst (λ o. length mark_head < length (bytes_in o)) (sym same) has

pub mark-kept : (root : PathValue) (c d : Contents) → SameBesideReplay root c d → entry_at d (mark_of root) ≡ entry_at c (mark_of root)
mark-kept root c d same = same (mark_of root) (laid-unchanged root (mark_of root) (mark-laid root))

pub file-marked : (root : PathValue) (c : Contents) → HasFile root c → IsMarked (mark_of root) c
file-marked root c file = there (entry_at c (mark_of root)) file
  where
    there : (o : Option Entry) → is_file o ≡ true → is_some o ≡ true
    there None is = absurd (true≢false (sym is))
    there (Some entry) is = refl

-- synced contents are those of the moment
pub own-synced : (c : Contents) (e : Moment) → StandsSynced c e → StandsSynced e.state.contents e
own-synced c e synced = record { now = refl; left = λ x image. synced.left x image ∙ sym synced.now }

-- ---- the replay

module _ (custom : Option Extension) (root : PathValue) (s : Start) (a : Moment) (has : HasMark root a.state.contents) where
  abbrev C : Contents
  C = a.state.contents

  marked : (x : Contents) → SameBesideReplay root C x → IsMarked (mark_of root) x
  marked x same = ap is_some (mark-kept root C x same) ∙ has-there root C has

  log-kept : (x : Contents) → SameBesideReplay root C x → LogStays root C x
  log-kept x same path holds = same path (log-unchanged root path holds)

  module _ (b : Moment) (same : SameBesideReplay root C b.state.contents) (goes : GoesOn (is_changed_by_replay root) a.state.calls b.state.calls) (left : LeavesOnly (SameBesideReplay root C) a.stops b.stops)
      (stands : StandsSynced C a) (spares : LeavesUntouched custom root s a b) where
    stays : (name : BlockName) (page : List ℕ) → IsOfMain name → touched_by custom s.records name ≡ false → HasPage root s.control.relseg name page C → StaysThrough root s.control.relseg name page a b
    stays name page main off has = spares name page main off (record { now = has; left = λ x image. subst (HasPage root s.control.relseg name page) (sym (stands.left x image)) has })

    replaying : LeavesOnly (IsReplaying custom root s C) a.stops b.stops
    replaying = record { each = λ x since. record { beside = left.each x since; blocks = λ name page main off has. (stays name page main off has).at_any_stop.each x since } }

    replaying-now : IsReplaying custom root s C b.state.contents
    replaying-now = record { beside = same; blocks = λ name page main off has. (stays name page main off has).now }

    run-replay : LeavesOnly (IsRunLeft custom root s C) a.stops b.stops
    run-replay = leaves_weaker (IsReplaying custom root s C) (IsRunLeft custom root s C) a.stops b.stops (λ x is. inl is) replaying

    within-replay : StaysWithin root a.state b.state
    within-replay = own-within (is_changed_by_replay root) root a.state b.state (changed-held root) goes same

    left-replay : LeavesOnly (IsLeftUnder custom root s C) a.stops b.stops
    left-replay = leaves_weaker (SameBesideReplay root C) (IsLeftUnder custom root s C) a.stops b.stops (λ x kept. inl (marked x kept)) left

    pub replay-broken : (f : ReplayFault) → IsCause (replayed_under custom root s C) f → RunsOver custom root s a b (Err (fault.Replay f))
    replay-broken f cause = record {
      done = tt;
      refused = ⊎_elim (λ free. inl free) (λ is. inr (NotReplayed f is)) cause;
      stands = inr (marked b.state.contents same);
      stops = left-replay;
      left = run-replay;
      synced = tt;
      within = within-replay;
      log = log-kept b.state.contents same;
    }

    untouched-left : (x : Contents) → IsUntouched b x → IsLeftUnder custom root s C x
    untouched-left x (inl is) = inl (marked x (subst (SameBesideReplay root C) (sym is) same))
    untouched-left x (inr image) = inl (marked x (left.each x (inl image)))

    module _ (d : Moment) (ab : Course a b) (bd : Course b d) (still : d.state.contents ≡ b.state.contents) (untouched : LeavesOnly (IsUntouched b) b.stops d.stops) (within : StaysWithin root b.state d.state) where
      same-synced : SameBesideReplay root C d.state.contents
      same-synced = subst (SameBesideReplay root C) (sym still) same

      within-synced : StaysWithin root a.state d.state
      within-synced = then_within root a.state b.state d.state within-replay within

      left-synced : LeavesOnly (IsLeftUnder custom root s C) a.stops d.stops
      left-synced = leaves_on (IsLeftUnder custom root s C) a b d ab bd left-replay (leaves_weaker (IsUntouched b) (IsLeftUnder custom root s C) b.stops d.stops untouched-left untouched)

      run-untouched : (x : Contents) → IsUntouched b x → IsRunLeft custom root s C x
      run-untouched x (inl is) = inl (subst (IsReplaying custom root s C) (sym is) replaying-now)
      run-untouched x (inr image) = inl (replaying.each x (inl image))

      run-synced : LeavesOnly (IsRunLeft custom root s C) a.stops d.stops
      run-synced = leaves_on (IsRunLeft custom root s C) a b d ab bd run-replay (leaves_weaker (IsUntouched b) (IsRunLeft custom root s C) b.stops d.stops run-untouched untouched)

      pub sync-broken : (e : RestartFault) → IsFree e → RunsOver custom root s a d (Err e)
      sync-broken e free = record {
        done = tt;
        refused = inl free;
        stands = inl free;
        stops = left-synced;
        left = run-synced;
        synced = tt;
        within = within-synced;
        log = log-kept d.state.contents same-synced;
      }

      pub has-synced : HasMark root d.state.contents
      has-synced = has-same root C d.state.contents (mark-kept root C d.state.contents same-synced) has

      -- ---- and the end of the mark

      module _ (count : Count) (after : IsAfter (replayed_under custom root s C) count b.state.contents) where
        files-are : d.state.contents ≡ after.after.files
        files-are = still ∙ after.files_are

        cleared : (x : Contents) → IsGone root x → SameElsewhere root d.state.contents x → IsLeftOver custom root s C x count
        cleared x gone elsewhere = record {
          after = after.after;
          is = after.is;
          tells = record { records = after.records; end = after.end; tli = after.tli };
          files = record { gone = gone; elsewhere = subst (λ y. SameElsewhere root y x) files-are elsewhere };
        }

        end-left : (x : Contents) → IsEndLeft root d.state.contents x → IsLeftUnder custom root s C x
        end-left x end = ⊎_elim (λ stands. inl (ap is_some stands.mark)) (λ gone. inr (count, cleared x gone end.elsewhere)) end.told

        module _ (e : Moment) (de : Course d e) (calls : LaysOnly root d.state.calls e.state.calls) (elsewhere : SameElsewhere root d.state.contents e.state.contents) (stops : LeavesOnly (IsEndLeft root d.state.contents) d.stops e.stops) where
          left-ended : LeavesOnly (IsLeftUnder custom root s C) a.stops e.stops
          left-ended = leaves_on (IsLeftUnder custom root s C) a d e (calls_on Occurs a b d ab bd) de left-synced (leaves_weaker (IsEndLeft root d.state.contents) (IsLeftUnder custom root s C) d.stops e.stops end-left stops)

          run-end : (x : Contents) → IsEndLeft root d.state.contents x → IsRunLeft custom root s C x
          run-end x end = inr (record {
            after = after.after;
            is = after.is;
            replayed = subst (IsReplaying custom root s C) after.files_are replaying-now;
            left = subst (λ y. IsEndLeft root y x) files-are end;
          })

          run-ended : LeavesOnly (IsRunLeft custom root s C) a.stops e.stops
          run-ended = leaves_on (IsRunLeft custom root s C) a d e (calls_on Occurs a b d ab bd) de run-synced (leaves_weaker (IsEndLeft root d.state.contents) (IsRunLeft custom root s C) d.stops e.stops run-end stops)

          within-ended : StaysWithin root a.state e.state
          within-ended = then_within root a.state d.state e.state within-synced (lays-within root d.state e.state calls elsewhere)

          log-ended : LogStays root C e.state.contents
          log-ended path holds = elsewhere path (log-not_laid root path holds) ∙ same-synced path (log-unchanged root path holds)

          kept-why : (f : FileFault) → IsKept root d.state.contents f → IsFree (of_files f) ⊎ WhyOver custom root s C (of_files f)
          kept-why f (inl free) = inl (files-free f free)
          kept-why f (inr is) = inr (NotCleared after.after f after.is (ap (tree_removed (shadow_folder root)) (sym files-are) ∙ is))

          file-left : (f : FileFault) → LeavesFile root e.state.contents f → IsFree (of_files f) ⊎ IsMarked (mark_of root) e.state.contents
          file-left f (inl free) = inl (files-free f free)
          file-left f (inr file) = inr (file-marked root e.state.contents file)

          pub end-broken : (f : FileFault) → IsKept root d.state.contents f → LeavesFile root e.state.contents f → RunsOver custom root s a e (Err (of_files f))
          end-broken f kept file = record {
            done = tt;
            refused = kept-why f kept;
            stands = file-left f file;
            stops = left-ended;
            left = run-ended;
            synced = tt;
            within = within-ended;
            log = log-ended;
          }

          pub all-over : IsGone root e.state.contents → StandsSynced e.state.contents e → RunsOver custom root s a e (Ok count)
          all-over gone synced = record {
            done = cleared e.state.contents gone elsewhere;
            refused = tt;
            stands = tt;
            stops = left-ended;
            left = run-ended;
            synced = synced;
            within = within-ended;
            log = log-ended;
          }

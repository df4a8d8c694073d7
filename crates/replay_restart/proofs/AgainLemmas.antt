-- A replay that is begun again, and one that had ended, step by step.
use Rattle.std.proofs.Common.{◌≡◌, ◌∙◌, ◌⊎◌, inl, inr, ⊎_elim, ℕ, true, List, Option, is_some, Result, Ok, Err, IfErr, OnOk, false, refl, ap, sym, subst}
use Rattle.std.specs.List.{list_all}
use Rattle.cluster_tree.specs.Contents.{Contents, entry_at}
use Rattle.cluster_tree.specs.PathValue.{PathValue}
use Rattle.cluster_tree.specs.Run.{Course, Moment, Occurs}
use Rattle.cluster_tree.specs.Stops.{LeavesOnly, MayBeLeft}
use Rattle.cluster_tree.specs.declared.tree.ChangeCall.{ChangeCall}
use Rattle.cluster_tree.proofs.Images.{KeptBy, leaves_only}
use Rattle.cluster_tree.proofs.StepLemmas.{step-elsewhere}
use Rattle.cluster_tree.specs.declared.file_fault.FileFault.{FileFault}
use Rattle.cluster_tree.proofs.RunLemmas.{calls_on}
use Rattle.file_edits.specs.Clearing.{tree_removed}
use Rattle.file_edits.specs.Own.{GoesOn, is_own}
use Rattle.file_edits.specs.Sparing.{Piece, Shows}
use Rattle.marked_runs.specs.Moments.{IsBegun, IsMarked, IsUntouched, StandsMarked, StandsSynced}
use Rattle.marked_runs.proofs.StopLemmas.{leaves_on, leaves_weaker}
use Rattle.replay_copies.specs.Calls.{LaysOnly}
use Rattle.replay_copies.specs.Ended.{IsClearLeft, IsGone}
use Rattle.replay_copies.specs.Laid.{SameElsewhere, mark_of}
use Rattle.replay_copies.specs.Left.{HasFile, IsKept, LeavesFile}
use Rattle.replay_core.specs.Within.{LogStays, StaysWithin}
use Rattle.replay_core.proofs.StopLemmas.{own-apart, own-left, own_holds}
use Rattle.replay_core.proofs.WithinLemmas.{then_within}
use Rattle.replay_list.specs.declared.listed.Listed.{Listed}
use Rattle.replay_restore.specs.Freed.{IsRefusal}
use Rattle.replay_restore.specs.Filled.{is_spared}
use Rattle.replay_restore.specs.Listing.{has_file, is_restored_at}
use Rattle.replay_restore.specs.Restored.{IsRestored}
use Rattle.restart_start.specs.Beginning.{WhyNot, without_own}
use Rattle.restart_start.specs.declared.fault.RestartFault.{RestartFault as StartFault}
use Rattle.rmgr_hooks.specs.Custom.{Extension}
use Rattle.stored_replay.specs.Shadows.{shadow_folder}
use Rattle.stored_replay.specs.Stored.{Begun, HadEnded}
use Rattle.replay_restart.specs.Faults.{IsFree, of_files, of_start}
use Rattle.replay_restart.specs.Left.{BringsBack, IsLeftByRestart, Restarts}
use Rattle.replay_restart.specs.Stopped.{Clearing, IsBringingBack, IsStopped, Restoring, Untouched}
use Rattle.replay_restart.specs.Meant.{NotAgain, NotBack, NotEnded, WasEnded, WhyEnded, taken_of}
use Rattle.replay_start.specs.declared.fault.ReplayFault.TheVariants as replay
use Rattle.replay_restart.specs.declared.fault.RestartFault.{RestartFault}
use Rattle.replay_restart.specs.declared.fault.RestartFault.TheVariants as fault
use Rattle.replay_restart.specs.declared.outcome.Restarted.TheVariants as told
use Rattle.replay_restart.proofs.CallLemmas.{lays-within, own-within}
use Rattle.replay_restart.proofs.OverLemmas.{file-marked, files-free}
use Rattle.replay_restart.proofs.PlaceLemmas.{laid-not_restored, log-not_laid, log-not_restored, mark-laid, restored-held}

-- ---- what is listed is brought back, from a first moment over a sync to a second one

module _ (root : PathValue) (listed : List Listed) (a b : Moment) (ab : Course a b) (same_ab : b.state.contents ≡ a.state.contents) (stops_ab : LeavesOnly (IsUntouched a) a.stops b.stops) (within_ab : StaysWithin root a.state b.state) where
  abbrev C : Contents
  C = a.state.contents

  abbrev mark : PathValue
  mark = mark_of root

  untouched-begun : LeavesOnly (IsBegun mark a) a.stops b.stops
  untouched-begun = leaves_weaker (IsUntouched a) (IsBegun mark a) a.stops b.stops (λ x u. inl u) stops_ab

  back-still : (x : Contents) → x ≡ C → IsBringingBack root listed C x
  back-still x is = record { beside = λ path off. ap (λ y. entry_at y path) is; pieces = λ piece bytes has all shows. subst (Shows piece bytes) (sym is) shows }

  untouched-back : StandsSynced C a → (x : Contents) → IsUntouched a x → IsBringingBack root listed C x
  untouched-back stood x (inl is) = back-still x is
  untouched-back stood x (inr image) = back-still x (stood.left x image)

  back-b : StandsSynced C a → LeavesOnly (IsBringingBack root listed C) a.stops b.stops
  back-b stood = leaves_weaker (IsUntouched a) (IsBringingBack root listed C) a.stops b.stops (untouched-back stood) stops_ab

  pub first-broken : (e : RestartFault) → IsFree e → BringsBack root listed a b (Err e)
  first-broken e free = record {
    done = tt;
    refused = inl free;
    mark = ap (λ x. entry_at x mark) same_ab;
    stops = λ marked. untouched-begun;
    left = back-b;
    within = within_ab;
    log = λ path holds. ap (λ x. entry_at x path) same_ab;
  }

  module _ (synced : StandsSynced C b) (d : Moment) (bd : Course b d) (own : GoesOn (is_restored_at root) b.state.calls d.state.calls)
      (elsewhere : (p : PathValue) → is_restored_at root p ≡ false → entry_at d.state.contents p ≡ entry_at b.state.contents p)
      (spares : (piece : Piece) (bytes : List ℕ) → has_file listed piece.path ≡ true → list_all (is_spared piece) listed ≡ true → Shows piece bytes b.state.contents → Shows piece bytes d.state.contents)
      (keeps : (piece : Piece) (bytes : List ℕ) → has_file listed piece.path ≡ true → list_all (is_spared piece) listed ≡ true → Shows piece bytes b.state.contents
      → ((x : Contents) → MayBeLeft b.stops x → Shows piece bytes x) → LeavesOnly (Shows piece bytes) b.stops d.stops) where
    mark-d : entry_at d.state.contents mark ≡ entry_at C mark
    mark-d = elsewhere mark (laid-not_restored root mark (mark-laid root)) ∙ ap (λ x. entry_at x mark) same_ab

    log-d : LogStays root C d.state.contents
    log-d path holds = elsewhere path (log-not_restored root path holds) ∙ ap (λ x. entry_at x path) same_ab

    within-d : StaysWithin root a.state d.state
    within-d = then_within root a.state b.state d.state within_ab (own-within (is_restored_at root) root b.state d.state (restored-held root) own elsewhere)

    stands-b : IsMarked mark C → StandsMarked mark b
    stands-b marked = record { now = subst (IsMarked mark) (sym synced.now) marked; left = λ x image. subst (IsMarked mark) (sym (synced.left x image)) marked }

    left-d : IsMarked mark C → LeavesOnly (IsBegun mark a) a.stops d.stops
    left-d marked =
        leaves_on (IsBegun mark a) a b d ab bd untouched-begun
        (leaves_weaker (IsMarked mark) (IsBegun mark a) b.stops d.stops (λ x m. inr m) (own-left (is_restored_at root) mark b d (laid-not_restored root mark (mark-laid root)) (stands-b marked) bd own))

    -- all else is as it was, and so is each such piece

    abbrev Beside : Contents → Type 0
    Beside x = (path : PathValue) → is_restored_at root path ≡ false → entry_at x path ≡ entry_at C path

    beside-kept : (call : ChangeCall) → is_own (is_restored_at root) call ≡ true → KeptBy Beside call
    beside-kept call is x y same step path off = step-elsewhere call x y path step (own-apart (is_restored_at root) path call off is) ∙ same path off

    beside-d : LeavesOnly Beside b.stops d.stops
    beside-d =
        leaves_only Beside Beside b d
        (own_holds Beside (is_restored_at root) beside-kept b d (λ path off. ap (λ x. entry_at x path) synced.now) (λ x image path off. ap (λ y. entry_at y path) (synced.left x image)) bd own) (λ x same. same)

    shows-b : (piece : Piece) (bytes : List ℕ) → Shows piece bytes C → Shows piece bytes b.state.contents
    shows-b piece bytes shows = subst (Shows piece bytes) (sym synced.now) shows

    restoring-d : LeavesOnly (IsBringingBack root listed C) b.stops d.stops
    restoring-d = record {
      each = λ x since. record {
        beside = beside-d.each x since;
        pieces = λ piece bytes has all shows. (keeps piece bytes has all (shows-b piece bytes shows) (λ y image. subst (Shows piece bytes) (sym (synced.left y image)) shows)).each x since;
      };
    }

    back-d : StandsSynced C a → LeavesOnly (IsBringingBack root listed C) a.stops d.stops
    back-d stood = leaves_on (IsBringingBack root listed C) a b d ab bd (back-b stood) restoring-d

    back-now : IsBringingBack root listed C d.state.contents
    back-now = record {
      beside = λ path off. elsewhere path off ∙ ap (λ x. entry_at x path) same_ab;
      pieces = λ piece bytes has all shows. spares piece bytes has all (shows-b piece bytes shows);
    }

    pub restore-broken : (f : FileFault) → IsRefusal root b.state.contents f → BringsBack root listed a d (Err (of_files f))
    restore-broken f refused = record {
      done = tt;
      refused = inr (f, subst (λ x. IsRefusal root x f) same_ab refused, refl);
      mark = mark-d;
      stops = left-d;
      left = back-d;
      within = within-d;
      log = log-d;
    }

    module _ (e : Moment) (de : Course d e) (same_de : e.state.contents ≡ d.state.contents) (stops_de : LeavesOnly (IsUntouched d) d.stops e.stops) (within_de : StaysWithin root d.state e.state) where
      marked-d : IsMarked mark C → IsMarked mark d.state.contents
      marked-d marked = ap is_some mark-d ∙ marked

      untouched-d : IsMarked mark C → (x : Contents) → IsUntouched d x → IsBegun mark a x
      untouched-d marked x (inl is) = inr (subst (IsMarked mark) (sym is) (marked-d marked))
      untouched-d marked x (inr image) = (left-d marked).each x (inl image)

      left-e : IsMarked mark C → LeavesOnly (IsBegun mark a) a.stops e.stops
      left-e marked =
          leaves_on (IsBegun mark a) a d e (calls_on Occurs a b d ab bd) de (left-d marked)
          (leaves_weaker (IsUntouched d) (IsBegun mark a) d.stops e.stops (untouched-d marked) stops_de)

      untouched-now : (x : Contents) → IsUntouched d x → IsBringingBack root listed C x
      untouched-now x (inl is) = subst (IsBringingBack root listed C) (sym is) back-now
      untouched-now x (inr image) = restoring-d.each x (inl image)

      back-e : StandsSynced C a → LeavesOnly (IsBringingBack root listed C) a.stops e.stops
      back-e stood =
          leaves_on (IsBringingBack root listed C) a d e (calls_on Occurs a b d ab bd) de (back-d stood)
          (leaves_weaker (IsUntouched d) (IsBringingBack root listed C) d.stops e.stops untouched-now stops_de)

      mark-e : entry_at e.state.contents mark ≡ entry_at C mark
      mark-e = ap (λ x. entry_at x mark) same_de ∙ mark-d

      log-e : LogStays root C e.state.contents
      log-e path holds = ap (λ x. entry_at x path) same_de ∙ log-d path holds

      within-e : StaysWithin root a.state e.state
      within-e = then_within root a.state d.state e.state within-d within_de

      pub last-broken : (f : RestartFault) → IsFree f → BringsBack root listed a e (Err f)
      last-broken f free = record { done = tt; refused = inl free; mark = mark-e; stops = left-e; left = back-e; within = within-e; log = log-e }

      pub all-back : IsRestored root listed b.state.contents d.state.contents → StandsSynced d.state.contents e → BringsBack root listed a e (Ok tt)
      all-back restored last = record {
        done = (subst (λ x. IsRestored root listed x e.state.contents) same_ab (subst (IsRestored root listed b.state.contents) (sym same_de) restored), record { now = refl; left = λ x image. last.left x image ∙ sym same_de });
        refused = tt;
        mark = mark-e;
        stops = left-e;
        left = back-e;
        within = within-e;
        log = log-e;
      }

      pub last-synced : (r : Result (Unit {0}) RestartFault) → OnOk r (StandsSynced d.state.contents e) → IfErr r (λ f. f ≡ fault.Replay replay.WriteFault) → IsRestored root listed b.state.contents d.state.contents → BringsBack root listed a e r
      last-synced (Ok u) last is restored = all-back restored last
      last-synced (Err f) last is restored = last-broken f (subst IsFree (sym is) (inr (inl refl)))

-- ---- what a stop leaves while what is listed is brought back

pub restoring-left : (custom : Option Extension) (root : PathValue) (listed : List Listed) (a b : Moment) → taken_of a.state.contents root ≡ Ok (Begun listed)
    → (StandsSynced a.state.contents a → LeavesOnly (IsBringingBack root listed a.state.contents) a.stops b.stops) → StandsSynced a.state.contents a → LeavesOnly (IsStopped custom root a.state.contents) a.stops b.stops
restoring-left custom root listed a b taken left synced =
    leaves_weaker (IsBringingBack root listed a.state.contents) (IsStopped custom root a.state.contents) a.stops b.stops (λ x back. Restoring listed taken back) (left synced)

-- ---- and then the replay is refused

module _ (custom : Option Extension) (root : PathValue) (listed : List Listed) (a b : Moment) (taken : taken_of a.state.contents root ≡ Ok (Begun listed)) (marked : IsMarked (mark_of root) a.state.contents) where
  begun-left : (x : Contents) → IsBegun (mark_of root) a x → IsLeftByRestart custom root a x
  begun-left x (inl untouched) = inl untouched
  begun-left x (inr there) = inr (inl there)

  mark-stays : entry_at b.state.contents (mark_of root) ≡ entry_at a.state.contents (mark_of root) → IsMarked (mark_of root) b.state.contents
  mark-stays same = ap is_some same ∙ marked

  back-why : (e : RestartFault) → IsFree e ⊎ ((f : FileFault) × IsRefusal root a.state.contents f × (e ≡ of_files f)) → IsFree e ⊎ WhyEnded custom a.state.contents root e
  back-why e (inl free) = inl free
  back-why e (inr (f, refused, is)) = inr (subst (WhyEnded custom a.state.contents root) (sym is) (NotBack listed f taken refused))

  pub not-back : (e : RestartFault) → BringsBack root listed a b (Err e) → Restarts custom root a b (Err e)
  not-back e back = record {
    done = tt;
    refused = back-why e back.refused;
    stands = inr (inr (mark-stays back.mark));
    stops = leaves_weaker (IsBegun (mark_of root) a) (IsLeftByRestart custom root a) a.stops b.stops begun-left (back.stops marked);
    left = restoring-left custom root listed a b taken back.left;
    synced = tt;
    within = back.within;
    log = back.log;
  }

  start-why : (e : StartFault) → IsRestored root listed a.state.contents b.state.contents → IsFree (of_start e) ⊎ WhyNot custom (without_own b.state.contents root) root e → IsFree (of_start e) ⊎ WhyEnded custom a.state.contents root (of_start e)
  start-why e restored (inl free) = inl free
  start-why e restored (inr why) = inr (NotAgain listed b.state.contents e taken restored why)

  pub not-again : (d : Moment) (e : StartFault) → d ≡ b → BringsBack root listed a b (Ok tt) → IsFree (of_start e) ⊎ WhyNot custom (without_own b.state.contents root) root e → Restarts custom root a d (Err (of_start e))
  not-again d e same back why = subst (λ m. Restarts custom root a m (Err (of_start e))) (sym same) (record {
    done = tt;
    refused = start-why e back.done.0 why;
    stands = inr (inr (mark-stays back.mark));
    stops = leaves_weaker (IsBegun (mark_of root) a) (IsLeftByRestart custom root a) a.stops b.stops begun-left (back.stops marked);
    left = restoring-left custom root listed a b taken back.left;
    synced = tt;
    within = back.within;
    log = back.log;
  })

-- ---- a replay that had ended

module _ (custom : Option Extension) (root : PathValue) (a b : Moment) (ab : Course a b) (same_ab : b.state.contents ≡ a.state.contents) (stops_ab : LeavesOnly (IsUntouched a) a.stops b.stops) (within_ab : StaysWithin root a.state b.state)
    (taken : taken_of a.state.contents root ≡ Ok HadEnded) where
  untouched-left : LeavesOnly (IsLeftByRestart custom root a) a.stops b.stops
  untouched-left = leaves_weaker (IsUntouched a) (IsLeftByRestart custom root a) a.stops b.stops (λ x u. inl u) stops_ab

  stopped-b : StandsSynced a.state.contents a → LeavesOnly (IsStopped custom root a.state.contents) a.stops b.stops
  stopped-b synced =
      leaves_weaker (IsUntouched a) (IsStopped custom root a.state.contents) a.stops b.stops (λ x. ⊎_elim (λ (is : x ≡ a.state.contents). Untouched is) (λ image. Untouched (synced.left x image))) stops_ab

  pub end-unsynced : (e : RestartFault) → IsFree e → Restarts custom root a b (Err e)
  end-unsynced e free = record {
    done = tt;
    refused = inl free;
    stands = inl free;
    stops = untouched-left;
    left = stopped-b;
    synced = tt;
    within = within_ab;
    log = λ path holds. ap (λ x. entry_at x path) same_ab;
  }

  module _ (file : HasFile root a.state.contents) (d : Moment) (bd : Course b d) (calls : LaysOnly root b.state.calls d.state.calls) (elsewhere : SameElsewhere root b.state.contents d.state.contents)
      (stops : LeavesOnly (IsClearLeft root b.state.contents) b.stops d.stops) where
    elsewhere-a : (x : Contents) → SameElsewhere root b.state.contents x → SameElsewhere root a.state.contents x
    elsewhere-a x same = subst (λ y. SameElsewhere root y x) same_ab same

    clear-left : (x : Contents) → IsClearLeft root b.state.contents x → IsLeftByRestart custom root a x
    clear-left x left =
        ⊎_elim (λ same. inr (inl (ap is_some same ∙ ap (λ y. is_some (entry_at y (mark_of root))) same_ab ∙ file-marked root a.state.contents file)))
        (λ gone. inr (inr (told.HadEnded, WasEnded taken (record { gone = gone; elsewhere = elsewhere-a x left.elsewhere })))) left.told

    stops-end : LeavesOnly (IsLeftByRestart custom root a) a.stops d.stops
    stops-end = leaves_on (IsLeftByRestart custom root a) a b d ab bd untouched-left (leaves_weaker (IsClearLeft root b.state.contents) (IsLeftByRestart custom root a) b.stops d.stops clear-left stops)

    stopped-end : StandsSynced a.state.contents a → LeavesOnly (IsStopped custom root a.state.contents) a.stops d.stops
    stopped-end synced =
        leaves_on (IsStopped custom root a.state.contents) a b d ab bd (stopped-b synced)
        (leaves_weaker (IsClearLeft root b.state.contents) (IsStopped custom root a.state.contents) b.stops d.stops (λ x left. Clearing taken (subst (λ y. IsClearLeft root y x) same_ab left)) stops)

    within-end : StaysWithin root a.state d.state
    within-end = then_within root a.state b.state d.state within_ab (lays-within root b.state d.state calls elsewhere)

    log-end : LogStays root a.state.contents d.state.contents
    log-end path holds = elsewhere-a d.state.contents elsewhere path (log-not_laid root path holds)

    ended-why : (f : FileFault) → IsKept root b.state.contents f → IsFree (of_files f) ⊎ WhyEnded custom a.state.contents root (of_files f)
    ended-why f (inl free) = inl (files-free f free)
    ended-why f (inr is) = inr (NotEnded f taken (ap (tree_removed (shadow_folder root)) (sym same_ab) ∙ is))

    pub end-broken : (f : FileFault) → IsKept root b.state.contents f → LeavesFile root d.state.contents f → Restarts custom root a d (Err (of_files f))
    end-broken f kept left = record {
      done = tt;
      refused = ended-why f kept;
      stands = ⊎_elim (λ free. inl (files-free f free)) (λ there. inr (inr (file-marked root d.state.contents there))) left;
      stops = stops-end;
      left = stopped-end;
      synced = tt;
      within = within-end;
      log = log-end;
    }

    pub all-ended : IsGone root d.state.contents → StandsSynced d.state.contents d → Restarts custom root a d (Ok told.HadEnded)
    all-ended gone synced = record {
      done = WasEnded taken (record { gone = gone; elsewhere = elsewhere-a d.state.contents elsewhere });
      refused = tt;
      stands = tt;
      stops = stops-end;
      left = stopped-end;
      synced = synced;
      within = within-end;
      log = log-end;
    }

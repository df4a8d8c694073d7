-- What a stop of a run leaves that found what stops left.
use Rattle.std.proofs.Common.{◌≡◌, List, [], ◌∷◌, codes, Option, Result, Ok, Err, ⊎_elim, refl, sym, subst, ◌∙◌}
use Rattle.cluster_tree.specs.Contents.{Contents, entry_at}
use Rattle.cluster_tree.specs.PathValue.{PathValue, below}
use Rattle.cluster_tree.specs.Tree.{bytes_at}
use Rattle.replay_copies.specs.Ended.{IsClearLeft}
use Rattle.replay_copies.specs.Laid.{IsShut, SameElsewhere, mark_of}
use Rattle.replay_core.specs.Replayed.{After}
use Rattle.replay_core.specs.Under.{replayed_under}
use Rattle.replay_list.specs.declared.listed.Listed.{Listed}
use Rattle.replay_restart.specs.Meant.{taken_of}
use Rattle.replay_restart.specs.Stopped.{Clearing, IsBringingBack, IsRunLeft, IsStopped, Laying, Replaying, ReplayingAgain, Restoring, Untouched}
use Rattle.replay_restart.proofs.PlaceLemmas.{entry-own, not-laid}
use Rattle.replay_restart.proofs.TakenLemmas.{unbegun}
use Rattle.replay_restore.specs.Restored.{IsRestored}
use Rattle.replay_start.specs.Checked.{Start}
use Rattle.replay_start.specs.declared.fault.ReplayFault.{ReplayFault}
use Rattle.restart_laws.specs.Stopped.{EndAsOne, IsLeftBelow, IsStoppedIn, WasBegun}
use Rattle.restart_laws.proofs.AgainLemmas.{ends-as_first}
use Rattle.restart_laws.proofs.BegunLemmas.{beside-back, is-back, starts-same}
use Rattle.restart_laws.proofs.DoneLemmas.{begun-list, one-start}
use Rattle.restart_laws.proofs.StopLemmas.{back-stopped}
use Rattle.restart_laws.proofs.TakenLemmas.{is-taken}
use Rattle.restart_start.specs.Beginning.{MayBegin, without_own}
use Rattle.rmgr_hooks.specs.Custom.{Extension, IsSound}
use Rattle.stored_replay.specs.Stored.{Begun, HadEnded, NotBegun}
use Rattle.stopped_restarts.specs.Course.{Ended, Finished, GoesOn, IsFirst, IsLeftByStops, IsReplayed, Unbegun}
use Rattle.stopped_restarts.proofs.EndedLemmas.{still-ended}
use Rattle.stopped_restarts.proofs.FirstLemmas.{was-begun, was-served}
use Rattle.stopped_restarts.proofs.OneLemmas.{begun-ended, begun-not, done-unfit, ended-not, gone-taken, not-both, shut-taken}
use Rattle.stopped_restarts.proofs.PieceLemmas.{restoring-stopped}
use Rattle.stopped_restarts.proofs.RunLemmas.{run-left}

own_end : (root : PathValue) (r : Result After ReplayFault) → EndAsOne root r r
own_end root (Ok a) = record { files = λ parts. refl; records = refl; end = refl; tli = refl }
own_end root (Err e) = tt

-- before the first run
pub first-unbegun : (custom : Option Extension) (root : PathValue) (c : Contents) → IsFirst custom root c → IsLeftByStops custom root c c
first-unbegun custom root c first = Unbegun (λ path off. refl) (unbegun c root first.anew).shut

module _ (custom : Option Extension) (sound : IsSound custom) (root : PathValue) (c x : Contents) (first : IsFirst custom root c) where
  abbrev Left : Contents → Type 0
  Left = IsLeftByStops custom root c

  as_it_was : (y : Contents) → y ≡ x → Left x → Left y
  as_it_was y is left = subst Left (sym is) left

  -- ---- over what wasn't begun

  from_unbegun : SameElsewhere root c x → IsShut (bytes_at x (mark_of root)) → (y : Contents) → IsStopped custom root x y → Left y
  from_unbegun same shut y (Untouched is) = as_it_was y is (Unbegun same shut)
  from_unbegun same shut y (Laying s listed taken may elsewhere still) = Unbegun (λ path off. elsewhere path off ∙ same path off) still
  from_unbegun same shut y (Replaying s listed d taken may placed laid run) =
      run-left custom root s listed c d d (was-begun custom root c x first same s listed d may placed laid)
      (record { beside = λ path off. refl; blocks = λ name page main own free has. has }) (own_end root (replayed_under custom root s d)) y run
  from_unbegun same shut y (Restoring listed taken back) = absurd (begun-not listed (shut-taken x root (Begun listed) shut taken))
  from_unbegun same shut y (ReplayingAgain s listed again b taken restored may run) = absurd (begun-not listed (shut-taken x root (Begun listed) shut taken))
  from_unbegun same shut y (Clearing taken left) = absurd (ended-not (shut-taken x root HadEnded shut taken))

  -- ---- over what goes on

  module _ (s : Start) (listed : List Listed) (d : Contents) (begun : WasBegun custom root s listed c d) (stopped : IsStoppedIn custom root s d x) where
    taken_up : taken_of x root ≡ Ok (Begun listed)
    taken_up = is-taken custom root s listed c d x begun stopped

    again : (b : Contents) → IsRestored root listed x b → (y : Contents) → IsRunLeft custom root s b y → Left y
    again b restored y run =
        run-left custom root s listed c d b begun (back-stopped custom root s listed c d x b begun stopped restored)
        (ends-as_first custom sound root s listed c d begun (was-served custom root s listed c d first begun) x b stopped
        (is-back custom root s listed c d begun x b stopped restored) (beside-back custom root s listed c d begun x b stopped restored)) y run

    by_again : (t : Start) (other more : List Listed) (b : Contents) → taken_of x root ≡ Ok (Begun other) → IsRestored root other x b → MayBegin custom (without_own b root) root t more → (y : Contents) → IsRunLeft custom root t b y → Left y
    by_again t other more b taken restored may y run =
        let back : IsRestored root listed x b = subst (λ l. IsRestored root l x b) (begun-list other listed (sym taken ∙ taken_up)) restored in
        let same : t ≡ s = one-start t s (sym may.passes ∙ starts-same custom root s listed c d begun x b stopped back ∙ begun.may.passes) in
        again b back y (subst (λ u. IsRunLeft custom root u b y) same run)

    from_begun : (y : Contents) → IsStopped custom root x y → Left y
    from_begun y (Untouched is) = as_it_was y is (GoesOn s listed d begun stopped)
    from_begun y (Laying t other taken may elsewhere still) = not-both NotBegun (Begun listed) (taken_of x root) taken taken_up (begun-not listed)
    from_begun y (Replaying t other f taken may placed laid run) = not-both NotBegun (Begun listed) (taken_of x root) taken taken_up (begun-not listed)
    from_begun y (Restoring other taken back) =
        GoesOn s listed d begun (restoring-stopped custom root s listed c d x y begun stopped (subst (λ l. IsBringingBack root l x y) (begun-list other listed (sym taken ∙ taken_up)) back))
    from_begun y (ReplayingAgain t other more b taken restored may run) = by_again t other more b taken restored may y run
    from_begun y (Clearing taken left) = not-both (Begun listed) HadEnded (taken_of x root) taken_up taken (begun-ended listed)

  -- ---- over one that had ended

  module _ (s : Start) (listed : List Listed) (d : Contents) (begun : WasBegun custom root s listed c d) (replayed : IsReplayed custom root s d x) (ended : taken_of x root ≡ Ok HadEnded) where
    clearing : (y : Contents) → IsClearLeft root x y → Left y
    clearing y left = ⊎_elim
        (λ (mark : entry_at y (mark_of root) ≡ entry_at x (mark_of root)). Ended s listed d begun
        (record { after = replayed.after; is = replayed.is; elsewhere = λ parts off. left.elsewhere (below root parts) off ∙ replayed.elsewhere parts off })
        (still-ended x y root mark
        (left.elsewhere (below root (codes "pg_rewind.unfinished" ∷ [])) (not-laid root (below root (codes "pg_rewind.unfinished" ∷ [])) (codes "pg_rewind.unfinished") refl refl (entry-own root (codes "pg_rewind.unfinished"))))
        (left.elsewhere (below root (codes "pg_resetwal.unfinished" ∷ [])) (not-laid root (below root (codes "pg_resetwal.unfinished" ∷ [])) (codes "pg_resetwal.unfinished") refl refl (entry-own root (codes "pg_resetwal.unfinished"))))
        ended))
        (λ gone. Finished s listed d begun
        (record { after = replayed.after; is = replayed.is; files = record { gone = gone; elsewhere = λ parts off. left.elsewhere (below root parts) off ∙ replayed.elsewhere parts off } }))
        left.told

    from_ended : (y : Contents) → IsStopped custom root x y → Left y
    from_ended y (Untouched is) = as_it_was y is (Ended s listed d begun replayed ended)
    from_ended y (Laying t other taken may elsewhere still) = not-both NotBegun HadEnded (taken_of x root) taken ended ended-not
    from_ended y (Replaying t other f taken may placed laid run) = not-both NotBegun HadEnded (taken_of x root) taken ended ended-not
    from_ended y (Restoring other taken back) = not-both (Begun other) HadEnded (taken_of x root) taken ended (begun-ended other)
    from_ended y (ReplayingAgain t other more b taken restored may run) = not-both (Begun other) HadEnded (taken_of x root) taken ended (begun-ended other)
    from_ended y (Clearing taken left) = clearing y left

  -- ---- over what is done

  module _ (s : Start) (listed : List Listed) (d : Contents) (begun : WasBegun custom root s listed c d) (done : IsLeftBelow custom root s d x) where
    from_done : (y : Contents) → IsStopped custom root x y → Left y
    from_done y (Untouched is) = as_it_was y is (Finished s listed d begun done)
    from_done y (Laying t other taken may elsewhere still) = done-unfit custom root s t other d x done may
    from_done y (Replaying t other f taken may placed laid run) = done-unfit custom root s t other d x done may
    from_done y (Restoring other taken back) = absurd (begun-not other (gone-taken x root (Begun other) done.files.gone taken))
    from_done y (ReplayingAgain t other more b taken restored may run) = absurd (begun-not other (gone-taken x root (Begun other) done.files.gone taken))
    from_done y (Clearing taken left) = absurd (ended-not (gone-taken x root HadEnded done.files.gone taken))

  pub stops-on : (y : Contents) → Left x → IsStopped custom root x y → Left y
  stops-on y (Unbegun same shut) stopped = from_unbegun same shut y stopped
  stops-on y (GoesOn s listed d begun stop) stopped = from_begun s listed d begun stop y stopped
  stops-on y (Ended s listed d begun replayed taken) stopped = from_ended s listed d begun replayed taken y stopped
  stops-on y (Finished s listed d begun done) stopped = from_done s listed d begun done y stopped

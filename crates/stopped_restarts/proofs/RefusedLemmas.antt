-- Why a run that goes on from what a stop left isn't done.
use Rattle.std.proofs.Common.{◌≡◌, List, Option, Result, Ok, Err, refl, ap, sym, subst, ◌∙◌, true≢false}
use Rattle.cluster_tree.specs.Contents.{Contents}
use Rattle.cluster_tree.specs.PathValue.{PathValue}
use Rattle.first_effects.specs.First.{is_changed}
use Rattle.replay_core.specs.Replayed.{After}
use Rattle.replay_core.specs.Under.{replayed_under}
use Rattle.replay_list.specs.declared.listed.Listed.{Listed}
use Rattle.replay_restart.specs.Meant.{Again, Anew, First, IsOver, NotAgain, NotBack, NotBegins, NotCleared, NotEnded, NotLaid, NotReplayed, NotTaken, Over, WhyEnded, WhyFirst, WhyOver, taken_of}
use Rattle.replay_restart.specs.declared.fault.RestartFault.{RestartFault}
use Rattle.replay_restore.specs.Restored.{IsRestored}
use Rattle.replay_start.specs.Checked.{Start}
use Rattle.replay_start.specs.declared.fault.ReplayFault.{ReplayFault}
use Rattle.restart_laws.specs.Stopped.{EndAsOne, IsServed, IsStoppedIn, WasBegun}
use Rattle.restart_laws.proofs.AgainLemmas.{ends-as_first}
use Rattle.restart_laws.proofs.BegunLemmas.{beside-back, is-back, starts-same}
use Rattle.restart_laws.proofs.DoneLemmas.{begun-list, one-start}
use Rattle.restart_laws.proofs.ListedLemmas.{may-begin}
use Rattle.restart_laws.proofs.StopLemmas.{back-stopped}
use Rattle.restart_laws.proofs.TakenLemmas.{is-taken}
use Rattle.restart_start.specs.Beginning.{Changed, MayBegin, Refused, WhyNot, Wrong, without_own}
use Rattle.restart_start.specs.Gathered.{splits_of}
use Rattle.restart_start.specs.declared.fault.RestartFault.{RestartFault as StartFault}
use Rattle.rmgr_hooks.specs.Custom.{Extension, IsSound}
use Rattle.stored_replay.specs.Stored.{Begun, HadEnded, NotBegun, Told}
use Rattle.stopped_restarts.specs.Refused.{BreaksOff, CopiesStay, InTheWay, WhyNotDone}
use Rattle.stopped_restarts.proofs.OneLemmas.{begun-ended, begun-not, not-both}

-- where it may begin no check refuses
never_both : {P : Type 0} (custom : Option Extension) (c : Contents) (root : PathValue) (s : Start) (listed : List Listed) (e : StartFault) → MayBegin custom c root s listed → WhyNot custom c root e → P
never_both custom c root s listed _ may (Refused e is) = absurd (let same : Ok s ≡ Err e = sym may.passes ∙ is in cc)
never_both custom c root s listed _ may (Wrong other e passes is) = absurd (let same : Ok listed ≡ Err e = sym may.lists ∙ is in cc)
never_both custom c root s listed _ may (Changed other more name passes lists least) =
    let same = one-start s other (sym may.passes ∙ passes) in
    absurd (true≢false (sym least.0 ∙ ap (λ (x : Start). is_changed custom (splits_of x.records) name) (sym same) ∙ may.anew name))

-- what breaks off breaks off as the first would have
first_breaks : (root : PathValue) (r q : Result After ReplayFault) (f : ReplayFault) → q ≡ Err f → EndAsOne root r q → (e : ReplayFault) × (r ≡ Err e)
first_breaks root r q f is one = by r refl (subst (EndAsOne root r) is one)
  where
    by : (t : Result After ReplayFault) → r ≡ t → EndAsOne root t (Err f) → (e : ReplayFault) × (r ≡ Err e)
    by (Ok a) so same = absurd same
    by (Err e) so same = (e, so)

module _ (custom : Option Extension) (sound : IsSound custom) (root : PathValue) (s : Start) (listed : List Listed) (c d x : Contents) (begun : WasBegun custom root s listed c d)
    (served : IsServed root s.control.relseg c) (stopped : IsStoppedIn custom root s d x) where
  abbrev Why : RestartFault → Type 0
  Why = WhyNotDone custom root s d x

  taken : taken_of x root ≡ Ok (Begun listed)
  taken = is-taken custom root s listed c d x begun stopped

  restored_list : (other : List Listed) (b : Contents) → taken_of x root ≡ Ok (Begun other) → IsRestored root other x b → IsRestored root listed x b
  restored_list other b is restored = subst (λ l. IsRestored root l x b) (begun-list other listed (sym is ∙ taken)) restored

  -- before anything is changed, nothing refuses
  by_first : (e : RestartFault) → WhyFirst custom x root e → Why e
  by_first e (NotTaken _ is) = absurd (let same : ◌≡◌ {A = Result Told RestartFault} (Ok (Begun listed)) (Err e) = sym taken ∙ is in cc)
  by_first _ (NotBegins f is why) = not-both NotBegun (Begun listed) (taken_of x root) is taken (begun-not listed)

  by_over : (t : Start) (b : Contents) (e : RestartFault) → t ≡ s → IsRestored root listed x b → WhyOver custom root t b e → Why e
  by_over t b _ same restored (NotReplayed f is) =
      let ends = ends-as_first custom sound root s listed c d begun served x b stopped
      (is-back custom root s listed c d begun x b stopped restored) (beside-back custom root s listed c d begun x b stopped restored) in
      let first = first_breaks root (replayed_under custom root s d) (replayed_under custom root s b) f (ap (λ u. replayed_under custom root u b) (sym same) ∙ is) ends in
      BreaksOff f first.0 first.1
  by_over t b _ same restored (NotCleared after f is kept) =
      CopiesStay b after f (back-stopped custom root s listed c d x b begun stopped restored) (ap (λ u. replayed_under custom root u b) (sym same) ∙ is) kept

  by_what : (t : Start) (b : Contents) (e : RestartFault) → IsOver custom x root t b → WhyOver custom root t b e → Why e
  by_what t b e (Anew other is may placed laid) why = not-both NotBegun (Begun listed) (taken_of x root) is taken (begun-not listed)
  by_what t b e (Again other more is restored may) why =
      let back = restored_list other b is restored in
      by_over t b e (one-start t s (sym may.passes ∙ starts-same custom root s listed c d begun x b stopped back ∙ begun.may.passes)) back why

  pub refused-as_one : (e : RestartFault) → WhyEnded custom x root e → Why e
  refused-as_one e (First _ why) = by_first e why
  refused-as_one _ (NotLaid t other f is may kept) = not-both NotBegun (Begun listed) (taken_of x root) is taken (begun-not listed)
  refused-as_one _ (NotBack other f is refused) = InTheWay f refused
  refused-as_one _ (NotAgain other b f is restored why) =
      never_both custom (without_own b root) root s listed f (may-begin custom root s listed c d begun x b stopped (restored_list other b is restored)) why
  refused-as_one e (Over t b _ over why) = by_what t b e over why
  refused-as_one _ (NotEnded f is kept) = not-both (Begun listed) HadEnded (taken_of x root) taken is (begun-ended listed)

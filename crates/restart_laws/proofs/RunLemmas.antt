-- What is left, and what one run leaves that isn't stopped.
use Rattle.std.proofs.Common.{◌≡◌, ℕ, Bool, true, false, List, Option, Result, Ok, inl, refl, sym, subst, ◌∙◌}
use Rattle.cluster_tree.specs.Contents.{Contents, entry_at}
use Rattle.cluster_tree.specs.PathValue.{PathValue, below}
use Rattle.replay_copies.specs.Laid.{IsLaid, is_laid_at}
use Rattle.replay_core.specs.Replayed.{After}
use Rattle.replay_core.specs.Under.{replayed_under}
use Rattle.replay_core.specs.declared.outcome.Replayed.{Replayed as Count}
use Rattle.replay_list.specs.declared.listed.Listed.{Listed}
use Rattle.replay_restart.specs.Meant.{Again, Anew, IsLeftBy, IsLeftOver, IsOver, Tells, WasEnded, WasReplayed}
use Rattle.replay_restart.specs.declared.outcome.Restarted.{Restarted}
use Rattle.replay_restart.specs.declared.outcome.Restarted.TheVariants as told
use Rattle.replay_start.specs.Checked.{Start}
use Rattle.replay_start.specs.declared.fault.ReplayFault.{ReplayFault}
use Rattle.replayed_bytes.specs.Bytes.{HaveSameFiles}
use Rattle.rmgr_hooks.specs.Custom.{Extension, IsSound}
use Rattle.restart_laws.specs.Stopped.{AreOneRun, AreSameEnd, EndAsOne, IsLeftBelow, IsServed, IsStoppedIn, WasBegun}
use Rattle.restart_laws.proofs.AgainLemmas.{ends-as_first}
use Rattle.restart_laws.proofs.DoneLemmas.{is-done, no-begun, one-list, one-start}
use Rattle.restart_laws.proofs.LaidLemmas.{laid-same}

both_end : (root : PathValue) (r q : Result After ReplayFault) (a b : After) → r ≡ Ok a → q ≡ Ok b → EndAsOne root r q → AreSameEnd root a b
both_end root r q a b is so one = subst (λ x. EndAsOne root x (Ok b)) is (subst (EndAsOne root r) so one)

module _ (custom : Option Extension) (sound : IsSound custom) (root : PathValue) (s : Start) (listed : List Listed) (c d new one : Contents)
    (begun : WasBegun custom root s listed c d) (own : IsLaid root listed c d) (served : IsServed root s.control.relseg c) where
  -- nothing was stopped yet
  no_stop : IsStoppedIn custom root s d d
  no_stop = record { beside = λ path off. refl; blocks = λ name page main own free has. has }

  laid_end : (e : Contents) → IsLaid root listed c e → EndAsOne root (replayed_under custom root s d) (replayed_under custom root s e)
  laid_end e laid =
      let same = laid-same root listed c e d laid own in
      ends-as_first custom sound root s listed c d begun served d e no_stop (λ parts. inl (same (below root parts))) (λ path off. same path)

  module _ (left : IsLeftBelow custom root s d new) where
    abbrev IsRun : Count → Type 0
    IsRun count = HaveSameFiles new root one root × Tells left.after count

    from_over : (count : Count) (e : Contents) → IsLaid root listed c e → IsLeftOver custom root s e one count → IsRun count
    from_over count e laid over =
        let end = both_end root (replayed_under custom root s d) (replayed_under custom root s e) left.after over.after left.is over.is (laid_end e laid) in (
          λ parts. by parts end.files (is_laid_at root (below root parts)) refl,
          record { records = over.tells.records ∙ sym end.records; end = over.tells.end ∙ sym end.end; tli = over.tells.tli ∙ sym end.tli },
        )
      where
        by : (parts : List (List ℕ)) → HaveSameFiles left.after.files root over.after.files root → (t : Bool) → is_laid_at root (below root parts) ≡ t → entry_at new (below root parts) ≡ entry_at one (below root parts)
        by parts same true is = left.files.gone (below root parts) is ∙ sym (over.files.gone (below root parts) is)
        by parts same false off = left.files.elsewhere parts off ∙ same parts ∙ sym (over.files.elsewhere (below root parts) off)

    by_over : (count : Count) (t : Start) (e : Contents) → IsOver custom c root t e → IsLeftOver custom root t e one count → IsRun count
    by_over count t e (Anew other not may placed laid) over =
        let start : t ≡ s = one-start t s (sym may.passes ∙ begun.may.passes) in
        let list : other ≡ listed = one-list other listed (sym may.lists ∙ begun.may.lists) in
        from_over count e (subst (λ l. IsLaid root l c e) list laid) (subst (λ u. IsLeftOver custom root u e one count) start over)
    by_over count t e (Again other again is restored may) over = no-begun other (sym begun.anew ∙ is)

    abbrev IsOf : Restarted → Type 0
    IsOf (told.Replayed count) = IsRun count
    IsOf told.HadEnded = Unit {0}

    by_left : (t : Restarted) → IsLeftBy custom c root one t → IsOf t
    by_left t (WasReplayed {count = count} u e is over) = by_over count u e is over
    by_left t (WasEnded is cleared) = tt

    pub one-run : (count : Count) → IsLeftBy custom c root one (told.Replayed count) → IsRun count
    one-run count run = by_left (told.Replayed count) run

  pub as-one_run : (x : Contents) (count single : Count) → IsStoppedIn custom root s d x → IsLeftBy custom x root new (told.Replayed count) → IsLeftBy custom c root one (told.Replayed single)
      → AreOneRun root new one count single
  as-one_run x count single stopped done run =
      let left = is-done custom sound root s listed c d x new begun served stopped count done in
      let both = one-run left.0 single run in
      record {
        files = both.0;
        records = left.1.records ∙ sym both.1.records;
        end = left.1.end ∙ sym both.1.end;
        tli = left.1.tli ∙ sym both.1.tli;
      }

-- What is left, and told, is what one without --restart leaves and tells.
use Rattle.std.proofs.Common.{◌≡◌, ℕ, Bool, true, false, List, Option, Result, Ok, Err, refl, ap, sym, subst, ◌∙◌}
use Rattle.cluster_tree.specs.Contents.{Contents, entry_at}
use Rattle.cluster_tree.specs.PathValue.{PathValue, below}
use Rattle.cluster_tree.specs.declared.file_fault.FileFault.{FileFault}
use Rattle.file_edits.specs.Clearing.{tree_removed}
use Rattle.replay_copies.specs.Laid.{SameElsewhere, is_laid_at}
use Rattle.replay_core.specs.Replayed.{After, after_replay}
use Rattle.replay_core.specs.Under.{replayed_under}
use Rattle.replay_core.specs.declared.outcome.Replayed.{Replayed as Count}
use Rattle.replay_list.specs.declared.listed.Listed.{Listed}
use Rattle.replay_restart.specs.Meant.{Again, Anew, IsLeftBy, IsLeftOver, IsOver, WasEnded, WasReplayed, taken_of}
use Rattle.replay_restart.specs.declared.fault.RestartFault.{RestartFault}
use Rattle.replay_restart.specs.declared.outcome.Restarted.{Restarted}
use Rattle.replay_restart.specs.declared.outcome.Restarted.TheVariants as told
use Rattle.replay_restart.proofs.PlaceLemmas.{laid-not_restored}
use Rattle.replay_restart.proofs.ReadyLemmas.{can-lay}
use Rattle.replay_restart.proofs.TakenLemmas.{unbegun}
use Rattle.replay_start.specs.Checked.{Start, start_of}
use Rattle.replay_start.specs.declared.fault.ReplayFault.{ReplayFault}
use Rattle.stopped_restarts.specs.Stopped.{IsClearedBelow, IsServed, IsStoppedIn, WasBegun}
use Rattle.stopped_restarts.proofs.DoneLemmas.{no-begun, no-ended}
use Rattle.restart_start.specs.Beginning.{without_own}
use Rattle.rmgr_hooks.specs.Custom.{Extension}
use Rattle.stored_replay.specs.Shadows.{shadow_folder}
use Rattle.stored_replay.specs.Stored.{NotBegun}
use Rattle.stopped_restarts.specs.Course.{IsLeftByOne, IsToldOf}
use Rattle.stopped_restarts.specs.Refused.{BreaksOff, CopiesStay, InTheWay, WhyNotDone}
use Rattle.local_replays.specs.Seen.{EndSame}
use Rattle.plain_restarts.specs.Plain.{IsLeftPlainly, WhyNotPlainly, cleared}
use Rattle.plain_restarts.specs.Plain as plain
use Rattle.plain_restarts.proofs.ClearedLemmas.{is-cleared}
use Rattle.plain_restarts.proofs.CopyLemmas.{copies-removed}
use Rattle.plain_restarts.proofs.PlainLemmas.{SameEnd, laid-kept, off, plain-same}

abbrev OkFiles : Contents → Result Contents FileFault
OkFiles c = Ok c

-- the other one ends so too
record EndsSo (root : PathValue) (a : After) (s : Result After ReplayFault) : Type 0 where
  after : After
  is : s ≡ Ok after
  same : SameEnd root a after

ends_so : (root : PathValue) (a : After) (r s : Result After ReplayFault) → r ≡ Ok a → EndSame (SameEnd root) r s → EndsSo root a s
ends_so root a r s is same = by s (subst (λ x. EndSame (SameEnd root) x s) is same)
  where
    by : (s : Result After ReplayFault) → EndSame (SameEnd root) (Ok a) s → EndsSo root a s
    by (Ok b) same = record { after = b; is = refl; same = same }
    by (Err f) same = absurd same

refused_so : (root : PathValue) (f : ReplayFault) (r s : Result After ReplayFault) → r ≡ Err f → EndSame (SameEnd root) r s → s ≡ Err f
refused_so root f r s is same = by s (subst (λ x. EndSame (SameEnd root) x s) is same)
  where
    by : (s : Result After ReplayFault) → EndSame (SameEnd root) (Err f) s → s ≡ Err f
    by (Ok b) same = absurd same
    by (Err g) same = ap (λ x. Err x) same

told_so : (root : PathValue) (a b : After) (t : Restarted) → SameEnd root a b → IsToldOf a t → IsToldOf b t
told_so root a b (told.Replayed count) same tells = record { records = tells.records ∙ sym same.records; end = tells.end ∙ sym same.end; tli = tells.tli ∙ sym same.tli }
told_so root a b told.HadEnded same tells = tt

-- at each path below the root
all_same : (root : PathValue) (a b : After) (new : Contents) → IsClearedBelow root a.files new → SameEnd root a b
    → (parts : List (List ℕ)) (t : Bool) → is_laid_at root (below root parts) ≡ t → entry_at new (below root parts) ≡ entry_at b.files (below root parts)
all_same root a b new files same parts true is = files.gone (below root parts) is ∙ sym (same.gone (below root parts) is)
all_same root a b new files same parts false is = files.elsewhere parts is ∙ sym (same.files (below root parts) (off (is_laid_at root (below root parts)) is))

module _ (custom : Option Extension) (root : PathValue) (c : Contents) (s : Start) (d : Contents) (passes : start_of custom (without_own c root) root ≡ Ok s) (laid : SameElsewhere root c d) where
  abbrev e : Contents
  e = cleared root c

  both : EndSame (SameEnd root) (replayed_under custom root s d) (after_replay custom e root)
  both = plain-same custom root s c d e passes laid (is-cleared root c)

  left_so : (a : After) → replayed_under custom root s d ≡ Ok a → (new : Contents) → IsClearedBelow root a.files new → (t : Restarted) → IsToldOf a t → IsLeftPlainly custom root c new t
  left_so a is new files t tells =
      let ends = ends_so root a (replayed_under custom root s d) (after_replay custom e root) is both in
      record {
        after = ends.after;
        is = ends.is;
        files = λ parts. all_same root a ends.after new files ends.same parts (is_laid_at root (below root parts)) refl;
        tells = told_so root a ends.after t ends.same tells;
      }

  pub breaks-off : (f : ReplayFault) → replayed_under custom root s d ≡ Err f → after_replay custom e root ≡ Err f
  breaks-off f is = refused_so root f (replayed_under custom root s d) (after_replay custom e root) is both

pub one-plain : (custom : Option Extension) (root : PathValue) (c new : Contents) (t : Restarted) → IsLeftByOne custom root c new t → IsLeftPlainly custom root c new t
one-plain custom root c new t one =
    left_so custom root c one.s one.d one.begun.may.passes one.begun.laid.elsewhere one.left.after one.left.is new one.left.files t one.tells

module _ (custom : Option Extension) (root : PathValue) (c new : Contents) (anew : taken_of c root ≡ Ok NotBegun) where
  over_plain : (count : Count) (s : Start) (d : Contents) → IsOver custom c root s d → IsLeftOver custom root s d new count → IsLeftPlainly custom root c new (told.Replayed count)
  over_plain count s d (Anew listed taken may placed laid) left =
      left_so custom root c s d may.passes laid.elsewhere left.after left.is new
      (record { gone = left.files.gone; elsewhere = λ parts away. left.files.elsewhere (below root parts) away }) (told.Replayed count) left.tells
  over_plain count s d (Again listed again is restored may) left = no-begun listed (sym anew ∙ is)

  pub run-plain : (t : Restarted) → IsLeftBy custom c root new t → IsLeftPlainly custom root c new t
  run-plain (told.Replayed count) (WasReplayed s d over left) = over_plain count s d over left
  run-plain told.HadEnded (WasEnded is gone) = no-ended (sym anew ∙ is)

  -- such a run tells of a replay
  pub run-replayed : (t : Restarted) → IsLeftBy custom c root new t → (count : Count) × IsLeftPlainly custom root c new (told.Replayed count)
  run-replayed (told.Replayed count) left = (count, run-plain (told.Replayed count) left)
  run-replayed told.HadEnded (WasEnded is gone) = no-ended (sym anew ∙ is)

-- ---- why one isn't done that goes on

module _ (custom : Option Extension) (root : PathValue) (s : Start) (listed : List Listed) (c d x : Contents) (begun : WasBegun custom root s listed c d) (served : IsServed root s.control.relseg c) where
  stays_not : {P : Type 0} (b : Contents) (a : After) (f : FileFault) → IsStoppedIn custom root s d b → replayed_under custom root s b ≡ Ok a → tree_removed (shadow_folder root) a.files ≡ Err f → P
  stays_not b a f stopped is refused =
      let found = (can-lay c root custom s listed begun.tree (unbegun c root begun.anew) begun.may begun.list).found in
      let gone = copies-removed root c d listed found begun.laid.copies a.files served.bounded.room
      (λ path laid. laid-kept custom root s b a is path laid ∙ stopped.beside path (laid-not_restored root path laid)) in
      absurd (let no : OkFiles gone.0 ≡ Err f = sym gone.1 ∙ refused in cc)

  pub refused-plainly : (f : RestartFault) → WhyNotDone custom root s d x f → WhyNotPlainly custom root c x f
  refused-plainly _ (InTheWay f is) = plain.InTheWay f is
  refused-plainly _ (BreaksOff f first is) = plain.BreaksOff f first (breaks-off custom root c s d begun.may.passes begun.laid.elsewhere first is)
  refused-plainly _ (CopiesStay b a f stopped is refused) = stays_not b a f stopped is refused

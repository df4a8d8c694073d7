-- A replay that takes up what a stop left, and is done.
use Rattle.std.proofs.Common.{◌≡◌, List, Option, Result, Ok, Err, refl, sym, subst, ◌∙◌}
use Rattle.cluster_tree.specs.Contents.{Contents}
use Rattle.cluster_tree.specs.PathValue.{PathValue, below}
use Rattle.file_walk.specs.declared.fault.WalkFault.{WalkFault}
use Rattle.replay_copies.specs.Laid.{SameElsewhere}
use Rattle.replay_core.specs.Replayed.{After}
use Rattle.replay_core.specs.Under.{replayed_under}
use Rattle.replay_core.specs.declared.outcome.Replayed.{Replayed as Count}
use Rattle.replay_list.specs.declared.listed.Listed.{Listed}
use Rattle.replay_restart.specs.Meant.{Again, Anew, IsCleared, IsLeftBy, IsLeftOver, IsOver, Tells, WasEnded, WasReplayed, taken_of}
use Rattle.replay_restart.specs.declared.fault.RestartFault.{RestartFault}
use Rattle.replay_restart.specs.declared.outcome.Restarted.{Restarted}
use Rattle.replay_restart.specs.declared.outcome.Restarted.TheVariants as told
use Rattle.replay_restore.specs.Restored.{IsRestored}
use Rattle.replay_start.specs.Checked.{Start}
use Rattle.replay_start.specs.declared.fault.ReplayFault.{ReplayFault}
use Rattle.rmgr_hooks.specs.Custom.{Extension, IsSound}
use Rattle.stored_replay.specs.Stored.{Begun, HadEnded, NotBegun, Told}
use Rattle.restart_laws.specs.Stopped.{AreSameEnd, EndAsOne, IsLeftBelow, IsServed, IsStoppedIn, WasBegun}
use Rattle.restart_laws.proofs.AgainLemmas.{ends-as_first}
use Rattle.restart_laws.proofs.BegunLemmas.{beside-back, is-back, starts-same}
use Rattle.restart_laws.proofs.TakenLemmas.{is-taken}

abbrev OkStart : Start → Result Start ReplayFault
OkStart s = Ok s

pub one-start : (a b : Start) → OkStart a ≡ OkStart b → a ≡ b
one-start a b e = cc

abbrev OkTold : Told → Result Told RestartFault
OkTold t = Ok t

pub begun-list : (a b : List Listed) → OkTold (Begun a) ≡ OkTold (Begun b) → a ≡ b
begun-list a b e = cc

pub no-begun : {P : Type 0} (a : List Listed) → OkTold NotBegun ≡ OkTold (Begun a) → P
no-begun a e = absurd cc

pub no-ended : {P : Type 0} → OkTold NotBegun ≡ OkTold HadEnded → P
no-ended e = absurd cc

abbrev OkList : List Listed → Result (List Listed) WalkFault
OkList l = Ok l

pub one-list : (a b : List Listed) → OkList a ≡ OkList b → a ≡ b
one-list a b e = cc

pub record First (root : PathValue) (r : Result After ReplayFault) (b : After) : Type 0 where
  pub after : After
  pub is : r ≡ Ok after
  pub same : AreSameEnd root after b

pub first-of : (root : PathValue) (r q : Result After ReplayFault) (b : After) → q ≡ Ok b → EndAsOne root r q → First root r b
first-of root r q b is one = by r refl (subst (EndAsOne root r) is one)
  where
    by : (t : Result After ReplayFault) → r ≡ t → EndAsOne root t (Ok b) → First root r b
    by (Ok a) so same = record { after = a; is = so; same = same }
    by (Err e) so same = absurd same

module _ (custom : Option Extension) (sound : IsSound custom) (root : PathValue) (s : Start) (listed : List Listed) (c d x new : Contents)
    (begun : WasBegun custom root s listed c d) (served : IsServed root s.control.relseg c) (stopped : IsStoppedIn custom root s d x) where
  -- ---- where it is replayed

  abbrev first_end : (b : Contents) (after : After) → IsRestored root listed x b → replayed_under custom root s b ≡ Ok after → First root (replayed_under custom root s d) after
  first_end b after restored is =
      first-of root (replayed_under custom root s d) (replayed_under custom root s b) after is
      (ends-as_first custom sound root s listed c d begun served x b stopped (is-back custom root s listed c d begun x b stopped restored) (beside-back custom root s listed c d begun x b stopped restored))

  abbrev left_first : (after : After) → First root (replayed_under custom root s d) after → IsCleared root after.files new → IsLeftBelow custom root s d new
  left_first after first cleared = record {
    after = first.after;
    is = first.is;
    files = record { gone = cleared.gone; elsewhere = λ parts off. cleared.elsewhere (below root parts) off ∙ sym (first.same.files parts) };
  }

  abbrev IsDone : Count → Type 0
  IsDone count = (left : IsLeftBelow custom root s d new) × Tells left.after count

  from_over : (count : Count) (b : Contents) → IsRestored root listed x b → IsLeftOver custom root s b new count → IsDone count
  from_over count b restored over =
      let first = first_end b over.after restored over.is in (
        left_first over.after first over.files,
        record { records = over.tells.records ∙ sym first.same.records; end = over.tells.end ∙ sym first.same.end; tli = over.tells.tli ∙ sym first.same.tli },
      )

  taken : taken_of x root ≡ Ok (Begun listed)
  taken = is-taken custom root s listed c d x begun stopped

  by_over : (count : Count) (t : Start) (b : Contents) → IsOver custom x root t b → IsLeftOver custom root t b new count → IsDone count
  by_over count t b (Anew other not may placed laid) over = no-begun listed (sym not ∙ taken)
  by_over count t b (Again other again is restored may) over =
      let back : IsRestored root listed x b = subst (λ l. IsRestored root l x b) (begun-list other listed (sym is ∙ taken)) restored in
      let same : t ≡ s = one-start t s (sym may.passes ∙ starts-same custom root s listed c d begun x b stopped back ∙ begun.may.passes) in
      from_over count b back (subst (λ u. IsLeftOver custom root u b new count) same over)

  abbrev IsOf : Restarted → Type 0
  IsOf (told.Replayed count) = IsDone count
  IsOf told.HadEnded = Unit {0}

  by_left : (t : Restarted) → IsLeftBy custom x root new t → IsOf t
  by_left t (WasReplayed {count = count} u b is over) = by_over count u b is over
  by_left t (WasEnded is cleared) = tt

  pub is-done : (count : Count) → IsLeftBy custom x root new (told.Replayed count) → IsDone count
  is-done count left = by_left (told.Replayed count) left

  -- ---- where it had ended

  module _ (y b : Contents) (after : After) (restored : IsRestored root listed x b) (is : replayed_under custom root s b ≡ Ok after) (same : SameElsewhere root after.files y) where
    abbrev EndsAs : Restarted → Type 0
    EndsAs (told.Replayed count) = Unit {0}
    EndsAs told.HadEnded = IsCleared root after.files new

    by_end : (t : Restarted) → IsLeftBy custom y root new t → EndsAs t
    by_end t (WasReplayed {count = count} u e of over) = tt
    by_end t (WasEnded of cleared) = record { gone = cleared.gone; elsewhere = λ path off. cleared.elsewhere path off ∙ same path off }

    pub has-ended : IsLeftBy custom y root new told.HadEnded → IsLeftBelow custom root s d new
    has-ended left = left_first after (first_end b after restored is) (by_end told.HadEnded left)

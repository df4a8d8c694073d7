-- A run that is done and found what stops left leaves what one run leaves.
use Rattle.std.proofs.Common.{◌≡◌, ℕ, List, [], ◌∷◌, codes, length, Option, None, Some, Result, Ok, Err, refl, ap, sym, ◌∙◌, true≢false, arith}
use Rattle.std.proofs.lemmas.List.{length-append}
use Rattle.std.specs.FinMap.{remove}
use Rattle.cluster_tree.specs.Causes.{given, unless}
use Rattle.cluster_tree.specs.Contents.{Contents, Entry, FileEntry, FolderEntry, LinkEntry, entry_at, is_file}
use Rattle.cluster_tree.specs.PathValue.{PathValue, below}
use Rattle.cluster_tree.specs.Tree.{bytes_at, bytes_in, file_of, written}
use Rattle.cluster_tree.proofs.ContentsLemmas.{entry-removed}
use Rattle.clusters.specs.WholeFile.{all_of}
use Rattle.control_file.specs.Reading.{timeline_of}
use Rattle.control_file.specs.Writing.{control_bytes}
use Rattle.file_edits.proofs.LawLemmas.{rootless}
use Rattle.replay_control.specs.Following.{control_left}
use Rattle.replay_copies.specs.Ended.{IsGone}
use Rattle.replay_copies.specs.Laid.{IsShut, SameElsewhere, mark_of}
use Rattle.replay_copies.proofs.TellLemmas.{shut-not_begun}
use Rattle.replay_core.specs.Faults.{recorded}
use Rattle.replay_core.specs.Replayed.{After, control_path, end_of, label_path, missing_page}
use Rattle.replay_core.specs.Under.{left_under, left_under_or, replayed_under, world_under}
use Rattle.replay_core.proofs.StartedLemmas.{is_given}
use Rattle.replay_list.specs.declared.listed.Listed.{Listed}
use Rattle.replay_restart.specs.Meant.{Again, Anew, IsCleared, IsLeftBy, IsLeftOver, IsOver, WasEnded, WasReplayed, taken_of}
use Rattle.replay_restart.specs.declared.fault.RestartFault.{RestartFault}
use Rattle.replay_restart.specs.declared.outcome.Restarted.{Restarted}
use Rattle.replay_restart.specs.declared.outcome.Restarted.TheVariants as told
use Rattle.replay_core.specs.declared.outcome.Replayed.{Replayed as Count}
use Rattle.replay_restart.proofs.PlaceLemmas.{entry-own, mark-laid, not-laid}
use Rattle.replay_restart.proofs.ReadyLemmas.{own-file}
use Rattle.replay_restart.proofs.TakenLemmas.{by-mark, taken-told}
use Rattle.replay_start.specs.Checked.{Start}
use Rattle.replay_start.specs.declared.fault.ReplayFault.{ReplayFault}
use Rattle.replay_world.specs.Records.{records_after}
use Rattle.replay_world.specs.World.{World}
use Rattle.restart_laws.specs.Stopped.{IsLeftBelow, WasBegun}
use Rattle.restart_laws.proofs.DoneLemmas.{is-done}
use Rattle.restart_laws.proofs.TakenLemmas.{is-taken}
use Rattle.restart_start.specs.Beginning.{MayBegin, without_own}
use Rattle.rmgr_hooks.specs.Custom.{Extension, IsSound}
use Rattle.stored_replay.specs.Marks.{own_bytes}
use Rattle.stored_replay.specs.Stored.{Begun, HadEnded, NotBegun, Told, told_in}
use Rattle.stored_replay.specs.declared.fault.StoredReplayFault.{StoredReplayFault}
use Rattle.stopped_restarts.specs.Course.{Ended, Finished, GoesOn, IsFirst, IsLeftByOne, IsLeftByStops, Unbegun}
use Rattle.stopped_restarts.proofs.FirstLemmas.{was-begun, was-served}

-- ---- what isn't taken up as begun

abbrev Taken : Told → Result Told RestartFault
Taken t = Ok t

pub not-both : {P : Type 0} (a b : Told) (r : Result Told RestartFault) → r ≡ Ok a → r ≡ Ok b → (a ≡ b → ⊥) → P
not-both a b r one two never = absurd (let same : Taken a ≡ Taken b = sym one ∙ two in never cc)

pub begun-not : (listed : List Listed) → NotBegun ≡ Begun listed → ⊥
begun-not listed e = cc

pub ended-not : NotBegun ≡ HadEnded → ⊥
ended-not e = cc

pub begun-ended : (listed : List Listed) → Begun listed ≡ HadEnded → ⊥
begun-ended listed e = cc

-- a mark that is shut, or none, tells that none was begun
shut_told : (x : Contents) (root : PathValue) (o : Option Entry) → IsShut (bytes_in o) → told_in x root (all_of (file_of o)) ≡ Ok NotBegun
shut_told x root None shut = refl
shut_told x root (Some (FolderEntry bad)) shut = refl
shut_told x root (Some (FileEntry bytes)) shut = shut-not_begun root x bytes shut
shut_told x root (Some LinkEntry) shut = refl

abbrev Tells : Told → Result Told StoredReplayFault
Tells t = Ok t

none_but : (x : Contents) (root : PathValue) (t : Told) → told_in x root (own_bytes x root) ≡ Ok NotBegun → taken_of x root ≡ Ok t → NotBegun ≡ t
none_but x root t none taken =
    let same : Tells NotBegun ≡ Tells t = sym none ∙ (by-mark x root t (taken-told x root t taken)).told in
    cc

pub shut-taken : (x : Contents) (root : PathValue) (t : Told) → IsShut (bytes_at x (mark_of root)) → taken_of x root ≡ Ok t → NotBegun ≡ t
shut-taken x root t shut taken = none_but x root t (shut_told x root (entry_at x (mark_of root)) shut) taken

pub gone-taken : (x : Contents) (root : PathValue) (t : Told) → IsGone root x → taken_of x root ≡ Ok t → NotBegun ≡ t
gone-taken x root t gone taken = none_but x root t (ap (λ o. told_in x root (all_of (file_of o))) (gone (mark_of root) (mark-laid root))) taken

-- ---- behind a replay there is no label

module _ (root : PathValue) (w : World) (tli end : ℕ) where
  abbrev kept : Contents
  kept = written w.files (control_path root) 0 (control_bytes (control_left tli end w.control))

  no_label : entry_at (remove kept (label_path root)) (label_path root) ≡ None
  no_label = entry-removed kept (label_path root) ∙ rootless (label_path root).parts (omega (arith, length-append root.parts (codes "backup_label" ∷ [])))

missing : (root : PathValue) (tli count end : ℕ) (w : World) (a : After) → left_under_or root tli count end w ≡ Ok a → entry_at a.files (label_path root) ≡ None
missing root tli count end w a is = by (missing_page w.skipped) is
  where
    by : (o : Option ReplayFault) → unless o (Ok (left_under root tli count end w)) ≡ Ok a → entry_at a.files (label_path root) ≡ None
    by None e = let same : left_under root tli count end w ≡ a = cc in ap (λ (x : After). entry_at x.files (label_path root)) (sym same) ∙ no_label root w tli end
    by (Some f) e = absurd cc

replayed_no_label : (custom : Option Extension) (root : PathValue) (s : Start) (d : Contents) (a : After) → replayed_under custom root s d ≡ Ok a → entry_at a.files (label_path root) ≡ None
replayed_no_label custom root s d a is = by (recorded (records_after custom root s.control.relseg s.records (world_under s d))) is
  where
    by : (r : Result World ReplayFault) → given r (left_under_or root (timeline_of s.control) (length s.records) (end_of s)) ≡ Ok a → entry_at a.files (label_path root) ≡ None
    by (Ok w) e = missing root (timeline_of s.control) (length s.records) (end_of s) w a e
    by (Err f) e = absurd cc

-- so none begins over what a run left that is done
pub done-unfit : {P : Type 0} (custom : Option Extension) (root : PathValue) (s t : Start) (listed : List Listed) (d x : Contents) → IsLeftBelow custom root s d x → MayBegin custom (without_own x root) root t listed → P
done-unfit custom root s t listed d x left may =
    let there = own-file x root (label_path root) (is_given custom (without_own x root) root t may.passes).label in
    let off = not-laid root (label_path root) (codes "backup_label") refl refl (entry-own root (codes "backup_label")) in
    let none : entry_at x (label_path root) ≡ None = left.files.elsewhere (codes "backup_label" ∷ []) off ∙ replayed_no_label custom root s d left.after left.is in
    absurd (true≢false (sym there ∙ ap is_file none))

-- ---- by what stops left

module _ (custom : Option Extension) (sound : IsSound custom) (root : PathValue) (c x new : Contents) (first : IsFirst custom root c) where
  abbrev IsOne : Restarted → Type 0
  IsOne t = IsLeftByOne custom root c new t

  abbrev EndsAs : Restarted → Type 0
  EndsAs (told.Replayed count) = (s : Start) × (d : Contents) × IsOver custom x root s d × IsLeftOver custom root s d new count
  EndsAs told.HadEnded = (taken_of x root ≡ Ok HadEnded) × IsCleared root x new

  by_left : (t : Restarted) → IsLeftBy custom x root new t → EndsAs t
  by_left t (WasReplayed s d is over) = (s, d, is, over)
  by_left t (WasEnded is cleared) = (is, cleared)

  left_over : (s : Start) (listed : List Listed) (d : Contents) (count : Count) → WasBegun custom root s listed c d → IsLeftOver custom root s d new count → IsOne (told.Replayed count)
  left_over s listed d count begun over = record {
    s = s;
    listed = listed;
    d = d;
    begun = begun;
    left = record { after = over.after; is = over.is; files = record { gone = over.files.gone; elsewhere = λ parts off. over.files.elsewhere (below root parts) off } };
    tells = over.tells;
  }

  from_unbegun : SameElsewhere root c x → IsShut (bytes_at x (mark_of root)) → (t : Restarted) → EndsAs t → IsOne t
  from_unbegun same shut (told.Replayed count) (s, d, Anew listed taken may placed laid, over) = left_over s listed d count (was-begun custom root c x first same s listed d may placed laid) over
  from_unbegun same shut (told.Replayed count) (s, d, Again listed again taken restored may, over) = absurd (begun-not listed (shut-taken x root (Begun listed) shut taken))
  from_unbegun same shut told.HadEnded (taken, cleared) = absurd (ended-not (shut-taken x root HadEnded shut taken))

  from_ended : (t : Restarted) → taken_of x root ≡ Ok HadEnded → (IsCleared root x new → IsOne told.HadEnded) → EndsAs t → IsOne t
  from_ended (told.Replayed count) taken one (s, d, Anew listed other may placed laid, over) = not-both NotBegun HadEnded (taken_of x root) other taken ended-not
  from_ended (told.Replayed count) taken one (s, d, Again listed again other restored may, over) = not-both (Begun listed) HadEnded (taken_of x root) other taken (begun-ended listed)
  from_ended told.HadEnded taken one (other, cleared) = one cleared

  from_finished : (s : Start) (d : Contents) → IsLeftBelow custom root s d x → (t : Restarted) → EndsAs t → IsOne t
  from_finished s d left (told.Replayed count) (u, f, Anew listed taken may placed laid, over) = done-unfit custom root s u listed d x left may
  from_finished s d left (told.Replayed count) (u, f, Again listed again taken restored may, over) = absurd (begun-not listed (gone-taken x root (Begun listed) left.files.gone taken))
  from_finished s d left told.HadEnded (taken, cleared) = absurd (ended-not (gone-taken x root HadEnded left.files.gone taken))

  pub one-run : (t : Restarted) → IsLeftByStops custom root c x → IsLeftBy custom x root new t → IsOne t
  one-run t (Unbegun same shut) left = from_unbegun same shut t (by_left t left)
  one-run (told.Replayed count) (GoesOn s listed d begun stopped) left =
      let done = is-done custom sound root s listed c d x new begun (was-served custom root s listed c d first begun) stopped count left in
      record { s = s; listed = listed; d = d; begun = begun; left = done.0; tells = done.1 }
  one-run told.HadEnded (GoesOn s listed d begun stopped) left =
      not-both (Begun listed) HadEnded (taken_of x root) (is-taken custom root s listed c d x begun stopped) (by_left told.HadEnded left).0 (begun-ended listed)
  one-run t (Ended s listed d begun replayed taken) left =
      from_ended t taken
      (λ cleared. record {
        s = s;
        listed = listed;
        d = d;
        begun = begun;
        left = record { after = replayed.after; is = replayed.is; files = record { gone = cleared.gone; elsewhere = λ parts off. cleared.elsewhere (below root parts) off ∙ replayed.elsewhere parts off } };
        tells = tt;
      }) (by_left t left)
  one-run t (Finished s listed d begun left_all) left = from_finished s d left_all t (by_left t left)

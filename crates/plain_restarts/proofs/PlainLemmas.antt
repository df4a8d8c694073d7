-- A replay under a mark and copies, beside the one of the same cluster without.
use Rattle.std.proofs.Common.{◌≡◌, ◌≢◌, ℕ, Bool, true, false, not, ◌||◌, List, [], ◌∷◌, bytes_eq, codes, length, Option, None, Some, Result, Ok, Err, refl, ap, sym, subst, ◌∙◌, true≢false, arith}
use Rattle.std.proofs.lemmas.List.{length-append}
use Rattle.std.specs.FinMap.{insert, remove}
use Rattle.layout.specs.Splice.{splice}
use Rattle.cluster_tree.specs.Causes.{given, unless}
use Rattle.cluster_tree.specs.Change.{all_changed}
use Rattle.cluster_tree.specs.Contents.{Contents, FileEntry, entry_at}
use Rattle.cluster_tree.specs.PathOrder.{path_eq}
use Rattle.cluster_tree.specs.PathValue.{PathValue, below}
use Rattle.cluster_tree.specs.Tree.{bytes_at, bytes_in, written}
use Rattle.cluster_tree.proofs.ContentsLemmas.{entry-put_other, entry-removed, entry-removed_other}
use Rattle.cluster_tree.proofs.OrderLemmas.{path_eq-other, path_eq-own, path_eq-same}
use Rattle.cluster_tree.proofs.TreeLemmas.{same_or_other}
use Rattle.control_file.specs.Reading.{timeline_of}
use Rattle.control_file.specs.Writing.{control_bytes}
use Rattle.control_file.specs.declared.control.Control.{Control}
use Rattle.file_edits.proofs.LawLemmas.{rootless}
use Rattle.file_effects.specs.Own.{is_at}
use Rattle.replay_control.specs.Following.{control_left}
use Rattle.replay_copies.specs.Ended.{IsGone}
use Rattle.replay_copies.specs.Laid.{SameElsewhere, is_laid_at, mark_of}
use Rattle.replay_core.specs.Faults.{of_record, recorded}
use Rattle.replay_core.specs.Replayed.{After, after_replay, beginning, closed_or, closing, closing_files, control_path, end_of, first_world, label_path, mark_text, missing_page, replayed_into}
use Rattle.replay_core.specs.Under.{left_under, left_under_or, replayed_under, world_under}
use Rattle.replay_core.proofs.StartedLemmas.{is_given}
use Rattle.replay_restart.specs.Meant.{IsCleared}
use Rattle.replay_restart.proofs.PlaceLemmas.{control-own, entry-own, log-not_laid, mark-laid, not-laid}
use Rattle.replay_start.specs.Checked.{Start, start_of}
use Rattle.replay_start.specs.declared.fault.ReplayFault.{ReplayFault}
use Rattle.replay_world.specs.Records.{records_after}
use Rattle.replay_world.specs.World.{World}
use Rattle.stopped_restarts.proofs.BegunLemmas.{own-seen}
use Rattle.stopped_restarts.proofs.ListedLemmas.{root-not_laid}
use Rattle.stopped_restarts.proofs.StartLemmas.{ReadsSame, start-same}
use Rattle.restart_start.specs.Beginning.{without_own}
use Rattle.rmgr_hooks.specs.Custom.{Extension}
use Rattle.block_replay.specs.declared.faults.RecordFault.{RecordFault}
use Rattle.without_file.specs.Without.{seen}
use Rattle.local_replays.specs.Seen.{EndSame, SameLeft, SameSeen, SameWorlds, Sees}
use Rattle.local_replays.proofs.RecordLemmas.{records-same}
use Rattle.local_replays.proofs.SeenLemmas.{put-seen, removed-seen, then-same}

-- ---- what is seen: all but the mark and the copies

abbrev unlaid : PathValue → PathValue → Bool
unlaid root path = not (is_laid_at root path)

pub off : (b : Bool) → b ≡ false → not b ≡ true
off b e = ap not e

is_off : (b : Bool) → not b ≡ true → b ≡ false
is_off true e = absurd (true≢false (sym e))
is_off false e = refl

either : {P : Type 0} (a b : Bool) → (a || b) ≡ true → (a ≡ true → P) → (b ≡ true → P) → P
either true b is one two = one refl
either false b is one two = two is

module _ (root : PathValue) where
  at_other : (name : List ℕ) → bytes_eq name (codes "pg_walreplay.unfinished") ≡ false → bytes_eq name (codes "pg_walreplay.shadow") ≡ false → (path : PathValue) → is_at root name path ≡ true → unlaid root path ≡ true
  at_other name one two path at = off (is_laid_at root path) (not-laid root path name one two at)

  sees_all : Sees root (unlaid root)
  sees_all path is =
      either (path_eq path root) _ is
      (λ own. off (is_laid_at root path) (ap (is_laid_at root) (path_eq-same path root own) ∙ root-not_laid root))
      (λ four. either (is_at root (codes "base") path || is_at root (codes "global") path || is_at root (codes "pg_xact") path) (is_at root (codes "pg_multixact") path) four
      (λ three. either (is_at root (codes "base") path || is_at root (codes "global") path) (is_at root (codes "pg_xact") path) three
      (λ two. either (is_at root (codes "base") path) (is_at root (codes "global") path) two (at_other (codes "base") refl refl path) (at_other (codes "global") refl refl path))
      (at_other (codes "pg_xact") refl refl path))
      (at_other (codes "pg_multixact") refl refl path))

  control_off : is_laid_at root (control_path root) ≡ false
  control_off = not-laid root (control_path root) (codes "global") refl refl (control-own root)

  -- ---- the mark of one without --restart

  not_mark : (path : PathValue) → is_laid_at root path ≡ false → path ≢ mark_of root
  not_mark path e same = absurd (true≢false (sym (mark-laid root) ∙ ap (is_laid_at root) (sym same) ∙ e))

  begun_elsewhere : (c : Contents) (path : PathValue) → path ≢ mark_of root → entry_at (all_changed c (beginning root)) path ≡ entry_at c path
  begun_elsewhere c path other =
      entry-put_other (insert c (mark_of root) (FileEntry [])) (mark_of root) path (FileEntry (splice (bytes_at (insert c (mark_of root) (FileEntry [])) (mark_of root)) 0 mark_text)) other
      ∙ entry-put_other c (mark_of root) path (FileEntry []) other

-- ---- it begins the same

module _ (custom : Option Extension) (root : PathValue) (s : Start) (c e : Contents) (passes : start_of custom (without_own c root) root ≡ Ok s) (cleared : IsCleared root c e) where
  as_seen : (path : PathValue) → is_laid_at root path ≡ false → entry_at e path ≡ entry_at (without_own c root) path
  as_seen path is =
      cleared.elsewhere path is
      ∙ sym (own-seen c root path ∙ ap (λ t. seen t (entry_at c path)) (other path is))
    where
      other : (path : PathValue) → is_laid_at root path ≡ false → path_eq path (mark_of root) ≡ false
      other path is = elim (path_eq path (mark_of root)) as (λ b. path_eq path (mark_of root) ≡ b → b ≡ false) [
        | true ↦ λ same. absurd (not_mark root path is (path_eq-same path (mark_of root) same))
        | false ↦ λ other. refl
      ] refl

  top_seen : (name : List ℕ) → is_laid_at root (below root (name ∷ [])) ≡ false → entry_at e (below root (name ∷ [])) ≡ entry_at (without_own c root) (below root (name ∷ []))
  top_seen name is = as_seen (below root (name ∷ [])) is

  reads : ReadsSame root e (without_own c root)
  reads = record {
    marks = record {
      rewind = top_seen (codes "pg_rewind.unfinished") (not-laid root (below root (codes "pg_rewind.unfinished" ∷ [])) (codes "pg_rewind.unfinished") refl refl (entry-own root (codes "pg_rewind.unfinished")));
      replay = cleared.gone (mark_of root) (mark-laid root) ∙ sym (is_given custom (without_own c root) root s passes).mark;
      reset = top_seen (codes "pg_resetwal.unfinished") (not-laid root (below root (codes "pg_resetwal.unfinished" ∷ [])) (codes "pg_resetwal.unfinished") refl refl (entry-own root (codes "pg_resetwal.unfinished")));
    };
    control = as_seen (control_path root) (control_off root);
    label = top_seen (codes "backup_label") (not-laid root (below root (codes "backup_label" ∷ [])) (codes "backup_label") refl refl (entry-own root (codes "backup_label")));
    log = λ path holds. as_seen path (log-not_laid root path holds);
  }

  plain_passes : start_of custom e root ≡ Ok s
  plain_passes = start-same custom root e (without_own c root) reads ∙ passes

-- ---- and ends the same

-- All but the mark and the copies is the same in both, the second has none of them, and the same is told.
pub record SameEnd (root : PathValue) (a b : After) : Type 0 where
  pub files : SameSeen (unlaid root) a.files b.files
  pub gone : IsGone root b.files
  pub records : b.records ≡ a.records
  pub end : b.end ≡ a.end
  pub tli : b.tli ≡ a.tli

-- nothing stands at the copies
abbrev NoCopies : PathValue → Contents → Type 0
NoCopies root c = (path : PathValue) → is_laid_at root path ≡ true → path_eq path (mark_of root) ≡ false → entry_at c path ≡ None

module _ (root : PathValue) (tli count end : ℕ) where
  label_seen : (w v : World) (control : Control) → SameSeen (unlaid root) w.files v.files
      → SameSeen (unlaid root) (all_changed w.files (closing_files root control)) (all_changed v.files (closing_files root control))
  label_seen w v control same =
      removed-seen (unlaid root) (written w.files (control_path root) 0 (control_bytes control)) (written v.files (control_path root) 0 (control_bytes control)) (label_path root)
      (subst (λ bytes. SameSeen (unlaid root) (written w.files (control_path root) 0 (control_bytes control)) (insert v.files (control_path root) (FileEntry (splice bytes 0 (control_bytes control)))))
      (ap bytes_in (sym (same (control_path root) (off (is_laid_at root (control_path root)) (control_off root)))))
      (put-seen (unlaid root) w.files v.files (control_path root) (FileEntry (splice (bytes_at w.files (control_path root)) 0 (control_bytes control))) same))

  closed_same : (w v : World) → SameSeen (unlaid root) w.files v.files → v.control ≡ w.control
      → SameSeen (unlaid root) (left_under root tli count end w).files (all_changed v.files (closing root (control_left tli end v.control)))
  closed_same w v files control path is =
      entry-removed_other (all_changed v.files (closing_files root (control_left tli end v.control))) (mark_of root) path (not_mark root path (is_off (is_laid_at root path) is))
      ∙ ap (λ c. entry_at (all_changed v.files (closing_files root (control_left tli end c))) path) control
      ∙ label_seen w v (control_left tli end w.control) files path is

  laid_other : (path at : PathValue) → is_laid_at root path ≡ true → is_laid_at root at ≡ false → path ≢ at
  laid_other path at is away same = absurd (true≢false (sym is ∙ ap (is_laid_at root) same ∙ away))

  laid_stays : (v : World) (control : Control) (path : PathValue) → is_laid_at root path ≡ true → entry_at (all_changed v.files (closing_files root control)) path ≡ entry_at v.files path
  laid_stays v control path is =
      entry-removed_other (written v.files (control_path root) 0 (control_bytes control)) (label_path root) path (laid_other path (label_path root) is label_off)
      ∙ entry-put_other v.files (control_path root) path (FileEntry (splice (bytes_at v.files (control_path root)) 0 (control_bytes control))) (laid_other path (control_path root) is (control_off root))
    where
      label_off : is_laid_at root (label_path root) ≡ false
      label_off = not-laid root (label_path root) (codes "backup_label") refl refl (entry-own root (codes "backup_label"))

  closed_gone : (v : World) → NoCopies root v.files → (path : PathValue) → is_laid_at root path ≡ true → entry_at (all_changed v.files (closing root (control_left tli end v.control))) path ≡ None
  closed_gone v none path is = same_or_other path (mark_of root)
      (λ same.
      ap (entry_at (remove kept (mark_of root))) same ∙ entry-removed kept (mark_of root) ∙ rootless (mark_of root).parts (omega (arith, length-append root.parts (codes "pg_walreplay.unfinished" ∷ []))))
      (λ other.
      entry-removed_other kept (mark_of root) path other
      ∙ laid_stays v (control_left tli end v.control) path is
      ∙ none path is (path_eq-other path (mark_of root) other))
    where
      kept : Contents
      kept = all_changed v.files (closing_files root (control_left tli end v.control))

  unless_same : (o : Option ReplayFault) (a b : After) → SameEnd root a b → EndSame (SameEnd root) (unless o (Ok a)) (unless o (Ok b))
  unless_same None a b same = same
  unless_same (Some f) a b same = refl

  abbrev shut : World → After
  shut v = record { files = all_changed v.files (closing root (control_left tli end v.control)); records = count; end = end; tli = tli }

  ends_same : (one other : Contents) → NoCopies root other → (w v : World) → SameWorlds (SameLeft (unlaid root) one other) w v → EndSame (SameEnd root) (left_under_or root tli count end w) (closed_or root tli count end v)
  ends_same one other none w v both =
      subst (λ l. EndSame (SameEnd root) (left_under_or root tli count end w) (unless (missing_page l) (Ok (shut v)))) (sym both.skipped)
      (unless_same (missing_page w.skipped) (left_under root tli count end w) (shut v)
      (record {
        files = closed_same w v both.files.same both.control;
        gone = closed_gone v (λ path is away. both.files.second path (ap not is) ∙ none path is away);
        records = refl;
        end = refl;
        tli = refl;
      }))

  -- mark and copies stay as they were
  stays_by : (b : Contents) (w : World) → SameLeft (unlaid root) b b w.files w.files → (a : After) → left_under_or root tli count end w ≡ Ok a
      → (path : PathValue) → is_laid_at root path ≡ true → entry_at a.files path ≡ entry_at b path
  stays_by b w left a ends path is = by (missing_page w.skipped) ends
    where
      by : (o : Option ReplayFault) → unless o (Ok (left_under root tli count end w)) ≡ Ok a → entry_at a.files path ≡ entry_at b path
      by None e =
          let same : left_under root tli count end w ≡ a = cc in
          ap (λ (x : After). entry_at x.files path) (sym same) ∙ laid_stays w (control_left tli end w.control) path is ∙ left.first path (ap not is)
      by (Some f) e = absurd cc

module _ (custom : Option Extension) (root : PathValue) (s : Start) (b : Contents) (a : After) (ends : replayed_under custom root s b ≡ Ok a) where
  abbrev records : Result World RecordFault
  records = records_after custom root s.control.relseg s.records (world_under s b)

  pub laid-kept : (path : PathValue) → is_laid_at root path ≡ true → entry_at a.files path ≡ entry_at b path
  laid-kept =
      by records
      (records-same (unlaid root) root (sees_all root) custom s.control.relseg s.records (world_under s b) (world_under s b) (record { files = λ path seen. refl; control = refl; skipped = refl }))
      ends
    where
      by : (r : Result World RecordFault) → EndSame (SameWorlds (SameLeft (unlaid root) b b)) r r
          → given (recorded r) (left_under_or root (timeline_of s.control) (length s.records) (end_of s)) ≡ Ok a → (path : PathValue) → is_laid_at root path ≡ true → entry_at a.files path ≡ entry_at b path
      by (Ok w) same is = stays_by root (timeline_of s.control) (length s.records) (end_of s) b w same.files a is
      by (Err f) same is = absurd cc

module _ (root : PathValue) (Same : Contents → Contents → Type 0) where
  recorded_same : (r s : Result World RecordFault) → EndSame (SameWorlds Same) r s → EndSame (SameWorlds Same) (recorded r) (recorded s)
  recorded_same (Ok w) (Ok v) same = same
  recorded_same (Ok w) (Err f) same = absurd same
  recorded_same (Err e) (Ok v) same = absurd same
  recorded_same (Err e) (Err f) same = ap of_record same

module _ (custom : Option Extension) (root : PathValue) (s : Start) (c d e : Contents) (passes : start_of custom (without_own c root) root ≡ Ok s) (laid : SameElsewhere root c d) (cleared : IsCleared root c e) where
  abbrev plain : World
  plain = first_world e root s

  worlds : SameWorlds (SameSeen (unlaid root)) (world_under s d) plain
  worlds = record {
    files = λ path is.
        let away : is_laid_at root path ≡ false = is_off (is_laid_at root path) is in
        begun_elsewhere root e path (not_mark root path away) ∙ cleared.elsewhere path away ∙ sym (laid path away);
    control = refl;
    skipped = refl;
  }

  no_copies : NoCopies root plain.files
  no_copies path is away = begun_elsewhere root e path (λ same. absurd (true≢false (sym (path_eq-own (mark_of root)) ∙ ap (λ p. path_eq p (mark_of root)) (sym same) ∙ away))) ∙ cleared.gone path is

  into_same : EndSame (SameEnd root) (replayed_under custom root s d) (replayed_into custom root s plain)
  into_same =
      then-same (SameWorlds (SameLeft (unlaid root) d plain.files)) (SameEnd root)
      (recorded (records_after custom root s.control.relseg s.records (world_under s d))) (recorded (records_after custom root s.control.relseg s.records plain))
      (left_under_or root (timeline_of s.control) (length s.records) (end_of s)) (closed_or root (timeline_of s.control) (length s.records) (end_of s))
      (recorded_same root (SameLeft (unlaid root) d plain.files) _ _ (records-same (unlaid root) root (sees_all root) custom s.control.relseg s.records (world_under s d) plain worlds))
      (ends_same root (timeline_of s.control) (length s.records) (end_of s) d plain.files no_copies)

  -- the replay of the cluster without mark and copies, from its checks on
  pub plain-same : EndSame (SameEnd root) (replayed_under custom root s d) (after_replay custom e root)
  unfolding after_replay
  plain-same =
      subst (λ r. EndSame (SameEnd root) (replayed_under custom root s d) (given r (λ t. replayed_into custom root t (first_world e root t))))
      (sym (plain_passes custom root s c e passes cleared)) into_same

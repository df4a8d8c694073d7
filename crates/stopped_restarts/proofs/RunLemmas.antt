-- What a stop leaves of a run that replays the log over what stops left.
use Rattle.std.proofs.Common.{◌≡◌, ◌≢◌, ◌⊎◌, ℕ, ◌/◌, ◌%◌, ◌==◌, Bool, true, false, ◌||◌, List, [], ◌∷◌, bytes_eq, codes, Option, Some, is_some, Ok, inl, inr, refl, ap, sym, ◌∙◌, true≢false, arith}
use Rattle.std.proofs.lemmas.Bool.Decides.{nat_tests}
use Rattle.std.specs.FinMap.{insert}
use Rattle.alike_clusters.proofs.NameLemmas.{file-lies, file_parts}
use Rattle.block_refs.specs.declared.names.BlockName.{BlockName}
use Rattle.cluster_tree.specs.Apart.{is_held}
use Rattle.cluster_tree.specs.Contents.{Contents, FileEntry, entry_at}
use Rattle.cluster_tree.specs.PathOrder.{path_eq}
use Rattle.cluster_tree.specs.PathValue.{PathValue, below}
use Rattle.cluster_tree.specs.Tree.{bytes_in}
use Rattle.cluster_tree.proofs.ContentsLemmas.{entry-put, entry-put_other}
use Rattle.cluster_tree.proofs.OrderLemmas.{path_eq-same}
use Rattle.cluster_tree.proofs.TreeLemmas.{same_or_other}
use Rattle.file_effects.specs.Touched.{IsOfMain}
use Rattle.gated_marks.specs.Gates.{plus}
use Rattle.layout.specs.Splice.{splice}
use Rattle.relation_files.specs.Paths.{relation_file}
use Rattle.replay_copies.specs.Ended.{IsGone, IsStill, StandsLaid, ended_gate}
use Rattle.replay_copies.specs.Laid.{AreCopied, IsReady, is_laid_at, mark_of}
use Rattle.replay_copies.proofs.ListLemmas.{held-no_mark, off-both}
use Rattle.replay_copies.proofs.PathLemmas.{copy-is_held, folder-is_held}
use Rattle.replay_copies.proofs.TellLemmas.{standing, standing-over}
use Rattle.replay_core.specs.Sparing.{HasPage}
use Rattle.replay_core.specs.Under.{replayed_under}
use Rattle.replay_list.specs.Lines.{files_behind}
use Rattle.replay_list.specs.declared.listed.Listed.{Listed}
use Rattle.replay_list.specs.declared.listed.Listed.TheVariants.{File, Folder, Page}
use Rattle.replay_restart.specs.Meant.{taken_of}
use Rattle.replay_restart.specs.Stopped.{IsEnding, IsReplaying, IsRunLeft}
use Rattle.replay_restart.proofs.PlaceLemmas.{entry-own, not-laid}
use Rattle.replay_restart.proofs.ReadyLemmas.{can-lay}
use Rattle.replay_restart.proofs.TakenLemmas.{unbegun}
use Rattle.replay_restore.specs.Listing.{is_named, is_restored_at}
use Rattle.replay_start.specs.Checked.{Start}
use Rattle.replay_world.specs.Touched.{touched_by}
use Rattle.restart_laws.specs.Stopped.{EndAsOne, IsLeftBelow, IsStoppedIn, WasBegun}
use Rattle.restart_laws.proofs.AlikeLemmas.{file-named, not-laid_named}
use Rattle.restart_laws.proofs.DoneLemmas.{First, first-of}
use Rattle.restart_laws.proofs.PlaceLemmas.{beside-wider}
use Rattle.restart_laws.proofs.StopLemmas.{stops-one}
use Rattle.restored_laws.specs.Back.{IsInMain}
use Rattle.restored_laws.proofs.BackLemmas.{restored-below}
use Rattle.rmgr_hooks.specs.Custom.{Extension}
use Rattle.storage_laws.specs.States.{whole_block}
use Rattle.stored_replay.specs.Shadows.{shadow_at, shadow_folder}
use Rattle.stored_replay.specs.Stored.{HadEnded}
use Rattle.stopped_restarts.specs.Course.{Ended, Finished, GoesOn, IsLeftByStops}
use Rattle.stopped_restarts.proofs.EndedLemmas.{ended-taken}
use Rattle.stopped_restarts.proofs.TreeLemmas.{laid-tree}

-- ---- a mark with another byte in the place of its second gate

module _ (root : PathValue) (listed : List Listed) (c d : Contents) (laid : StandsLaid root listed c d) (byte : ℕ) (shut : byte ≢ plus) where
  abbrev pub gated : Contents
  gated = insert d (mark_of root) (FileEntry (standing root listed byte))

  pub gated-other : (path : PathValue) → path ≢ mark_of root → entry_at gated path ≡ entry_at d path
  gated-other path other = entry-put_other d (mark_of root) path (FileEntry (standing root listed byte)) other

  pub gated-mark : entry_at gated (mark_of root) ≡ Some (FileEntry (standing root listed byte))
  gated-mark = entry-put d (mark_of root) (FileEntry (standing root listed byte))

  copied_gated : (files : ℕ) (list : List Listed) → AreCopied root c d files list → AreCopied root c gated files list
  copied_gated files [] copied = tt
  copied_gated files (Folder path ∷ more) copied = (tt, copied_gated files more copied.1)
  copied_gated files (Page path size ∷ more) copied = (tt, copied_gated files more copied.1)
  copied_gated files (File path size ∷ more) copied =
      (gated-other (shadow_at root files) (held-no_mark root (shadow_at root files) (copy-is_held root files)) ∙ copied.0, copied_gated (files_behind files (File path size)) more copied.1)

  pub gated-stands : StandsLaid root listed c gated
  gated-stands = record {
    byte = byte;
    shut = shut;
    mark = gated-mark;
    copies = record {
      folder = gated-other (shadow_folder root) (held-no_mark root (shadow_folder root) (folder-is_held root)) ∙ laid.copies.folder;
      copied = copied_gated 0 listed laid.copies.copied;
      only = λ path held there. laid.copies.only path held (ap is_some (sym (gated-other path (held-no_mark root path held))) ∙ there);
    };
    elsewhere = λ path off. gated-other path (off-both root path off).0 ∙ laid.elsewhere path off;
  }

-- ---- a block whose file is the same

page-moved : (root : PathValue) (per : ℕ) (name : BlockName) (page : List ℕ) (x z : Contents) → entry_at z (relation_file root name.rel name.fork (name.block / per)) ≡ entry_at x (relation_file root name.rel name.fork (name.block / per))
    → HasPage root per name page x → HasPage root per name page z
page-moved root per name page x z same has = ap (λ o. whole_block (name.block % per) (bytes_in o)) same ∙ has

file_off : (root : PathValue) (per : ℕ) (name : BlockName) → is_laid_at root (relation_file root name.rel name.fork (name.block / per)) ≡ false
file_off root per name =
    let parts = file_parts name.rel name.fork (name.block / per) in
    ap (is_laid_at root) (file-lies root name.rel name.fork (name.block / per)) ∙ not-laid_named root (below root parts) (restored-below root parts ∙ file-named name.rel name.fork (name.block / per))

-- ---- a run over what stops left, which ends as the first would have

module _ (custom : Option Extension) (root : PathValue) (s : Start) (listed : List Listed) (c d b : Contents) (begun : WasBegun custom root s listed c d)
    (stopped : IsStoppedIn custom root s d b) (one : EndAsOne root (replayed_under custom root s d) (replayed_under custom root s b)) where
  ready : IsReady root listed c
  ready = can-lay c root custom s listed begun.tree (unbegun c root begun.anew) begun.may begun.list

  replaying_left : (y : Contents) → IsReplaying custom root s b y → IsStoppedIn custom root s d y
  replaying_left y replaying =
      stops-one custom root s d b y stopped
      (inl (record { beside = beside-wider root b y replaying.beside; blocks = λ name page main own free has. replaying.blocks name page main free has }))

  module _ (y : Contents) (end : IsEnding custom root s b y) where
    abbrev files : Contents
    files = end.after.files

    first : First root (replayed_under custom root s d) end.after
    first = first-of root (replayed_under custom root s d) (replayed_under custom root s b) end.after end.is one

    left_files : (parts : List (List ℕ)) → is_laid_at root (below root parts) ≡ false → entry_at y (below root parts) ≡ entry_at first.after.files (below root parts)
    left_files parts off = end.left.elsewhere (below root parts) off ∙ sym (first.same.files parts)

    gone_left : IsGone root y → IsLeftBelow custom root s d y
    gone_left gone = record { after = first.after; is = first.is; files = record { gone = gone; elsewhere = left_files } }

    -- all that isn't brought back is as it was before the replay
    files_beside : (path : PathValue) → is_restored_at root path ≡ false → entry_at files path ≡ entry_at d path
    files_beside path off = beside-wider root b files end.replayed.beside path off ∙ stopped.beside path off

    mark_off : is_restored_at root (mark_of root) ≡ false
    mark_off = restored-below root (codes "pg_walreplay.unfinished" ∷ [])

    module _ (still : IsStill root files y) where
      mark_is : entry_at y (mark_of root) ≡ Some (FileEntry (standing root listed still.byte))
      mark_is =
          still.mark ∙ ap (λ o. Some (FileEntry (splice (bytes_in o) ended_gate (still.byte ∷ [])))) (files_beside (mark_of root) mark_off)
          ∙ ap (λ l. Some (FileEntry l)) (standing-over root listed c d still.byte begun.laid)

      -- where the gate is open
      top_same : (name : List ℕ) → is_named (name ∷ []) ≡ false → bytes_eq name (codes "pg_walreplay.unfinished") ≡ false → bytes_eq name (codes "pg_walreplay.shadow") ≡ false
          → entry_at y (below root (name ∷ [])) ≡ entry_at c (below root (name ∷ []))
      top_same name off one_off two_off =
          let path = below root (name ∷ []) in
          let other = not-laid root path name one_off two_off (entry-own root name) in
          end.left.elsewhere path other ∙ files_beside path (restored-below root (name ∷ []) ∙ off) ∙ begun.laid.elsewhere path other

      open_taken : still.byte ≡ plus → taken_of y root ≡ Ok HadEnded
      open_taken is =
          ended-taken custom root s listed c d y begun (top_same (codes "pg_rewind.unfinished") refl refl refl) (top_same (codes "pg_resetwal.unfinished") refl refl refl)
          (mark_is ∙ ap (λ l. Some (FileEntry l)) (ap (standing root listed) is ∙ sym (standing-over root listed c d plus begun.laid)))

      -- where it isn't
      module _ (shut : still.byte ≢ plus) where
        abbrev other : Contents
        other = gated root listed c d begun.laid still.byte shut

        stands : StandsLaid root listed c other
        stands = gated-stands root listed c d begun.laid still.byte shut

        begun_other : WasBegun custom root s listed c other
        begun_other = record {
          tree = begun.tree;
          proper = begun.proper;
          anew = begun.anew;
          may = begun.may;
          list = begun.list;
          laid_tree = laid-tree root listed c other begun.tree ready.rooted (unbegun c root begun.anew).mark stands;
          laid = stands;
        }

        -- but for the mark all is as the replay left it
        as_files : (path : PathValue) → path ≢ mark_of root → entry_at y path ≡ entry_at files path
        as_files path not = by (path_eq path (mark_of root)) (is_held (shadow_folder root) path) refl refl
          where
            by : (t h : Bool) → path_eq path (mark_of root) ≡ t → is_held (shadow_folder root) path ≡ h → entry_at y path ≡ entry_at files path
            by true h is held = absurd (not (path_eq-same path (mark_of root) is))
            by false true is held = still.copies shut path held
            by false false is off = end.left.elsewhere path (ap (λ t. t || is_held (shadow_folder root) path) is ∙ off)

        beside_other : (path : PathValue) → is_restored_at root path ≡ false → entry_at y path ≡ entry_at other path
        beside_other path off = same_or_other path (mark_of root)
            (λ is. ap (entry_at y) is ∙ mark_is ∙ sym (ap (entry_at other) is ∙ gated-mark root listed c d begun.laid still.byte shut))
            (λ not. as_files path not ∙ files_beside path off ∙ sym (gated-other root listed c d begun.laid still.byte shut path not))

        blocks_other : (name : BlockName) (page : List ℕ) → IsOfMain name → IsInMain s.control.relseg name → touched_by custom s.records name ≡ false
            → HasPage root s.control.relseg name page other → HasPage root s.control.relseg name page y
        blocks_other name page main own free has =
            let path = relation_file root name.rel name.fork (name.block / s.control.relseg) in
            let off = file_off root s.control.relseg name in
            page-moved root s.control.relseg name page files y (end.left.elsewhere path off)
            (end.replayed.blocks name page main free
            (stopped.blocks name page main own free
            (page-moved root s.control.relseg name page other d (sym (gated-other root listed c d begun.laid still.byte shut path (off-both root path off).0)) has)))

        stopped_other : IsStoppedIn custom root s other y
        stopped_other = record { beside = beside_other; blocks = blocks_other }

      by_gate : (b : Bool) → (still.byte == 43) ≡ b → IsLeftByStops custom root c y
      by_gate true is = Ended s listed d begun (record { after = first.after; is = first.is; elsewhere = left_files }) (open_taken (grind (arith, nat_tests)))
      by_gate false is =
          let shut : still.byte ≢ plus = λ e. true≢false (sym (ap (λ n. n == 43) e) ∙ is) in
          GoesOn s listed (other shut) (begun_other shut) (stopped_other shut)

    end_left : IsStill root files y ⊎ IsGone root y → IsLeftByStops custom root c y
    end_left (inl still) = by_gate still (still.byte == 43) refl
    end_left (inr gone) = Finished s listed d begun (gone_left gone)

  pub run-left : (y : Contents) → IsRunLeft custom root s b y → IsLeftByStops custom root c y
  run-left y (inl replaying) = GoesOn s listed d begun (replaying_left y replaying)
  run-left y (inr end) = end_left y end end.left.told

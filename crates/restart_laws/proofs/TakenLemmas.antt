-- What a stop left is taken up, with the list that the replay was begun from.
use Rattle.std.proofs.Common.{◌≡◌, ℕ, ◌+◌, Bool, true, false, ◌&&◌, ◌||◌, List, [], ◌∷◌, ◌++◌, codes, cond, decimal, length, option_map, Option, None, Some, Result, Ok, Err, refl, ap, sym, ◌∙◌, true≢false}
use Rattle.std.specs.Prelude.{if◌then◌else◌}
use Rattle.std.specs.List.{cons_option, list_any}
use Rattle.cluster_tree.specs.Causes.{given, unless}
use Rattle.cluster_tree.specs.Contents.{Contents, Entry, FileEntry, FolderEntry, LinkEntry, entry_at, is_file, parent}
use Rattle.cluster_tree.specs.PathOrder.{path_eq}
use Rattle.cluster_tree.specs.PathValue.{PathValue}
use Rattle.cluster_tree.specs.Tree.{file_of}
use Rattle.cluster_tree.proofs.OrderLemmas.{path_eq-own}
use Rattle.clusters.specs.Marks.{unfinished}
use Rattle.clusters.specs.WholeFile.{all_of}
use Rattle.replay_areas.specs.Listing.{label_listed, label_path}
use Rattle.replay_areas.proofs.ListLemmas.{list_is}
use Rattle.replay_copies.specs.Laid.{mark_of}
use Rattle.replay_copies.proofs.TellLemmas.{standing-told}
use Rattle.replay_core.proofs.StartedLemmas.{is_given}
use Rattle.replay_list.specs.Lines.{files_behind, path_at}
use Rattle.replay_list.specs.Mark.{mark_told}
use Rattle.replay_list.specs.declared.listed.Listed.{Listed}
use Rattle.replay_list.specs.declared.listed.Listed.TheVariants.{Folder, Page, File}
use Rattle.replay_list.specs.declared.mark.ReplayMark.{ReplayMark}
use Rattle.replay_list.specs.declared.mark.ReplayMark.TheVariants.{Version1, NotComplete, Complete, Ended}
use Rattle.replay_restart.specs.Meant.{or_loose, taken_of, taken_up}
use Rattle.replay_restart.proofs.ReadyLemmas.{can-lay}
use Rattle.replay_restart.proofs.TakenLemmas.{unbegun}
use Rattle.replay_restore.specs.Listing.{has_folder, is_closed, is_folder_at, is_under}
use Rattle.replay_restore.specs.Loose.{first_loose, has_label_first, loose_line}
use Rattle.replay_start.specs.Checked.{Start}
use Rattle.restart_start.specs.Beginning.{without_own}
use Rattle.restored_laws.proofs.BackLemmas.{restored-below}
use Rattle.restored_laws.proofs.ClosedLemmas.{areas-closed}
use Rattle.rmgr_hooks.specs.Custom.{Extension}
use Rattle.stored_replay.specs.Faults.{told_by}
use Rattle.stored_replay.specs.Marks.{is_old, is_old_file, marks_seen, own_bytes}
use Rattle.stored_replay.specs.Shadows.{first_lost, is_sized, lost_of, or_later, shadow_at}
use Rattle.stored_replay.specs.Stored.{Begun, list_in, told_as, told_in, told_of, with_copies}
use Rattle.stored_replay.specs.declared.fault.StoredReplayFault.{StoredReplayFault}
use Rattle.stored_replay.specs.declared.fault.StoredReplayFault.TheVariants as fault
use Rattle.without_file.specs.Rooted.{without-tree}
use Rattle.restart_laws.specs.Stopped.{IsStoppedIn, WasBegun}
use Rattle.restart_laws.proofs.BegunLemmas.{marks-same}
use Rattle.restart_laws.proofs.StartLemmas.{none-unfinished, unfinished-same}

-- ---- each line of what was listed is at its place

any_last : (test : Listed → Bool) (xs : List Listed) (y : Listed) → list_any test (xs ++ y ∷ []) ≡ (test y || list_any test xs)
any_last test [] y = refl
any_last test (x ∷ xs) y = ap (λ b. test x || b) (any_last test xs y) ∙ turned (test x) (test y) (list_any test xs)
  where
    turned : (a b e : Bool) → (a || (b || e)) ≡ (b || (a || e))
    turned true true e = refl
    turned true false e = refl
    turned false b e = refl

and_parts : (a b : Bool) → (a && b) ≡ true → (a ≡ true) × (b ≡ true)
and_parts true b e = (refl, e)
and_parts false b e = absurd (true≢false (sym e))

none_loose : (root : PathValue) (done before left : List Listed) → ((q : PathValue) → has_folder done q ≡ has_folder before q) → is_closed root before left ≡ true → first_loose root done left ≡ None
unfolding first_loose
none_loose root done before [] same closed = refl
none_loose root done before (one ∷ more) same closed =
    let two = and_parts (is_under root before (path_at one)) (is_closed root (one ∷ before) more) closed in
    let under : is_under root done (path_at one) ≡ true = ap (λ b. path_eq root (parent (path_at one)) || b) (same (parent (path_at one))) ∙ two.0 in
    ap (λ b. if b then first_loose root (done ++ one ∷ []) more else Some (length done + 1)) under
    ∙ none_loose root (done ++ one ∷ []) (one ∷ before) more
    (λ q. any_last (is_folder_at q) done one ∙ ap (λ b. is_folder_at q one || b) (same q)) two.1

label_first : (root : PathValue) (o : Option Entry) (more : List Listed) → is_file o ≡ true → has_label_first root (cons_option (label_listed (label_path root) o) more) ≡ true
label_first root None more there = absurd (true≢false (sym there))
label_first root (Some (FolderEntry bad)) more there = absurd (true≢false (sym there))
label_first root (Some (FileEntry bytes)) more there = path_eq-own (label_path root)
label_first root (Some LinkEntry) more there = absurd (true≢false (sym there))

module _ (custom : Option Extension) (root : PathValue) (s : Start) (listed : List Listed) (c d x : Contents) (begun : WasBegun custom root s listed c d) (stopped : IsStoppedIn custom root s d x) where
  abbrev e : Contents
  e = without_own c root

  not_loose : loose_line root listed ≡ None
  not_loose =
      let of = list_is e root listed begun.may.lists in
      let first : has_label_first root listed ≡ true = ap (has_label_first root) of.is ∙ label_first root (entry_at e (label_path root)) _ (is_given custom e root s begun.may.passes).label in
      ap (λ b. if b then first_loose root [] listed else Some 1) first
      ∙ none_loose root [] [] listed (λ q. refl) (areas-closed e root (without-tree c (mark_of root) begun.tree) listed begun.may.lists)

  -- ---- the mark and the copies tell what they told

  mark_same : entry_at x (mark_of root) ≡ entry_at d (mark_of root)
  mark_same = stopped.beside (mark_of root) (restored-below root (codes "pg_walreplay.unfinished" ∷ []))

  copy_same : (number : ℕ) → entry_at x (shadow_at root number) ≡ entry_at d (shadow_at root number)
  copy_same number = stopped.beside (shadow_at root number) (restored-below root (codes "pg_walreplay.shadow" ∷ decimal number ∷ []))

  lost_same : (files : ℕ) (list : List Listed) → first_lost x root files list ≡ first_lost d root files list
  unfolding first_lost
  lost_same files [] = refl
  lost_same files (Folder path ∷ more) = lost_same files more
  lost_same files (Page path size ∷ more) = lost_same files more
  lost_same files (File path size ∷ more) =
      ap (λ o. or_later (if is_sized size o then None else Some (shadow_at root files)) (first_lost x root (files_behind files (File path size)) more)) (copy_same files)
      ∙ ap (or_later (lost_of d root files (File path size))) (lost_same (files_behind files (File path size)) more)

  read_same : (r : Result (List Listed) StoredReplayFault) → given r (with_copies x root) ≡ given r (with_copies d root)
  read_same (Ok list) = ap (λ o. unless (option_map fault.ShadowDiffers o) (Ok (Begun list))) (lost_same 0 list)
  read_same (Err f) = refl

  as_same : (bytes : List ℕ) (mark : ReplayMark) → told_as x root bytes mark ≡ told_as d root bytes mark
  as_same bytes Version1 = refl
  as_same bytes NotComplete = refl
  as_same bytes Complete = read_same (list_in root bytes)
  as_same bytes Ended = refl

  in_same : (o : Option (List ℕ)) → told_in x root o ≡ told_in d root o
  in_same None = refl
  in_same (Some bytes) = as_same bytes (mark_told bytes)

  own_same : own_bytes x root ≡ own_bytes d root
  own_same = ap (λ o. all_of (file_of o)) mark_same

  told_there : told_in x root (own_bytes x root) ≡ Ok (Begun listed)
  told_there =
      in_same (own_bytes x root) ∙ ap (told_in d root) own_same
      ∙ standing-told root listed c d (can-lay c root custom s listed begun.tree (unbegun c root begun.anew) begun.may begun.list) begun.laid

  -- a mark that tells that is none of version 1
  not_old : (o : Option (List ℕ)) → told_in x root o ≡ Ok (Begun listed) → is_old_file o ≡ false
  not_old None told = refl
  not_old (Some bytes) told = by (mark_told bytes) told
    where
      by : (mark : ReplayMark) → told_as x root bytes mark ≡ Ok (Begun listed) → is_old mark ≡ false
      by Version1 e = absurd cc
      by NotComplete e = refl
      by Complete e = refl
      by Ended e = refl

  none_seen : unfinished (marks_seen x root) root ≡ None
  none_seen =
      ap (λ b. unfinished (cond b x (without_own x root)) root) (not_old (own_bytes x root) told_there)
      ∙ unfinished-same root (without_own x root) e (marks-same custom root s listed c d begun x stopped.beside) ∙ none-unfinished custom root e s begun.may.passes

  told_is : told_of x root ≡ Ok (Begun listed)
  told_is = ap (λ o. given (told_by (unless o (Ok (own_bytes x root)))) (told_in x root)) none_seen ∙ told_there

  pub is-taken : taken_of x root ≡ Ok (Begun listed)
  is-taken = ap (taken_up root) told_is ∙ ap (or_loose root listed) not_loose

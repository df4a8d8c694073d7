-- What can stand in the way of what is brought back.
use Rattle.std.proofs.Common.{◌≡◌, ◌≢◌, ◌⊎◌, ℕ, ◌<◌, Bool, true, false, ◌||◌, ◌&&◌, List, [], ◌∷◌, ◌++◌, bytes_eq, codes, drop, length, Option, None, Some, inl, inr, ⊎_elim, refl, ap, sym, subst, ◌∙◌, true≢false, append_assoc, arith}
use Rattle.std.proofs.lemmas.List.{length-append}
use Rattle.std.specs.FinMap.{insert, remove}
use Rattle.std.specs.Cmp.Lexicographic.{same_text}
use Rattle.cluster_tree.specs.Apart.{is_held}
use Rattle.cluster_tree.specs.Contents.{Contents, Entry, FileEntry, FolderEntry, IsTree, LinkEntry, entry_at, is_file, or_root}
use Rattle.cluster_tree.specs.Folders.{remove_refusal}
use Rattle.cluster_tree.specs.PathValue.{PathValue, below}
use Rattle.cluster_tree.specs.Run.{Course, Moment}
use Rattle.cluster_tree.specs.Stops.{LeavesOnly}
use Rattle.cluster_tree.specs.declared.file_fault.FileFault.{FileFault}
use Rattle.cluster_tree.specs.declared.file_fault.FileFault.TheVariants as fault
use Rattle.cluster_tree.specs.declared.tree.ChangeCall.{ChangeCall}
use Rattle.cluster_tree.specs.declared.tree.ChangeCall.TheVariants as call
use Rattle.cluster_tree.proofs.ContentsLemmas.{entry-put, entry-put_other, entry-removed, entry-removed_other}
use Rattle.cluster_tree.proofs.HoldLemmas.{held-holds, holds-held}
use Rattle.cluster_tree.proofs.Images.{Each, KeptBy, course_calls, holds_first, holds_run, leaves_only}
use Rattle.cluster_tree.proofs.OrderLemmas.{same_path}
use Rattle.cluster_tree.proofs.RootLemmas.{held-below, holds-below}
use Rattle.cluster_tree.proofs.TreeLemmas.{removed-tree, same_or_other}
use Rattle.file_edits.specs.Answers.{IsFree}
use Rattle.file_edits.specs.Asking.{folder_asked}
use Rattle.file_edits.proofs.ClearLemmas.{tree-absent, tree-empty}
use Rattle.file_edits.proofs.LawLemmas.{rootless}
use Rattle.file_walk.specs.Laws.{IsSound}
use Rattle.marked_runs.specs.Moments.{StandsSynced}
use Rattle.mark_lines.specs.Paths.{parts_below}
use Rattle.replay_areas.proofs.TellLemmas.{lists_tell}
use Rattle.replay_core.proofs.StartedLemmas.{is_given}
use Rattle.replay_list.specs.Areas.{is_area}
use Rattle.replay_list.specs.declared.listed.Listed.{Listed}
use Rattle.replay_restore.specs.Freed.{IsBlocked, IsLabelFolder, IsRefusal, label_path}
use Rattle.replay_restore.specs.Listing.{is_named, is_restored_at}
use Rattle.replay_start.specs.Checked.{Start}
use Rattle.stopped_restarts.specs.Stopped.{WasBegun}
use Rattle.stopped_restarts.proofs.AlikeLemmas.{not-laid_named}
use Rattle.stopped_restarts.proofs.BegunLemmas.{named-seen, parts-seen}
use Rattle.restart_start.specs.Beginning.{without_own}
use Rattle.stopped_restarts.proofs.BackLemmas.{restored-below}
use Rattle.rmgr_hooks.specs.Custom.{Extension}
use Rattle.plain_restarts.specs.Kinds.{HasKinds, HasOddFolder, is_sound}

-- ---- no call makes a link, nor a name that isn't text

none_sound : (parts : List (List ℕ)) → is_sound (or_root parts None) ≡ true
none_sound [] = refl
none_sound (part ∷ parts) = refl

module _ (root : PathValue) where
  put_kinds : (c : Contents) (p : PathValue) (v : Entry) → is_sound (Some v) ≡ true → HasKinds root c → HasKinds root (insert c p v)
  put_kinds c p v sound kinds path is = same_or_other path p
      (λ e. ap is_sound (ap (entry_at (insert c p v)) e ∙ entry-put c p v) ∙ sound)
      (λ n. ap is_sound (entry-put_other c p path v n) ∙ kinds path is)

  removed_kinds : (c : Contents) (p : PathValue) → HasKinds root c → HasKinds root (remove c p)
  removed_kinds c p kinds path is = same_or_other path p
      (λ e. ap is_sound (ap (entry_at (remove c p)) e ∙ entry-removed c p) ∙ none_sound p.parts)
      (λ n. ap is_sound (entry-removed_other c p path n) ∙ kinds path is)

  as_was : (c d : Contents) → d ≡ c → HasKinds root c → HasKinds root d
  as_was c d same kinds = subst (HasKinds root) (sym same) kinds

  kept : (ch : ChangeCall) → KeptBy (HasKinds root) ch
  kept (call.Write path at n) c d kinds (inl same) = as_was c d same kinds
  kept (call.Write path at n) c d kinds (inr torn) = as_was (insert c path (FileEntry torn.torn)) d torn.is (put_kinds c path (FileEntry torn.torn) refl kinds)
  kept (call.Cut path size) c d kinds (inl same) = as_was c d same kinds
  kept (call.Cut path size) c d kinds (inr cut) = as_was (insert c path (FileEntry cut.cut)) d cut.is (put_kinds c path (FileEntry cut.cut) refl kinds)
  kept (call.MakeFile path) c d kinds (inl same) = as_was c d same kinds
  kept (call.MakeFile path) c d kinds (inr made) = as_was (insert c path (FileEntry [])) d made.1 (put_kinds c path (FileEntry []) refl kinds)
  kept (call.MakeFolder path) c d kinds (inl same) = as_was c d same kinds
  kept (call.MakeFolder path) c d kinds (inr made) = as_was (insert c path (FolderEntry false)) d made.1 (put_kinds c path (FolderEntry false) refl kinds)
  kept (call.Remove path) c d kinds (inl same) = as_was c d same kinds
  kept (call.Remove path) c d kinds (inr gone) = as_was (remove c path) d gone.1 (removed_kinds c path kinds)
  kept call.Sync c d kinds same = as_was c d same kinds

  all_kept : (calls : List ChangeCall) → Each (KeptBy (HasKinds root)) calls
  all_kept [] = tt
  all_kept (ch ∷ calls) = (kept ch, all_kept calls)

  pub kinds-stay : (old new : Moment) → Course old new → HasKinds root old.state.contents → StandsSynced old.state.contents old → LeavesOnly (HasKinds root) old.stops new.stops
  kinds-stay old new course kinds synced =
      let calls = course_calls old new course in
      leaves_only (HasKinds root) (HasKinds root) old new
      (holds_run (HasKinds root) (HasKinds root) old old new calls.0
      (holds_first (HasKinds root) (HasKinds root) old kinds (λ c left. as_was old.state.contents c (synced.left c left) kinds))
      (λ c has. has) course calls.1 (all_kept calls.0))
      (λ c has. has)

-- ---- none stood there when it was begun

-- nothing stands below a file
unrefused : (c : Contents) (path : PathValue) (o : Option Entry) → entry_at c path ≡ o → is_file o ≡ true → remove_refusal c path ≡ None
unrefused c path None at is = absurd (true≢false (sym is))
unrefused c path (Some (FolderEntry bad)) at is = absurd (true≢false (sym is))
unrefused c path (Some (FileEntry bytes)) at is = cc
unrefused c path (Some LinkEntry) at is = absurd (true≢false (sym is))

file_below : (c : Contents) (path q : PathValue) → IsTree c → 0 < length path.parts → is_file (entry_at c path) ≡ true → is_held path q ≡ true → q ≢ path → entry_at c q ≡ None
file_below c path q tree some file held other =
    let gone : Contents = remove c path in
    let none : entry_at gone path ≡ None = entry-removed c path ∙ rootless path.parts some in
    sym (entry-removed_other c path q other)
    ∙ tree-empty path gone gone q (removed-tree c path tree (unrefused c path (entry_at c path) refl file)) some (tree-absent path gone (ap (folder_asked path) none)) held

sound_entry : (own : PathValue) (o : Option Entry) → IsSound own o → is_sound o ≡ true
sound_entry own None is = refl
sound_entry own (Some (FolderEntry true)) is = absurd cc
sound_entry own (Some (FolderEntry false)) is = refl
sound_entry own (Some (FileEntry bytes)) is = refl
sound_entry own (Some LinkEntry) is = absurd cc

file_sound : (o : Option Entry) → is_file o ≡ true → is_sound o ≡ true
file_sound None is = absurd (true≢false (sym is))
file_sound (Some (FolderEntry bad)) is = absurd (true≢false (sym is))
file_sound (Some (FileEntry bytes)) is = refl
file_sound (Some LinkEntry) is = absurd (true≢false (sym is))

both : (a b : Bool) → (a && b) ≡ true → (a ≡ true) × (b ≡ true)
both true b e = (refl, e)
both false b e = absurd (true≢false (sym e))

either : {P : Type 0} (a b : Bool) → (a || b) ≡ true → (a ≡ true → P) → (b ≡ true → P) → P
either true b is one two = one refl
either false b is one two = two is

-- a path that is brought back, by its parts
restored_parts : (root path : PathValue) → is_restored_at root path ≡ true → (path ≡ below root (parts_below root path)) × (is_named (parts_below root path) ≡ true)
restored_parts root path is =
    let two = both (is_held root path) (is_named (parts_below root path)) is in
    (held-below root path (held-holds root path two.0), two.1)

module _ (custom : Option Extension) (root : PathValue) (s : Start) (listed : List Listed) (c d : Contents) (begun : WasBegun custom root s listed c d) where
  abbrev e : Contents
  e = without_own c root

  seen : (parts : List (List ℕ)) → is_named parts ≡ true → entry_at e (below root parts) ≡ entry_at c (below root parts)
  seen parts named = named-seen c root (below root parts) (restored-below root parts ∙ named)

  label_file : is_file (entry_at c (label_path root)) ≡ true
  label_file = ap is_file (sym (seen (codes "backup_label" ∷ []) refl)) ∙ (is_given custom e root s begun.may.passes).label

  at_label : (more : List (List ℕ)) → is_sound (entry_at c (below root (codes "backup_label" ∷ more))) ≡ true
  at_label [] = file_sound (entry_at c (label_path root)) label_file
  at_label (next ∷ more) =
      let path : PathValue = below root (codes "backup_label" ∷ next ∷ more) in
      let held : is_held (label_path root) path ≡ true =
      subst (λ p. is_held (label_path root) p ≡ true) (same_path (below (label_path root) (next ∷ more)) path refl (append_assoc root.parts (codes "backup_label" ∷ []) (next ∷ more)))
      (holds-held (label_path root) (below (label_path root) (next ∷ more)) (holds-below (label_path root) (next ∷ more))) in
      ap is_sound (file_below c (label_path root) path begun.tree (omega (arith, length-append root.parts (codes "backup_label" ∷ []))) label_file held
      (λ same. absurd (omega (arith, ap (λ (p : PathValue). length p.parts) same, length-append root.parts (codes "backup_label" ∷ []), length-append root.parts (codes "backup_label" ∷ next ∷ more)))))

  by_parts : (parts : List (List ℕ)) → is_named parts ≡ true → is_sound (entry_at c (below root parts)) ≡ true
  by_parts [] named = absurd (true≢false (sym named))
  by_parts (name ∷ more) named =
      either (is_area name) (bytes_eq name (codes "backup_label")) named
      (λ area.
      ap is_sound (sym (seen (name ∷ more) named))
      ∙ sound_entry (record { absolute = false; parts = name ∷ more }) (entry_at e (below root (name ∷ more))) ((lists_tell e root listed begun.may.lists (parts-seen c root begun.proper)).sound name more area))
      (λ label. subst (λ n. is_sound (entry_at c (below root (n ∷ more))) ≡ true) (sym (same_text name (codes "backup_label") (sym label))) (at_label more))

  here : HasKinds root c
  here path is =
      let parts = restored_parts root path is in
      ap (λ p. is_sound (entry_at c p)) parts.0 ∙ by_parts (parts_below root path) parts.1

  pub begun-kinds : HasKinds root c × HasKinds root d
  begun-kinds = (here, λ path is. ap is_sound (begun.laid.elsewhere path (not-laid_named root path is)) ∙ here path is)

-- ---- so little can be in the way

named_deeper : (parts more : List (List ℕ)) → is_named parts ≡ true → is_named (parts ++ more) ≡ true
named_deeper [] more is = absurd (true≢false (sym is))
named_deeper (name ∷ parts) more is = is

module _ (root top path : PathValue) (restored : is_restored_at root top ≡ true) (held : is_held top path ≡ true) where
  restored_deeper : is_restored_at root path ≡ true
  restored_deeper =
      let parts = restored_parts root top restored in
      let more : List (List ℕ) = drop (length top.parts) path.parts in
      let is : path ≡ below root (parts_below root top ++ more) =
      held-below top path (held-holds top path held) ∙ ap (λ p. below p more) parts.0 ∙ same_path (below (below root (parts_below root top)) more) (below root (parts_below root top ++ more)) refl (append_assoc root.parts (parts_below root top) more) in
      ap (is_restored_at root) is ∙ restored-below root (parts_below root top ++ more) ∙ named_deeper (parts_below root top) more parts.1

  no_link : (c : Contents) → HasKinds root c → entry_at c path ≡ Some LinkEntry → ⊥
  no_link c kinds is = true≢false (sym (kinds path restored_deeper) ∙ ap is_sound is)

  no_bad : (c : Contents) → HasKinds root c → entry_at c path ≡ Some (FolderEntry true) → ⊥
  no_bad c kinds is = true≢false (sym (kinds path restored_deeper) ∙ ap is_sound is)

blocked : (root : PathValue) (c : Contents) → HasKinds root c → (top : PathValue) → is_restored_at root top ≡ true → (e : FileFault) → IsBlocked top c e → HasOddFolder root c
blocked root c kinds top restored fault.ReadFault is = absurd is
blocked root c kinds top restored fault.WriteFault is = absurd is
blocked root c kinds top restored (fault.Link path) is = absurd (no_link root top path restored is.0 c kinds is.1)
blocked root c kinds top restored (fault.NotFolder path) is = absurd is
blocked root c kinds top restored (fault.IsFolder path) is = absurd is
blocked root c kinds top restored (fault.NameNotText path) is = absurd (no_bad root top path restored is.0 c kinds is.1)
blocked root c kinds top restored (fault.TooDeep path) is = inr (path, restored_deeper root top path restored is.0, is.1, is.2)
blocked root c kinds top restored (fault.Changed path) is = absurd is
blocked root c kinds top restored fault.OutOfMemory is = absurd is

pub little-in_way : (root : PathValue) (c : Contents) (e : FileFault) → HasKinds root c → IsRefusal root c e → IsFree e ⊎ HasOddFolder root c
little-in_way root c e kinds why = ⊎_elim
    (λ free. inl free)
    (λ more. inr (⊎_elim (λ (label : IsLabelFolder root c e). inl label.1) (λ (at : (top : PathValue) × (is_restored_at root top ≡ true) × IsBlocked top c e). blocked root c kinds at.0 at.1 e at.2) more))
    why

-- A replay that is begun where a stop left no whole mark is as one that is begun where none was laid.
use Rattle.std.proofs.Common.{◌≡◌, ◌⊎◌, ℕ, Bool, true, false, ◌&&◌, ◌||◌, List, [], ◌∷◌, bytes_eq, codes, length, option_map, Option, None, Some, Ok, inl, inr, refl, ap, sym, ◌∙◌, true≢false}
use Rattle.std.specs.List.{AllByRecursion, list_all}
use Rattle.std.proofs.lemmas.List.Elements.{recursion_from_All}
use Rattle.cluster_tree.specs.Contents.{Contents, Entry, FileEntry, FolderEntry, LinkEntry, entry_at, is_file}
use Rattle.cluster_tree.specs.PathOrder.{path_eq}
use Rattle.cluster_tree.specs.PathValue.{PathValue, below}
use Rattle.cluster_tree.proofs.HoldLemmas.{holds-held}
use Rattle.cluster_tree.proofs.OrderLemmas.{path_eq-own}
use Rattle.mark_lines.specs.Paths.{parts_below}
use Rattle.mark_lines.specs.Ways.{LiesBelow}
use Rattle.replay_copies.specs.Laid.{AreCopied, IsLaid, SameElsewhere, is_laid_at, mark_of}
use Rattle.replay_core.specs.Replayed.{control_path}
use Rattle.replay_core.proofs.StartedLemmas.{is_given}
use Rattle.replay_list.specs.Areas.{is_listed}
use Rattle.replay_list.specs.Laws.{IsListOf}
use Rattle.replay_list.specs.Lines.{files_behind, path_at}
use Rattle.replay_list.specs.declared.listed.Listed.{Listed}
use Rattle.replay_list.specs.declared.listed.Listed.TheVariants.{Folder, Page, File}
use Rattle.replay_restart.specs.Meant.{Again, Anew, IsLeftBy, IsOver, WasEnded, WasReplayed, taken_of}
use Rattle.replay_restart.specs.declared.outcome.Restarted.{Restarted}
use Rattle.replay_restart.proofs.PlaceLemmas.{control-own, entry-own, log-not_laid, not-laid}
use Rattle.replay_restart.proofs.TakenLemmas.{unbegun}
use Rattle.replay_restore.specs.Listing.{is_named, is_restored_at}
use Rattle.replay_start.specs.Checked.{Start}
use Rattle.restart_start.specs.Beginning.{MayBegin, without_own}
use Rattle.rmgr_hooks.specs.Custom.{Extension}
use Rattle.stored_replay.specs.Stored.{NotBegun}
use Rattle.without_file.specs.Without.{seen}
use Rattle.restart_laws.proofs.AlikeLemmas.{not-laid_named}
use Rattle.restart_laws.proofs.BegunLemmas.{own-seen}
use Rattle.restart_laws.proofs.DoneLemmas.{no-begun, no-ended}
use Rattle.restart_laws.proofs.ListedLemmas.{area-restored, lists-same, root-not_laid}
use Rattle.restart_laws.proofs.StartLemmas.{ReadsSame, start-same}
use Rattle.restart_laws.proofs.WalkLemmas.{plain}

and_parts : (a b : Bool) → (a && b) ≡ true → (a ≡ true) × (b ≡ true)
and_parts true b e = (refl, e)
and_parts false b e = absurd (true≢false (sym e))

listed_named : (parts : List (List ℕ)) → is_listed parts ≡ true → is_named parts ≡ true
listed_named [] is = is
listed_named (name ∷ []) is = is
listed_named (name ∷ next ∷ more) is = ap (λ b. b || bytes_eq name (codes "backup_label")) is

-- a file at the mark isn't seen
unseen : (o : Option Entry) → (is_file o ≡ true) ⊎ (o ≡ None) → seen true o ≡ None
unseen None is = refl
unseen (Some (FolderEntry bad)) (inl is) = absurd (true≢false (sym is))
unseen (Some (FolderEntry bad)) (inr is) = absurd cc
unseen (Some (FileEntry bytes)) is = refl
unseen (Some LinkEntry) (inl is) = absurd (true≢false (sym is))
unseen (Some LinkEntry) (inr is) = absurd cc

module _ (custom : Option Extension) (root : PathValue) (c x : Contents) (anew : taken_of c root ≡ Ok NotBegun) (same : SameElsewhere root c x) where
  abbrev e : Contents
  e = without_own c root

  abbrev a : Contents
  a = without_own x root

  seen_late : (path : PathValue) → is_laid_at root path ≡ false → entry_at a path ≡ entry_at e path
  seen_late path off = own-seen x root path ∙ ap (seen (path_eq path (mark_of root))) (same path off) ∙ sym (own-seen c root path)

  top_late : (name : List ℕ) → bytes_eq name (codes "pg_walreplay.unfinished") ≡ false → bytes_eq name (codes "pg_walreplay.shadow") ≡ false → entry_at a (below root (name ∷ [])) ≡ entry_at e (below root (name ∷ []))
  top_late name one two = seen_late (below root (name ∷ [])) (not-laid root (below root (name ∷ [])) name one two (entry-own root name))

  mark_unseen : entry_at e (mark_of root) ≡ None
  mark_unseen =
      own-seen c root (mark_of root) ∙ ap (λ t. seen t (entry_at c (mark_of root))) (path_eq-own (mark_of root)) ∙ unseen (entry_at c (mark_of root)) (unbegun c root anew).mark

  -- ---- it begins the same

  module _ (s : Start) (listed : List Listed) (may : MayBegin custom a root s listed) where
    reads_late : ReadsSame root a e
    reads_late = record {
      marks = record {
        rewind = top_late (codes "pg_rewind.unfinished") refl refl;
        replay = (is_given custom a root s may.passes).mark ∙ sym mark_unseen;
        reset = top_late (codes "pg_resetwal.unfinished") refl refl;
      };
      control = seen_late (control_path root) (not-laid root (control_path root) (codes "global") refl refl (control-own root));
      label = top_late (codes "backup_label") refl refl;
      log = λ path holds. seen_late path (log-not_laid root path holds);
    }

    pub may-late : MayBegin custom e root s listed
    may-late = record {
      passes = sym (start-same custom root a e reads_late) ∙ may.passes;
      lists = sym (lists-same root a e
          (λ name more area. ap (option_map plain) (seen_late (below root (name ∷ more)) (not-laid_named root (below root (name ∷ more)) (area-restored root name more area))))
          (seen_late root (root-not_laid root)) reads_late.label) ∙ may.lists;
      anew = may.anew;
    }

  -- ---- and lays the same

  module _ (listed : List Listed) (placed : IsListOf root listed) (f : Contents) where
    copied_late : (files : ℕ) (list : List Listed) → AllByRecursion (λ l. LiesBelow (length root.parts) root (path_at l)) list → list_all (λ l. is_listed (parts_below root (path_at l))) list ≡ true
        → AreCopied root x f files list → AreCopied root c f files list
    copied_late files [] below_it areas copied = tt
    copied_late files (Folder path ∷ more) below_it areas copied = (tt, copied_late files more below_it.1 (and_parts _ _ areas).1 copied.1)
    copied_late files (Page path size ∷ more) below_it areas copied = (tt, copied_late files more below_it.1 (and_parts _ _ areas).1 copied.1)
    copied_late files (File path size ∷ more) below_it areas copied =
        let named : is_restored_at root path ≡ true =
        ap (λ b. b && is_named (parts_below root path)) (holds-held root path below_it.0.held) ∙ listed_named (parts_below root path) (and_parts (is_listed (parts_below root path)) _ areas).0 in
        (copied.0 ∙ same path (not-laid_named root path named), copied_late (files_behind files (File path size)) more below_it.1 (and_parts (is_listed (parts_below root path)) _ areas).1 copied.1)

    pub laid-late : IsLaid root listed x f → IsLaid root listed c f
    laid-late laid = record {
      mark = laid.mark;
      copies = record {
        folder = laid.copies.folder;
        copied = copied_late 0 listed (recursion_from_All (λ l. LiesBelow (length root.parts) root (path_at l)) listed placed.placed) placed.areas laid.copies.copied;
        only = laid.copies.only;
      };
      elsewhere = λ path off. laid.elsewhere path off ∙ same path off;
    }

  module _ (taken : taken_of x root ≡ Ok NotBegun) where
    over_late : (s : Start) (f : Contents) → IsOver custom x root s f → IsOver custom c root s f
    over_late s f (Anew listed not may placed laid) = Anew listed anew (may-late s listed may) placed (laid-late listed placed f laid)
    over_late s f (Again listed again is restored may) = no-begun listed (sym taken ∙ is)

    pub begun-late : (new : Contents) (told : Restarted) → IsLeftBy custom x root new told → IsLeftBy custom c root new told
    begun-late new told (WasReplayed {count = count} s f is over) = WasReplayed s f (over_late s f is) over
    begun-late new told (WasEnded is cleared) = no-ended (sym taken ∙ is)

-- What a replay was begun from, and what is brought back of what a stop left.
use Rattle.std.proofs.Common.{◌≡◌, ℕ, Bool, true, false, not, ◌&&◌, ◌||◌, List, [], ◌∷◌, bytes_eq, codes, cond, option_map, Option, None, Some, is_some, refl, ap, sym, subst, ◌∙◌, ⊎_elim, true≢false, append-nil, arith}
use Rattle.areas_alone.specs.Alone.{areas_of}
use Rattle.areas_alone.specs.Shown.{elsewhere-below, entry-elsewhere, entry-root, sound}
use Rattle.cluster_laws.proofs.StartLemmas.{control-not_main}
use Rattle.cluster_tree.specs.Contents.{Contents, Entry, FileEntry, FolderEntry, LinkEntry, entry_at, is_file}
use Rattle.cluster_tree.specs.PathOrder.{path_eq}
use Rattle.cluster_tree.specs.PathValue.{PathValue, below, path_of}
use Rattle.cluster_tree.proofs.OrderLemmas.{path_eq-own, path_eq-same}
use Rattle.file_walk.specs.Laws.{IsSound}
use Rattle.file_walk.specs.Relations.{relation_of}
use Rattle.file_walk.specs.Walk.{HasParts, kind_there}
use Rattle.replay_areas.specs.Laws.{TellsAreas}
use Rattle.replay_areas.specs.Listing.{label_listed, listed_by}
use Rattle.replay_areas.proofs.FoundLemmas.{area_seen}
use Rattle.replay_areas.proofs.TellLemmas.{lists_tell}
use Rattle.replay_copies.specs.Laid.{is_laid_at, mark_of}
use Rattle.replay_copies.proofs.ListLemmas.{mark-size}
use Rattle.replay_core.specs.Replayed.{control_path, label_path}
use Rattle.replay_core.proofs.PathLemmas.{control_path-is}
use Rattle.replay_core.proofs.StartedLemmas.{is_given}
use Rattle.replay_list.specs.Areas.{is_area}
use Rattle.replay_list.specs.declared.listed.Listed.{Listed}
use Rattle.replay_restart.proofs.PlaceLemmas.{control-own, entry-own, laid-not_restored, log-not_laid, log-not_restored, mark-laid, not-laid}
use Rattle.replay_restart.proofs.ReadyLemmas.{own-file}
use Rattle.replay_restore.specs.Listing.{is_named, is_restored_at}
use Rattle.replay_restore.specs.Restored.{IsRestored}
use Rattle.replay_start.specs.Checked.{Start, start_of}
use Rattle.restart_start.specs.Beginning.{without_own}
use Rattle.restored_laws.specs.Back.{IsBack, IsBegunFrom, IsLeftOf, IsResized, SameBeside}
use Rattle.restored_laws.proofs.BackLemmas.{all-back, restored-below}
use Rattle.restored_laws.proofs.LaidLemmas.{laid-begun, laid-left}
use Rattle.rmgr_hooks.specs.Custom.{Extension}
use Rattle.without_file.specs.Without.{seen}
use Rattle.without_file.proofs.SeenLemmas.{entry-seen}
use Rattle.restart_laws.specs.Stopped.{IsStoppedIn, WasBegun}
use Rattle.restart_laws.proofs.StartLemmas.{MarksSame, ReadsSame, start-same}

-- ---- what is seen without the mark

pub own-seen : (c : Contents) (root path : PathValue) → entry_at (without_own c root) path ≡ seen (path_eq path (mark_of root)) (entry_at c path)
own-seen c root path = entry-seen c (mark_of root) path (omega (arith, mark-size root))

-- what is brought back isn't the mark
pub named-seen : (c : Contents) (root path : PathValue) → is_restored_at root path ≡ true → entry_at (without_own c root) path ≡ entry_at c path
named-seen c root path named = own-seen c root path ∙ by (path_eq path (mark_of root)) refl
  where
    by : (b : Bool) → path_eq path (mark_of root) ≡ b → seen b (entry_at c path) ≡ entry_at c path
    by true same = absurd (true≢false (sym named ∙ ap (is_restored_at root) (path_eq-same path (mark_of root) same) ∙ laid-not_restored root (mark_of root) (mark-laid root)))
    by false other = refl

seen-some : (b : Bool) (o : Option Entry) → is_some (seen b o) ≡ true → is_some o ≡ true
seen-some b o is = by (b && is_file o) is
  where
    by : (t : Bool) → is_some (cond t None o) ≡ true → is_some o ≡ true
    by true e = absurd cc
    by false e = e

sound-some : (o : Option Entry) → is_some (sound o) ≡ true → is_some o ≡ true
sound-some None e = e
sound-some (Some (FolderEntry bad)) e = refl
sound-some (Some (FileEntry bytes)) e = refl
sound-some (Some LinkEntry) e = refl

-- paths of proper parts stay so where less is seen
pub parts-seen : (c : Contents) (root : PathValue) → HasParts c root → HasParts (areas_of (without_own c root) root) root
parts-seen c root proper parts there = proper parts (seen-some (path_eq (below root parts) (mark_of root)) (entry_at c (below root parts)) (ap is_some (sym (own-seen c root (below root parts))) ∙ by parts there))
  where
    e : Contents
    e = without_own c root

    top : (path : PathValue) → path ≡ root → is_some (entry_at (areas_of e root) path) ≡ true → is_some (entry_at e path) ≡ true
    top path same there = ap (λ p. is_some (entry_at e p)) same ∙ sound-some (entry_at e root) (sym (ap is_some (entry-root e root)) ∙ ap (λ p. is_some (entry_at (areas_of e root) p)) (sym same) ∙ there)

    by : (parts : List (List ℕ)) → is_some (entry_at (areas_of e root) (below root parts)) ≡ true → is_some (entry_at e (below root parts)) ≡ true
    by [] there = top (below root []) (ap (path_of root.absolute) (append-nil root.parts)) there
    by (name ∷ more) there =
        elim (is_area name) as (λ b. is_area name ≡ b → is_some (entry_at e (below root (name ∷ more))) ≡ true) [
          | true ↦ λ area. ap is_some (sym (area_seen e root name more area)) ∙ there
          | false ↦ λ off. absurd (true≢false (sym there ∙ ap is_some (entry-elsewhere e root (below root (name ∷ more)) (elsewhere-below root (name ∷ more) ∙ ap not off))))
        ] refl

area-named : (name : List ℕ) (more : List (List ℕ)) → is_area name ≡ true → is_named (name ∷ more) ≡ true
area-named name more area = ap (λ b. b || bytes_eq name (codes "backup_label")) area

-- ---- what a replay was begun from

module _ (custom : Option Extension) (root : PathValue) (s : Start) (listed : List Listed) (c d : Contents) (begun : WasBegun custom root s listed c d) where
  abbrev e : Contents
  e = without_own c root

  tells_seen : TellsAreas e root listed
  tells_seen = lists_tell e root listed begun.may.lists (parts-seen c root begun.proper)

  named_is : (parts : List (List ℕ)) → is_named parts ≡ true → entry_at e (below root parts) ≡ entry_at c (below root parts)
  named_is parts named = named-seen c root (below root parts) (restored-below root parts ∙ named)

  begun_first : IsBegunFrom root listed c
  begun_first = record {
    tree = begun.tree;
    label = own-file c root (label_path root) (is_given custom e root s begun.may.passes).label;
    list = begun.list;
    tells = record {
      areas = λ name more area. tells_seen.areas name more area
          ∙ ap (λ o. option_map (listed_by (is_some (relation_of (path_of false (name ∷ more)))) (below root (name ∷ more))) (kind_there o)) (named_is (name ∷ more) (area-named name more area));
      sound = λ name more area. subst (IsSound (path_of false (name ∷ more))) (named_is (name ∷ more) (area-named name more area)) (tells_seen.sound name more area);
      label = tells_seen.label ∙ ap (label_listed (label_path root)) (named_is (codes "backup_label" ∷ []) refl);
    };
  }

  pub begun-from : IsBegunFrom root listed d
  begun-from = laid-begun root listed c d begun.laid.elsewhere begun_first begun.laid_tree

  pub seen-same : (b : Contents) (path : PathValue) → entry_at b path ≡ entry_at c path → entry_at (without_own b root) path ≡ entry_at e path
  seen-same b path same = own-seen b root path ∙ ap (seen (path_eq path (mark_of root))) same ∙ sym (own-seen c root path)

  -- ---- what has all that isn't brought back as it was

  module _ (b : Contents) (beside : SameBeside root d b) where
    first_same : (path : PathValue) → is_restored_at root path ≡ false → is_laid_at root path ≡ false → entry_at b path ≡ entry_at c path
    first_same path off other = beside path off ∙ begun.laid.elsewhere path other

    mark_unseen : entry_at (without_own b root) (mark_of root) ≡ None
    mark_unseen =
        own-seen b root (mark_of root) ∙ ap (λ t. seen t (entry_at b (mark_of root))) (path_eq-own (mark_of root))
        ∙ ap (seen true) (beside (mark_of root) (laid-not_restored root (mark_of root) (mark-laid root)) ∙ begun.laid.mark)

    beside_seen : (name : List ℕ) → is_named (name ∷ []) ≡ false → bytes_eq name (codes "pg_walreplay.unfinished") ≡ false → bytes_eq name (codes "pg_walreplay.shadow") ≡ false
        → entry_at (without_own b root) (below root (name ∷ [])) ≡ entry_at e (below root (name ∷ []))
    beside_seen name off one two =
        seen-same b (below root (name ∷ []))
        (first_same (below root (name ∷ [])) (restored-below root (name ∷ []) ∙ off) (not-laid root (below root (name ∷ [])) name one two (entry-own root name)))

    pub marks-same : MarksSame root (without_own b root) e
    marks-same = record {
      rewind = beside_seen (codes "pg_rewind.unfinished") refl refl refl;
      replay = mark_unseen ∙ sym (is_given custom e root s begun.may.passes).mark;
      reset = beside_seen (codes "pg_resetwal.unfinished") refl refl refl;
    }

  -- ---- what is brought back of what a stop left

  module _ (x b : Contents) (stopped : IsStoppedIn custom root s d x) (restored : IsRestored root listed x b) where
    pub is-left : IsLeftOf root listed d x
    is-left = laid-left root listed c d x begun.laid.elsewhere stopped.beside begun.laid.copies.copied begun.list

    pub is-back : IsBack root d x b
    is-back = all-back root listed d x b begun-from is-left restored

    -- at each path that isn't brought back
    pub beside-back : SameBeside root d b
    beside-back path off = restored.elsewhere path off ∙ stopped.beside path off

    -- and of a file of no main fork
    back_same : (parts : List (List ℕ)) → relation_of (path_of false parts) ≡ None → entry_at b (below root parts) ≡ entry_at d (below root parts)
    back_same parts none = ⊎_elim (λ same. same) (λ (is : IsResized root parts d x b). absurd (true≢false (sym is.main ∙ ap is_some none))) (is-back parts)

    label_not_main : relation_of (path_of false (codes "backup_label" ∷ [])) ≡ None
    unfolding relation_of
    label_not_main = refl

    pub reads-same : ReadsSame root (without_own b root) e
    reads-same = record {
      marks = marks-same b beside-back;
      control = seen-same b (control_path root)
          (ap (entry_at b) (control_path-is root) ∙ back_same (codes "global" ∷ codes "pg_control" ∷ []) control-not_main ∙ ap (entry_at d) (sym (control_path-is root))
          ∙ begun.laid.elsewhere (control_path root) (not-laid root (control_path root) (codes "global") refl refl (control-own root)));
      label = seen-same b (label_path root)
          (back_same (codes "backup_label" ∷ []) label_not_main ∙ begun.laid.elsewhere (label_path root) (not-laid root (label_path root) (codes "backup_label") refl refl (entry-own root (codes "backup_label"))));
      log = λ path holds. seen-same b path (first_same b beside-back path (log-not_restored root path holds) (log-not_laid root path holds));
    }

    pub starts-same : start_of custom (without_own b root) root ≡ start_of custom e root
    starts-same = start-same custom root (without_own b root) e reads-same

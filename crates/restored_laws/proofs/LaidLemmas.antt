-- The mark and the copies of a replay, beside what it changes.
use Rattle.std.proofs.Common.{◌≡◌, ℕ, Bool, true, false, ◌&&◌, ◌||◌, List, [], ◌∷◌, bytes_eq, codes, decimal, length, option_map, is_some, refl, ap, sym, subst, ◌∙◌, append_assoc, true≢false}
use Rattle.std.specs.List.{AllByRecursion, list_all}
use Rattle.std.proofs.lemmas.List.Elements.{recursion_from_All}
use Rattle.cluster_tree.specs.Apart.{is_held}
use Rattle.cluster_tree.specs.Contents.{Contents, IsTree, entry_at, is_file}
use Rattle.cluster_tree.specs.PathOrder.{path_eq}
use Rattle.cluster_tree.specs.PathValue.{PathValue, below, path_of}
use Rattle.cluster_tree.proofs.HoldLemmas.{held-holds, holds-held}
use Rattle.cluster_tree.proofs.OrderLemmas.{path_eq-same}
use Rattle.cluster_tree.proofs.RootLemmas.{held-below}
use Rattle.file_walk.specs.Laws.{IsSound}
use Rattle.file_walk.specs.Relations.{relation_of}
use Rattle.file_walk.specs.Walk.{kind_there}
use Rattle.mark_lines.specs.Paths.{parts_below}
use Rattle.mark_lines.specs.Ways.{LiesBelow}
use Rattle.replay_areas.specs.Laws.{TellsAreas}
use Rattle.replay_areas.specs.Listing.{label_listed, label_path, listed_by}
use Rattle.replay_copies.specs.Laid.{AreCopied, SameElsewhere, is_laid_at, mark_of}
use Rattle.replay_list.specs.Areas.{is_area, is_listed}
use Rattle.replay_list.specs.Laws.{IsListOf}
use Rattle.replay_list.specs.Lines.{files_behind, path_at}
use Rattle.replay_list.specs.declared.listed.Listed.{Listed}
use Rattle.replay_list.specs.declared.listed.Listed.TheVariants.{Folder, Page, File}
use Rattle.replay_restore.specs.Listing.{is_named, is_restored_at}
use Rattle.stored_replay.specs.Shadows.{shadow_at, shadow_folder}
use Rattle.restored_laws.specs.Back.{IsBegunFrom, IsLeftOf, SameBeside}
use Rattle.restored_laws.proofs.BackLemmas.{restored-below}

-- ---- what is laid isn't brought back

shadow_off : (root path : PathValue) → is_held (shadow_folder root) path ≡ true → is_restored_at root path ≡ false
shadow_off root path held =
    let parts = parts_below (shadow_folder root) path in
    let is : path ≡ below root (codes "pg_walreplay.shadow" ∷ parts) = held-below (shadow_folder root) path (held-holds (shadow_folder root) path held)
    ∙ ap (path_of root.absolute) (append_assoc root.parts (codes "pg_walreplay.shadow" ∷ []) parts) in
    ap (is_restored_at root) is ∙ restored-below root (codes "pg_walreplay.shadow" ∷ parts)

laid_off : (root path : PathValue) → is_laid_at root path ≡ true → is_restored_at root path ≡ false
laid_off root path laid =
    elim (path_eq path (mark_of root)) as (λ b. path_eq path (mark_of root) ≡ b → (b || is_held (shadow_folder root) path) ≡ true → is_restored_at root path ≡ false) [
      | true ↦ λ e rest. ap (is_restored_at root) (path_eq-same path (mark_of root) e) ∙ restored-below root (codes "pg_walreplay.unfinished" ∷ [])
      | false ↦ λ e rest. shadow_off root path rest
    ] refl laid

module _ (root : PathValue) (listed : List Listed) (before first : Contents) (elsewhere : SameElsewhere root before first) where
  as_before : (path : PathValue) → is_restored_at root path ≡ true → entry_at first path ≡ entry_at before path
  as_before path restored =
      elim (is_laid_at root path) as (λ b. is_laid_at root path ≡ b → entry_at first path ≡ entry_at before path) [
        | true ↦ λ e. absurd (true≢false (sym restored ∙ laid_off root path e))
        | false ↦ λ e. elsewhere path e
      ] refl

  as_named : (parts : List (List ℕ)) → is_named parts ≡ true → entry_at first (below root parts) ≡ entry_at before (below root parts)
  as_named parts named = as_before (below root parts) (restored-below root parts ∙ named)

  area_named : (name : List ℕ) (more : List (List ℕ)) → is_area name ≡ true → is_named (name ∷ more) ≡ true
  area_named name more area = ap (λ b. b || bytes_eq name (codes "backup_label")) area

  same_areas : TellsAreas before root listed → TellsAreas first root listed
  same_areas tells = record {
    areas = λ name more area. tells.areas name more area
        ∙ ap (λ o. option_map (listed_by (is_some (relation_of (path_of false (name ∷ more)))) (below root (name ∷ more))) (kind_there o)) (sym (as_named (name ∷ more) (area_named name more area)));
    sound = λ name more area. subst (IsSound (path_of false (name ∷ more))) (sym (as_named (name ∷ more) (area_named name more area))) (tells.sound name more area);
    label = tells.label ∙ ap (label_listed (label_path root)) (sym (as_named (codes "backup_label" ∷ []) refl));
  }

  pub laid-begun : IsBegunFrom root listed before → IsTree first → IsBegunFrom root listed first
  laid-begun begun tree = record {
    tree = tree;
    label = ap is_file (as_named (codes "backup_label" ∷ []) refl) ∙ begun.label;
    list = begun.list;
    tells = same_areas begun.tells;
  }

-- ---- the copies

listed_named : (parts : List (List ℕ)) → is_listed parts ≡ true → is_named parts ≡ true
listed_named [] is = absurd cc
listed_named (name ∷ []) is = is
listed_named (name ∷ next ∷ more) is = ap (λ b. b || bytes_eq name (codes "backup_label")) is

first_of : (a b : Bool) → (a && b) ≡ true → a ≡ true
first_of true b e = refl
first_of false b e = absurd cc

second_of : (a b : Bool) → (a && b) ≡ true → b ≡ true
second_of true b e = e
second_of false b e = absurd cc

module _ (root : PathValue) (all : List Listed) (before first left : Contents) (elsewhere : SameElsewhere root before first) (beside : SameBeside root first left) where
  one_left : (files : ℕ) (path : PathValue) → is_restored_at root path ≡ true → entry_at first (shadow_at root files) ≡ entry_at before path → entry_at left (shadow_at root files) ≡ entry_at first path
  one_left files path restored copied =
      beside (shadow_at root files) (restored-below root (codes "pg_walreplay.shadow" ∷ decimal files ∷ []))
      ∙ copied ∙ sym (as_before root all before first elsewhere path restored)

  all_left : (files : ℕ) (listed : List Listed) → AllByRecursion (λ l. LiesBelow (length root.parts) root (path_at l)) listed → list_all (λ l. is_listed (parts_below root (path_at l))) listed ≡ true
      → AreCopied root before first files listed → AreCopied root first left files listed
  all_left files [] placed areas copied = tt
  all_left files (Folder path ∷ more) placed areas copied = (tt, all_left files more placed.1 (second_of _ _ areas) copied.1)
  all_left files (Page path size ∷ more) placed areas copied = (tt, all_left files more placed.1 (second_of _ _ areas) copied.1)
  all_left files (File path size ∷ more) placed areas copied = (
    one_left files path
        (ap (λ b. b && is_named (parts_below root path)) (holds-held root path placed.0.held) ∙ listed_named (parts_below root path) (first_of _ _ areas)) copied.0,
    all_left (files_behind files (File path size)) more placed.1 (second_of _ _ areas) copied.1,
  )

  pub laid-left : AreCopied root before first 0 all → IsListOf root all → IsLeftOf root all first left
  laid-left copied list = record {
    copied = all_left 0 all (recursion_from_All (λ l. LiesBelow (length root.parts) root (path_at l)) all list.placed) list.areas copied;
    beside = beside;
  }

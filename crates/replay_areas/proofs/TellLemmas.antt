-- What is listed of a cluster tells what stands in the areas, and of the label.
use Rattle.std.proofs.Common.{◌≡◌, ◌≢◌, ℕ, Bool, true, false, not, List, [], ◌∷◌, codes, length, map, None, Some, Ok, option_map, is_some, refl, ap, sym, ◌∙◌, subst, true≢false, if◌then◌else◌}
use Rattle.std.specs.List.{cons_option}
use Rattle.cluster_tree.specs.Contents.{Contents, entry_at}
use Rattle.cluster_tree.specs.PathOrder.{path_eq}
use Rattle.cluster_tree.specs.PathValue.{PathValue, below, path_of}
use Rattle.cluster_tree.proofs.OrderLemmas.{path_eq-other, path_eq-own}
use Rattle.file_walk.specs.declared.entry.Entry.{Entry}
use Rattle.file_walk.specs.Laws.{IsSound, TellsAll}
use Rattle.file_walk.specs.Relations.{relation_of}
use Rattle.file_walk.specs.Walk.{HasParts, kind_there, walk_of}
use Rattle.file_walk.proofs.StandLemmas.{more_than_none, tells-all}
use Rattle.replay_list.specs.declared.listed.Listed.{Listed}
use Rattle.replay_list.specs.declared.listed.Listed.TheVariants.{File}
use Rattle.replay_list.specs.Areas.{is_area}
use Rattle.areas_alone.specs.Alone.{areas_of, lies_elsewhere}
use Rattle.areas_alone.specs.Shown.{elsewhere-below, entry-elsewhere}
use Rattle.replay_areas.specs.Laws.{ListsTellAreas, TellsAreas, listed_at}
use Rattle.replay_areas.specs.Listing.{label_path, listed_as, listed_below, listed_by}
use Rattle.replay_areas.proofs.FoundLemmas.{area_seen, found_in_order, kind-found, listed-found}
use Rattle.replay_areas.proofs.ListLemmas.{list_is, with_label}

-- a path in an area isn't the label's
label_apart : (root : PathValue) (name : List ℕ) (more : List (List ℕ)) → is_area name ≡ true → below root (name ∷ more) ≢ label_path root
label_apart root name more e same =
    true≢false (sym (elsewhere-below root (codes "backup_label" ∷ [])) ∙ ap (lies_elsewhere root) (sym same) ∙ elsewhere-below root (name ∷ more) ∙ ap not e)

passed : {A : Type 0} (b : Bool) (x y : A) → b ≡ false → (if b then x else y) ≡ y
passed true x y e = absurd (true≢false e)
passed false x y e = refl

taken : {A : Type 0} (b : Bool) (x y : A) → b ≡ true → (if b then x else y) ≡ x
taken true x y e = refl
taken false x y e = absurd (true≢false (sym e))

module _ (c : Contents) (root : PathValue) (entries : List Entry) (told : walk_of (areas_of c root) root ≡ Ok entries) (proper : HasParts (areas_of c root) root) where
  tells : TellsAll (areas_of c root) root entries
  tells = tells-all (areas_of c root) root entries told

  abbrev listed : List Listed
  listed = map (listed_as root) entries

  -- what the entries tell at parts below the root
  entries_tell : (name : List ℕ) (more : List (List ℕ)) → listed_at listed (below root (name ∷ more))
      ≡ option_map (listed_by (is_some (relation_of (path_of false (name ∷ more)))) (below root (name ∷ more))) (kind_there (entry_at (areas_of c root) (below root (name ∷ more))))
  entries_tell name more =
      listed-found root (name ∷ more) entries (found_in_order c root entries told).relative
      ∙ ap (option_map (listed_by (is_some (relation_of (path_of false (name ∷ more)))) (below root (name ∷ more))))
      (sym (kind-found entries (path_of false (name ∷ more))) ∙ tells.kind proper (name ∷ more) (more_than_none (length more)))

  skipped : (name : List ℕ) (more : List (List ℕ)) → is_area name ≡ true → listed_at (listed_below c root entries) (below root (name ∷ more)) ≡ listed_at listed (below root (name ∷ more))
  skipped name more e = with_label (λ o. listed_at (cons_option o listed) (below root (name ∷ more)) ≡ listed_at listed (below root (name ∷ more))) (label_path root) refl
      (λ size. passed (path_eq (below root (name ∷ more)) (label_path root)) (Some (File (label_path root) size)) (listed_at listed (below root (name ∷ more))) (path_eq-other (below root (name ∷ more)) (label_path root) (label_apart root name more e)))
      (entry_at c (label_path root))

  no_label : listed_at listed (label_path root) ≡ None
  no_label =
      let label : List (List ℕ) = codes "backup_label" ∷ [] in
      entries_tell (codes "backup_label") []
      ∙ ap (λ o. option_map (listed_by (is_some (relation_of (path_of false label))) (below root label)) (kind_there o)) (entry-elsewhere c root (below root label) (elsewhere-below root label))

  pub tells_areas : TellsAreas c root (listed_below c root entries)
  tells_areas = record {
    areas = λ name more e. skipped name more e ∙ entries_tell name more
        ∙ ap (λ o. option_map (listed_by (is_some (relation_of (path_of false (name ∷ more)))) (below root (name ∷ more))) (kind_there o)) (area_seen c root name more e);
    sound = λ name more e. subst (IsSound (path_of false (name ∷ more))) (area_seen c root name more e) (tells.sound proper (name ∷ more) (more_than_none (length more)));
    label = with_label (λ o. listed_at (cons_option o listed) (label_path root) ≡ o) (label_path root) no_label
        (λ size. taken (path_eq (label_path root) (label_path root)) (Some (File (label_path root) size)) (listed_at listed (label_path root)) (path_eq-own (label_path root)))
        (entry_at c (label_path root));
  }

pub lists_tell : ListsTellAreas
lists_tell c root listed e proper =
    let is = list_is c root listed e in
    subst (TellsAreas c root) (sym is.is) (tells_areas c root is.entries is.told proper)

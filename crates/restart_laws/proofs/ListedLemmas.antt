-- Of what is brought back the same is listed, so a replay may begin of it.
use Rattle.std.proofs.Common.{◌≡◌, ℕ, Bool, true, false, not, ◌&&◌, ◌||◌, List, [], ◌∷◌, ◌++◌, bytes_eq, codes, length, map, nat_lt, replicate, option_map, Option, None, Some, Ok, refl, ap, sym, ◌∙◌, ⊎_elim, subst, true≢false, append-nil, arith}
use Rattle.std.proofs.lemmas.Bool.Decides.{nat_tests}
use Rattle.std.specs.FinMap.{get}
use Rattle.std.specs.List.{cons_option, list_all}
use Rattle.areas_alone.specs.Alone.{areas_of}
use Rattle.areas_alone.specs.Shown.{elsewhere-below, entry-elsewhere, entry-root, sound}
use Rattle.cluster_tree.specs.Causes.{given}
use Rattle.cluster_tree.specs.Contents.{Contents, Entry, FileEntry, entry_at, or_root}
use Rattle.cluster_tree.specs.PathOrder.{path_eq}
use Rattle.cluster_tree.specs.PathValue.{PathValue, below, front, is_part, path_of}
use Rattle.file_effects.specs.Own.{is_at}
use Rattle.file_walk.specs.Walk.{from_root, lies_below, root_flaw, walk_of}
use Rattle.file_walk.proofs.FoundLemmas.{back_below}
use Rattle.replay_areas.specs.Listing.{areas_listed, label_listed, label_path, listed_as, listed_below}
use Rattle.replay_areas.proofs.FoundLemmas.{area_seen}
use Rattle.replay_copies.specs.Laid.{is_laid_at}
use Rattle.replay_list.specs.Areas.{is_area}
use Rattle.replay_list.specs.declared.listed.Listed.{Listed}
use Rattle.replay_restart.proofs.PlaceLemmas.{laid-top}
use Rattle.replay_restore.specs.Listing.{is_restored_at}
use Rattle.replay_restore.specs.Restored.{IsRestored}
use Rattle.replay_start.specs.Checked.{Start}
use Rattle.restart_start.specs.Beginning.{MayBegin, without_own}
use Rattle.restored_laws.specs.Back.{IsResized}
use Rattle.restored_laws.proofs.AlikeLemmas.{resized-size}
use Rattle.restored_laws.proofs.BackLemmas.{restored-below}
use Rattle.rmgr_hooks.specs.Custom.{Extension}
use Rattle.restart_laws.specs.Stopped.{IsStoppedIn, WasBegun}
use Rattle.restart_laws.proofs.AlikeLemmas.{at-parts, not-laid_named}
use Rattle.restart_laws.proofs.BegunLemmas.{beside-back, is-back, named-seen, reads-same, seen-same, starts-same}
use Rattle.restart_laws.proofs.WalkLemmas.{plain, walk-same}

-- ---- the root

root_below : (root : PathValue) → root ≡ below root []
root_below root = sym (ap (path_of root.absolute) (append-nil root.parts))

not_at : (root : PathValue) (name : List ℕ) → is_at root name root ≡ true → ⊥
not_at root name at =
    let one = at-parts root [] name (subst (λ p. is_at root name p ≡ true) (root_below root) at) in
    let wrong : [] ≡ name ∷ one.0 = one.1 in
    cc wrong

pub root-not_laid : (root : PathValue) → is_laid_at root root ≡ false
root-not_laid root = by (is_laid_at root root) refl
  where
    by : (b : Bool) → is_laid_at root root ≡ b → b ≡ false
    by true is = absurd (laid-top root root is (not_at root (codes "pg_walreplay.unfinished")) (not_at root (codes "pg_walreplay.shadow")))
    by false is = refl

-- ---- paths below it

pub area-restored : (root : PathValue) (name : List ℕ) (more : List (List ℕ)) → is_area name ≡ true → is_restored_at root (below root (name ∷ more)) ≡ true
area-restored root name more area = restored-below root (name ∷ more) ∙ ap (λ t. t || bytes_eq name (codes "backup_label")) area

first_part : (a b : Bool) → (a && b) ≡ true → a ≡ true
first_part true b e = refl
first_part false b e = absurd (true≢false (sym e))

not_less : (n : ℕ) → nat_lt n n ≡ false
not_less n = grind (arith, nat_tests)

not_low : (root : PathValue) → lies_below root (below root []) ≡ true → ⊥
not_low root low =
    let path = below root [] in
    let less = first_part (nat_lt (length root.parts) (length path.parts)) (path_eq root (front (length root.parts) path))
    (first_part (nat_lt (length root.parts) (length path.parts) && path_eq root (front (length root.parts) path)) (list_all is_part path.parts) low) in
    true≢false (sym less ∙ ap (λ l. nat_lt (length root.parts) (length l)) (append-nil root.parts) ∙ not_less (length root.parts))

got : (c : Contents) (root : PathValue) (name : List ℕ) (more : List (List ℕ)) → get c (below root (name ∷ more)) ≡ entry_at c (below root (name ∷ more))
got c root name more = sym (more_parts root.parts (get c (below root (name ∷ more))))
  where
    more_parts : (xs : List (List ℕ)) (o : Option Entry) → or_root (xs ++ name ∷ more) o ≡ o
    more_parts [] None = refl
    more_parts [] (Some v) = refl
    more_parts (x ∷ xs) None = refl
    more_parts (x ∷ xs) (Some v) = refl

-- ---- two trees in which the same is listed

module _ (root : PathValue) (a e : Contents)
    (areas : (name : List ℕ) (more : List (List ℕ)) → is_area name ≡ true → option_map plain (entry_at a (below root (name ∷ more))) ≡ option_map plain (entry_at e (below root (name ∷ more))))
    (rooted : entry_at a root ≡ entry_at e root) (label : entry_at a (label_path root) ≡ entry_at e (label_path root)) where
  entry_same : (name : List ℕ) (more : List (List ℕ)) (t : Bool) → is_area name ≡ t
      → option_map plain (entry_at (areas_of a root) (below root (name ∷ more))) ≡ option_map plain (entry_at (areas_of e root) (below root (name ∷ more)))
  entry_same name more true area =
      ap (option_map plain) (area_seen a root name more area) ∙ areas name more area ∙ sym (ap (option_map plain) (area_seen e root name more area))
  entry_same name more false off =
      let other = elsewhere-below root (name ∷ more) ∙ ap not off in
      ap (option_map plain) (entry-elsewhere a root (below root (name ∷ more)) other ∙ sym (entry-elsewhere e root (below root (name ∷ more)) other))

  parts_same : (parts : List (List ℕ)) → lies_below root (below root parts) ≡ true → option_map plain (get (areas_of a root) (below root parts)) ≡ option_map plain (get (areas_of e root) (below root parts))
  parts_same [] low = absurd (not_low root low)
  parts_same (name ∷ more) low =
      ap (option_map plain) (got (areas_of a root) root name more) ∙ entry_same name more (is_area name) refl ∙ sym (ap (option_map plain) (got (areas_of e root) root name more))

  all_same : (q : PathValue) → lies_below root q ≡ true → option_map plain (get (areas_of a root) q) ≡ option_map plain (get (areas_of e root) q)
  all_same q low =
      let parts = (from_root root q).parts in
      let is : q ≡ below root parts = back_below root q low in
      ap (λ p. option_map plain (get (areas_of a root) p)) is ∙ parts_same parts (sym (ap (lies_below root) is) ∙ low) ∙ sym (ap (λ p. option_map plain (get (areas_of e root) p)) is)

  walked_same : walk_of (areas_of a root) root ≡ walk_of (areas_of e root) root
  walked_same = walk-same root (areas_of a root) (areas_of e root) all_same (ap (root_flaw root) (entry-root a root ∙ ap sound rooted ∙ sym (entry-root e root)))

  pub lists-same : areas_listed a root ≡ areas_listed e root
  unfolding areas_listed
  lists-same =
      ap (λ r. given r (λ entries. Ok (listed_below a root entries))) walked_same
      ∙ ap (λ o. given (walk_of (areas_of e root) root) (λ entries. Ok (cons_option (label_listed (label_path root) o) (map (listed_as root) entries)))) label

-- ---- what is brought back

module _ (custom : Option Extension) (root : PathValue) (s : Start) (listed : List Listed) (c d : Contents) (begun : WasBegun custom root s listed c d)
    (x b : Contents) (stopped : IsStoppedIn custom root s d x) (restored : IsRestored root listed x b) where
  abbrev e : Contents
  e = without_own c root

  abbrev a : Contents
  a = without_own b root

  kind_back : (parts : List (List ℕ)) → option_map plain (entry_at b (below root parts)) ≡ option_map plain (entry_at d (below root parts))
  kind_back parts = ⊎_elim
      (λ same. ap (option_map plain) same)
      (λ (is : IsResized root parts d x b).
      ap (option_map plain) is.has ∙ ap (λ n. Some (FileEntry (replicate n 0))) (resized-size (length is.bytes) _) ∙ sym (ap (option_map plain) is.had))
      (is-back custom root s listed c d begun x b stopped restored parts)

  area_back : (name : List ℕ) (more : List (List ℕ)) → is_area name ≡ true → option_map plain (entry_at a (below root (name ∷ more))) ≡ option_map plain (entry_at e (below root (name ∷ more)))
  area_back name more area =
      let path = below root (name ∷ more) in
      let named = area-restored root name more area in
      ap (option_map plain) (named-seen b root path named) ∙ kind_back (name ∷ more)
      ∙ ap (option_map plain) (begun.laid.elsewhere path (not-laid_named root path named) ∙ sym (named-seen c root path named))

  root_back : entry_at a root ≡ entry_at e root
  root_back = seen-same custom root s listed c d begun b root
      (beside-back custom root s listed c d begun x b stopped restored root (ap (is_restored_at root) (root_below root) ∙ restored-below root []) ∙ begun.laid.elsewhere root (root-not_laid root))

  pub may-begin : MayBegin custom a root s listed
  may-begin = record {
    passes = starts-same custom root s listed c d begun x b stopped restored ∙ begun.may.passes;
    lists = lists-same root a e area_back root_back (reads-same custom root s listed c d begun x b stopped restored).label ∙ begun.may.lists;
    anew = begun.may.anew;
  }

-- The places of what records change are looked at.
use Rattle.std.proofs.Common.{◌≡◌, ℕ, ◌/◌, ◌==◌, Bool, true, false, ◌||◌, List, [], ◌∷◌, ◌++◌, codes, decimal, refl, sym, subst, append_assoc}
use Rattle.std.specs.Prelude.{if◌then◌else◌}
use Rattle.block_refs.specs.declared.names.Fork.{Fork}
use Rattle.block_refs.specs.declared.names.RelName.{RelName}
use Rattle.cluster_tree.specs.Apart.{is_held}
use Rattle.cluster_tree.specs.Folders.{lies_in}
use Rattle.cluster_tree.specs.PathOrder.{path_eq}
use Rattle.cluster_tree.specs.PathValue.{PathValue, below}
use Rattle.cluster_tree.proofs.HoldLemmas.{holds-held}
use Rattle.cluster_tree.proofs.OrderLemmas.{path_eq-own, same_path}
use Rattle.cluster_tree.proofs.RootLemmas.{holds-below}
use Rattle.file_edits.specs.Edits.{on_way}
use Rattle.file_edits.proofs.ClearLemmas.{held-above}
use Rattle.file_effects.specs.Own.{is_at}
use Rattle.file_effects.proofs.OwnLemmas.{at_area, file-top}
use Rattle.relation_files.specs.Paths.{database_parts, global_parts, relation_file, relation_folder}
use Rattle.relation_files.specs.Names.{name_of}
use Rattle.slru_replay.specs.Area.{file_name, folder_of, page_file}
use Rattle.slru_replay.specs.declared.area.Area.{Area}
use Rattle.slru_replay.specs.declared.area.Area.TheVariants.{Status, Offsets, Members}
use Rattle.storage_databases.specs.Databases.{database_folder, version_file}
use Rattle.storage_databases.specs.RelationMap.{map_file}
use Rattle.local_replays.specs.Seen.{Sees}
use Rattle.local_replays.proofs.EditLemmas.{or-left, or-right}

-- a path, the folders on the way to it, and what lies in it if it is a folder, are seen
pub record IsPlace (seen : PathValue → Bool) (root p : PathValue) : Type 0 where
  pub own : seen p ≡ true
  pub way : (q : PathValue) → on_way root p q ≡ true → seen q ≡ true
  pub names : (name : List ℕ) → seen (below p (name ∷ [])) ≡ true

module _ (seen : PathValue → Bool) (root : PathValue) (sees : Sees root seen) where
  -- ---- the root, and what is at or below the four folders

  abbrev in_base : PathValue → Bool
  in_base q = is_at root (codes "base") q

  abbrev in_global : PathValue → Bool
  in_global q = is_at root (codes "global") q

  abbrev in_status : PathValue → Bool
  in_status q = is_at root (codes "pg_xact") q

  abbrev in_multis : PathValue → Bool
  in_multis q = is_at root (codes "pg_multixact") q

  pub root-seen : seen root ≡ true
  root-seen = sees root (or-left (path_eq root root) (in_base root || in_global root || in_status root || in_multis root) (path_eq-own root))

  below_root : (q : PathValue) → (in_base q || in_global q || in_status q || in_multis q) ≡ true → seen q ≡ true
  below_root q is = sees q (or-right (path_eq q root) (in_base q || in_global q || in_status q || in_multis q) is)

  status_or_above : (q : PathValue) → (in_base q || in_global q || in_status q) ≡ true → seen q ≡ true
  status_or_above q is = below_root q (or-left (in_base q || in_global q || in_status q) (in_multis q) is)

  global_or_base : (q : PathValue) → (in_base q || in_global q) ≡ true → seen q ≡ true
  global_or_base q is = status_or_above q (or-left (in_base q || in_global q) (in_status q) is)

  base_seen : (q : PathValue) → in_base q ≡ true → seen q ≡ true
  base_seen q is = global_or_base q (or-left (in_base q) (in_global q) is)

  global_seen : (q : PathValue) → in_global q ≡ true → seen q ≡ true
  global_seen q is = global_or_base q (or-right (in_base q) (in_global q) is)

  status_seen : (q : PathValue) → in_status q ≡ true → seen q ≡ true
  status_seen q is = status_or_above q (or-right (in_base q || in_global q) (in_status q) is)

  multis_seen : (q : PathValue) → in_multis q ≡ true → seen q ≡ true
  multis_seen q is = below_root q (or-right (in_base q || in_global q || in_status q) (in_multis q) is)

  -- ---- a folder there, and a file in one

  module _ (top : List ℕ) (inside : (q : PathValue) → is_at root top q ≡ true → seen q ≡ true) where
    held_top : (more : List (List ℕ)) → is_at root top (below root (top ∷ more)) ≡ true
    held_top more =
        subst (λ p. is_at root top p ≡ true) (same_path (below (below root (top ∷ [])) more) (below root (top ∷ more)) refl (append_assoc root.parts (top ∷ []) more))
        (holds-held (below root (top ∷ [])) (below (below root (top ∷ [])) more) (holds-below (below root (top ∷ [])) more))

    folder_place : (more : List (List ℕ)) → IsPlace seen root (below root (top ∷ more))
    folder_place more = record {
      own = inside (below root (top ∷ more)) (held_top more);
      way = λ q is. inside q (at_area root top more q (or-left (on_way root (below root (top ∷ more)) q) (lies_in (below root (top ∷ more)) q) is));
      names = λ name. inside (below (below root (top ∷ more)) (name ∷ [])) (holds-held (below root (top ∷ [])) (below (below root (top ∷ more)) (name ∷ [])) (file-top root top name more));
    }

    file_place : (more : List (List ℕ)) (name : List ℕ) → IsPlace seen root (below (below root (top ∷ more)) (name ∷ []))
    file_place more name =
        subst (IsPlace seen root) (same_path (below root (top ∷ (more ++ name ∷ []))) (below (below root (top ∷ more)) (name ∷ [])) refl (sym (append_assoc root.parts (top ∷ more) (name ∷ []))))
        (folder_place (more ++ name ∷ []))

  -- ---- status and multixacts

  pub area-place : (area : Area) → IsPlace seen root (folder_of root area)
  area-place Status = folder_place (codes "pg_xact") status_seen []
  area-place Offsets = folder_place (codes "pg_multixact") multis_seen (codes "offsets" ∷ [])
  area-place Members = folder_place (codes "pg_multixact") multis_seen (codes "members" ∷ [])

  in_area : (area : Area) (name : List ℕ) → IsPlace seen root (below (folder_of root area) (name ∷ []))
  in_area Status name = file_place (codes "pg_xact") status_seen [] name
  in_area Offsets name = file_place (codes "pg_multixact") multis_seen (codes "offsets" ∷ []) name
  in_area Members name = file_place (codes "pg_multixact") multis_seen (codes "members" ∷ []) name

  pub page-place : (area : Area) (page : ℕ) → IsPlace seen root (page_file root area page)
  page-place area page = in_area area (file_name (page / 32))

  -- ---- relations, databases and maps

  by_space : (t : Bool) (database : ℕ) → IsPlace seen root (below root (if t then global_parts else database_parts database))
  by_space true database = folder_place (codes "global") global_seen []
  by_space false database = folder_place (codes "base") base_seen (decimal database ∷ [])

  in_space : (t : Bool) (database : ℕ) (name : List ℕ) → IsPlace seen root (below (below root (if t then global_parts else database_parts database)) (name ∷ []))
  in_space true database name = file_place (codes "global") global_seen [] name
  in_space false database name = file_place (codes "base") base_seen (decimal database ∷ []) name

  pub relation-place : (rel : RelName) → IsPlace seen root (relation_folder root rel)
  relation-place rel = by_space (rel.space == 1664) rel.database

  pub file-place : (rel : RelName) (fork : Fork) (segment : ℕ) → IsPlace seen root (relation_file root rel fork segment)
  file-place rel fork segment = in_space (rel.space == 1664) rel.database (name_of rel.relation fork segment)

  pub version-place : (database : ℕ) → IsPlace seen root (version_file root database)
  version-place database = file_place (codes "base") base_seen (decimal database ∷ []) (codes "PG_VERSION")

  pub map-place : (database : ℕ) → IsPlace seen root (map_file root database)
  map-place database = in_space (database == 0) database (codes "pg_filenode.map")

  pub database-seen : (database : ℕ) (q : PathValue) → is_held (database_folder root database) q ≡ true → seen q ≡ true
  database-seen database q held =
      let same : database_folder root database ≡ below (below root (codes "base" ∷ [])) (decimal database ∷ []) = sym (same_path _ _ refl (append_assoc root.parts (codes "base" ∷ []) (decimal database ∷ []))) in
      base_seen q (held-above (below root (codes "base" ∷ [])) (decimal database) q (subst (λ f. is_held f q ≡ true) same held))

-- Files in a folder that lies below a root.
use Rattle.std.proofs.Common.{◌≡◌, ℕ, ◌+◌, ◌<◌, ◌≤◌, ◌==◌, true, false, cond, nat_lt, List, [], ◌∷◌, ◌++◌, length, codes, Ok, Err, refl, ap, sym, subst, ◌∙◌, append_assoc, arith}
use Rattle.std.proofs.lemmas.Bool.Decides.{nat_tests}
use Rattle.std.proofs.lemmas.List.{length-append}
use Rattle.cluster_tree.specs.PathValue.{PathValue, Holds, below, kept_parts}
use Rattle.cluster_tree.specs.Paths.{checked}
use Rattle.cluster_tree.specs.declared.path_fault.PathFault.TheVariants.{TooDeep}
use Rattle.cluster_tree.proofs.OrderLemmas.{same_path}
use Rattle.cluster_tree.proofs.RootLemmas.{holds-below}
use Rattle.relation_files.specs.Paths.{database_parts, global_parts}
use Rattle.storage_databases.specs.RelationMap.{map_parts}

not_deep : (have n : ℕ) → have + n ≤ 64 → nat_lt 64 (have + n) ≡ false
not_deep have n h = grind (arith, nat_tests)

pub global_admitted : (have : ℕ) → have ≤ 61 → checked have (codes "global") ≡ Ok tt
global_admitted have h = ap (λ b. cond b (Err TooDeep) (Ok tt)) (not_deep have 1 (omega arith))

version_admitted : (have : ℕ) → have ≤ 63 → checked have (codes "PG_VERSION") ≡ Ok tt
version_admitted have h = ap (λ b. cond b (Err TooDeep) (Ok tt)) (not_deep have 1 (omega arith))

map_admitted : (have : ℕ) → have ≤ 63 → checked have (codes "pg_filenode.map") ≡ Ok tt
map_admitted have h = ap (λ b. cond b (Err TooDeep) (Ok tt)) (not_deep have 1 (omega arith))

folder_room : (root folder : PathValue) (parts : List (List ℕ)) → length root.parts ≤ 61 → length parts ≤ 2 → folder ≡ below root parts → length folder.parts ≤ 63
folder_room root folder parts room few is = omega (arith, room, few, ap (λ (p : PathValue). length p.parts) is, length-append root.parts parts)

pub version-room : (root folder : PathValue) (database : ℕ) → length root.parts ≤ 61 → folder ≡ below root (database_parts database) → checked (length folder.parts) (codes "PG_VERSION") ≡ Ok tt
version-room root folder database room is = version_admitted (length folder.parts) (folder_room root folder (database_parts database) room (omega arith) is)

two_parts : (database : ℕ) → (length (map_parts database) ≤ 2) × (0 < length (map_parts database))
two_parts database = elim (database == 0) as (λ b. (length (cond b global_parts (database_parts database)) ≤ 2) × (0 < length (cond b global_parts (database_parts database)))) [ true ↦ (omega arith, omega arith) | false ↦ (omega arith, omega arith) ]

pub map-room : (root folder : PathValue) (database : ℕ) → length root.parts ≤ 61 → folder ≡ below root (map_parts database) → checked (length folder.parts) (codes "pg_filenode.map") ≡ Ok tt
map-room root folder database room is = map_admitted (length folder.parts) (folder_room root folder (map_parts database) room (two_parts database).0 is)

-- a file in such a folder

pub record InFolder (root folder path : PathValue) (parts : List (List ℕ)) (name : List ℕ) : Type 0 where
  pub value : path ≡ below (below root parts) (name ∷ [])
  pub held : Holds root path
  pub deeper : length root.parts < length path.parts

in_folder : (root folder path : PathValue) (parts : List (List ℕ)) (name : List ℕ) → 0 < length parts → folder ≡ below root parts → path ≡ below folder (name ∷ []) → InFolder root folder path parts name
in_folder root folder path parts name some is made =
    let value : path ≡ below (below root parts) (name ∷ []) = made ∙ ap (λ f. below f (name ∷ [])) is in
    let whole : path ≡ below root (parts ++ name ∷ []) = value ∙ same_path _ _ refl (append_assoc root.parts parts (name ∷ [])) in
    record {
      value = value;
      held = subst (Holds root) (sym whole) (holds-below root (parts ++ name ∷ []));
      deeper = omega (arith, some, ap (λ (p : PathValue). length p.parts) value, length-append (root.parts ++ parts) (name ∷ []), length-append root.parts parts);
    }

pub version-in : (root folder path : PathValue) (database : ℕ) → folder ≡ below root (database_parts database) → path ≡ below folder (kept_parts (codes "PG_VERSION")) → InFolder root folder path (database_parts database) (codes "PG_VERSION")
version-in root folder path database is made = in_folder root folder path (database_parts database) (codes "PG_VERSION") (omega arith) is made

pub map-in : (root folder path : PathValue) (database : ℕ) → folder ≡ below root (map_parts database) → path ≡ below folder (kept_parts (codes "pg_filenode.map")) → InFolder root folder path (map_parts database) (codes "pg_filenode.map")
map-in root folder path database is made = in_folder root folder path (map_parts database) (codes "pg_filenode.map") (two_parts database).1 is made

-- Which paths, from a cluster's root on, a rewind doesn't copy: PostgreSQL 16, src/bin/pg_rewind/filemap.c, excludeDirContents and
-- excludeFiles. Own: "What lies below an excluded path".
use Rattle.std.specs.Prelude.{ℕ, Bool, false, ◌||◌, List, [], ◌∷◌, codes, bytes_eq, nat_eq}
use Rattle.std.specs.List.{list_any, starts_with}
use Rattle.cluster_tree.specs.PathValue.{PathValue}

-- the folders at the root whose contents belong to a running server alone
abbrev pub emptied_folders : List (List ℕ)
emptied_folders =
    codes "pg_stat_tmp" ∷ codes "pg_replslot" ∷ codes "pg_dynshmem" ∷ codes "pg_notify" ∷ codes "pg_serial"
    ∷ codes "pg_snapshots" ∷ codes "pg_subtrans" ∷ []

-- files that are a cluster's own, wherever they lie
abbrev pub own_files : List (List ℕ)
own_files =
    codes "postgresql.auto.conf.tmp" ∷ codes "current_logfiles.tmp" ∷ codes "backup_label" ∷ codes "tablespace_map"
    ∷ codes "backup_manifest" ∷ codes "postmaster.pid" ∷ codes "postmaster.opts" ∷ []

-- and those whose names only begin so, since a server's number may stand behind
abbrev pub cache_name : List ℕ
cache_name = codes "pg_internal.init"

abbrev pub is_emptied : List ℕ → Bool
is_emptied name = list_any (bytes_eq name) emptied_folders

abbrev pub is_own_file : List ℕ → Bool
is_own_file name = list_any (bytes_eq name) own_files

abbrev pub is_own_name : List ℕ → Bool
is_own_name name = is_own_file name || starts_with nat_eq name cache_name

-- whether a path lies inside one of these folders; the folder itself doesn't
abbrev pub is_inside : List (List ℕ) → Bool
is_inside [] = false
is_inside (first ∷ []) = false
is_inside (first ∷ second ∷ parts) = is_emptied first

-- it lies inside such a folder, or it or a folder on the way to it has such a name
unfoldable pub is_excluded : PathValue → Bool
is_excluded path = is_inside path.parts || list_any is_own_name path.parts

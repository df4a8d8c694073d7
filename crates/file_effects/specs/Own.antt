-- The part of a cluster that replay changes: PostgreSQL 16, the manual's section "Database File Layout".
use Rattle.std.specs.Prelude.{ℕ, Bool, not, ◌||◌, ◌&&◌, List, [], ◌∷◌, codes, bytes_eq}
use Rattle.cluster_tree.specs.Apart.{is_held}
use Rattle.cluster_tree.specs.PathOrder.{path_eq}
use Rattle.cluster_tree.specs.PathValue.{PathValue, below}

-- a path at or below an entry of the cluster's root
abbrev pub is_at : PathValue → (name : List ℕ) → PathValue → Bool
is_at root name path = is_held (below root (name ∷ [])) path

-- the control file, which a replay writes at its end alone
abbrev pub control_file_of : PathValue → PathValue
control_file_of root = below root (codes "global" ∷ codes "pg_control" ∷ [])

-- relations and their maps lie in base and global, status and multixacts in pg_xact and pg_multixact
abbrev pub is_replayed : PathValue → PathValue → Bool
is_replayed root path =
    not (path_eq path (control_file_of root))
    && (is_at root (codes "base") path || is_at root (codes "global") path || is_at root (codes "pg_xact") path || is_at root (codes "pg_multixact") path)

-- the names of the entries of the root of which no path is replayed
abbrev pub is_apart : (name : List ℕ) → Bool
is_apart name = not (bytes_eq name (codes "base") || bytes_eq name (codes "global") || bytes_eq name (codes "pg_xact") || bytes_eq name (codes "pg_multixact"))

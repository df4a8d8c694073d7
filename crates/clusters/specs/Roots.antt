-- Paths below the roots of clusters: PostgreSQL 16 manual, section "Database File Layout"; src/include/access/xlog_internal.h, TLHistoryFilePath.
use Rattle.std.specs.Prelude.{ℕ, List, [], ◌∷◌, ◌++◌, codes}
use Rattle.cluster_tree.specs.PathValue.{PathValue, below, kept_parts}
use Rattle.wal_base.specs.Hex.{hex8}

-- the path of this text below a root
unfoldable pub path_in : PathValue → List ℕ → PathValue
path_in root text = below root (kept_parts text)

-- the folder of a root's log
abbrev pub wal_folder : PathValue → PathValue
wal_folder root = below root (codes "pg_wal" ∷ [])

-- the name of the history of a timeline
unfoldable pub history_name : ℕ → List ℕ
history_name tli = hex8 tli ++ codes ".history"

-- its path
abbrev pub history_path : PathValue → ℕ → PathValue
history_path root tli = below (wal_folder root) (history_name tli ∷ [])

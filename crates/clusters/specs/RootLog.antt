-- Where the log of a cluster lies: PostgreSQL 16 manual, section "Database File Layout".
use Rattle.std.specs.Prelude.{ℕ, List, Option}
use Rattle.cluster_tree.specs.PathValue.{PathValue}
use Rattle.wal_base.specs.declared.seg_size.SegSize.{SegSize}
use Rattle.wal_base.specs.declared.spans.Span.{Span}
use Rattle.wal_pages.specs.declared.log_path.LogPath.{LogPath}
use Rattle.clusters.specs.Roots.{wal_folder}

-- in pg_wal below the root, with these timelines and segments of this size, written by this system, if one is wanted
abbrev pub log_at : PathValue → Option ℕ → List Span → SegSize → LogPath
log_at root system spans size = record { folder = wal_folder root; spans = spans; size = size; system = system }

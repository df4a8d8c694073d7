-- The path of a segment's file.
use Rattle.std.specs.Prelude.{◌≡◌, [], ◌∷◌}
use Rattle.cluster_tree.specs.PathValue.{below}
use Rattle.wal_base.specs.Segment.{name_of}
use Rattle.wal_pages.specs.declared.log_path.LogPath.{LogPath}
use Rattle.wal_pages.specs.declared.segment_file.SegmentFile.{SegmentFile}
use Rattle.wal_pages.specs.LogBytes.{segment_of}

-- its segment is the log's of that number, and its path that of the segment's name in the log's folder
pub record IsFileIn (log : LogPath) (file : SegmentFile) : Type 0 where
  pub segment : file.segment ≡ segment_of log file.segment.number
  pub path : file.path ≡ below log.folder (name_of file.segment ∷ [])

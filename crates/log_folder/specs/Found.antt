-- The log that pg_waldump dumps, by the order of what is looked for: PostgreSQL 16 manual, reference page of pg_waldump; src/bin/pg_waldump/pg_waldump.c,
-- main. Own: "The folder of a dump", "The bounds of a dump".
use Rattle.std.specs.Prelude.{◌≡◌, ℕ, List, [], ◌∷◌, Option, None, Some, Result, Ok, Err}
use Rattle.cluster_tree.specs.PathValue.{PathValue}
use Rattle.cluster_tree.specs.Contents.{Contents}
use Rattle.cluster_tree.specs.Causes.{given}
use Rattle.wal_base.specs.Spans.{open_span}
use Rattle.wal_base.specs.declared.seg_size.SegSize.{SegSize}
use Rattle.wal_pages.specs.declared.log_path.LogPath.{LogPath}
use Rattle.waldump_core.specs.declared.selection.Selection.{Selection}
use Rattle.commands.specs.declared.waldump.DumpWords.{DumpWords}
use Rattle.commands.specs.declared.waldump.Filters.{Filters}
use Rattle.log_folder.specs.declared.bounds.Bounds.{Bounds}
use Rattle.log_folder.specs.declared.fault.FolderFault.{FolderFault}
use Rattle.log_folder.specs.declared.fault.FolderFault.TheVariants as fault
use Rattle.log_folder.specs.declared.find.FoundLog.{FoundLog}
use Rattle.log_folder.specs.Folder.{taken_of}
use Rattle.log_folder.specs.Segment.{size_of}
use Rattle.log_folder.specs.Bounds.{lsn_at, bounds_of}

-- the segment that tells the size: STARTSEG, else the least in the folder
abbrev pub name_read : List ℕ → Option (List ℕ) → List ℕ
name_read least None = least
name_read least (Some name) = name

-- one timeline of the log in a folder
abbrev pub log_in : PathValue → SegSize → ℕ → LogPath
log_in folder size tli = record { folder = folder; spans = open_span tli (lsn_at 0) ∷ []; size = size; system = None }

-- what is shown of it
abbrev pub selection_of : Bounds → Filters → Selection
selection_of bounds filters = record {
  start = bounds.start;
  stop = bounds.stop;
  limit = filters.limit;
  details = filters.details;
  quiet = filters.quiet;
  images_only = filters.images_only;
  manager = filters.manager;
  rel = filters.rel;
  block = filters.block;
  fork = filters.fork;
  xid = filters.xid;
}

-- a log and what of it is shown
abbrev pub found_log : PathValue → SegSize → Bounds → Filters → FoundLog
found_log folder size bounds filters = record { log = log_in folder size bounds.tli; sel = selection_of bounds filters }

-- the log that the words ask for: the first point that refuses decides
unfoldable pub found_in : Contents → DumpWords → Result FoundLog FolderFault
found_in c words =
    given (taken_of c words.folder) (λ taken.
    given (size_of c taken.folder (name_read taken.least words.first)) (λ size.
    given (bounds_of size words) (λ bounds.
    Ok (found_log taken.folder size bounds words.filters))))

-- the words break a rule: where segments have some size, their bounds are refused
abbrev pub IsMisused : DumpWords → Type 0
IsMisused words = (size : SegSize) × (bounds_of size words ≡ Err fault.Usage)

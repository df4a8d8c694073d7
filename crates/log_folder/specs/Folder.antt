-- The folder that a log is read from: PostgreSQL 16, src/bin/pg_waldump/pg_waldump.c, identify_target_directory. Own: "The folder
-- of a dump".
use Rattle.std.specs.Prelude.{ℕ, List, [], ◌∷◌, codes, Option, None, Some, Result, Ok, Err}
use Rattle.cluster_tree.specs.PathValue.{PathValue, below}
use Rattle.cluster_tree.specs.Contents.{Contents, entry_at}
use Rattle.cluster_tree.specs.Folders.{list_refusal}
use Rattle.cluster_tree.specs.Causes.{given}
use Rattle.cluster_tree.specs.declared.tree.TreeFault.{TreeFault}
use Rattle.cluster_tree.specs.declared.tree.TreeFault.TheVariants as tree_fault
use Rattle.log_folder.specs.declared.fault.FolderFault.{FolderFault}
use Rattle.log_folder.specs.declared.fault.FolderFault.TheVariants as fault
use Rattle.log_folder.specs.declared.taken.Taken.{Taken}
use Rattle.log_folder.specs.Listing.{least_segment}

-- why a folder's names aren't known
abbrev pub unlisted : PathValue → TreeFault → FolderFault
unlisted folder tree_fault.Link = fault.Link folder
unlisted folder tree_fault.NameNotText = fault.NameNotText folder
unlisted folder tree_fault.Failed = fault.ReadFault
unlisted folder tree_fault.OutOfMemory = fault.OutOfMemory
unlisted folder tree_fault.Absent = fault.NotFolder folder
unlisted folder tree_fault.NotFolder = fault.NotFolder folder
unlisted folder tree_fault.IsFolder = fault.NotFolder folder
unlisted folder tree_fault.Exists = fault.NotFolder folder
unlisted folder tree_fault.NotEmpty = fault.NotFolder folder
unlisted folder tree_fault.PastEnd = fault.NotFolder folder

abbrev pub listed_or : PathValue → Option TreeFault → Option (List ℕ) → Result (Option (List ℕ)) FolderFault
listed_or folder None least = Ok least
listed_or folder (Some f) least = Err (unlisted folder f)

-- the least segment in a folder, where its names are known
unfoldable pub least_in : Contents → PathValue → Result (Option (List ℕ)) FolderFault
least_in c folder = listed_or folder (list_refusal (entry_at c folder)) (least_segment c folder)

abbrev pub taken_at : PathValue → List ℕ → Taken
taken_at folder least = record { folder = folder; least = least }

-- its subfolder pg_wal
abbrev pub wal_in : PathValue → PathValue
wal_in folder = below folder (codes "pg_wal" ∷ [])

-- pg_wal is taken where it has a segment; where nothing, a file or a link stands there, it has none
abbrev pub or_no_wal : PathValue → PathValue → Result (Option (List ℕ)) FolderFault → Result Taken FolderFault
or_no_wal folder wal (Ok (Some least)) = Ok (taken_at wal least)
or_no_wal folder wal (Ok None) = Err (fault.NoWal folder)
or_no_wal folder wal (Err (fault.NotFolder path)) = Err (fault.NoWal folder)
or_no_wal folder wal (Err (fault.Link path)) = Err (fault.NoWal folder)
or_no_wal folder wal (Err e) = Err e

-- pg_wal in a folder that has no segment
unfoldable pub wal_taken : Contents → PathValue → Result Taken FolderFault
wal_taken c folder = or_no_wal folder (wal_in folder) (least_in c (wal_in folder))

-- a folder is taken where it has a segment, else pg_wal in it
abbrev pub or_wal : Contents → PathValue → Option (List ℕ) → Result Taken FolderFault
or_wal c folder (Some least) = Ok (taken_at folder least)
or_wal c folder None = wal_taken c folder

-- the folder that is taken of this one, and the least segment in it
unfoldable pub taken_of : Contents → PathValue → Result Taken FolderFault
taken_of c folder = given (least_in c folder) (or_wal c folder)

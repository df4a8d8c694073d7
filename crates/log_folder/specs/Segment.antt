-- The size of a log's segments, in the long header of a segment's first page: PostgreSQL 16, src/include/access/xlog_internal.h,
-- XLogLongPageHeaderData; src/bin/pg_waldump/pg_waldump.c, search_directory.
use Rattle.std.specs.Prelude.{ℕ, ◌==◌, if◌then◌else◌, List, Option, None, Some, Result, Ok, Err}
use Rattle.layout.specs.Readers.{u16_at, u32_at}
use Rattle.cluster_tree.specs.PathValue.{PathValue}
use Rattle.cluster_tree.specs.Contents.{Contents, entry_at}
use Rattle.cluster_tree.specs.Tree.{file_of, range_of}
use Rattle.cluster_tree.specs.declared.tree.TreeFault.{TreeFault}
use Rattle.cluster_tree.specs.declared.tree.TreeFault.TheVariants as tree_fault
use Rattle.wal_base.specs.SizeOfBytes.{size_of_bytes}
use Rattle.wal_base.specs.declared.seg_size.SegSize.{SegSize}
use Rattle.log_folder.specs.declared.fault.FolderFault.{FolderFault}
use Rattle.log_folder.specs.declared.fault.FolderFault.TheVariants as fault
use Rattle.log_folder.specs.Listing.{segment_path}

-- the size in the first 40 bytes of a segment, where they begin with the magic (xlp_magic, xlp_seg_size)
unfoldable pub size_in : List ℕ → Option SegSize
size_in head = if u16_at 0 head == 0xD113 then size_of_bytes (u32_at 32 head) else None

abbrev pub or_bad : PathValue → Option SegSize → Result SegSize FolderFault
or_bad file None = Err (fault.BadSegment file)
or_bad file (Some size) = Ok size

-- the size by what the first 40 bytes of a file in a folder were read as: where there is no file, the folder lacks it
abbrev pub size_read : PathValue → PathValue → Result (List ℕ) TreeFault → Result SegSize FolderFault
size_read folder file (Ok head) = or_bad file (size_in head)
size_read folder file (Err tree_fault.PastEnd) = Err (fault.BadSegment file)
size_read folder file (Err tree_fault.Failed) = Err fault.ReadFault
size_read folder file (Err tree_fault.Absent) = Err (fault.NoWal folder)
size_read folder file (Err tree_fault.IsFolder) = Err (fault.NoWal folder)
size_read folder file (Err tree_fault.NotFolder) = Err (fault.NoWal folder)
size_read folder file (Err tree_fault.Link) = Err (fault.NoWal folder)
size_read folder file (Err tree_fault.NameNotText) = Err (fault.NoWal folder)
size_read folder file (Err tree_fault.Exists) = Err (fault.NoWal folder)
size_read folder file (Err tree_fault.NotEmpty) = Err (fault.NoWal folder)
size_read folder file (Err tree_fault.OutOfMemory) = Err fault.OutOfMemory

-- the first 40 bytes of a file
abbrev pub head_at : Contents → PathValue → Result (List ℕ) TreeFault
head_at c file = range_of (file_of (entry_at c file)) 0 40

abbrev pub size_at : Contents → PathValue → Option PathValue → Result SegSize FolderFault
size_at c folder None = Err (fault.NoWal folder)
size_at c folder (Some file) = size_read folder file (head_at c file)

-- the size that the segment of a name in a folder tells
unfoldable pub size_of : Contents → PathValue → List ℕ → Result SegSize FolderFault
size_of c folder name = size_at c folder (segment_path folder name)

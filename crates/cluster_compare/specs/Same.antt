-- When two clusters are the same after a replay, path by path: equal kinds, equal bytes, and of the files of main forks equal masked blocks.
-- Own: "What a comparison of clusters shows".
use Rattle.std.specs.Prelude.{◌≡◌, ℕ, ◌+◌, ◌*◌, ◌/◌, ◌==◌, Bool, true, false, ◌&&◌, ◌||◌, List, length, map, bytes_eq, Option, None, Some, option_map, if◌then◌else◌}
use Rattle.std.specs.List.{range_with_len}
use Rattle.cluster_tree.specs.Causes.{first_of}
use Rattle.cluster_tree.specs.Contents.{Contents, Entry, FolderEntry, FileEntry, LinkEntry, entry_at, is_file}
use Rattle.cluster_tree.specs.PathValue.{PathValue, below, path_of}
use Rattle.block_refs.specs.declared.names.Fork.TheVariants.{Init}
use Rattle.block_refs.specs.declared.names.RelName.{RelName}
use Rattle.relation_files.specs.Paths.{relation_file}
use Rattle.page_masks.specs.Mask.{mask}
use Rattle.file_walk.specs.Actions.{is_version}
use Rattle.file_walk.specs.Relations.{relation_of}
use Rattle.rewound_tree.specs.Laws.{block_of}
use Rattle.rewound_tree.specs.Mixed.{capped}

-- the number in its fork of a block of a segment; one past all numbers counts as the last
abbrev pub fork_block : (per_file segment block : ℕ) → ℕ
fork_block per_file segment block = capped (segment * per_file + block)

-- whether a block of two files is one under the mask, as the block of this number
abbrev pub is_same_block : (number block : ℕ) → (first second : List ℕ) → Bool
is_same_block number block first second = bytes_eq (mask number (block_of block first)) (mask number (block_of block second))

-- the number of a block of a segment that isn't one in both files
abbrev pub block_difference : (per_file segment : ℕ) → (first second : List ℕ) → ℕ → Option ℕ
block_difference per_file segment first second block =
    if is_same_block (fork_block per_file segment block) block first second then None else Some (fork_block per_file segment block)

-- the least of these, over files of one size
abbrev pub first_block : (per_file segment : ℕ) → (first second : List ℕ) → Option ℕ
first_block per_file segment first second =
    first_of (map (block_difference per_file segment first second) (range_with_len 0 (length first / 8192)))

-- How two files differ, if they do: in a block of that number, or else as a whole.
abbrev pub files_differ : (per_file : ℕ) → Option (RelName × ℕ) → (first second : List ℕ) → Option (Option ℕ)
files_differ per_file None first second = if bytes_eq first second then None else Some None
files_differ per_file (Some at) first second =
    if length first == length second then option_map Some (first_block per_file at.1 first second) else Some None

-- how what stands at a path in either cluster differs, where it is a main fork's file by its path, or isn't
abbrev pub entries_differ : (per_file : ℕ) → Option (RelName × ℕ) → (first second : Option Entry) → Option (Option ℕ)
entries_differ per_file relation None None = None
entries_differ per_file relation (Some (FileEntry first)) (Some (FileEntry second)) = files_differ per_file relation first second
entries_differ per_file relation (Some (FolderEntry bad)) (Some (FolderEntry worse)) = None
entries_differ per_file relation (Some LinkEntry) (Some LinkEntry) = None
entries_differ per_file relation _ _ = Some None

-- a relation that isn't logged: the first file of its init fork stands below a root
abbrev pub has_init : Contents → PathValue → RelName → Bool
has_init c root rel = is_file (entry_at c (relation_file root rel Init 0))

abbrev pub is_unlogged : (RelName → Bool) → Option (RelName × ℕ) → Bool
is_unlogged unlogged None = false
is_unlogged unlogged (Some at) = unlogged at.0

-- no folder, and no link
abbrev pub is_plain : Option Entry → Bool
is_plain None = true
is_plain (Some (FolderEntry bad)) = false
is_plain (Some (FileEntry bytes)) = true
is_plain (Some LinkEntry) = false

-- files that tell the version, and those of main forks of relations that aren't logged, are left out
abbrev pub is_left_out : (unlogged : RelName → Bool) → PathValue → (first second : Option Entry) → Bool
is_left_out unlogged path first second = (is_version path || is_unlogged unlogged (relation_of path)) && (is_plain first && is_plain second)

-- how what stands at a path from the roots on differs, if it does
abbrev pub differ_at : (unlogged : RelName → Bool) → (per_file : ℕ) → PathValue → (first second : Option Entry) → Option (Option ℕ)
differ_at unlogged per_file path first second =
    if is_left_out unlogged path first second then None else entries_differ per_file (relation_of path) first second

-- a relation that isn't logged in one of two clusters
abbrev pub unlogged_in : Contents → PathValue → Contents → PathValue → RelName → Bool
unlogged_in c first d second rel = has_init c first rel || has_init d second rel

-- two clusters are the same, where files have at most so many blocks: nowhere does what stands in both differ
abbrev pub IsSameCluster : (per_file : ℕ) → Contents → PathValue → Contents → PathValue → Type 0
IsSameCluster per_file c first d second = (parts : List (List ℕ)) →
    differ_at (unlogged_in c first d second) per_file (path_of false parts) (entry_at c (below first parts)) (entry_at d (below second parts)) ≡ None

-- The bytes of a cluster's files that the pages of its blocks don't tell: PostgreSQL 16, src/backend/storage/smgr/md.c, mdextend and
-- mdtruncate; src/backend/commands/dbcommands.c, CreateDirAndVersionFile. Own: "A replay that is begun again".
use Rattle.std.specs.Prelude.{◌≡◌, ℕ, ◌%◌, true, false, List, length, Some}
use Rattle.block_refs.specs.declared.names.RelName.{RelName}
use Rattle.cluster_tree.specs.Contents.{Contents, entry_at}
use Rattle.cluster_tree.specs.PathValue.{PathValue, below, path_of}
use Rattle.cluster_tree.specs.Tree.{bytes_at}
use Rattle.file_walk.specs.Actions.{is_version}
use Rattle.file_walk.specs.Relations.{relation_of}

-- each file of a main fork below the root has whole blocks alone
abbrev pub HasWholeBlocks : Contents → PathValue → Type 0
HasWholeBlocks c root = (parts : List (List ℕ)) (at : RelName × ℕ) → relation_of (path_of false parts) ≡ Some at → length (bytes_at c (below root parts)) % 8192 ≡ 0

-- each file that tells a version has the same bytes below both roots
abbrev pub HaveSameVersions : Contents → PathValue → Contents → PathValue → Type 0
HaveSameVersions c root d other = (parts : List (List ℕ)) → is_version (path_of false parts) ≡ true → bytes_at c (below root parts) ≡ bytes_at d (below other parts)

-- the same stands at each path below both roots, of a file the same bytes
abbrev pub HaveSameFiles : Contents → PathValue → Contents → PathValue → Type 0
HaveSameFiles c root d other = (parts : List (List ℕ)) → entry_at c (below root parts) ≡ entry_at d (below other parts)

-- Which names have one file, and which files are there. Own: "Tablespaces in replay", "States of blocks".
use Rattle.std.specs.Prelude.{◌≡◌, ◌≢◌, ◌↔◌, ◌⊎◌, ℕ, ◌<◌, ◌^◌, true, None, Ok}
use Rattle.block_refs.specs.declared.names.BlockName.{BlockName}
use Rattle.block_refs.specs.declared.names.Fork.{Fork}
use Rattle.block_refs.specs.declared.names.RelName.{RelName}
use Rattle.cluster_tree.specs.PathValue.{PathValue}
use Rattle.cluster_tree.specs.Contents.{Contents, IsTree, entry_at, is_file}
use Rattle.relation_files.specs.Paths.{relation_file}
use Rattle.storage_replay.specs.Changes.{created, relation_dropped}
use Rattle.storage_replay.specs.Lengths.{fork_length}
use Rattle.storage_laws.specs.Names.{IsRel, in_fork, same_block}

-- the files of two segments are one just where the forks are one and the segments too
abbrev pub OneFile : Type 0
OneFile = (root : PathValue) (rel : RelName) (fork : Fork) (other : BlockName) (segment to : ℕ)
    → IsRel rel → IsRel other.rel → segment < 2 ^ 32 → to < 2 ^ 32
    → (relation_file root rel fork segment ≡ relation_file root other.rel other.fork to) ↔ ((in_fork rel fork other ≡ true) × (segment ≡ to))

-- a relation as servers name it: a shared one of pg_global (1664) with database 0, or one of pg_default (1663) with another
abbrev pub IsProper : RelName → Type 0
IsProper rel = ((rel.space ≡ 1664) × (rel.database ≡ 0)) ⊎ ((rel.space ≡ 1663) × (rel.database ≢ 0))

-- of such relations two names of one block are the same
abbrev pub OneBlock : Type 0
OneBlock = (name other : BlockName) → IsProper name.rel → IsProper other.rel → same_block name other ≡ true → name ≡ other

-- a fork that is made has its first file
abbrev pub CreatedFile : Type 0
CreatedFile = (root : PathValue) (rel : RelName) (fork : Fork) (c d : Contents)
    → created root rel fork c ≡ Ok d → is_file (entry_at d (relation_file root rel fork 0)) ≡ true

-- a relation that is dropped has no file, and so no fork of it a length
abbrev pub DroppedFiles : Type 0
DroppedFiles = (root : PathValue) (rel : RelName) (fork : Fork) (segment : ℕ) (c d : Contents)
    → IsRel rel → segment < 2 ^ 32 → IsTree c → relation_dropped root rel c ≡ Ok d → entry_at d (relation_file root rel fork segment) ≡ None

abbrev pub DroppedLength : Type 0
DroppedLength = (root : PathValue) (per_file : ℕ) (rel : RelName) (fork : Fork) (c d : Contents)
    → IsRel rel → IsTree c → relation_dropped root rel c ≡ Ok d → fork_length root per_file rel fork d ≡ Ok None

-- Forks that are cut: PostgreSQL 16, src/backend/storage/smgr/md.c, mdtruncate; src/backend/catalog/storage.c, smgr_redo.
-- Own: "Cutting forks".
use Rattle.std.specs.Prelude.{ℕ, ◌*◌, ◌/◌, ◌%◌, ◌==◌, Bool, false, ◌&&◌, nat_lt, List, [], ◌∷◌, Option, None, Some, Result, Ok, if◌then◌else◌}
use Rattle.block_refs.specs.declared.names.Fork.{Fork}
use Rattle.block_refs.specs.declared.names.RelName.{RelName}
use Rattle.block_refs.specs.Names.{fork_number}
use Rattle.cluster_tree.specs.PathValue.{PathValue, below}
use Rattle.cluster_tree.specs.Contents.{Contents, entry_at}
use Rattle.cluster_tree.specs.Causes.{given}
use Rattle.cluster_tree.specs.declared.file_fault.FileFault.{FileFault}
use Rattle.file_edits.specs.Asking.{names_asked}
use Rattle.file_edits.specs.Clearing.{in_turn}
use Rattle.file_edits.specs.Edits.{file_cut, file_removed}
use Rattle.relation_files.specs.Paths.{relation_file, relation_folder}
use Rattle.relation_files.specs.Reading.{file_named}
use Rattle.relation_files.specs.declared.file_name.FileName.{FileName}
use Rattle.storage_replay.specs.Lengths.{fork_length}
use Rattle.storage_replay.specs.declared.sweep.Sweep.{Sweep}
use Rattle.storage_replay.specs.declared.sweep.Sweep.TheVariants.{Remove, Empty}

abbrev pub same_fork : Fork → Fork → Bool
same_fork a b = fork_number a == fork_number b

-- a file of the relation of a number: all of them go, or those of a fork behind a segment become empty
abbrev pub file_swept : Sweep → (relation : ℕ) → FileName → Bool
file_swept Remove relation file = file.relation == relation
file_swept (Empty fork segment) relation file = file.relation == relation && same_fork file.fork fork && nat_lt segment file.segment

abbrev pub name_swept : Sweep → (relation : ℕ) → Option FileName → Bool
name_swept sweep relation None = false
name_swept sweep relation (Some file) = file_swept sweep relation file

abbrev pub swept : Sweep → PathValue → Contents → Result Contents FileFault
swept Remove path c = file_removed path c
swept (Empty fork segment) path c = file_cut path 0 c

unfoldable pub entry_swept : Sweep → (relation : ℕ) → PathValue → (name : List ℕ) → Contents → Result Contents FileFault
entry_swept sweep relation folder name c = if name_swept sweep relation (file_named name) then swept sweep (below folder (name ∷ [])) c else Ok c

-- the files of a relation's folder, in the order of their names, so that a file behind a gap goes too
unfoldable pub files_swept : PathValue → Sweep → RelName → Contents → Result Contents FileFault
files_swept root sweep rel c =
    given (names_asked c (relation_folder root rel) (entry_at c (relation_folder root rel)))
    (λ names. in_turn (entry_swept sweep rel.relation (relation_folder root rel)) names c)

abbrev pub is_longer : ℕ → Option ℕ → Bool
is_longer blocks None = false
is_longer blocks (Some there) = nat_lt blocks there

-- the file of the first block that goes is cut, and those behind it become empty
unfoldable pub files_cut : PathValue → (per_file : ℕ) → RelName → Fork → (blocks : ℕ) → Contents → Result Contents FileFault
files_cut root per_file rel fork blocks c =
    given (file_cut (relation_file root rel fork (blocks / per_file)) (blocks % per_file * 8192) c) (files_swept root (Empty fork (blocks / per_file)) rel)

-- a fork that has more blocks is cut
unfoldable pub fork_cut : PathValue → (per_file : ℕ) → RelName → Fork → (blocks : ℕ) → Contents → Result Contents FileFault
fork_cut root per_file rel fork blocks c =
    given (fork_length root per_file rel fork c) (λ there. if is_longer blocks there then files_cut root per_file rel fork blocks c else Ok c)

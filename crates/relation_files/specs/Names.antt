-- The names of the files of relations: PostgreSQL 16, src/common/relpath.c, GetRelationPath and forkNames;
-- src/backend/storage/smgr/md.c, _mdfd_segpath.
use Rattle.std.specs.Prelude.{ℕ, ◌==◌, List, [], ◌∷◌, ◌++◌, codes, decimal, if◌then◌else◌}
use Rattle.block_refs.specs.declared.names.Fork.{Fork}
use Rattle.block_refs.specs.declared.names.Fork.TheVariants.{Main, FreeSpace, Visibility, Init}
use Rattle.relation_files.specs.declared.file_name.FileName.{FileName}

-- what stands behind a relation's number, by the fork
abbrev pub fork_suffix : Fork → List ℕ
fork_suffix Main = []
fork_suffix FreeSpace = codes "_fsm"
fork_suffix Visibility = codes "_vm"
fork_suffix Init = codes "_init"

-- and behind that, by the segment: a dot (46) and its number, but for the first, whose number is 0
abbrev pub segment_suffix : ℕ → List ℕ
segment_suffix segment = if segment == 0 then [] else 46 ∷ decimal segment

-- the name of a file
abbrev pub file_name : FileName → List ℕ
file_name file = decimal file.relation ++ (fork_suffix file.fork ++ segment_suffix file.segment)

abbrev pub name_of : ℕ → Fork → ℕ → List ℕ
name_of relation fork segment = file_name (record { relation = relation; fork = fork; segment = segment })

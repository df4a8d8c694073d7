-- What reading a block answers. Own: "Lengths of forks".
use Rattle.std.specs.Prelude.{◌≡◌, ◌⊎◌, ℕ, ◌*◌, ◌/◌, ◌%◌, ◌==◌, Bool, List, Result, Ok, Err, MatchResult, if◌then◌else◌}
use Rattle.std.specs.List.{list_all}
use Rattle.block_refs.specs.declared.names.BlockName.{BlockName}
use Rattle.cluster_tree.specs.PathValue.{PathValue}
use Rattle.cluster_tree.specs.Contents.{Contents}
use Rattle.cluster_tree.specs.Causes.{given}
use Rattle.cluster_tree.specs.declared.file_fault.FileFault.{FileFault}
use Rattle.file_edits.specs.Answers.{IsFree}
use Rattle.file_edits.specs.Asking.{read_asked}
use Rattle.relation_files.specs.Paths.{relation_file}
use Rattle.storage_replay.specs.Lengths.{has_block}
use Rattle.storage_replay.specs.declared.found.Found.{Found}
use Rattle.storage_replay.specs.declared.found.Found.TheVariants as found

-- what is told of a block, and the bytes that the buffer then has
pub record Reading : Type 0 where
  pub found : Found
  pub bytes : List ℕ

abbrev pub is_zero : List ℕ → Bool
is_zero page = list_all (λ b. b == 0) page

abbrev pub found_in : List ℕ → Found
found_in page = if is_zero page then found.Zero else found.Page

abbrev pub page_read : Result (List ℕ) FileFault → Result Reading FileFault
page_read (Ok page) = Ok (record { found = found_in page; bytes = page })
page_read (Err e) = Err e

-- the block in its file
abbrev pub block_from_file : PathValue → (per_file : ℕ) → BlockName → Contents → Result Reading FileFault
block_from_file root per_file name c = page_read (read_asked c (relation_file root name.rel name.fork (name.block / per_file)) (name.block % per_file * 8192) 8192)

-- where the fork has one of that number, and else the buffer as it was
unfoldable pub block_read : PathValue → (per_file : ℕ) → BlockName → Contents → List ℕ → Result Reading FileFault
block_read root per_file name c old =
    given (has_block root per_file name.rel name.fork name.block c)
    (λ there. if there then block_from_file root per_file name c else Ok (record { found = found.Absent; bytes = old }))

-- the answer and the buffer are those that are meant, or the refusal is; else the answer is free, and the buffer open
abbrev pub ReadsBlock : Result Reading FileFault → List ℕ → Result Found FileFault → Type 0
ReadsBlock meant new result = MatchResult result (λ found. meant ≡ Ok (record { found = found; bytes = new })) (λ e. IsFree e ⊎ (meant ≡ Err e))

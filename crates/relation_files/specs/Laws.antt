-- What follows from the definitions, for callers. Own: "Names of relation files".
use Rattle.std.specs.Prelude.{◌≡◌, ◌↔◌, ◌<◌, ◌^◌, ℕ, List, Some}
use Rattle.relation_files.specs.declared.file_name.FileName.{FileName}
use Rattle.relation_files.specs.Names.{file_name}
use Rattle.relation_files.specs.Reading.{file_named}

-- a file whose numbers are below 2^32
pub record IsSmall (file : FileName) : Type 0 where
  pub relation : file.relation < 2 ^ 32
  pub segment : file.segment < 2 ^ 32

-- a name is that of a file just where it is written so
abbrev pub NamesAreFiles : Type 0
NamesAreFiles = (name : List ℕ) (file : FileName) → (file_named name ≡ Some file) ↔ (IsSmall file × (name ≡ file_name file))

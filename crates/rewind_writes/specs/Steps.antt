-- The changes of a rewind's steps: PostgreSQL 16, src/bin/pg_rewind/pg_rewind.c and file_ops.c. Own: "The plan of a rewind".
use Rattle.std.specs.Prelude.{◌≡◌, ℕ, ◌+◌, ◌<◌, ◌≤◌, ◌^◌, true, false, cond, List, [], ◌∷◌, ◌++◌, length, take, drop}
use Rattle.std.specs.List.{list_any}
use Rattle.cluster_tree.specs.PathValue.{PathValue}
use Rattle.cluster_tree.specs.Contents.{Contents, entry_at, is_file}
use Rattle.cluster_tree.specs.Tree.{bytes_at}
use Rattle.cluster_tree.specs.Change.{Change, Cuts, MakesFile, MakesFolder, Removes, is_on}
use Rattle.marked_runs.specs.Runs.{writes_at}
use Rattle.rewind_writes.specs.declared.step.Step.{Step}
use Rattle.rewind_writes.specs.declared.step.Step.TheVariants.{Folder, Whole, Cut, Range, Remove}

-- so many bytes of a file from an offset on
abbrev pub part_of : Contents → PathValue → (at size : ℕ) → List ℕ
part_of c path at size = take size (drop at (bytes_at c path))

-- a file that is there is emptied, and else made
abbrev pub opened : Contents → PathValue → Change
opened c path = cond (is_file (entry_at c path)) (Cuts path 0) (MakesFile path)

-- the changes of a step, by the contents that were found before all steps
abbrev pub changes_of : Contents → Step → List Change
changes_of c (Folder path) = MakesFolder path ∷ []
changes_of c (Whole from to size) = opened c to ∷ writes_at to 0 (part_of c from 0 size)
changes_of c (Cut path size) = Cuts path size ∷ []
changes_of c (Range from to at size) = writes_at to at (part_of c from at size)
changes_of c (Remove path) = Removes path ∷ []

-- the changes of steps, one after another
abbrev pub steps_changes : Contents → List Step → List Change
steps_changes c [] = []
steps_changes c (step ∷ steps) = changes_of c step ++ steps_changes c steps

-- a file has so many bytes from an offset on, and none of these changes is on it
pub record IsRead (c : Contents) (changes : List Change) (from : PathValue) (at size : ℕ) : Type 0 where
  pub file : is_file (entry_at c from) ≡ true
  pub bytes : at + size ≤ length (bytes_at c from)
  pub kept : list_any (is_on from) changes ≡ false

-- what a step reads is there, and none of these changes is on it
abbrev pub Finds : Contents → List Change → Step → Type 0
Finds c changes (Folder path) = Unit {0}
Finds c changes (Whole from to size) = IsRead c changes from 0 size
Finds c changes (Cut path size) = Unit {0}
Finds c changes (Range from to at size) = IsRead c changes from at size
Finds c changes (Remove path) = Unit {0}

-- so it is of each step
abbrev pub FindAll : Contents → List Change → List Step → Type 0
FindAll c changes [] = Unit {0}
FindAll c changes (step ∷ steps) = Finds c changes step × FindAll c changes steps

-- the end of a range is a number of 64 bits
abbrev pub IsFit : Step → Type 0
IsFit (Folder path) = Unit {0}
IsFit (Whole from to size) = Unit {0}
IsFit (Cut path size) = Unit {0}
IsFit (Range from to at size) = at + size < 2 ^ 64
IsFit (Remove path) = Unit {0}

abbrev pub AllAreFit : List Step → Type 0
AllAreFit [] = Unit {0}
AllAreFit (step ∷ steps) = IsFit step × AllAreFit steps

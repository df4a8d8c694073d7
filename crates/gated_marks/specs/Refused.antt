-- A mark that is no file. Own: "A mark that holds its plan".
use Rattle.std.specs.Prelude.{◌≡◌, ◌⊎◌, true, false, Option, is_some, Result, Err}
use Rattle.cluster_tree.specs.Contents.{Entry, is_file}
use Rattle.cluster_tree.specs.Frame.{Reads}
use Rattle.cluster_tree.specs.declared.tree.Tree.{Ghosts}
use Rattle.marked_runs.specs.declared.faults.StepFault.{StepFault}
use Rattle.marked_runs.specs.declared.faults.StepFault.TheVariants as step

-- something stands there, and it is no file: a folder, a link or a special file
pub record IsOther (there : Option Entry) : Type 0 where
  pub off : is_file there ≡ false
  pub stands : is_some there ≡ true

-- a call contradicted what was asked, or its look failed, and changed nothing; F.Tree is the record of the members of F
pub record IsRefused {F : Type 0} (tree : Ghosts F) (old new : F) (result : Result (Unit {0}) StepFault) : Type 0 where
  pub answer : (result ≡ Err step.Contradicted) ⊎ (result ≡ Err step.ReadFault)
  pub frame : Reads tree old new

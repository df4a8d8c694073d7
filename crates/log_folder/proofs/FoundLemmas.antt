-- No fault of the tree is one of the words.
use Rattle.std.proofs.Common.{◌≢◌, subst}
use Rattle.log_folder.specs.declared.fault.FolderFault.{FolderFault}
use Rattle.log_folder.specs.declared.fault.FolderFault.TheVariants as fault
use Rattle.log_folder.specs.Faults.{IsOfTree}

pub tree_not_usage : (e : FolderFault) → IsOfTree e → e ≢ fault.Usage
tree_not_usage e of u = let no : IsOfTree fault.Usage = subst IsOfTree u of in no

pub ruleset found_steps = (tree_not_usage)

-- The paths that texts in words name. Own: "Paths", "Roots of at most 61 parts", "The folder of a dump".
use Rattle.std.specs.Prelude.{ℕ, nat_lt, if◌then◌else◌, List, length, Result, Ok, Err}
use Rattle.cluster_tree.specs.PathValue.{PathValue, front, parsed, kept_parts}
use Rattle.cluster_tree.specs.Paths.{checked}
use Rattle.cluster_tree.specs.declared.path_fault.PathFault.{PathFault}
use Rattle.cluster_tree.specs.declared.path_fault.PathFault.TheVariants as path_fault
use Rattle.commands.specs.declared.fault.CommandFault.{CommandFault}
use Rattle.commands.specs.declared.fault.CommandFault.TheVariants as fault

-- the path of a text's first 64 parts
unfoldable pub front_of : List ℕ → PathValue
front_of text = front 64 (parsed text)

-- a path, where the text names one of at most so many parts
abbrev pub path_read : ℕ → List ℕ → Result (Unit {0}) PathFault → Result PathValue CommandFault
path_read most text (Ok _) =
    if nat_lt most (length (kept_parts text)) then Err (fault.TooDeep (parsed text)) else Ok (parsed text)
path_read most text (Err path_fault.Empty) = Err fault.Usage
path_read most text (Err path_fault.DotDot) = Err fault.DotDot
path_read most text (Err path_fault.TooDeep) = Err (fault.TooDeep (front_of text))
path_read most text (Err path_fault.OutOfMemory) = Err fault.OutOfMemory

unfoldable pub path_named : ℕ → List ℕ → Result PathValue CommandFault
path_named most text = path_read most text (checked 0 text)

-- the root of a cluster, which leaves room for the files below it
abbrev pub root_named : List ℕ → Result PathValue CommandFault
root_named = path_named 61

-- the folder of a pair, which leaves room for three clusters
abbrev pub pair_root_named : List ℕ → Result PathValue CommandFault
pair_root_named = path_named 60

-- the folder of a log, which leaves room for pg_wal and a file in it
abbrev pub folder_named : List ℕ → Result PathValue CommandFault
folder_named = path_named 62

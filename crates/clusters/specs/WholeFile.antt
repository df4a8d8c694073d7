-- What is found where a file is looked for. Own: "The tree of files".
use Rattle.std.specs.Prelude.{ℕ, ◌==◌, if◌then◌else◌, List, length, Option, None, Some, Result, Ok, Err}
use Rattle.cluster_tree.specs.declared.tree.TreeFault.{TreeFault}
use Rattle.clusters.specs.declared.whole_file.Found.{Found}
use Rattle.clusters.specs.declared.whole_file.Found.TheVariants.{Missing, OtherSize, Filled}

-- a file of n bytes, one of another number of bytes, or no file
abbrev pub found_of : ℕ → Result (List ℕ) TreeFault → Found
found_of n (Ok bytes) = if length bytes == n then Filled else OtherSize (length bytes)
found_of n (Err _) = Missing

-- the bytes of a file, if there is one
abbrev pub all_of : Result (List ℕ) TreeFault → Option (List ℕ)
all_of (Ok bytes) = Some bytes
all_of (Err _) = None

-- The path of a text, by what the text was read as.
use Rattle.std.proofs.Common.{◌≡◌, ◌≢◌, nat_lt, if◌then◌else◌, length, ℕ, List, Result, Ok, Err, refl, ap}
use Rattle.cluster_tree.specs.PathValue.{PathValue, parsed, kept_parts}
use Rattle.cluster_tree.specs.Paths.{Refuses}
use Rattle.cluster_tree.specs.declared.path_fault.PathFault.{PathFault}
use Rattle.cluster_tree.specs.declared.path_fault.PathFault.TheVariants as path_fault
use Rattle.commands.specs.declared.fault.CommandFault.TheVariants as fault
use Rattle.tool_words.specs.Paths.{path_read}

-- what was read is the text's path, unless it has too many parts
pub path_read-parsed : (most : ℕ) (text : List ℕ) (c : Result (Unit {0}) PathFault) (v : PathValue) → Refuses {A = PathValue} c (Ok v)
    → path_read most text c ≡ (if nat_lt most (length (kept_parts text)) then Err (fault.TooDeep (parsed text)) else Ok (parsed text))
path_read-parsed most text (Ok u) v is = refl
path_read-parsed most text (Err f) v is = absurd cc

-- a refusal other than want of memory is the text's
pub path_read-refused : (most : ℕ) (text : List ℕ) (c : Result (Unit {0}) PathFault) (e : PathFault) → Refuses {A = PathValue} c (Err e) → e ≢ path_fault.OutOfMemory → path_read most text c ≡ path_read most text (Err e)
path_read-refused most text (Ok u) e is other = absurd (other is)
path_read-refused most text (Err f) e is other = let same : f ≡ e = cc in ap (λ g. path_read most text (Err g)) same

pub ruleset read_steps = (path_read-parsed, path_read-refused)

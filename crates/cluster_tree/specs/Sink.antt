-- What a write to a sink leaves, where the sink tells what was written: POSIX.1-2017, System Interfaces: write. Own: "Sinks".
use Rattle.std.specs.Prelude.{◌≡◌, ℕ, ◌-◌, ◌++◌, ◌⊎◌, List, take, length}
use Rattle.cluster_tree.specs.Causes.{Rose}

-- as many of the first of these were added as there are more than before
abbrev pub AddsPart : {A : Type 0} → List A → List A → List A → Type 0
AddsPart text old new = new ≡ old ++ take (length new - length old) text

-- the text was added, or where a write failed a part of it
pub record Adds (text old new : List ℕ) (before after : ℕ) : Type 0 where
  pub part : AddsPart text old new
  pub whole : (new ≡ old ++ text) ⊎ Rose before after

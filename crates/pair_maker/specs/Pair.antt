-- The pair that is made, and what stands then, path by path. Own: "A pair from a number".
use Rattle.std.specs.Prelude.{◌≡◌, ◌⊎◌, ℕ, Bool, true, false, ◌||◌, List, [], ◌∷◌, bytes_eq, codes, map, Option, None, Some, if◌then◌else◌}
use Rattle.std.specs.Cmp.Lexicographic.{pointwise}
use Rattle.cluster_tree.specs.Change.{Change}
use Rattle.cluster_tree.specs.Contents.{Contents, Entry, entry_at, is_folder}
use Rattle.cluster_tree.specs.PathValue.{PathValue, below}
use Rattle.cluster_tree.specs.declared.file_fault.FileFault.{FileFault}
use Rattle.cluster_tree.specs.declared.file_fault.FileFault.TheVariants as fault
use Rattle.marked_runs.specs.declared.faults.PerformFault.{PerformFault}
use Rattle.marked_runs.specs.declared.faults.PerformFault.TheVariants as perform
use Rattle.pair_maker.specs.Clusters.{Named, pair_entries}
use Rattle.pair_maker.specs.Entries.{changes_of, standing_at}

-- what stands at these parts once entries were made, one after another
abbrev pub last_named : Option Entry → List Named → List (List ℕ) → Option Entry
last_named old [] parts = old
last_named old (n ∷ rest) parts = last_named (if pointwise bytes_eq n.parts parts then Some n.entry else old) rest parts

-- the tree that is made of a seed and so many blocks: what stands at the parts that lead there from the root
abbrev pub pair_of : (seed blocks : ℕ) → List (List ℕ) → Option Entry
pair_of seed blocks parts = last_named None (pair_entries seed blocks) parts

-- the parts lead into the target, the source or the copy
abbrev pub is_in_pair : List (List ℕ) → Bool
is_in_pair [] = false
is_in_pair (first ∷ rest) = bytes_eq first (codes "t") || (bytes_eq first (codes "s") || bytes_eq first (codes "c"))

-- the root is a folder in which none of the three stands
pub record HasRoom (c : Contents) (root : PathValue) : Type 0 where
  pub folder : is_folder (entry_at c root) ≡ true
  pub target : entry_at c (below root (codes "t" ∷ [])) ≡ None
  pub source : entry_at c (below root (codes "s" ∷ [])) ≡ None
  pub copy : entry_at c (below root (codes "c" ∷ [])) ≡ None

-- the changes that make a pair, in order
abbrev pub pair_changes : PathValue → (seed blocks : ℕ) → List Change
pair_changes root seed blocks = changes_of (map (standing_at root) (pair_entries seed blocks))

-- all else is as it was
abbrev pub StaysBeside : PathValue → (old new : Contents) → Type 0
StaysBeside root old new = (path : PathValue) → ((parts : List (List ℕ)) → is_in_pair parts ≡ true → path ≡ below root parts → ⊥) → entry_at new path ≡ entry_at old path

-- the pair stands below a root
abbrev pub PairStands : PathValue → (seed blocks : ℕ) → Contents → Type 0
PairStands root seed blocks c = (parts : List (List ℕ)) → is_in_pair parts ≡ true → entry_at c (below root parts) ≡ pair_of seed blocks parts

-- why changes broke off
abbrev pub fault_of : PerformFault → FileFault
fault_of perform.ReadFault = fault.ReadFault
fault_of perform.WriteFault = fault.WriteFault
fault_of (perform.Changed path) = fault.Changed path

-- no other fault comes than these
abbrev pub IsOfPair : FileFault → Type 0
IsOfPair e = (e ≡ fault.WriteFault) ⊎ ((path : PathValue) × (e ≡ fault.Changed path)) ⊎ (e ≡ fault.OutOfMemory)

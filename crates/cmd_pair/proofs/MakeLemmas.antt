-- A pair that is made stays in its three places, and stands there.
use Rattle.std.proofs.Common.{◌≡◌, ℕ, Bool, true, List, [], ◌∷◌, ◌++◌, codes, map, Some, inl, inr, subst, append_assoc, append-nil, ap}
use Rattle.std.specs.List.{list_all}
use Rattle.acts.specs.Acts.{AreBelow, IsBelow}
use Rattle.cluster_tree.specs.Change.{Change, call_of}
use Rattle.cluster_tree.specs.Contents.{Contents, Entry, FileEntry, FolderEntry, IsTree, LinkEntry}
use Rattle.cluster_tree.specs.PathValue.{Holds, PathValue, below, is_part, path_of}
use Rattle.cluster_tree.specs.declared.tree.ChangeCall.{ChangeCall}
use Rattle.cluster_tree.proofs.RootLemmas.{holds-below}
use Rattle.commands.specs.Fit.{IsFitPair}
use Rattle.commands.specs.declared.pair.PairWords.{PairWords}
use Rattle.marked_runs.specs.Runs.{Runs}
use Rattle.pair_laws.specs.Stands.{HasPair}
use Rattle.pair_maker.specs.Clusters.{Named, below_name, copy_entries, pair_entries, source_entries, target_entries}
use Rattle.pair_maker.specs.Entries.{changes_at, changes_of, standing_at}
use Rattle.pair_maker.specs.Pair.{PairStands, pair_changes}
use Rattle.run_acts.proofs.WithinSteps.{ran-within}
use Rattle.cmd_pair.specs.Pair.{places}
use Rattle.cmd_pair.specs.Stays.{StaysInPair}
use Rattle.cmd_pair.proofs.StayLemmas.{silent, state, stays_of}

-- the changes that make entries below a root are of the places
abbrev AreIn : PathValue → List Named → Type 0
AreIn root entries = AreBelow (places root) (map call_of (changes_of (map (standing_at root) entries)))

at_path : (root path : PathValue) → IsBelow (places root) path → (p : PathValue) → Some path ≡ Some p → IsBelow (places root) p
at_path root path is p same = let there : path ≡ p = cc same in subst (IsBelow (places root)) there is

entry_in : (root path : PathValue) (e : Entry) (rest : List Change) → IsBelow (places root) path → AreBelow (places root) (map call_of rest) → AreBelow (places root) (map call_of (changes_at path e ++ rest))
entry_in root path (FolderEntry bad) rest is all = (at_path root path is, all)
entry_in root path (FileEntry bytes) rest is all = (at_path root path is, (at_path root path is, all))
entry_in root path LinkEntry rest is all = all

-- what stands below a name, the path of that name holds
name_holds : (root : PathValue) (name : List ℕ) (parts : List (List ℕ)) → Holds (below root (name ∷ [])) (below root (name ∷ parts))
name_holds root name parts =
    subst (Holds (below root (name ∷ []))) (ap (λ (l : List (List ℕ)). path_of root.absolute l) (append_assoc root.parts (name ∷ []) parts)) (holds-below (below root (name ∷ [])) parts)

named_in : (root : PathValue) (name : List ℕ) → ((path : PathValue) → Holds (below root (name ∷ [])) path → IsBelow (places root) path)
    → (entries rest : List Named) → AreIn root rest → AreIn root (below_name name entries ++ rest)
named_in root name at [] rest all = all
named_in root name at (n ∷ entries) rest all =
    entry_in root (below root (name ∷ n.parts)) n.entry (changes_of (map (standing_at root) (below_name name entries ++ rest))) (at (below root (name ∷ n.parts)) (name_holds root name n.parts)) (named_in root name at entries rest all)

entries_in : (root : PathValue) (seed blocks : ℕ) → AreIn root (pair_entries seed blocks)
unfolding pair_entries
entries_in root seed blocks =
    named_in root (codes "t") (λ path holds. inl holds) (target_entries seed blocks) (below_name (codes "s") (source_entries seed blocks) ++ below_name (codes "c") (copy_entries seed blocks))
    (named_in root (codes "s") (λ path holds. inr (inl holds)) (source_entries seed blocks) (below_name (codes "c") (copy_entries seed blocks))
    (subst (AreIn root) (append-nil (below_name (codes "c") (copy_entries seed blocks))) (named_in root (codes "c") (λ path holds. inr (inr (inl holds))) (copy_entries seed blocks) [] tt)))

pub pair-stays : (root : PathValue) (seed blocks : ℕ) (k l : List ChangeCall) (c d : Contents) (done : Bool) → Runs (pair_changes root seed blocks) k l c d done → StaysInPair root (state c k) (state d l)
pair-stays root seed blocks k l c d done ran =
    stays_of root (state c k) (state d l) (ran-within (places root) (pair_changes root seed blocks) k l c d done silent silent (entries_in root seed blocks) ran)

pub pair-stands : (words : PairWords) (c : Contents) → IsFitPair words → list_all is_part words.root.parts ≡ true → IsTree c → PairStands words.root words.seed words.blocks c → HasPair words.root words.seed words.blocks c
pair-stands words c fit proper tree stands = record { few = fit.few; room = fit.depth; proper = proper; tree = tree; stands = stands }

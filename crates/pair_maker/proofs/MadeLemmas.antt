-- What the changes of a pair leave, where they were carried out.
use Rattle.std.proofs.Common.{◌≡◌, ℕ, Bool, true, false, IsTrue, List, [], map, Result, refl, ap, sym, subst, true≢false}
use Rattle.std.proofs.lemmas.List.{append-nil}
use Rattle.cluster_tree.specs.Change.{Change, call_of}
use Rattle.cluster_tree.specs.Contents.{Contents, IsTree}
use Rattle.cluster_tree.specs.PathValue.{PathValue}
use Rattle.cluster_tree.specs.Run.{state_by}
use Rattle.cluster_tree.specs.declared.file_fault.FileFault.TheVariants as fault
use Rattle.cluster_tree.specs.declared.tree.ChangeCall.{ChangeCall}
use Rattle.cluster_tree.specs.declared.tree.Tree.{Ghosts}
use Rattle.marked_runs.specs.Performed.{Performed, Performs}
use Rattle.marked_runs.specs.Runs.{Runs}
use Rattle.marked_runs.specs.declared.faults.PerformFault.{PerformFault}
use Rattle.marked_runs.specs.declared.faults.PerformFault.TheVariants as perform
use Rattle.pair_maker.specs.Clusters.{pair_entries}
use Rattle.pair_maker.specs.Entries.{Standing, changes_of, standing_at}
use Rattle.pair_maker.specs.Pair.{HasRoom, PairStands, StaysBeside, fault_of, pair_changes}
use Rattle.pair_maker.proofs.StandLemmas.{pair-off, pair-stands, pair-unrefused}

pub runs-unbegun : (xs : List Change) (k : List ChangeCall) (c : Contents) → Runs xs k k c c false
runs-unbegun xs k c = record {
  made = [];
  grew = sym (append-nil k);
  rest = map call_of xs;
  joins = refl;
  all = λ h. absurd (true≢false (sym h));
  after = λ h. absurd (true≢false (sym h));
  elsewhere = λ p off. refl;
}

pub made-pair : {F : Type 0} (tree : Ghosts F) (root : PathValue) (seed blocks : ℕ) (entries : List Standing) (a b : F) (r : Result (Unit {0}) PerformFault)
    → entries ≡ map (standing_at root) (pair_entries seed blocks) → IsTrue tree.tells → IsTree (tree.contents a) → HasRoom (tree.contents a) root → Performs tree (changes_of entries) a b r
    → Performed (pair_changes root seed blocks) (state_by tree.contents tree.calls a) (state_by tree.contents tree.calls b) r
made-pair tree root seed blocks entries a b r is told whole room performs =
    subst (λ l. Performs tree (changes_of l) a b r) is performs told (pair-unrefused (tree.contents a) root seed blocks whole room)

pub made-stands : (root : PathValue) (seed blocks : ℕ) (k l : List ChangeCall) (c d : Contents) → IsTree c → HasRoom c root → Runs (pair_changes root seed blocks) k l c d true → PairStands root seed blocks d
made-stands root seed blocks k l c d whole room ran = subst (λ x. PairStands root seed blocks x) (sym (ran.after refl)) (pair-stands c root seed blocks whole room)

pub made-beside : (root : PathValue) (seed blocks : ℕ) (k l : List ChangeCall) (c d : Contents) (done : Bool) → Runs (pair_changes root seed blocks) k l c d done → StaysBeside root c d
made-beside root seed blocks k l c d done ran path beside = ran.elsewhere path (pair-off root path seed blocks beside)

pub changed-of : (e : PerformFault) (path : PathValue) → fault_of e ≡ fault.Changed path → e ≡ perform.Changed path
changed-of perform.ReadFault path h = absurd (cc h)
changed-of perform.WriteFault path h = absurd (cc h)
changed-of (perform.Changed own) path h = let same : own ≡ path = cc h in ap perform.Changed same

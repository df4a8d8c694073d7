-- What a call that only reads leaves of the tree below.
use Rattle.std.proofs.Common.{◌≡◌, ◌≤◌, ℕ, ◌+◌, ◌^◌, List, [], ◌∷◌, ap, sym, subst, arith}
use Rattle.cluster_tree.specs.Frame.{Reads}
use Rattle.cluster_tree.specs.Stops.{Epoch, Stops}
use Rattle.cluster_tree.specs.declared.tree.ChangeCall.{ChangeCall}
use Rattle.cluster_tree.specs.declared.tree.ChangeCall.TheVariants.{Write, Cut, MakeFile, MakeFolder, Remove, Sync}
use Rattle.cluster_tree.specs.declared.tree.Tree.{Ghosts}
use Rattle.without_file.specs.Without.{all_below}

back : List Epoch → Stops → Stops
back [] s = s
back (time ∷ times) s = record { now = time; past = times }

named : ChangeCall → ℕ
named (Cut path size) = size
named (Write path at n) = 0
named (MakeFile path) = 0
named (MakeFolder path) = 0
named (Remove path) = 0
named Sync = 0

first_name : List ChangeCall → ℕ
first_name [] = 0
first_name (call ∷ calls) = named call

uncounted : (n m : ℕ) → n + 2 ^ 64 ≡ m + 2 ^ 64 → n ≡ m
uncounted n m e = omega (arith, e)

module _ {F : Type 0} (tree : Ghosts F) (old new : F) (before after : ℕ) where
  pub reads-below : all_below (tree.contents new) (tree.stops new) after ≡ all_below (tree.contents old) (tree.stops old) before → tree.calls new ≡ tree.calls old → tree.failed_reads old ≤ tree.failed_reads new
      → tree.failed_changes new + 2 ^ 64 ≡ tree.failed_changes old + 2 ^ 64 → Reads tree old new
  unfolding back
  reads-below unstopped uncalled reads changes = record {
    same = ap (λ s. s.now.synced) unstopped;
    uncalled = uncalled;
    unstopped = ap (λ s. back s.past s) unstopped;
    reads = reads;
    changes = uncounted _ _ changes;
  }

  -- and by the same reference
  pub name-below : all_below (tree.contents new) (tree.stops new) after ≡ all_below (tree.contents old) (tree.stops old) before → before ≡ after
  unfolding first_name named
  name-below unstopped = sym (ap (λ s. first_name s.now.pending) unstopped)

-- what the reference had at last, of which it is known by its name
module _ {F : Type 0} (tree : Ghosts F) (old mid last : F) (before after : ℕ) where
  pub reads-through : all_below (tree.contents mid) (tree.stops mid) after ≡ all_below (tree.contents old) (tree.stops old) before → tree.calls mid ≡ tree.calls old → tree.failed_reads old ≤ tree.failed_reads mid
      → tree.failed_changes mid + 2 ^ 64 ≡ tree.failed_changes old + 2 ^ 64 → (before ≡ after → last ≡ mid) → Reads tree old last
  reads-through unstopped uncalled reads changes same =
      subst (Reads tree old) (sym (same (name-below tree old mid before after unstopped))) (reads-below tree old mid before after unstopped uncalled reads changes)

  pub last-through : all_below (tree.contents mid) (tree.stops mid) after ≡ all_below (tree.contents old) (tree.stops old) before → (before ≡ after → last ≡ mid) → last ≡ mid
  last-through unstopped same = same (name-below tree old mid before after unstopped)

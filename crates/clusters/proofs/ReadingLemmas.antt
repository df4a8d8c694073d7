-- What a control file of another size, and none, is refused with.
use Rattle.std.proofs.Common.{◌≡◌, ℕ, ◌==◌, Bool, true, false, List, length, Result, Ok, Err, refl, ap, if◌then◌else◌}
use Rattle.cluster_tree.specs.PathValue.{PathValue}
use Rattle.cluster_tree.specs.declared.tree.TreeFault.{TreeFault}
use Rattle.control_file.specs.declared.fault.ControlFault.TheVariants as control
use Rattle.control_file.specs.Admission.{control_of}
use Rattle.clusters.specs.declared.fault.ClusterFault.TheVariants as fault
use Rattle.clusters.specs.declared.whole_file.Found.TheVariants.{Missing, OtherSize, Filled}
use Rattle.clusters.specs.WholeFile.{found_of}
use Rattle.clusters.specs.RootControl.{control_in, at_root}

missing_not : (b : Bool) (bytes : List ℕ) {A : Type 0} → (if b then Filled else OtherSize (length bytes)) ≡ Missing → A
missing_not true bytes e = absurd cc
missing_not false bytes e = absurd cc

pub control_in-missing : (root : PathValue) (r : Result (List ℕ) TreeFault) → found_of 8192 r ≡ Missing → control_in root r ≡ Err (fault.ControlMissing root)
control_in-missing root (Ok bytes) e = missing_not (length bytes == 8192) bytes e
control_in-missing root (Err f) e = refl

other_size : (bytes : List ℕ) (k : ℕ) (b : Bool) → (length bytes == 8192) ≡ b → (if b then Filled else OtherSize (length bytes)) ≡ OtherSize k → control_of bytes ≡ Err (control.Size k)
unfolding control_of
other_size bytes k true is e = absurd cc
other_size bytes k false is e = let n : length bytes ≡ k = cc in rw is (ap (λ n. Err (control.Size n)) n)

pub control_in-other_size : (root : PathValue) (k : ℕ) (r : Result (List ℕ) TreeFault) → found_of 8192 r ≡ OtherSize k → control_in root r ≡ Err (fault.Size root k)
control_in-other_size root k (Ok bytes) e = ap (at_root root) (other_size bytes k (length bytes == 8192) refl e)
control_in-other_size root k (Err f) e = absurd cc

pub ruleset control_steps = (control_in-missing, control_in-other_size)

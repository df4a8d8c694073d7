-- A fault stays one.
use Rattle.std.proofs.Common.{◌≡◌, ℕ, Result, Err}
use Rattle.replay_list.specs.declared.fault.ListFault.{ListFault}
use Rattle.replay_list.specs.declared.fault.ListFault.TheVariants.{BadLine, OutOfMemory}
use Rattle.replay_list.specs.Faults.{IsFault}

pub fault_kept : {A B : Type 0} (m : Result A ℕ) (n : Result B ℕ) (fault : ListFault) → ((k : ℕ) → m ≡ Err k → n ≡ Err k) → IsFault m fault → IsFault n fault
fault_kept m n (BadLine k) h e = h k e
fault_kept m n OutOfMemory h e = tt

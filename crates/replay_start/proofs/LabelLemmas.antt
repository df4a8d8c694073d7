-- What a label says, by what was read of it.
use Rattle.std.proofs.Common.{◌≡◌, ℕ, List, None, Some, Result, Ok, Err, refl, ap, sym}
use Rattle.cluster_tree.specs.PathValue.{PathValue}
use Rattle.cluster_tree.specs.declared.tree.TreeFault.{TreeFault}
use Rattle.backup_label.specs.Reading.{label_of}
use Rattle.clusters.specs.WholeFile.{all_of}
use Rattle.replay_start.specs.Checked.{label_in, with_label}
use Rattle.replay_start.specs.declared.fault.ReplayFault.TheVariants as fault

-- no file
pub unread : (root : PathValue) (file : Result (List ℕ) TreeFault) → None ≡ all_of file → label_in root file ≡ Err (fault.NoLabel root)
unread root (Ok bytes) h = absurd (cc h)
unread root (Err e) h = refl

-- a file of these bytes
pub read_in : (root : PathValue) (file : Result (List ℕ) TreeFault) (bytes : List ℕ) → Some bytes ≡ all_of file → label_in root file ≡ with_label root (label_of bytes)
read_in root (Ok other) bytes h = ap (λ b. with_label root (label_of b)) (sym (cc h))
read_in root (Err e) bytes h = absurd (cc h)

pub ruleset label_steps = (unread, read_in)

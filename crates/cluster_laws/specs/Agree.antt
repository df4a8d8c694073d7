-- When the answers of two replays agree. Own: "Alike clusters".
use Rattle.std.specs.Prelude.{◌≡◌, Result, Ok, Err}
use Rattle.block_replay.specs.declared.faults.RecordFault.{RecordFault}
use Rattle.block_replay.specs.declared.faults.RecordFault.TheVariants.{RedoFailed, File}
use Rattle.cluster_tree.specs.PathValue.{PathValue}
use Rattle.file_edits.specs.Alike.{moved}

-- What is left is alike, or both are refused by the same file of theirs. Where one is refused at a block nothing is said here:
-- that depends on the block's pages alone.
abbrev pub AgreeOn : {A : Type 0} → (A → A → Type 0) → (root other : PathValue) → Result A RecordFault → Result A RecordFault → Type 0
AgreeOn Alike root other (Ok a) (Ok b) = Alike a b
AgreeOn Alike root other (Ok a) (Err (RedoFailed start name why)) = Unit {0}
AgreeOn Alike root other (Ok a) (Err (File f)) = ⊥
AgreeOn Alike root other (Err (RedoFailed start name why)) answer = Unit {0}
AgreeOn Alike root other (Err (File e)) (Ok b) = ⊥
AgreeOn Alike root other (Err (File e)) (Err (RedoFailed start name why)) = Unit {0}
AgreeOn Alike root other (Err (File e)) (Err (File f)) = f ≡ moved root other e

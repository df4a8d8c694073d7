-- A log that is replayed again, and the files that are left: PostgreSQL 16, src/backend/access/transam/xlogrecovery.c, PerformWalRecovery.
-- Own: "A replay that is begun again".
use Rattle.std.specs.Prelude.{ℕ, Option, Result, Ok, Err}
use Rattle.rmgr_hooks.specs.Custom.{Extension}
use Rattle.block_replay.specs.declared.faults.RecordFault.{RecordFault}
use Rattle.cluster_tree.specs.Contents.{Contents}
use Rattle.cluster_tree.specs.PathValue.{PathValue}
use Rattle.replay_core.specs.Replayed.{After}
use Rattle.replay_world.specs.World.{World}
use Rattle.replayed_bytes.specs.Bytes.{HaveSameFiles}
use Rattle.restarted_laws.specs.Again.{AreSame, EndsTheSame}

-- worlds in which the same changes were skipped, with the same files, byte for byte
pub record AreSameFiles (root : PathValue) (other : PathValue) (per_file : ℕ) (v : World) (y : World) : Type 0 where
  pub same : AreSame root other per_file v y
  pub files : HaveSameFiles v.files root y.files other

-- both replays end, with the same files, or neither ends
abbrev pub EndWithSameFiles : (root other : PathValue) → (per_file : ℕ) → Result World RecordFault → Result World RecordFault → Type 0
EndWithSameFiles root other per_file (Ok v) (Ok y) = AreSameFiles root other per_file v y
EndWithSameFiles root other per_file (Ok v) (Err fault) = ⊥
EndWithSameFiles root other per_file (Err fault) (Ok y) = ⊥
EndWithSameFiles root other per_file (Err fault) (Err other_fault) = Unit {0}

-- the replay of a cluster ends too, tells the same as this one, and leaves the same files, byte for byte
pub record EndsWithSameFiles (custom : Option Extension) (per_file : ℕ) (after : After) (root : PathValue) (d : Contents) (other : PathValue) : Type 0 where
  pub ends : EndsTheSame custom per_file after root d other
  pub files : HaveSameFiles after.files root ends.left.files other

-- What the steps of the second reading give.
use Rattle.std.specs.Prelude.{Option, ◌≡◌, ◌⊎◌, ◌+◌, ◌<◌, ◌≤◌, ◌^◌, ℕ, List, length, None, Result, Ok, Err}
use Rattle.cluster_tree.specs.PathValue.{PathValue}
use Rattle.replay_profile.specs.Profile.{first_outside}
use Rattle.wal_records.specs.Cursor.{CursorView}
use Rattle.wal_records.specs.Log.{end_after}
use Rattle.wal_records.specs.Reading.{LogRecord}
use Rattle.replay_start.specs.declared.fault.ReplayFault.{ReplayFault}
use Rattle.replay_world.specs.Records.{records_after}
use Rattle.replay_world.specs.World.{World}
use Rattle.replay_core.specs.Faults.{IsFree, recorded}
use Rattle.replay_core.specs.declared.running.Count.{Count}
use Rattle.replay_core.specs.declared.running.Turn.{Turn}
use Rattle.replay_core.specs.declared.running.Turn.TheVariants.{Done, More}
use Rattle.rmgr_hooks.specs.Custom.{Extension}

-- what is left to replay leaves what the whole does, the first records having been replayed
pub record Replays (custom : Option Extension) (root : PathValue) (per_file : ℕ) (old new : List LogRecord) (w v : World) (before after : Count) : Type 0 where
  pub leaves : records_after custom root per_file old w ≡ records_after custom root per_file new v
  pub taken : first_outside custom new ≡ None
  pub records : before.records + length old ≡ after.records + length new
  pub end : end_after before.end.0 old ≡ end_after after.end.0 new

-- all were replayed
pub record AreReplayed (custom : Option Extension) (root : PathValue) (per_file : ℕ) (log : List LogRecord) (w v : World) (before after : Count) : Type 0 where
  pub leaves : records_after custom root per_file log w ≡ Ok v
  pub records : before.records + length log ≡ after.records
  pub end : end_after before.end.0 log ≡ after.end.0

abbrev pub BreaksOff : Option Extension → PathValue → ℕ → List LogRecord → World → ReplayFault → Type 0
BreaksOff custom root per_file records w e = IsFree e ⊎ (recorded (records_after custom root per_file records w) ≡ Err e)

abbrev pub ReplaysAll : Option Extension → PathValue → ℕ → List LogRecord → World → World → Count → Count → Result (Unit {0}) ReplayFault → Type 0
ReplaysAll custom root per_file records w v before after (Ok done) = AreReplayed custom root per_file records w v before after
ReplaysAll custom root per_file records w v before after (Err e) = BreaksOff custom root per_file records w e

abbrev pub ReplaysNext : Option Extension → PathValue → ℕ → List LogRecord → List LogRecord → World → World → Count → Count → Result Turn ReplayFault → Type 0
ReplaysNext custom root per_file old new w v before after (Ok More) = Replays custom root per_file old new w v before after
ReplaysNext custom root per_file old new w v before after (Ok Done) = AreReplayed custom root per_file old w v before after
ReplaysNext custom root per_file old new w v before after (Err e) = BreaksOff custom root per_file old w e

-- behind a record the cursor stands further on, and hasn't ended
pub record IsFurther (old new : CursorView) (before after : Count) : Type 0 where
  pub opened : new.ended ≡ None
  pub up : old.place + 24 ≤ new.place
  pub within : new.place < 2 ^ 64
  pub one : after.records ≡ before.records + 1

abbrev pub MovesOn : CursorView → CursorView → Count → Count → Turn → Type 0
MovesOn old new before after More = IsFurther old new before after
MovesOn old new before after Done = Unit {0}

-- a whole log was replayed, and this is how much
abbrev pub IsReplayedLog : Option Extension → PathValue → ℕ → (start : ℕ) → List LogRecord → World → World → Result Count ReplayFault → Type 0
IsReplayedLog custom root per_file start records w v (Ok count) =
    (records_after custom root per_file records w ≡ Ok v) × (count.records ≡ length records) × (count.end.0 ≡ end_after start records)
IsReplayedLog custom root per_file start records w v (Err e) = BreaksOff custom root per_file records w e

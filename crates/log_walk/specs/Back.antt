-- The walk back to the last common checkpoint: PostgreSQL 16, src/bin/pg_rewind/parsexlog.c, findLastCheckpoint. Own: "The
-- first record of the walk back".
use Rattle.std.specs.Prelude.{ℕ, zero, suc, ◌==◌, ◌&&◌, Bool, nat_lt, Result, Err, if◌then◌else◌}
use Rattle.cluster_tree.specs.Causes.{given}
use Rattle.wal_records.specs.declared.why.Why.TheVariants as why
use Rattle.wal_records.specs.declared.why.Stop.TheVariants.{Ends, Dropped}
use Rattle.wal_records.specs.Further.{Pages}
use Rattle.wal_records.specs.Log.{log_of}
use Rattle.wal_records.specs.Place.{place_at}
use Rattle.wal_records.specs.Reading.{LogRecord, Reading, Spelled, Stopped, lone}
use Rattle.block_refs.specs.Outcomes.{start_of}
use Rattle.log_walk.specs.declared.checkpoint.CommonCheckpoint.{CommonCheckpoint}
use Rattle.log_walk.specs.declared.fault.LogWalkFault.{LogWalkFault}
use Rattle.log_walk.specs.declared.fault.LogWalkFault.TheVariants as fault
use Rattle.log_walk.specs.Checkpoint.{checkpoint_in, is_checkpoint}
use Rattle.log_walk.specs.First.{at_lsn, first_record}

-- what a walk back answers
abbrev pub Answer : Type 0
Answer = Result CommonCheckpoint LogWalkFault

-- a checkpoint record that starts below the fork's place
abbrev pub is_common : ℕ → LogRecord → Bool
is_common below r = is_checkpoint r && nat_lt r.start below

-- From a record back: it is the common checkpoint, or it links to no record before it, or the walk goes on at its link.
unfoldable pub back_from : (ℕ → Answer) → ℕ → LogRecord → Answer
back_from go below r =
    if is_common below r then checkpoint_in r
    else if r.header.prev.0 == 0 then Err (fault.NoCommonCheckpoint (start_of r))
    else go r.header.prev.0

-- from what a place has by itself
abbrev pub walk_step : (ℕ → Answer) → ℕ → ℕ → Reading → Answer
walk_step go below place (Spelled r) = back_from go below r
walk_step go below place (Stopped (Ends why)) = Err (fault.LogEnds (at_lsn place) why)
walk_step go below place (Stopped (Dropped page)) = Err (fault.LogEnds (at_lsn place) why.Continuation)

-- at most so many steps
unfoldable pub walk_in : Pages → ℕ → ℕ → ℕ → ℕ → Answer
walk_in pages size below zero place = Err (fault.LogEnds (at_lsn place) why.Place)
walk_in pages size below (suc steps) place =
    walk_step (walk_in pages size below steps) below place (lone pages size place)

-- The walk back from a place. Each link lies below its record, so there are no more steps than positions up to there.
unfoldable pub walk_from : Pages → ℕ → ℕ → ℕ → Answer
walk_from pages size below place = walk_in pages size below (suc place) place

-- The last common checkpoint: from the first record of the target's log from the fork on, back over the links.
unfoldable pub common_checkpoint : Pages → ℕ → ℕ → Answer
common_checkpoint pages size fork =
    given (first_record (log_of pages size fork))
    (back_from (walk_from pages size (place_at size fork)) (place_at size fork))

-- Where the target's log ends: PostgreSQL 16, src/bin/pg_rewind/pg_rewind.c, main, on target_wal_endrec.
use Rattle.std.specs.Prelude.{ℕ, max, List, [], ◌∷◌, Result, Ok, Err}
use Rattle.cluster_tree.specs.Causes.{given}
use Rattle.control_file.specs.declared.control.Control.{Control}
use Rattle.wal_base.specs.declared.lsn.Lsn.{Lsn}
use Rattle.wal_records.specs.declared.why.Why.{Why}
use Rattle.wal_records.specs.Further.{Pages}
use Rattle.wal_records.specs.Log.{Log, log_of}
use Rattle.wal_records.specs.Reading.{LogRecord}
use Rattle.log_walk.specs.declared.fault.LogWalkFault.{LogWalkFault}
use Rattle.log_walk.specs.declared.fault.LogWalkFault.TheVariants as fault

abbrev pub at_lsn : ℕ → Lsn
at_lsn at = record { 0 = at }

-- the first of some records, behind which the log ends at a place
abbrev pub first_or : ℕ → Why → List LogRecord → Result LogRecord LogWalkFault
first_or place why [] = Err (fault.LogEnds (at_lsn place) why)
first_or place why (r ∷ rest) = Ok r

-- the first record of a log, or where the log ends without one
abbrev pub first_record : Log → Result LogRecord LogWalkFault
first_record log = first_or log.place log.why log.records

-- The target's end: the end of its checkpoint record, or minRecoveryPoint where that is greater.
unfoldable pub end_of_target : Pages → ℕ → Control → Result Lsn LogWalkFault
end_of_target pages size target =
    given (first_record (log_of pages size target.checkPoint)) (λ r. Ok (at_lsn (max r.end target.minRecoveryPoint)))

-- The records of a log in order, the place at which it ends, and why: PostgreSQL 16 manual, chapter "Reliability and the
-- Write-Ahead Log", section "WAL Internals"; src/backend/access/transam/xlogreader.c, XLogReadRecord.
use Rattle.std.specs.Prelude.{ℕ, zero, suc, ◌-◌, ◌^◌, ◌<◌, ◌≤◌, List, [], ◌∷◌, Option, Some, None, nat_le, if◌then◌else◌}
use Rattle.wal_records.specs.declared.why.Why.{Why}
use Rattle.wal_records.specs.declared.why.Why.TheVariants as why
use Rattle.wal_records.specs.declared.why.Stop.TheVariants.{Ends, Dropped}
use Rattle.wal_records.specs.Place.{place_at}
use Rattle.wal_records.specs.Further.{Pages}
use Rattle.wal_records.specs.Reading.{LogRecord, Reading, Spelled, Stopped, reading}

-- The valid log from a start: its records in order, the place at which reading fails, and why it fails there.
pub record Log : Type 0 where
  pub records : List LogRecord
  pub place : ℕ
  pub why : Why

-- a log of no records
abbrev pub ended : ℕ → Why → Log
ended place why = record { records = []; place = place; why = why }

-- a log with one record more in front
abbrev pub with_first : LogRecord → Log → Log
with_first first log = record { records = first ∷ log.records; place = log.place; why = log.why }

-- What a place has, and then the log from where it goes on: at the end of the record, or, with the same record before,
-- behind the header of the page that says that the record was dropped.
abbrev pub log_step : (Option ℕ → ℕ → Log) → ℕ → Option ℕ → ℕ → Reading → Log
log_step go size before place (Spelled r) = with_first r (go (Some r.start) (place_at size r.end))
log_step go size before place (Stopped (Dropped page)) = go before (place_at size page)
log_step go size before place (Stopped (Ends why)) = ended place why

-- at most so many steps
unfoldable pub log_in : Pages → ℕ → ℕ → Option ℕ → ℕ → Log
log_in pages size zero before place = ended place why.NoSegment
log_in pages size (suc steps) before place =
    if nat_le (2 ^ 64) place then ended place why.NoSegment
    else log_step (log_in pages size steps) size before place (reading pages size before place)

-- The log from a place on, behind the start of the record before it, where there is one. Each step moves up, so there
-- are fewer of them than positions.
unfoldable pub log_from : Pages → ℕ → Option ℕ → ℕ → Log
log_from pages size before place = log_in pages size (2 ^ 64 - place) before place

-- the log from a position on
abbrev pub log_of : Pages → ℕ → ℕ → Log
log_of pages size start = log_from pages size None (place_at size start)

-- where records end that begin at a position: the last of them, or the position itself where there is none
abbrev pub end_after : ℕ → List LogRecord → ℕ
end_after start [] = start
end_after start (r ∷ rest) = end_after r.end rest

-- The end of the log from a position on: that of its last record. Own: "A log's place and its end".
abbrev pub end_of_log : Pages → ℕ → ℕ → ℕ
end_of_log pages size start = end_after start (log_of pages size start).records

-- records that stand one after another from a position on: each starts no earlier than the one before it ends, and ends
-- above its start
abbrev pub AreInOrder : ℕ → List LogRecord → Type 0
AreInOrder from [] = Unit {0}
AreInOrder from (r ∷ rest) = (from ≤ r.start) × (r.start < r.end) × AreInOrder r.end rest

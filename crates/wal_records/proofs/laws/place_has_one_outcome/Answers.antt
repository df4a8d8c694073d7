use Rattle.std.proofs.Common.{ℕ, Option, ◌≡◌, ◌↔◌}
use Rattle.wal_base.specs.Segment.{bytes_of}
use Rattle.wal_pages.specs.declared.log_path.LogPath.{LogPath}
use Rattle.wal_pages.specs.Folder.{Folder}
use Rattle.wal_pages.specs.Page.{page_at}
use Rattle.wal_records.specs.Reading.{Reading, Spelled, Stopped, reading}
use Rattle.wal_records.specs.Outcome.{HasOutcome}
use Rattle.wal_records.proofs.ViewLemmas.{spells_both}
use Rattle.wal_records.proofs.OutcomeLemmas.{first_stops, stops_first, passed_is_read, read_is_passed}
use Rattle.wal_records.proofs.laws.place_has_one_outcome.Goals as goal

one : (log : LogPath) (files : Folder) (before : Option ℕ) (place : ℕ) (outcome : Reading) →
    HasOutcome log files before place outcome ↔ (reading (page_at log files) (bytes_of log.size) before place ≡ outcome)
one log files before place (Spelled r) = ((spells_both log files before place r).1, (spells_both log files before place r).0)
one log files before place (Stopped stop) = (first_stops log files before place stop, stops_first log files before place stop)

pub returns-clause-outcome : goal.returns-clause-outcome
returns-clause-outcome c = one

pub returns-clause-passed : goal.returns-clause-passed
returns-clause-passed c = λ log files before place. (
  λ spelled. read_is_passed log files before place spelled.0 ((spells_both log files before place spelled.0).1 spelled.1),
  λ all. let read = passed_is_read log files before place all in (_, (spells_both log files before place _).0 read),
)

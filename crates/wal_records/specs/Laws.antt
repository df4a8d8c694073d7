-- What follows from the definitions of records and of the log, for all that reads or writes one.
use Rattle.std.specs.Prelude.{◌≡◌, ◌↔◌, ◌<◌, ◌≤◌, ◌^◌, ℕ, Option}
use Rattle.std.specs.List.{AllByRecursion}
use Rattle.cluster_tree.specs.Contents.{Contents}
use Rattle.wal_base.specs.Segment.{bytes_of}
use Rattle.wal_base.specs.declared.seg_size.SegSize.{SegSize}
use Rattle.wal_pages.specs.declared.log_path.LogPath.{LogPath}
use Rattle.wal_pages.specs.Folder.{Folder, folder_of}
use Rattle.wal_pages.specs.LogBytes.{SameSegments}
use Rattle.wal_pages.specs.Page.{page_at}
use Rattle.wal_records.specs.Cursor.{CursorView, Knows, to_come}
use Rattle.wal_records.specs.Further.{Pages, pages_of}
use Rattle.wal_records.specs.Reading.{LogRecord, Reading, Spelled, reading}
use Rattle.wal_records.specs.Log.{log_from, log_of, log_step, AreInOrder}
use Rattle.wal_records.specs.Spells.{Spells}
use Rattle.wal_records.specs.Outcome.{HasOutcome, Passes, tests}

-- a record is read at a place exactly where the payload from there spells it
abbrev pub SpellsExactly : Type 0
SpellsExactly = (log : LogPath) (files : Folder) (before : Option ℕ) (place : ℕ) (r : LogRecord) →
    (reading (page_at log files) (bytes_of log.size) before place ≡ Spelled r) ↔ Spells log files before place r

-- A place has one outcome, that which is read: a record that it spells, that the record was dropped, or why the log ends
-- there, each by the first test that fails. So of all these exactly one holds.
abbrev pub OneOutcome : Type 0
OneOutcome = (log : LogPath) (files : Folder) (before : Option ℕ) (place : ℕ) (outcome : Reading) →
    HasOutcome log files before place outcome ↔ (reading (page_at log files) (bytes_of log.size) before place ≡ outcome)

-- and it spells a record exactly where this passes all tests
abbrev pub SpelledIsPassed : Type 0
SpelledIsPassed = (log : LogPath) (files : Folder) (before : Option ℕ) (place : ℕ) →
    ((r : LogRecord) × Spells log files before place r)
    ↔ AllByRecursion (Passes (page_at log files) (bytes_of log.size) before place) (tests (page_at log files) (bytes_of log.size) place)

-- the log from a place on is what the place has, and the log from where that goes on
abbrev pub LogGoesOn : Type 0
LogGoesOn = (pages : Pages) (size : SegSize) (before : Option ℕ) (place : ℕ) → place < 2 ^ 64 →
    log_from pages (bytes_of size) before place
    ≡ log_step (log_from pages (bytes_of size)) (bytes_of size) before place (reading pages (bytes_of size) before place)

-- The records of the log from a place on stand one after another from there on, and those of the log from a position: so
-- their ends rise, and lie above it.
abbrev pub FromPlaceInOrder : Type 0
FromPlaceInOrder = (pages : Pages) (size : SegSize) (before : Option ℕ) (from place : ℕ) → from ≤ place →
    AreInOrder from (log_from pages (bytes_of size) before place).records

abbrev pub LogIsInOrder : Type 0
LogIsInOrder = (pages : Pages) (size : SegSize) (start : ℕ) → AreInOrder start (log_of pages (bytes_of size) start).records

-- two contents have the same files of a log's segments
abbrev pub SameLog : LogPath → Contents → Contents → Type 0
SameLog log old new = SameSegments log (folder_of old log.folder) (folder_of new log.folder)

-- A log is a function of its segments' files: in all contents that have these the log from a place on is the same, and a
-- cursor that knows it in the one has the same to give in the other, and knows it there.
abbrev pub LogIsOfFiles : Type 0
LogIsOfFiles = (log : LogPath) (old new : Contents) → SameLog log old new → (before : Option ℕ) (place : ℕ) →
    log_from (pages_of log old) (bytes_of log.size) before place ≡ log_from (pages_of log new) (bytes_of log.size) before place

abbrev pub ToComeIsOfFiles : Type 0
ToComeIsOfFiles = (cursor : CursorView) (old new : Contents) → SameLog cursor.log old new → to_come cursor old ≡ to_come cursor new

abbrev pub KnownByFiles : Type 0
KnownByFiles = (cursor : CursorView) (old new : Contents) → SameLog cursor.log old new → Knows cursor old → Knows cursor new

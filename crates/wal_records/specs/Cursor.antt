-- What contracts see of a record cursor, and what a call of it does.
use Rattle.std.specs.Prelude.{◌≡◌, ℕ, ◌+◌, ◌^◌, ◌<◌, ◌≤◌, List, [], length, Option, Some, None, IsSomeAnd}
use Rattle.cluster_tree.specs.Contents.{Contents}
use Rattle.wal_base.specs.Segment.{bytes_of}
use Rattle.wal_pages.specs.declared.log_path.LogPath.{LogPath}
use Rattle.wal_pages.specs.Cursor.{Knows as PageKnows}
use Rattle.wal_records.specs.declared.cursor.LogEnd.{LogEnd}
use Rattle.wal_records.specs.declared.cursor.Step.{Step}
use Rattle.wal_records.specs.declared.cursor.Step.TheVariants as step
use Rattle.wal_records.specs.declared.why.Why.{Why}
use Rattle.wal_records.specs.declared.why.Stop.TheVariants.{Ends}
use Rattle.wal_records.specs.Place.{place_at}
use Rattle.wal_records.specs.Header.{greatest_total}
use Rattle.wal_records.specs.Further.{pages_of}
use Rattle.wal_records.specs.Reading.{LogRecord, Reading, Spelled, Stopped}
use Rattle.wal_records.specs.Log.{Log, ended, with_first, log_from}
use Rattle.wal_records.specs.Spells.{LinksTo}

-- A cursor: where it reads, the position of the page that it holds and that page, if it holds one, the start of the record
-- before, the place where the next one is looked for, the end that it answered, and the record that the last call gave.
pub record CursorView : Type 0 where
  pub log : LogPath
  pub held : Option ℕ
  pub page : List ℕ
  pub before : Option ℕ
  pub place : ℕ
  pub ended : Option LogEnd
  pub current : Option LogRecord

-- the log that is still to come
abbrev pub to_come : CursorView → Contents → Log
to_come cursor contents = log_from (pages_of cursor.log contents) (bytes_of cursor.log.size) cursor.before cursor.place

-- The page that it holds is the log's in these contents: so it is where it holds none, and as long as the log's files stay
-- as they were when the page was read.
abbrev pub Knows : CursorView → Contents → Type 0
Knows cursor contents = PageKnows (record { log = cursor.log; held = cursor.held; page = cursor.page }) contents

-- a cursor that has nothing to give and holds no page, but is where it was
abbrev pub without_current : CursorView → CursorView
without_current cursor = record cursor { held = None; page = []; current = None }

-- One step: the log to come was the record and the log that is to come now, or it was at its end.
abbrev pub Steps : CursorView → CursorView → Step → Contents → Type 0
Steps old new step.Record contents = IsSomeAnd new.current (λ r. to_come old contents ≡ with_first r (to_come new contents))
Steps old new (step.End at why) contents = to_come old contents ≡ ended at.0 why

-- a record of the log is no longer than the longest, and has as many bytes as its header says
pub record IsWhole (r : LogRecord) : Type 0 where
  pub size : length r.body + 24 ≡ r.header.total
  pub bound : length r.body + 24 ≤ greatest_total

-- where a cursor goes on after a record: past all its bytes, at the place behind its end
pub record GoesOn (old new : CursorView) (r : LogRecord) : Type 0 where
  pub whole : IsWhole r
  pub later : old.place ≤ r.start
  pub longer : r.start + r.header.total ≤ r.end
  pub linked : LinksTo old.before r.start r.header.prev.0
  pub up : old.place + 24 ≤ new.place
  pub before : new.before ≡ Some r.start
  pub place : new.place ≡ place_at (bytes_of old.log.size) r.end
  pub within : new.place < 2 ^ 64
  pub opened : new.ended ≡ None

-- a cursor that has answered this end and holds no page, and is where it was
abbrev pub ended_at : CursorView → ℕ → Why → CursorView
ended_at cursor place why = record cursor { held = None; page = []; ended = Some record { place = record { 0 = place }; why = why }; current = None }

-- whatever the tree holds: each record stands further on, and an end is kept
abbrev pub Moves : CursorView → CursorView → Step → Type 0
Moves old new step.Record = IsSomeAnd new.current (GoesOn old new)
Moves old new (step.End at why) = new ≡ ended_at old at.0 why

-- a cursor that goes on at a place, behind no record: it holds the page that it held
abbrev pub going_on_at : CursorView → ℕ → CursorView
going_on_at cursor place = record cursor { before = None; place = place; ended = None; current = None }

-- what a call of `read_alone` gives of a place: its record, or why it has none
abbrev pub GivesAlone : CursorView → Step → Reading → Type 0
GivesAlone new step.Record found = IsSomeAnd new.current (λ r. found ≡ Spelled r)
GivesAlone new (step.End at why) found = found ≡ Stopped (Ends why)

-- a record that was read alone stands at its place, and links to one below it
pub record IsAlone (place : ℕ) (r : LogRecord) : Type 0 where
  pub whole : IsWhole r
  pub start : r.start ≡ place
  pub longer : r.start + r.header.total ≤ r.end
  pub linked : r.header.prev.0 < r.start

-- Whatever the tree holds: a cursor that read a record alone goes on where it did, as does one that found none at the
-- place, which holds no page.
abbrev pub StandsAlone : CursorView → CursorView → ℕ → Step → Type 0
StandsAlone old new place step.Record =
    IsSomeAnd new.current (IsAlone place) × (new ≡ record old { held = new.held; page = new.page; current = new.current })
StandsAlone old new place (step.End at why) = (at.0 ≡ place) × (new ≡ without_current old)

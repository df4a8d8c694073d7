-- What the steps of reading a record answer, held to the reading of its place.
use Rattle.std.specs.Prelude.{◌≡◌, ℕ, ◌+◌, ◌-◌, ◌*◌, ◌/◌, ◌%◌, ◌^◌, ◌<◌, ◌≤◌, false, min, List, ◌++◌, length, take, drop, Option, Some, None, Result, Ok, Err, IsTrue}
use Rattle.layout.specs.Readers.{u32_at, u64_at}
use Rattle.cluster_tree.specs.Frame.{Reads}
use Rattle.cluster_tree.specs.declared.tree.Tree.{Ghosts}
use Rattle.wal_pages.specs.Cursor.{PageView, Knows}
use Rattle.wal_pages.specs.Header.{header_of as page_header}
use Rattle.wal_pages.specs.Page.{Refusal}
use Rattle.wal_records.specs.declared.why.Why.{Why}
use Rattle.wal_records.specs.declared.why.Stop.{Stop}
use Rattle.wal_records.specs.declared.why.Stop.TheVariants.{Ends, Dropped}
use Rattle.wal_records.specs.declared.opening.Opened.{Opened}
use Rattle.wal_records.specs.declared.opening.Opened.TheVariants as opened
use Rattle.wal_records.specs.declared.reading.Begun.{Begun}
use Rattle.wal_records.specs.declared.reading.Begun.TheVariants as begun
use Rattle.wal_records.specs.declared.reading.Found.{Found}
use Rattle.wal_records.specs.declared.reading.Found.TheVariants as found
use Rattle.wal_records.specs.declared.search.Sought.{Sought}
use Rattle.wal_records.specs.declared.search.Sought.TheVariants as sought
use Rattle.wal_records.specs.Place.{place_at}
use Rattle.wal_records.specs.Header.{header_of, header_fault, checksum, greatest_total}
use Rattle.wal_records.specs.Extent.{is_switch}
use Rattle.wal_records.specs.Further.{Pages, why_refused, FurtherPage, stop_at, piece, Gathered}
use Rattle.wal_records.specs.Reading.{Reading, Spelled, Stopped, reading, after_first, record_of}
use Rattle.wal_records.specs.Log.{ended, with_first, log_from}
use Rattle.wal_records.specs.Spells.{LinksTo}

-- What a step of reading keeps, whatever it answers: the log of its pages, what is known of the page that is held, and the
-- tree but for its count of failed reads.
pub record Turns {F : Type 0} (tree : Ghosts F) (pages : PageView) (now : F) (new : PageView) (after : F) : Type 0 where
  pub log : new.log ≡ pages.log
  pub knows : IsTrue tree.tells → Knows pages (tree.contents now) → Knows new (tree.contents after)
  pub reads : Reads tree now after

-- why there is no page, if there is none
abbrev pub page_why : Result (List ℕ) Refusal → Option Why
page_why (Ok page) = None
page_why (Err refusal) = Some (why_refused refusal)

-- the page was opened, or is none for this reason
abbrev pub Opens : Opened → List ℕ → Result (List ℕ) Refusal → Type 0
Opens (opened.Page header) page found = found ≡ Ok page
Opens (opened.Refused why) page found = page_why found ≡ Some why

abbrev pub IsOpened : Opened → List ℕ → Type 0
IsOpened (opened.Page header) page = (length page ≡ 8192) × (header ≡ page_header page)
IsOpened (opened.Refused why) page = Unit {0}

-- a call gave the stop, or left all bytes
abbrev pub Gathers : Option Stop → List ℕ → Gathered → Type 0
Gathers None bytes found = found ≡ record { stop = None; bytes = bytes }
Gathers (Some stop) bytes found = found.stop ≡ Some stop

-- a call gave why a record doesn't go on at a page, or added what the page has of it
pub record Adds (stop : Option Stop) (old new : List ℕ) (pages : Pages) (size : ℕ) (page : FurtherPage) : Type 0 where
  pub stop_is : stop_at pages page ≡ stop
  pub bytes : stop ≡ None → new ≡ old ++ piece pages size page

-- bytes were added at the end, so many of them
pub record Grows (old new : List ℕ) (more : ℕ) : Type 0 where
  pub front : take (length old) new ≡ old
  pub size : length new ≡ length old + more

-- the bytes of a record, so far, of which `total` are to be
pub record IsPart (total : ℕ) (bytes : List ℕ) : Type 0 where
  pub least : 24 ≤ total
  pub greatest : total ≤ greatest_total
  pub front : 4 ≤ length bytes
  pub total_at : u32_at 0 bytes ≡ total

-- a call gave why a place spells no record, or left what its first page has of one
abbrev pub Begins : Pages → ℕ → Option ℕ → ℕ → Begun → List ℕ → Type 0
Begins pages size before place (begun.Stopped stop) bytes = reading pages size before place ≡ Stopped stop
Begins pages size before place (begun.Total total) bytes = reading pages size before place ≡ after_first pages size before place total bytes

-- what the first page has of a record: all that is there, or all that the record is
pub record HasFirst (place total : ℕ) (bytes : List ℕ) : Type 0 where
  pub part : IsPart total bytes
  pub first : length bytes ≡ min total (8192 - place % 8192)
  pub whole : place % 8 ≡ 0

abbrev pub FirstFits : ℕ → Begun → List ℕ → Type 0
FirstFits place (begun.Stopped stop) bytes = Unit {0}
FirstFits place (begun.Total total) bytes = HasFirst place total bytes

-- a call gave why a place spells no record, or left the bytes of one and gave its end
abbrev pub Gives : ℕ → Found → List ℕ → Reading → Type 0
Gives place (found.Stopped stop) bytes reading = reading ≡ Stopped stop
Gives place (found.Record end) bytes reading = reading ≡ Spelled (record_of place end bytes)

-- all bytes of a record at a place that ends there
pub record IsAll (place end : ℕ) (bytes : List ℕ) : Type 0 where
  pub least : 24 ≤ length bytes
  pub greatest : length bytes ≤ greatest_total
  pub total : u32_at 0 bytes ≡ length bytes
  pub longer : place + length bytes ≤ end

-- all bytes of a record, which links back as the record before it wants
pub record IsLinkedAll (before : Option ℕ) (place end : ℕ) (bytes : List ℕ) : Type 0 where
  pub all : IsAll place end bytes
  pub linked : LinksTo before place (u64_at 8 bytes)

abbrev pub AllFit : Option ℕ → ℕ → Found → List ℕ → Type 0
AllFit before place (found.Stopped stop) bytes = Unit {0}
AllFit before place (found.Record end) bytes = IsLinkedAll before place end bytes

-- a record is dropped only by a page from a position on
abbrev pub DropsFrom : ℕ → Stop → Type 0
DropsFrom from (Ends why) = Unit {0}
DropsFrom from (Dropped page) = from ≤ page

abbrev pub StopsFrom : ℕ → Option Stop → Type 0
StopsFrom from None = Unit {0}
StopsFrom from (Some stop) = DropsFrom from stop

abbrev pub BeginsFrom : ℕ → Begun → Type 0
BeginsFrom from (begun.Stopped stop) = DropsFrom from stop
BeginsFrom from (begun.Total total) = Unit {0}

abbrev pub FindsFrom : ℕ → Found → Type 0
FindsFrom from (found.Stopped stop) = DropsFrom from stop
FindsFrom from (found.Record end) = Unit {0}

-- What a search from a place finds: the log from there is the record found at a place, and the log behind it; or it is at
-- its end.
abbrev pub Seeks : Pages → ℕ → Option ℕ → ℕ → Sought → List ℕ → Type 0
Seeks pages size before place (sought.Record at end) bytes =
    log_from pages size before place ≡ with_first (record_of at end bytes) (log_from pages size (Some at) (place_at size end))
Seeks pages size before place (sought.End at why) bytes = log_from pages size before place ≡ ended at why

-- whatever the tree holds, the record that was found has its bytes, and stands no earlier
pub record IsSought (before : Option ℕ) (place at end : ℕ) (bytes : List ℕ) : Type 0 where
  pub later : place ≤ at
  pub found : IsLinkedAll before at end bytes

abbrev pub SoughtFits : Option ℕ → ℕ → Sought → List ℕ → Type 0
SoughtFits before place (sought.Record at end) bytes = IsSought before place at end bytes
SoughtFits before place (sought.End at why) bytes = Unit {0}

-- the bytes of a record that lies on its page, behind the longest header of a page
pub record IsWithin (page : List ℕ) (place : ℕ) (bytes : List ℕ) : Type 0 where
  pub behind : 40 < place % 8192
  pub aligned : place % 8 ≡ 0
  pub least : 24 ≤ length bytes
  pub fits : place % 8192 + length bytes ≤ 8192
  pub total : u32_at (place % 8192) page ≡ length bytes
  pub part : bytes ≡ take (length bytes) (drop (place % 8192) page)

-- nothing is wrong with these bytes of a record, which isn't a switch and ends there
pub record EndsWithin (before : Option ℕ) (place : ℕ) (bytes : List ℕ) (end : ℕ) : Type 0 where
  pub header : header_fault before place (header_of bytes) ≡ None
  pub plain : is_switch (header_of bytes) ≡ false
  pub sum : checksum bytes ≡ (header_of bytes).crc
  pub at : end ≡ (place + length bytes + 7) / 8 * 8
  pub low : end < 2 ^ 64

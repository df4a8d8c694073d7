-- What a place has, as the tests that a record there has to pass, in the format's order: PostgreSQL 16,
-- src/backend/access/transam/xlogreader.c, XLogDecodeNextRecord, ValidXLogRecordHeader and ValidXLogRecord.
-- Own: "The order of the reasons".
use Rattle.std.specs.Prelude.{◌≡◌, ◌⊎◌, ℕ, ◌+◌, ◌-◌, ◌%◌, ◌^◌, ◌==◌, ◌<◌, ◌≤◌, true, false, List, [], ◌∷◌, ◌++◌, map, take, drop, length, Option, Result, Ok, Err, IsOk, nat_lt, if◌then◌else◌}
use Rattle.std.specs.List.{flat_map}
use Rattle.layout.specs.Readers.{u32_at}
use Rattle.wal_base.specs.Segment.{bytes_of}
use Rattle.wal_pages.specs.declared.log_path.LogPath.{LogPath}
use Rattle.wal_pages.specs.declared.header.PageHeader.{PageHeader}
use Rattle.wal_pages.specs.Folder.{Folder}
use Rattle.wal_pages.specs.Header.{header_of as page_header, header_size, page_of, has_bit}
use Rattle.wal_pages.specs.Page.{Refusal, page_at}
use Rattle.wal_records.specs.declared.why.Why.{Why}
use Rattle.wal_records.specs.declared.why.Why.TheVariants as why
use Rattle.wal_records.specs.declared.why.Stop.{Stop}
use Rattle.wal_records.specs.declared.why.Stop.TheVariants.{Ends, Dropped}
use Rattle.wal_records.specs.Header.{header_of, checksum, greatest_total}
use Rattle.wal_records.specs.Further.{Pages, FurtherPage, why_refused, further, piece}
use Rattle.wal_records.specs.Reading.{Reading, Spelled, Stopped, sealed_end}
use Rattle.wal_records.specs.Spells.{Spells, LinksTo}

-- A test of a record at a place: where it stands, its first page, that no other record goes on there, its length, a further
-- page, its manager, its link, its end, and its checksum.
pub data Test : Type 0 where
  Stands : Test
  HasPage : Test
  Begins : Test
  HasLength : Test
  GoesOn : (page : FurtherPage) → Test
  HasManager : Test
  Links : Test
  EndsBelow : Test
  HasSum : Test

-- the bytes of a page, if it is there
abbrev pub bytes_in : Result (List ℕ) Refusal → List ℕ
bytes_in (Ok page) = page
bytes_in (Err refusal) = []

-- how many bytes the record has, by what stands at its place; and those of them that its first page has
abbrev pub announced : Pages → ℕ → ℕ
announced pages place = u32_at (place % 8192) (bytes_in (pages (page_of place)))

abbrev pub on_first : Pages → ℕ → List ℕ
on_first pages place = take (announced pages place) (drop (place % 8192) (bytes_in (pages (page_of place))))

-- its further pages; of them that on which its header goes on, if it does; and the others
abbrev pub behind_first : Pages → ℕ → ℕ → List FurtherPage
behind_first pages size place = further size (page_of place + 8192) (announced pages place - length (on_first pages place))

abbrev pub under_header : Pages → ℕ → ℕ
under_header pages place = if nat_lt (length (on_first pages place)) 24 then 1 else 0

abbrev pub header_pages : Pages → ℕ → ℕ → List FurtherPage
header_pages pages size place = take (under_header pages place) (behind_first pages size place)

abbrev pub body_pages : Pages → ℕ → ℕ → List FurtherPage
body_pages pages size place = drop (under_header pages place) (behind_first pages size place)

-- its bytes up to the page on which its header ends, and all of them
abbrev pub front_bytes : Pages → ℕ → ℕ → List ℕ
front_bytes pages size place = on_first pages place ++ flat_map (piece pages size) (header_pages pages size place)

abbrev pub all_bytes : Pages → ℕ → ℕ → List ℕ
all_bytes pages size place = front_bytes pages size place ++ flat_map (piece pages size) (body_pages pages size place)

-- the tests of a place, in their order
abbrev pub last_tests : List Test
last_tests = EndsBelow ∷ HasSum ∷ []

abbrev pub header_tests : List FurtherPage → List Test
header_tests body = HasManager ∷ Links ∷ (map GoesOn body ++ last_tests)

abbrev pub tests : Pages → ℕ → ℕ → List Test
tests pages size place =
    Stands ∷ HasPage ∷ Begins ∷ HasLength ∷ (map GoesOn (header_pages pages size place) ++ header_tests (body_pages pages size place))

-- a page announces how many bytes of the record are still to come, and doesn't say that it was dropped
pub record Announces (header : PageHeader) (left : ℕ) : Type 0 where
  pub kept : has_bit header.info 8 ≡ false
  pub goes_on : has_bit header.info 1 ≡ true
  pub remaining : header.remaining ≡ left

abbrev pub Continues : FurtherPage → Result (List ℕ) Refusal → Type 0
Continues page (Err refusal) = ⊥
Continues page (Ok bytes) = Announces (page_header bytes) page.left

-- what holds where a record passes a test
abbrev pub Passes : Pages → ℕ → Option ℕ → ℕ → Test → Type 0
Passes pages size before place Stands = (place % 8 ≡ 0) × (header_size size (page_of place) ≤ place % 8192)
Passes pages size before place HasPage = IsOk (pages (page_of place))
Passes pages size before place Begins =
    place % 8192 ≡ header_size size (page_of place) → has_bit (page_header (bytes_in (pages (page_of place)))).info 1 ≡ false
Passes pages size before place HasLength = (24 ≤ announced pages place) × (announced pages place ≤ greatest_total)
Passes pages size before place (GoesOn page) = Continues page (pages page.at)
Passes pages size before place HasManager =
    22 ≤ (header_of (front_bytes pages size place)).manager → 128 ≤ (header_of (front_bytes pages size place)).manager
Passes pages size before place Links = LinksTo before place (header_of (front_bytes pages size place)).prev.0
Passes pages size before place EndsBelow = sealed_end size place (announced pages place) (all_bytes pages size place) < 2 ^ 64
Passes pages size before place HasSum = checksum (all_bytes pages size place) ≡ (header_of (all_bytes pages size place)).crc

-- why a page that is needed is none: it isn't there, or isn't valid
abbrev pub why_no_page : Result (List ℕ) Refusal → Why
why_no_page (Err refusal) = why_refused refusal
why_no_page (Ok page) = why.Page

-- why a length is none
abbrev pub why_no_length : ℕ → Why
why_no_length total = if total == 0 then why.ZeroLength else if nat_lt total 24 then why.ShortLength else why.TooLong

-- what a further page says that doesn't announce what is to come
abbrev pub told_of : FurtherPage → Result (List ℕ) Refusal → Stop
told_of page (Err refusal) = Ends (why_refused refusal)
told_of page (Ok bytes) = if has_bit (page_header bytes).info 8 then Dropped page.at else Ends why.Continuation

-- what is told where a record fails a test: one thing each
abbrev pub told : Pages → ℕ → ℕ → Test → Stop
told pages size place Stands = Ends why.Place
told pages size place HasPage = Ends (why_no_page (pages (page_of place)))
told pages size place Begins = Ends why.Continuation
told pages size place HasLength = Ends (why_no_length (announced pages place))
told pages size place (GoesOn page) = told_of page (pages page.at)
told pages size place HasManager = Ends why.Manager
told pages size place Links = Ends why.Prev
told pages size place EndsBelow = Ends why.NoSegment
told pages size place HasSum = Ends why.Crc

-- the first of some tests that fails tells this
abbrev pub FailsFirst : (Test → Type 0) → (Test → Stop) → List Test → Stop → Type 0
FailsFirst Holds tells [] stop = ⊥
FailsFirst Holds tells (test ∷ rest) stop = ((Holds test → ⊥) × (stop ≡ tells test)) ⊎ (Holds test × FailsFirst Holds tells rest stop)

-- A place has a record where it spells it; and else what the first test tells that fails: that the record was dropped, or
-- why the log ends there.
abbrev pub HasOutcome : LogPath → Folder → Option ℕ → ℕ → Reading → Type 0
HasOutcome log files before place (Spelled r) = Spells log files before place r
HasOutcome log files before place (Stopped stop) =
    let pages = page_at log files in
    let size = bytes_of log.size in
    FailsFirst (Passes pages size before place) (told pages size place) (tests pages size place) stop

-- What a place of the log has: a record, a record that was dropped, or the one reason why the log ends there.
-- PostgreSQL 16, src/backend/access/transam/xlogreader.c, XLogDecodeNextRecord. Own: "The order of the reasons".
use Rattle.std.specs.Prelude.{ℕ, ◌+◌, ◌-◌, ◌%◌, ◌^◌, ◌==◌, ◌&&◌, Bool, List, ◌++◌, take, drop, length, Option, Some, None, Result, Ok, Err, nat_lt, nat_le, if◌then◌else◌}
use Rattle.layout.specs.Readers.{u32_at}
use Rattle.wal_pages.specs.Header.{header_of as page_header, header_size, page_of, has_bit}
use Rattle.wal_pages.specs.Page.{Refusal}
use Rattle.wal_records.specs.declared.header.RecordHeader.{RecordHeader}
use Rattle.wal_records.specs.declared.why.Why.{Why}
use Rattle.wal_records.specs.declared.why.Why.TheVariants as why
use Rattle.wal_records.specs.declared.why.Stop.{Stop}
use Rattle.wal_records.specs.declared.why.Stop.TheVariants.{Ends, Dropped}
use Rattle.wal_records.specs.Place.{is_place}
use Rattle.wal_records.specs.Header.{header_of, length_fault, header_fault, checksum}
use Rattle.wal_records.specs.Further.{Pages, FurtherPage, further_page, why_refused, room, further, stop_at, piece, Gathered, gathered}
use Rattle.wal_records.specs.Extent.{behind_of, end_of}

-- a record of the log: where its first byte stands, where it ends, its header, and the bytes behind that
pub record LogRecord : Type 0 where
  pub start : ℕ
  pub end : ℕ
  pub header : RecordHeader
  pub body : List ℕ

-- what a place has: a record, or why it has none
pub data Reading : Type 0 where
  Spelled : LogRecord → Reading
  Stopped : Stop → Reading

abbrev pub ends : Option Why → Option Stop
ends None = None
ends (Some why) = Some (Ends why)

abbrev pub unless : Option Stop → Reading → Reading
unless (Some stop) reading = Stopped stop
unless None reading = reading

-- the record at a place that ends there and has these bytes
abbrev pub record_of : ℕ → ℕ → List ℕ → LogRecord
record_of place end bytes = record { start = place; end = end; header = header_of bytes; body = drop 24 bytes }

-- where the record of these bytes ends
abbrev pub sealed_end : ℕ → ℕ → ℕ → List ℕ → ℕ
sealed_end size place total bytes = end_of size (header_of bytes) (behind_of size place total)

-- the record at a place, from all its bytes
abbrev pub sealed : ℕ → ℕ → ℕ → List ℕ → LogRecord
sealed size place total bytes = record_of place (sealed_end size place total bytes) bytes

-- What is wrong with a record that is whole: no record ends at 2 ^ 64, and its checksum has to be that of its bytes.
abbrev pub seal_fault : ℕ → ℕ → ℕ → List ℕ → Option Why
seal_fault size place total bytes =
    if nat_le (2 ^ 64) (sealed_end size place total bytes) then Some why.NoSegment
    else if checksum bytes == (header_of bytes).crc then None
    else Some why.Crc

-- last, all bytes are there
unfoldable pub after_rest : ℕ → ℕ → ℕ → Gathered → Reading
after_rest size place total found =
    unless found.stop (unless (ends (seal_fault size place total found.bytes)) (Spelled (sealed size place total found.bytes)))

-- the header is there: what is wrong with it, and then the further pages of the body
unfoldable pub after_header : Pages → ℕ → Option ℕ → ℕ → ℕ → List FurtherPage → List ℕ → Reading
after_header pages size before place total rest bytes =
    unless (ends (header_fault before place (header_of bytes))) (after_rest size place total (gathered pages size bytes rest))

-- the header goes on at the next page
unfoldable pub after_front : Pages → ℕ → Option ℕ → ℕ → ℕ → FurtherPage → List ℕ → Reading
after_front pages size before place total next first =
    unless (stop_at pages next) (after_header pages size before place total
    (further size (next.at + 8192) (next.left - room size next.at)) (first ++ piece pages size next))

-- the first page is there, and has this of the record
unfoldable pub after_first : Pages → ℕ → Option ℕ → ℕ → ℕ → List ℕ → Reading
after_first pages size before place total first =
    let page = page_of place + 8192 in
    let left = total - length first in
    if nat_lt (length first) 24 then after_front pages size before place total (further_page page left) first
    else after_header pages size before place total (further size page left) first

-- the place stands right behind the header of a page whose first bytes go on with a record
abbrev pub continues_at : ℕ → ℕ → ℕ → Bool
continues_at size place info = place % 8192 == header_size size (page_of place) && has_bit info 1

unfoldable pub reading_in : Pages → ℕ → Option ℕ → ℕ → Result (List ℕ) Refusal → Reading
reading_in pages size before place (Err refusal) = Stopped (Ends (why_refused refusal))
reading_in pages size before place (Ok page) =
    if continues_at size place (page_header page).info then Stopped (Ends why.Continuation)
    else let total = u32_at (place % 8192) page in
    unless (ends (length_fault total)) (after_first pages size before place total (take total (drop (place % 8192) page)))

-- what a place has, behind the start of the record before it, where there is one
unfoldable pub reading : Pages → ℕ → Option ℕ → ℕ → Reading
reading pages size before place =
    if is_place size place then reading_in pages size before place (pages (page_of place))
    else Stopped (Ends why.Place)

-- what is told of a place by itself: a record that was dropped there doesn't go on
abbrev pub alone : Reading → Reading
alone (Spelled r) = Spelled r
alone (Stopped (Ends why)) = Stopped (Ends why)
alone (Stopped (Dropped page)) = Stopped (Ends why.Continuation)

-- what a place has by itself: a record there links to one below its own place. Own: "A record that is read alone".
abbrev pub lone : Pages → ℕ → ℕ → Reading
lone pages size place = alone (reading pages size None place)

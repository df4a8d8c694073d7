-- How far on a record ends.
use Rattle.std.proofs.Common.{◌≡◌, ℕ, zero, suc, ◌+◌, ◌-◌, ◌*◌, ◌/◌, ◌%◌, ◌^◌, ◌<◌, ◌≤◌, min, Bool, true, false, cond, length, Option, inl, inr, arith}
use Rattle.std.proofs.lemmas.Bool.{cases_lt}
use Rattle.std.proofs.lemmas.Nat.{div-add-mod'}
use Rattle.wal_base.specs.Segment.{bytes_of}
use Rattle.wal_pages.specs.Header.{header_size, page_of}
use Rattle.wal_records.specs.declared.header.RecordHeader.{RecordHeader}
use Rattle.wal_records.specs.declared.log_origin.LogOrigin.{LogOrigin}
use Rattle.wal_records.specs.Place.{place_at, segment_end_at}
use Rattle.wal_records.specs.Header.{header_of, greatest_total}
use Rattle.wal_records.specs.Further.{further, room}
use Rattle.wal_records.specs.Extent.{behind_in, behind_of, is_switch, end_of}
use Rattle.wal_records.specs.Writer.{NewRecord, record_bytes, end_from}
use Rattle.wal_records.proofs.FurtherLemmas.{header_short, room_some}
use Rattle.wal_records.proofs.ExtentLemmas.{behind_more, behind_done}
use Rattle.wal_records.proofs.WriterLemmas.{length_record_bytes, header_and_room}

pages_near : (size n behind page left : ℕ) → left ≤ n → 0 < left → behind_in size behind (further size page left) ≤ page + 40 + 2 * left
pages_near size zero behind page left a b = absurd (omega arith)
pages_near size (suc n) behind page left a b =
    let next : ℕ = page + (header_size size page + min left (room size page)) in
    let more = behind_more size behind page left b in
    elim (cases_lt 0 (left - room size page)) [
      | inl some ↦
          let rest = pages_near size n next (page + 8192) (left - room size page) (omega (arith, room_some size page)) some in
          omega (arith, more, rest, header_and_room size page, header_short size page)
      | inr none ↦ omega (arith, more, behind_done size next (page + 8192) (left - room size page) (omega arith), header_short size page)
    ]

behind_near : (size place total : ℕ) → behind_of size place total ≤ place + 8232 + 2 * total
unfolding behind_of
behind_near size place total =
    let first : ℕ = min total (8192 - place % 8192) in
    elim (cases_lt 0 (total - first)) [
      | inl some ↦ let more = pages_near size (total - first) (place + first) (page_of place + 8192) (total - first) (omega arith) some in omega (arith, more)
      | inr none ↦ omega (arith, behind_done size (place + first) (page_of place + 8192) (total - first) (omega arith))
    ]

near_cond : (b : Bool) (x y most : ℕ) → x ≤ most → y ≤ most → cond b x y ≤ most
near_cond true x y most e f = e
near_cond false x y most e f = f

one_more : (a n : ℕ) → (a + 1) * n ≡ a * n + n
one_more a n = omega arith

segment_near : (size at : ℕ) → segment_end_at size at ≤ at + size
segment_near size at = omega (arith, div-add-mod' at size, one_more (at / size) size)

end_of_near : (size : ℕ) (header : RecordHeader) (behind : ℕ) → 7 ≤ size → end_of size header behind ≤ behind + size
end_of_near size header behind s =
    near_cond (is_switch header) (segment_end_at size (behind - 1)) ((behind + 7) / 8 * 8) (behind + size) (omega (arith, segment_near size (behind - 1))) (omega arith)

place_near : (size at : ℕ) → place_at size at ≤ at + 40
place_near size at = grind arith

-- a record ends less than 2 ^ 32 bytes behind where it is appended
pub ends_near : (o : LogOrigin) (before : Option ℕ) (at : ℕ) (r : NewRecord) → 24 + length r.body ≤ greatest_total → end_from o before at r ≤ at + 2 ^ 32
unfolding end_from
ends_near o before at r h =
    let size : ℕ = bytes_of o.size in
    let total : ℕ = length (record_bytes before r) in
    let place : ℕ = place_at size at in
    let end = end_of_near size (header_of (record_bytes before r)) (behind_of size place total) (omega (arith, o.size.is_size.least)) in
    omega (arith, end, behind_near size place total, place_near size at, length_record_bytes before r, o.size.is_size.greatest)

-- Where a record ends, page after page, and that its end is behind all its bytes.
use Rattle.std.proofs.Common.{◌≡◌, ℕ, zero, suc, ◌+◌, ◌-◌, ◌*◌, ◌/◌, ◌%◌, ◌^◌, ◌<◌, ◌≤◌, min, Bool, true, false, cond, ap, arith, inl, inr}
use Rattle.std.proofs.lemmas.Bool.{cases_lt}
use Rattle.std.proofs.lemmas.Nat.{div-add-mod', mod_below}
use Rattle.wal_pages.specs.Header.{header_size, page_of}
use Rattle.wal_records.specs.declared.header.RecordHeader.{RecordHeader}
use Rattle.wal_records.specs.Place.{segment_end_at}
use Rattle.wal_records.specs.Further.{further, room}
use Rattle.wal_records.specs.Extent.{behind_in, behind_of, is_switch, end_of}
use Rattle.wal_records.proofs.FurtherLemmas.{further_none, further_more, header_short, room_some}

-- one page more of a record
pub behind_more : (size behind page left : ℕ) → 0 < left → behind_in size behind (further size page left) ≡ behind_in size (page + (header_size size page + min left (room size page))) (further size (page + 8192) (left - room size page))
behind_more size behind page left some = ap (behind_in size behind) (further_more size page left some)

pub behind_done : (size behind page left : ℕ) → left ≡ 0 → behind_in size behind (further size page left) ≡ behind
behind_done size behind page left e = ap (behind_in size behind) (further_none size page left e)

pub behind_at : (size a b p q left more : ℕ) → a ≡ b → p ≡ q → left ≡ more → behind_in size a (further size p left) ≡ behind_in size b (further size q more)
behind_at size a b p q left more x y z = cc

pub behind_start : (size place total number first : ℕ) → number ≡ place / 8192 → first ≡ min total (8192 - place % 8192) → behind_in size (number * 8192 + (place % 8192 + first)) (further size ((number + 1) * 8192) (total - first)) ≡ behind_of size place total
unfolding behind_of
behind_start size place total number first n f = behind_at size _ _ _ _ _ _ (omega (arith, n, f)) (omega (arith, n)) (omega (arith, f))

-- the bytes that are still to come stand behind those that are there
pub bytes_behind : (size n behind page left : ℕ) → left ≤ n → behind ≤ page → behind + left ≤ behind_in size behind (further size page left)
bytes_behind size zero behind page left fits up = omega (arith, behind_done size behind page left (omega arith))
bytes_behind size (suc n) behind page left fits up =
    elim (cases_lt 0 left) [
      | inl some ↦
          let next : ℕ = page + (header_size size page + min left (room size page)) in
          let more = bytes_behind size n next (page + 8192) (left - room size page) (omega (arith, room_some size page)) (omega (arith, header_short size page)) in
          omega (arith, behind_more size behind page left some, more, header_short size page)
      | inr none ↦ omega (arith, behind_done size behind page left (omega arith))
    ]

pub all_behind : (size place total : ℕ) → place + total ≤ behind_of size place total
unfolding behind_of
all_behind size place total =
    let first : ℕ = min total (8192 - place % 8192) in
    let more = bytes_behind size (total - first) (place + first) (page_of place + 8192) (total - first) (omega arith) (omega arith) in
    omega (arith, more)

-- a record that goes on past all segments
pub behind_past : (size behind page left : ℕ) → 0 < left → 2 ^ 64 ≤ page → 2 ^ 64 ≤ behind_in size behind (further size page left)
behind_past size behind page left some high =
    let next : ℕ = page + (header_size size page + min left (room size page)) in
    let more = bytes_behind size (left - room size page) next (page + 8192) (left - room size page) (omega arith) (omega (arith, header_short size page)) in
    omega (arith, behind_more size behind page left some, more)

one_more : (a n : ℕ) → (a + 1) * n ≡ a * n + n
one_more a n = omega arith

up_segment : (size last : ℕ) → 0 < size → 0 < last → last ≤ segment_end_at size (last - 1)
up_segment size last s h = omega (arith, div-add-mod' (last - 1) size, mod_below (last - 1) size s, one_more ((last - 1) / size) size)

up_cond : (last : ℕ) (b : Bool) (x y : ℕ) → last ≤ x → last ≤ y → last ≤ cond b x y
up_cond last true x y a b = a
up_cond last false x y a b = b

pub end_behind : (size behind : ℕ) (header : RecordHeader) → 0 < size → 0 < behind → behind ≤ end_of size header behind
end_behind size behind header s h =
    let next : behind ≤ (behind + 7) / 8 * 8 = omega arith in
    up_cond behind (is_switch header) (segment_end_at size (behind - 1)) ((behind + 7) / 8 * 8) (up_segment size behind s h) next

pub end_up : (size place total : ℕ) (header : RecordHeader) → 0 < size → 0 < total → place + total ≤ end_of size header (behind_of size place total)
end_up size place total header s t =
    let all = all_behind size place total in
    let end = end_behind size (behind_of size place total) header s (omega (arith, all)) in
    omega (arith, all, end)

-- The bytes of records and of page headers: how many there are.
use Rattle.std.proofs.Common.{◌≡◌, ℕ, zero, suc, ◌+◌, ◌-◌, ◌%◌, ◌/◌, ◌≤◌, ◌<◌, ◌++◌, List, [], take, drop, length, min, Option, refl, sym, ap, ◌∙◌, arith, length-append, length-take, length-drop, ◌*◌, mul_assoc, ◌^◌, inl, inr, ◌⊎◌}
use Rattle.std.specs.List.{flat_map}
use Rattle.std.proofs.lemmas.List.{append-nil, take_min}
use Rattle.std.proofs.lemmas.Bool.{cases_lt, cases_eq}
use Rattle.std.proofs.lemmas.Nat.{div-add-mod'}
use Rattle.byteorder.specs.Endian.{little_bytes}
use Rattle.wal_base.specs.Segment.{bytes_of}
use Rattle.wal_base.specs.Crc.{crc32c}
use Rattle.wal_pages.specs.Header.{header_size, page_of}
use Rattle.wal_records.specs.declared.log_origin.LogOrigin.{LogOrigin}
use Rattle.wal_records.specs.Further.{further_page, room, further}
use Rattle.wal_records.specs.Writer.{NewRecord, short_header, long_header, page_header, record_front, record_bytes, page_part, pages_from, laid, lead}
use Rattle.wal_records.specs.Zeros.{ZeroEnded, with_bytes}
use Rattle.wal_records.proofs.FurtherLemmas.{further_none, further_more, room_some}
use Rattle.wal_records.proofs.ExtentLemmas.{behind_more, behind_done}
use Rattle.wal_records.specs.Extent.{behind_in, behind_of}
use Rattle.wal_records.specs.Place.{place_at}
use Rattle.wal_records.proofs.ZerosLemmas.{with_twice}

pub length-short_header : (o : LogOrigin) (at remaining : ℕ) → length (short_header o at remaining) ≡ 24
unfolding short_header
length-short_header o at remaining = refl

pub length-long_header : (o : LogOrigin) → length (long_header o) ≡ 16
unfolding long_header
length-long_header o = refl

pub length-record_front : (before : Option ℕ) (r : NewRecord) → length (record_front before r) ≡ 20
unfolding record_front
length-record_front before r = refl

pub length_record_bytes : (before : Option ℕ) (r : NewRecord) → length (record_bytes before r) ≡ 24 + length r.body
unfolding record_bytes
length_record_bytes before r =
    let front : List ℕ = record_front before r in
    let sum : List ℕ = little_bytes 4 (crc32c (r.body ++ front)) in
    length-append (front ++ sum) r.body ∙ ap (λ n. n + length r.body) (length-append front sum ∙ ap (λ n. n + 4) (length-record_front before r))

pub long_page_header : (o : LogOrigin) (at remaining : ℕ) → at % bytes_of o.size ≡ 0 → page_header o at remaining ≡ short_header o at remaining ++ long_header o
unfolding page_header
long_page_header o at remaining e = rw e refl

pub short_page_header : (o : LogOrigin) (at remaining : ℕ) → (at % bytes_of o.size ≡ 0 → ⊥) → page_header o at remaining ≡ short_header o at remaining
unfolding page_header
short_page_header o at remaining e = grind (arith, append-nil (short_header o at remaining))

-- the length of a page's header is what its reader expects
pub length-page_header : (o : LogOrigin) (at remaining : ℕ) → length (page_header o at remaining) ≡ header_size (bytes_of o.size) at
unfolding page_header
length-page_header o at remaining = grind (arith, length-append, length-short_header o at remaining, length-long_header o)

pub added_long : (o : LogOrigin) (at remaining : ℕ) (z : ZeroEnded) → at % bytes_of o.size ≡ 0
    → with_bytes (with_bytes z (short_header o at remaining)) (long_header o) ≡ with_bytes z (page_header o at remaining)
added_long o at remaining z e = with_twice z (short_header o at remaining) (long_header o) ∙ ap (with_bytes z) (sym (long_page_header o at remaining e))

pub long_size : (size at : ℕ) → at % size ≡ 0 → header_size size at ≡ 40
long_size size at e = rw e refl

pub pages_none : (o : LogOrigin) (bytes : List ℕ) (page left : ℕ) → left ≡ 0 → pages_from o bytes page left ≡ []
pages_none o bytes page left e = ap (flat_map (page_part o bytes)) (further_none (bytes_of o.size) page left e)

pub pages_more : (o : LogOrigin) (bytes : List ℕ) (page left : ℕ) → 0 < left
    → pages_from o bytes page left ≡ page_part o bytes (further_page page left) ++ pages_from o bytes (page + 8192) (left - room (bytes_of o.size) page)
pages_more o bytes page left h = ap (flat_map (page_part o bytes)) (further_more (bytes_of o.size) page left h)

-- a record on its first page, and on the further ones
pub laid_is : (o : LogOrigin) (place : ℕ) (bytes : List ℕ)
    → laid o place bytes ≡ take (8192 - place % 8192) bytes ++ pages_from o bytes (page_of place + 8192) (length bytes - (8192 - place % 8192))
unfolding laid
laid_is o place bytes = refl

-- as many bytes as are there
pub take_most : (k n : ℕ) (l : List ℕ) → k ≡ min (length l) n → take k l ≡ take n l
take_most k n l e = let m : k ≡ min n (length l) = omega arith in ap (λ (i : ℕ). take i l) m ∙ take_min n l

pub parts_length : (a b d : List ℕ) (n : ℕ) → length a ≡ n → length ((a ++ b) ++ d) ≡ n + length b + length d
parts_length a b d n e = length-append (a ++ b) d ∙ ap (λ (k : ℕ). k + length d) (length-append a b ∙ ap (λ (k : ℕ). k + length b) e)

-- the further pages from one on are that page, and those behind it
pub pages_step : (o : LogOrigin) (bytes : List ℕ) (number from taken : ℕ) → from < length bytes → taken ≡ min (length bytes - from) (room (bytes_of o.size) (number * 8192))
    → pages_from o bytes (number * 8192) (length bytes - from)
    ≡ (page_header o (number * 8192) (length bytes - from) ++ take (from + taken - from) (drop from bytes)) ++ pages_from o bytes ((number + 1) * 8192) (length bytes - (from + taken))
pages_step o bytes number from taken h e =
    let left : ℕ = length bytes - from in
    let space : ℕ = room (bytes_of o.size) (number * 8192) in
    let here : length bytes - left ≡ from = omega arith in
    let much : from + taken - from ≡ min (length (drop from bytes)) space = omega (arith, length-drop from bytes) in
    let page : number * 8192 + 8192 ≡ (number + 1) * 8192 = omega arith in
    let more : left - space ≡ length bytes - (from + taken) = omega arith in
    pages_more o bytes (number * 8192) left (omega arith)
    ∙ ap (λ (k : ℕ). (page_header o (number * 8192) left ++ take space (drop k bytes)) ++ pages_from o bytes (number * 8192 + 8192) (left - space)) here
    ∙ ap (λ (t : List ℕ). (page_header o (number * 8192) left ++ t) ++ pages_from o bytes (number * 8192 + 8192) (left - space)) (sym (take_most (from + taken - from) space (drop from bytes) much))
    ∙ ap (λ (q : ℕ). (page_header o (number * 8192) left ++ take (from + taken - from) (drop from bytes)) ++ pages_from o bytes q (left - space)) page
    ∙ ap (λ (k : ℕ). (page_header o (number * 8192) left ++ take (from + taken - from) (drop from bytes)) ++ pages_from o bytes ((number + 1) * 8192) k) more

-- a record's first page, and its further ones
pub pages_begin : (o : LogOrigin) (place : ℕ) (bytes : List ℕ) (first : ℕ) → first ≡ min (length bytes) (8192 - place % 8192)
    → take first bytes ++ pages_from o bytes ((place / 8192 + 1) * 8192) (length bytes - first) ≡ laid o place bytes
pages_begin o place bytes first e =
    let space : ℕ = 8192 - place % 8192 in
    let page : (place / 8192 + 1) * 8192 ≡ page_of place + 8192 = omega arith in
    let left : length bytes - first ≡ length bytes - space = omega arith in
    ap (λ (t : List ℕ). t ++ pages_from o bytes ((place / 8192 + 1) * 8192) (length bytes - first)) (take_most first space bytes e)
    ∙ ap (λ (q : ℕ). take space bytes ++ pages_from o bytes q (length bytes - first)) page
    ∙ ap (λ (k : ℕ). take space bytes ++ pages_from o bytes (page_of place + 8192) k) left
    ∙ sym (laid_is o place bytes)

pub header_and_room : (size at : ℕ) → header_size size at + room size at ≡ 8192
header_and_room size at = grind arith

-- the header of a page that a record begins on
pub lead_first : (o : LogOrigin) (at : ℕ) → at ≡ o.start → lead o at ≡ []
unfolding lead
lead_first o at e = rw e (grind arith)

pub lead_page : (o : LogOrigin) (at : ℕ) → (at ≡ o.start → ⊥) → at % 8192 ≡ 0 → lead o at ≡ page_header o at 0
unfolding lead
lead_page o at n e = grind arith

pub lead_none : (o : LogOrigin) (at : ℕ) → (at % 8192 ≡ 0 → ⊥) → lead o at ≡ []
unfolding lead
lead_none o at n = grind arith

-- a segment begins with a page
pub starts_page : (start size m : ℕ) → start % size ≡ 0 → size ≡ m * 2 ^ 20 → start % 8192 ≡ 0
starts_page start size m e f =
    let whole : start / size * size + start % size ≡ start = div-add-mod' start size in
    let parts : start / size * size ≡ start / size * m * 2 ^ 20 = ap (λ n. start / size * n) f ∙ sym (mul_assoc (start / size) m (2 ^ 20)) in
    omega (arith, whole, parts)

pub place_of_page : (size at : ℕ) → at % 8192 ≡ 0 → place_at size at ≡ at + header_size size at
place_of_page size at e = rw e refl

pub place_inside : (size at : ℕ) → (at % 8192 ≡ 0 → ⊥) → place_at size at ≡ at
place_inside size at e = grind arith

-- what stands before a record's place
pub lead_reaches : (o : LogOrigin) (at size : ℕ) → o.start % bytes_of o.size ≡ 0 → o.start % 8192 ≡ 0
    → ((at ≡ o.start) × (size ≡ 40)) ⊎ ((o.start < at) × (o.start + size ≡ at)) → o.start + size + length (lead o at) ≡ place_at (bytes_of o.size) at
lead_reaches o at size s p (inl first) =
    let none = ap length (lead_first o at first.0) in
    let long : header_size (bytes_of o.size) at ≡ 40 = long_size (bytes_of o.size) at (ap (λ n. n % bytes_of o.size) first.0 ∙ s) in
    let place : place_at (bytes_of o.size) at ≡ at + header_size (bytes_of o.size) at = place_of_page (bytes_of o.size) at (ap (λ n. n % 8192) first.0 ∙ p) in
    omega (arith, none, long, place, first.0, first.1)
lead_reaches o at size s p (inr later) =
    elim (cases_eq (at % 8192) 0) [
      | inl page ↦ omega (arith, ap length (lead_page o at (λ e. omega (arith, e, later.0)) page), length-page_header o at 0, place_of_page (bytes_of o.size) at page, later.1)
      | inr other ↦ omega (arith, ap length (lead_none o at other), place_inside (bytes_of o.size) at other, later.1)
    ]

-- the bytes of a record reach to the position behind its last one
pages_reach : (o : LogOrigin) (bytes : List ℕ) (n behind page left : ℕ) → left ≤ n → left ≤ length bytes → 0 < left
    → behind_in (bytes_of o.size) behind (further (bytes_of o.size) page left) ≡ page + length (pages_from o bytes page left)
pages_reach o bytes zero behind page left a b c = absurd (omega arith)
pages_reach o bytes (suc n) behind page left a b c =
    let size : ℕ = bytes_of o.size in
    let header : List ℕ = page_header o page left in
    let piece : List ℕ = take (room size page) (drop (length bytes - left) bytes) in
    let next : List ℕ = pages_from o bytes (page + 8192) (left - room size page) in
    let parts = ap length (pages_more o bytes page left c) ∙ parts_length header piece next (header_size size page) (length-page_header o page left) in
    let piece_size : length piece ≡ min left (room size page) = length-take (room size page) (drop (length bytes - left) bytes) ∙ omega (arith, length-drop (length bytes - left) bytes) in
    let more = behind_more size behind page left c in
    elim (cases_lt 0 (left - room size page)) [
      | inl some ↦
          let rest = pages_reach o bytes n (page + (header_size size page + min left (room size page))) (page + 8192) (left - room size page) (omega (arith, room_some size page)) (omega arith) some in
          omega (arith, more, rest, parts, piece_size, header_and_room size page)
      | inr none ↦
          let done = behind_done size (page + (header_size size page + min left (room size page))) (page + 8192) (left - room size page) (omega arith) in
          let last = ap length (pages_none o bytes (page + 8192) (left - room size page) (omega arith)) in
          omega (arith, more, done, last, parts, piece_size)
    ]

pub laid_reaches : (o : LogOrigin) (place : ℕ) (bytes : List ℕ) → place + length (laid o place bytes) ≡ behind_of (bytes_of o.size) place (length bytes)
unfolding behind_of
laid_reaches o place bytes =
    let size : ℕ = bytes_of o.size in
    let space : ℕ = 8192 - place % 8192 in
    let first : ℕ = min (length bytes) space in
    let page : ℕ = page_of place + 8192 in
    let left : ℕ = length bytes - first in
    let same : length bytes - space ≡ left = omega arith in
    let parts = ap length (laid_is o place bytes) ∙ length-append (take space bytes) (pages_from o bytes page (length bytes - space)) ∙ ap (λ k. length (take space bytes) + length (pages_from o bytes page k)) same in
    let begins : length (take space bytes) ≡ first = length-take space bytes ∙ omega arith in
    elim (cases_lt 0 left) [
      | inl some ↦ let more = pages_reach o bytes left (place + first) page left (omega arith) (omega arith) some in omega (arith, parts, begins, more)
      | inr none ↦ omega (arith, parts, begins, behind_done size (place + first) page left (omega arith), ap length (pages_none o bytes page left (omega arith)))
    ]

-- The bytes of a log that was written are bytes.
use Rattle.std.proofs.Common.{ℕ, zero, suc, ◌+◌, ◌-◌, ◌/◌, ◌%◌, ◌^◌, ◌==◌, ◌<◌, Bool, true, false, cond, List, [], ◌∷◌, ◌++◌, length, take, drop, Option, lit<, arith}
use Rattle.std.specs.Prelude.{replicate}
use Rattle.std.specs.Int.{byte_at, bytes_low_first}
use Rattle.std.specs.List.{AllByRecursion, flat_map, fold}
use Rattle.byteorder.specs.Endian.{little_bytes}
use Rattle.layout_readers.specs.Rows.{AreBytes}
use Rattle.wal_base.specs.Crc.{crc32c}
use Rattle.wal_base.specs.Segment.{bytes_of}
use Rattle.wal_pages.specs.Header.{page_of}
use Rattle.wal_records.specs.Extent.{behind_of}
use Rattle.wal_records.specs.Further.{FurtherPage, further, room}
use Rattle.wal_records.specs.Place.{place_at}
use Rattle.wal_records.specs.Writer.{NewRecord, Written, appended, begun, end_from, in_pages, laid, lead, link_to, long_header, page_header, page_info, page_part, pages_from, record_bytes, record_front, short_header, whole_pages, written}
use Rattle.wal_records.specs.declared.log_origin.LogOrigin.{LogOrigin}

-- ---- lists of bytes, number by number

abbrev pub Small : List ℕ → Type 0
Small bytes = AllByRecursion (λ b. b < 256) bytes

pub are-bytes : (bytes : List ℕ) → Small bytes → AreBytes bytes
are-bytes [] all i = omega arith
are-bytes (b ∷ bytes) all zero = all.0
are-bytes (b ∷ bytes) all (suc i) = are-bytes bytes all.1 i

small-take : (n : ℕ) (bytes : List ℕ) → Small bytes → Small (take n bytes)
small-take zero bytes all = tt
small-take (suc n) [] all = tt
small-take (suc n) (b ∷ bytes) all = (all.0, small-take n bytes all.1)

small-drop : (n : ℕ) (bytes : List ℕ) → Small bytes → Small (drop n bytes)
small-drop zero bytes all = all
small-drop (suc n) [] all = tt
small-drop (suc n) (b ∷ bytes) all = small-drop n bytes all.1

pub small-both : (xs ys : List ℕ) → Small xs → Small ys → Small (xs ++ ys)
small-both [] ys a b = b
small-both (x ∷ xs) ys a b = (a.0, small-both xs ys a.1 b)

pub small-zeros : (n : ℕ) → Small (replicate n 0)
small-zeros zero = tt
small-zeros (suc n) = (lit< tt, small-zeros n)

byte-small : (n : ℕ) → n % 256 < 256
byte-small n = omega arith

byte-at : (i n : ℕ) → byte_at i n < 256
byte-at zero n = byte-small n
byte-at (suc i) n = byte-small (n / 256 ^ suc i)

from-small : (i k n : ℕ) → Small (bytes_low_first i k n)
from-small i zero n = tt
from-small i (suc k) n = (byte-at i n, from-small (suc i) k n)

pub little-small : (k n : ℕ) → Small (little_bytes k n)
little-small k n = from-small 0 k n

pub small-map : {A : Type 0} (f : A → List ℕ) → ((x : A) → Small (f x)) → (xs : List A) → Small (flat_map f xs)
small-map f each [] = tt
small-map f each (x ∷ xs) = small-both (f x) (flat_map f xs) (each x) (small-map f each xs)

either-small : (b : Bool) (xs ys : List ℕ) → Small xs → Small ys → Small (cond b xs ys)
either-small true xs ys a b = a
either-small false xs ys a b = b

-- ---- a written log

short-small : (o : LogOrigin) (at left : ℕ) → Small (short_header o at left)
unfolding short_header
short-small o at left =
    let e : List ℕ = little_bytes 4 left ++ replicate 4 0 in
    let d : List ℕ = little_bytes 8 at ++ e in
    let c : List ℕ = little_bytes 4 o.tli ++ d in
    let info : ℕ = page_info (bytes_of o.size) at left in
    small-both (little_bytes 2 0xD113) (little_bytes 2 info ++ c) (little-small 2 0xD113)
    (small-both (little_bytes 2 info) c (little-small 2 info)
    (small-both (little_bytes 4 o.tli) d (little-small 4 o.tli)
    (small-both (little_bytes 8 at) e (little-small 8 at)
    (small-both (little_bytes 4 left) (replicate 4 0) (little-small 4 left) (small-zeros 4)))))

long-small : (o : LogOrigin) → Small (long_header o)
unfolding long_header
long-small o =
    small-both (little_bytes 8 o.system) (little_bytes 4 (bytes_of o.size) ++ little_bytes 4 8192) (little-small 8 o.system)
    (small-both (little_bytes 4 (bytes_of o.size)) (little_bytes 4 8192) (little-small 4 (bytes_of o.size)) (little-small 4 8192))

header-small : (o : LogOrigin) (at left : ℕ) → Small (page_header o at left)
unfolding page_header
header-small o at left =
    small-both (short_header o at left) (cond (at % bytes_of o.size == 0) (long_header o) []) (short-small o at left) (either-small (at % bytes_of o.size == 0) (long_header o) [] (long-small o) tt)

-- a record whose numbers and body are bytes
pub record IsSmallRecord (r : NewRecord) : Type 0 where
  pub info : r.info < 256
  pub manager : r.manager < 256
  pub body : Small r.body

front-small : (before : Option ℕ) (r : NewRecord) → IsSmallRecord r → Small (record_front before r)
unfolding record_front
front-small before r s =
    let c : List ℕ = r.info ∷ r.manager ∷ 0 ∷ 0 ∷ [] in
    let b : List ℕ = little_bytes 8 (link_to before) ++ c in
    small-both (little_bytes 4 (24 + length r.body)) (little_bytes 4 r.xid ++ b) (little-small 4 (24 + length r.body))
    (small-both (little_bytes 4 r.xid) b (little-small 4 r.xid)
    (small-both (little_bytes 8 (link_to before)) c (little-small 8 (link_to before)) (s.info, (s.manager, (lit< tt, (lit< tt, tt))))))

record-small : (before : Option ℕ) (r : NewRecord) → IsSmallRecord r → Small (record_bytes before r)
unfolding record_bytes
record-small before r s =
    let crc : List ℕ = little_bytes 4 (crc32c (r.body ++ record_front before r)) in
    small-both (record_front before r ++ crc) r.body (small-both (record_front before r) crc (front-small before r s) (little-small 4 (crc32c (r.body ++ record_front before r)))) s.body

part-small : (o : LogOrigin) (bytes : List ℕ) → Small bytes → (page : FurtherPage) → Small (page_part o bytes page)
part-small o bytes s page =
    small-both (page_header o page.at page.left) (take (room (bytes_of o.size) page.at) (drop (length bytes - page.left) bytes)) (header-small o page.at page.left)
    (small-take (room (bytes_of o.size) page.at) (drop (length bytes - page.left) bytes) (small-drop (length bytes - page.left) bytes s))

laid-small : (o : LogOrigin) (place : ℕ) (bytes : List ℕ) → Small bytes → Small (laid o place bytes)
unfolding laid
laid-small o place bytes s =
    let first : ℕ = 8192 - place % 8192 in
    small-both (take first bytes) (pages_from o bytes (page_of place + 8192) (length bytes - first)) (small-take first bytes s)
    (small-map (page_part o bytes) (part-small o bytes s) (further (bytes_of o.size) (page_of place + 8192) (length bytes - first)))

lead-small : (o : LogOrigin) (at : ℕ) → Small (lead o at)
unfolding lead
lead-small o at =
    either-small (at == o.start) [] (cond (at % 8192 == 0) (page_header o at 0) []) tt (either-small (at % 8192 == 0) (page_header o at 0) [] (header-small o at 0) tt)

appended-small : (w : Written) (r : NewRecord) → Small w.bytes → IsSmallRecord r → Small (appended w r).bytes
unfolding appended
appended-small w r all s =
    let place : ℕ = place_at (bytes_of w.origin.size) w.end in
    let bytes : List ℕ = record_bytes w.before r in
    let zeros : ℕ = end_from w.origin w.before w.end r - behind_of (bytes_of w.origin.size) place (length bytes) in
    small-both w.bytes ((lead w.origin w.end ++ laid w.origin place bytes) ++ replicate zeros 0) all
    (small-both (lead w.origin w.end ++ laid w.origin place bytes) (replicate zeros 0)
    (small-both (lead w.origin w.end) (laid w.origin place bytes) (lead-small w.origin w.end) (laid-small w.origin place bytes (record-small w.before r s))) (small-zeros zeros))

log-small : (rs : List NewRecord) (w : Written) → Small w.bytes → AllByRecursion IsSmallRecord rs → Small (fold appended w rs).bytes
log-small [] w all s = all
log-small (r ∷ rs) w all s = log-small rs (appended w r) (appended-small w r all s.0) s.1

pub written-small : (o : LogOrigin) (rs : List NewRecord) → AllByRecursion IsSmallRecord rs → Small (in_pages (written o rs).bytes)
unfolding in_pages written
written-small o rs s =
    let bytes : List ℕ = (fold appended (begun o) rs).bytes in
    small-both bytes (replicate (whole_pages (length bytes) - length bytes) 0) (log-small rs (begun o) (header-small o o.start 0) s) (small-zeros (whole_pages (length bytes) - length bytes))

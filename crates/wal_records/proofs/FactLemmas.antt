-- What the tests of a place, a header and a checksum say, from both sides.
use Rattle.std.proofs.Common.{◌≡◌, ℕ, ◌%◌, ◌^◌, ◌<◌, ◌≤◌, ◌&&◌, Bool, true, false, cond, nat_lt, nat_le, eqb, List, Option, Some, None, refl, arith, eqb-true, eq-eqb}
use Rattle.std.proofs.lemmas.Bool.{lt-ltb, le-leb, lt-leb}
use Rattle.std.proofs.lemmas.Bool.Decides.{nat_tests}
use Rattle.wal_base.specs.Segment.{bytes_of}
use Rattle.wal_pages.specs.declared.log_path.LogPath.{LogPath}
use Rattle.wal_pages.specs.Header.{header_size, page_of, has_bit}
use Rattle.wal_records.specs.declared.header.RecordHeader.{RecordHeader}
use Rattle.wal_records.specs.declared.why.Why.{Why}
use Rattle.wal_records.specs.declared.why.Why.TheVariants as why
use Rattle.wal_records.specs.Place.{is_place}
use Rattle.wal_records.specs.Header.{header_of, header_fault, is_no_manager, is_linked, checksum}
use Rattle.wal_records.specs.Reading.{continues_at, sealed_end, seal_fault}
use Rattle.wal_records.specs.Spells.{LinksTo}

-- tests and what they say
pub true_and : (a b : Bool) → (a && b) ≡ true → (a ≡ true) × (b ≡ true)
true_and true true e = (refl, refl)
true_and true false e = absurd cc
true_and false b e = absurd cc

pub and_true : (a b : Bool) → a ≡ true → b ≡ true → (a && b) ≡ true
and_true a b e f = rw (e, f) refl

pub not_true : (b : Bool) → (b ≡ true → ⊥) → b ≡ false
not_true true h = absurd (h refl)
not_true false h = refl

pub clash : (b : Bool) → b ≡ true → b ≡ false → ⊥
clash b t f = absurd cc

pub le_of : (a b : ℕ) → nat_le a b ≡ true → a ≤ b
le_of a b e = grind (arith, nat_tests)

pub not_lt : (a b : ℕ) → nat_lt a b ≡ false → b ≤ a
not_lt a b e = grind (arith, nat_tests)

pub lt_of : (a b : ℕ) → nat_lt a b ≡ true → a < b
lt_of a b e = grind (arith, nat_tests)

pub not_le : (a b : ℕ) → nat_le a b ≡ false → b < a
not_le a b e = grind (arith, nat_tests)

pub none_if : (b : Bool) (x : Option Why) (w : Why) → cond b (Some w) x ≡ None → (b ≡ false) × (x ≡ None)
none_if true x w e = absurd cc
none_if false x w e = (refl, e)

pub none_unless : (b : Bool) (w : Why) → cond b None (Some w) ≡ None → b ≡ true
none_unless true w e = refl
none_unless false w e = absurd cc

-- a place, from both sides
pub outside : (log : LogPath) (place : ℕ) → is_place (bytes_of log.size) place ≡ true → (place % 8 ≡ 0) × (header_size (bytes_of log.size) (page_of place) ≤ place % 8192)
outside log place e =
    let both = true_and (eqb (place % 8) 0) (nat_le (header_size (bytes_of log.size) (page_of place)) (place % 8192)) e in
    (eqb-true (place % 8) 0 both.0, le_of _ _ both.1)

pub place_is : (log : LogPath) (place : ℕ) → place % 8 ≡ 0 → header_size (bytes_of log.size) (page_of place) ≤ place % 8192 → is_place (bytes_of log.size) place ≡ true
place_is log place a b = and_true _ _ (eq-eqb (place % 8) 0 a) (le-leb (header_size (bytes_of log.size) (page_of place)) (place % 8192) b)

pub fresh_of : (size place info : ℕ) → continues_at size place info ≡ false → place % 8192 ≡ header_size size (page_of place) → has_bit info 1 ≡ false
fresh_of size place info e at = not_true (has_bit info 1) (λ on. clash (continues_at size place info) (and_true _ _ (eq-eqb (place % 8192) (header_size size (page_of place)) at) on) e)

pub fresh_is : (size place info : ℕ) → (place % 8192 ≡ header_size size (page_of place) → has_bit info 1 ≡ false) → continues_at size place info ≡ false
fresh_is size place info h =
    not_true (continues_at size place info) (λ on.
    let both = true_and (eqb (place % 8192) (header_size size (page_of place))) (has_bit info 1) on in
    clash (has_bit info 1) both.1 (h (eqb-true (place % 8192) (header_size size (page_of place)) both.0)))

-- the header's faults, from both sides
pub manager_of : (manager : ℕ) → is_no_manager manager ≡ false → 22 ≤ manager → 128 ≤ manager
manager_of manager e low = grind (arith, nat_tests)

pub manager_is : (manager : ℕ) → (22 ≤ manager → 128 ≤ manager) → is_no_manager manager ≡ false
manager_is manager h = not_true (is_no_manager manager) (λ on. let both = true_and (nat_le 22 manager) (nat_lt manager 128) on in absurd (omega (arith, le_of 22 manager both.0, lt_of manager 128 both.1, h (le_of 22 manager both.0))))

pub link_of : (before : Option ℕ) (place prev : ℕ) → is_linked before place prev ≡ true → LinksTo before place prev
link_of None place prev e = lt_of prev place e
link_of (Some before) place prev e = eqb-true prev before e

pub link_is : (before : Option ℕ) (place prev : ℕ) → LinksTo before place prev → is_linked before place prev ≡ true
link_is None place prev h = lt-ltb prev place h
link_is (Some before) place prev h = eq-eqb prev before h

pub header_of_none : (before : Option ℕ) (place : ℕ) (header : RecordHeader) → header_fault before place header ≡ None → (22 ≤ header.manager → 128 ≤ header.manager) × LinksTo before place header.prev.0
header_of_none before place header e =
    let a = none_if (is_no_manager header.manager) (cond (is_linked before place header.prev.0) None (Some why.Prev)) why.Manager e in
    (manager_of header.manager a.0, link_of before place header.prev.0 (none_unless (is_linked before place header.prev.0) why.Prev a.1))

pub header_none_is : (before : Option ℕ) (place : ℕ) (header : RecordHeader) → (22 ≤ header.manager → 128 ≤ header.manager) → LinksTo before place header.prev.0 → header_fault before place header ≡ None
header_none_is before place header m l = rw (manager_is header.manager m, link_is before place header.prev.0 l) refl

pub seal_of_none : (size place total : ℕ) (bytes : List ℕ) → seal_fault size place total bytes ≡ None → (sealed_end size place total bytes < 2 ^ 64) × (checksum bytes ≡ (header_of bytes).crc)
seal_of_none size place total bytes e =
    let a = none_if (nat_le (2 ^ 64) (sealed_end size place total bytes)) (cond (eqb (checksum bytes) (header_of bytes).crc) None (Some why.Crc)) why.NoSegment e in
    (not_le (2 ^ 64) (sealed_end size place total bytes) a.0, eqb-true (checksum bytes) (header_of bytes).crc (none_unless (eqb (checksum bytes) (header_of bytes).crc) why.Crc a.1))

pub seal_none_is : (size place total : ℕ) (bytes : List ℕ) → sealed_end size place total bytes < 2 ^ 64 → checksum bytes ≡ (header_of bytes).crc → seal_fault size place total bytes ≡ None
seal_none_is size place total bytes low sum = rw (lt-leb (2 ^ 64) (sealed_end size place total bytes) low, eq-eqb (checksum bytes) (header_of bytes).crc sum) refl

-- A log of small records ends near where it begins.
use Rattle.std.proofs.Common.{◌≡◌, ℕ, ◌+◌, ◌-◌, ◌*◌, ◌/◌, ◌%◌, ◌^◌, ◌<◌, ◌≤◌, ◌==◌, ◌&&◌, min, Bool, true, false, cond, List, [], ◌∷◌, length, Option, inl, inr, refl, ap, ◌∙◌, arith}
use Rattle.std.proofs.lemmas.Bool.{cases_lt}
use Rattle.std.specs.List.{AllByRecursion, fold}
use Rattle.wal_base.specs.Segment.{bytes_of}
use Rattle.wal_pages.specs.Header.{header_size, page_of}
use Rattle.wal_records.specs.Again.{IsNew}
use Rattle.wal_records.specs.Extent.{behind_in, behind_of, end_of, is_switch}
use Rattle.wal_records.specs.Further.{further, room}
use Rattle.wal_records.specs.Header.{header_of}
use Rattle.wal_records.specs.Place.{place_at, segment_end_at}
use Rattle.wal_records.specs.Sound.{AllNew, IsSound}
use Rattle.wal_records.specs.Writer.{NewRecord, Written, appended, end_from, link_to, record_bytes}
use Rattle.wal_records.specs.declared.log_origin.LogOrigin.{LogOrigin}
use Rattle.wal_records.proofs.AgainLemmas.{records_again}
use Rattle.wal_records.proofs.AppendLemmas.{size_some}
use Rattle.wal_records.proofs.ExtentLemmas.{behind_done, behind_more, end_up}
use Rattle.wal_records.proofs.FurtherLemmas.{header_short}
use Rattle.wal_records.proofs.NextLemmas.{sound_after}
use Rattle.wal_records.proofs.WriterLemmas.{header_and_room, length_record_bytes}

-- ---- one record

-- a record of at most 114 bytes that ends no segment
pub record IsSmall (r : NewRecord) : Type 0 where
  pub xid : r.xid < 2 ^ 32
  pub info : r.info ≡ 0
  pub manager : r.manager < 22
  pub size : length r.body ≤ 90

pub small-new : (before : Option ℕ) (r : NewRecord) → IsSmall r → link_to before < 2 ^ 64 → IsNew before r
small-new before r s link = record { xid = s.xid; link = link; manager = λ h. absurd (omega (arith, h, s.manager)); size = omega (arith, s.size) }

page_near : (size behind page left : ℕ) → left ≤ 114 → 0 < left → behind_in size behind (further size page left) ≤ page + 40 + left
page_near size behind page left few some =
    let next : ℕ = page + (header_size size page + min left (room size page)) in
    let short = header_short size page in
    let whole = header_and_room size page in
    omega (arith, behind_more size behind page left some, behind_done size next (page + 8192) (left - room size page) (omega (arith, short, whole, few)), short)

behind_near : (size place total : ℕ) → total ≤ 114 → behind_of size place total ≤ place + total + 40
unfolding behind_of
behind_near size place total few =
    let first : ℕ = min total (8192 - place % 8192) in
    elim (cases_lt 0 (total - first)) [
      | inl some ↦ let more = page_near size (place + first) (page_of place + 8192) (total - first) (omega (arith, few)) some in omega (arith, more, few)
      | inr none ↦ omega (arith, behind_done size (place + first) (page_of place + 8192) (total - first) (omega arith))
    ]

no_both : (b : Bool) → (b && false) ≡ false
no_both true = refl
no_both false = refl

no_switch : (before : Option ℕ) (r : NewRecord) → IsSmall r → IsNew before r → is_switch (header_of (record_bytes before r)) ≡ false
no_switch before r s new =
    ap is_switch (records_again before r new).header ∙ ap (λ i. (r.manager == 0) && (i / 16 == 4)) s.info ∙ no_both (r.manager == 0)

pub place_near : (size at : ℕ) → place_at size at ≤ at + 40
place_near size at = grind arith

-- it ends at most 201 bytes behind where it is appended
pub end_near : (o : LogOrigin) (before : Option ℕ) (at : ℕ) (r : NewRecord) → IsSmall r → IsNew before r → end_from o before at r ≤ at + 201
unfolding end_from
end_near o before at r s new =
    let size : ℕ = bytes_of o.size in
    let bytes = record_bytes before r in
    let again = records_again before r new in
    let place : ℕ = place_at size at in
    let behind : ℕ = behind_of size place (length bytes) in
    let end : end_of size (header_of bytes) behind ≡ (behind + 7) / 8 * 8 = ap (λ (b : Bool). cond b (segment_end_at size (behind - 1)) ((behind + 7) / 8 * 8)) (no_switch before r s new) in
    omega (arith, end, behind_near size place (length bytes) (omega (arith, again.size, s.size)), place_near size at, again.size, s.size)

-- and above its place
pub end-up : (o : LogOrigin) (before : Option ℕ) (at : ℕ) (r : NewRecord) → place_at (bytes_of o.size) at + (24 + length r.body) ≤ end_from o before at r
unfolding end_from
end-up o before at r =
    let bytes : List ℕ = record_bytes before r in
    let long : length bytes ≡ 24 + length r.body = length_record_bytes before r in
    omega (arith, long, end_up (bytes_of o.size) (place_at (bytes_of o.size) at) (length bytes) (header_of bytes) (size_some o) (omega (arith, long)))

-- ---- records, one after another

pub record Grown (w v : Written) (records : List NewRecord) : Type 0 where
  pub each : AllNew w records
  pub sound : IsSound v
  pub end : v.end ≤ w.end + 201 * length records
  pub origin : v.origin ≡ w.origin

low_link : (size at : ℕ) → at ≤ 2 ^ 62 → place_at size at < 2 ^ 64
low_link size at low = omega (arith, low, place_near size at)

pub grown : (records : List NewRecord) (w : Written) → AllByRecursion IsSmall records → IsSound w → link_to w.before < 2 ^ 64 → w.end + 201 * length records ≤ 2 ^ 62 → Grown w (fold appended w records) records
unfolding appended
grown [] w small sound link low = record { each = tt; sound = sound; end = omega arith; origin = refl }
grown (r ∷ records) w small sound link low =
    let new = small-new w.before r small.0 link in
    let near = end_near w.origin w.before w.end r small.0 new in
    let more = grown records (appended w r) small.1 (sound_after w r sound new) (low_link (bytes_of w.origin.size) w.end (omega (arith, low))) (omega (arith, near, low)) in
    record {
      each = (new, omega (arith, near, low), more.each);
      sound = more.sound;
      end = omega (arith, near, more.end);
      origin = more.origin;
    }

-- The one record of the new segment ends on its first page.
use Rattle.std.proofs.Common.{◌≡◌, ℕ, ◌+◌, ◌-◌, ◌*◌, ◌/◌, ◌%◌, ◌^◌, ◌<◌, ◌≤◌, ◌==◌, ◌&&◌, min, Bool, true, false, cond, List, [], ◌∷◌, ◌++◌, length, None, inl, inr, lit<, add-zero, refl, sym, ap, ap₂, ◌∙◌, subst, arith}
use Rattle.std.proofs.lemmas.Bool.{cases_lt}
use Rattle.std.proofs.lemmas.Nat.{mod-mul-add}
use Rattle.control_file.specs.Writing.{checkpoint_bytes}
use Rattle.control_file.specs.declared.checkpoint.Checkpoint.{Checkpoint}
use Rattle.wal_base.specs.declared.segment.Segment.{Segment}
use Rattle.reset_plan.specs.NewSegment.{checkpoint_record, origin_of}
use Rattle.reset_numbers.proofs.SegmentLemmas.{at_limit, below_limit}
use Rattle.wal_base.specs.Segment.{bytes_of}
use Rattle.wal_pages.specs.Header.{page_of}
use Rattle.wal_records.specs.declared.header.RecordHeader.{RecordHeader}
use Rattle.wal_records.specs.declared.log_origin.LogOrigin.{LogOrigin}
use Rattle.wal_records.specs.Again.{IsNew, header_given}
use Rattle.wal_records.specs.Extent.{behind_of, end_of, is_switch}
use Rattle.wal_records.specs.Place.{place_at, segment_end_at}
use Rattle.wal_records.specs.Header.{greatest_total, header_of}
use Rattle.wal_records.specs.Writer.{NewRecord, Written, begun, end_from, new_record, record_bytes, written}
use Rattle.wal_records.proofs.AgainLemmas.{records_again}
use Rattle.wal_records.proofs.AppendLemmas.{origin_page}
use Rattle.wal_records.proofs.ExtentLemmas.{behind_done}
use Rattle.wal_records.proofs.WriterLemmas.{place_of_page}

-- where it starts
place_is : (o : LogOrigin) → o.start % bytes_of o.size ≡ 0 → place_at (bytes_of o.size) o.start ≡ o.start + 40
place_is o starts =
    place_of_page (bytes_of o.size) o.start (origin_page o starts)
    ∙ ap (λ r. o.start + cond (r == 0) 40 24) starts

-- and where its bytes end
behind_is : (size place : ℕ) → place % 8192 ≡ 40 → behind_of size place 114 ≡ place + 114
unfolding behind_of
behind_is size place at =
    let first : min 114 (8192 - place % 8192) ≡ 114 = omega (arith, at) in
    behind_done size (place + min 114 (8192 - place % 8192)) (page_of place + 8192) (114 - min 114 (8192 - place % 8192)) (omega (arith, first))
    ∙ ap (λ n. place + n) first

no_both : (b : Bool) → (b && false) ≡ false
no_both true = refl
no_both false = refl

no_switch : (r : NewRecord) (header : RecordHeader) → header ≡ header_given None r → r.info ≡ 0 → is_switch header ≡ false
no_switch r header is info =
    ap is_switch is ∙ ap (λ i. (r.manager == 0) && (i / 16 == 4)) info ∙ no_both (r.manager == 0)

pub record_low : (o : LogOrigin) (r : NewRecord) → o.start % bytes_of o.size ≡ 0 → IsNew None r → length r.body ≡ 90 → r.info ≡ 0 → o.start + 2 ^ 20 ≤ 2 ^ 63 → end_from o None o.start r < 2 ^ 63
unfolding end_from
record_low o r starts new size info low =
    let bytes = record_bytes None r in
    let again = records_again None r new in
    let place = place_is o starts in
    let total : length bytes ≡ 114 = again.size ∙ ap (λ n. 24 + n) size in
    let page = origin_page o starts in
    let within : (o.start + 40) % 8192 ≡ 40 = omega (arith, page) in
    let behind : behind_of (bytes_of o.size) (place_at (bytes_of o.size) o.start) (length bytes) ≡ o.start + 40 + 114 =
    ap₂ (behind_of (bytes_of o.size)) place total ∙ behind_is (bytes_of o.size) (o.start + 40) within in
    let last : ℕ = behind_of (bytes_of o.size) (place_at (bytes_of o.size) o.start) (length bytes) in
    let end : end_of (bytes_of o.size) (header_of bytes) last ≡ (last + 7) / 8 * 8 =
    ap (λ (b : Bool). cond b (segment_end_at (bytes_of o.size) (last - 1)) ((last + 7) / 8 * 8)) (no_switch r (header_of bytes) again.header info) in
    omega (arith, end, behind, low)

-- ---- the start of a segment

pub start_aligned : (number size : ℕ) → 0 < size → (number * size) % size ≡ 0
start_aligned number size some = ap (λ n. n % size) (sym (add-zero (number * size))) ∙ mod-mul-add number size 0 some

pub below_top : (segment : Segment) → segment.number * bytes_of segment.size < 2 ^ 63 → segment.number * bytes_of segment.size + 2 ^ 20 ≤ 2 ^ 63
below_top segment low =
    let size = bytes_of segment.size in
    elim (cases_lt segment.number (2 ^ 63 / size)) [
      | inl less ↦ omega (arith, below_limit size segment.number segment.size.is_size less, segment.size.is_size.least)
      | inr more ↦ absurd (omega (arith, low, at_limit size segment.number segment.size.is_size more))
    ]

-- ---- the record

pub new_checkpoint_record : (cp : Checkpoint) (body : List ℕ) → body ≡ 255 ∷ 88 ∷ checkpoint_bytes cp → new_record 0 0 0 body ≡ checkpoint_record cp
unfolding checkpoint_record
new_checkpoint_record cp body is = ap (new_record 0 0 0) is

pub is_new : (body : List ℕ) → length body ≡ 90 → IsNew None (new_record 0 0 0 body)
is_new body size = record {
  xid = lit< tt;
  link = lit< tt;
  manager = λ h. absurd (omega (arith, h));
  size = omega (arith, size);
}

pub no_records : (o : LogOrigin) → begun o ≡ written o []
unfolding written
no_records o = refl

-- it can be appended to the log that begins at a segment
pub appends-low : (w : Written) (system : ℕ) (segment : Segment) (body : List ℕ) → w ≡ begun (origin_of system segment) → segment.number * bytes_of segment.size < 2 ^ 63 → length body ≡ 90 → end_from w.origin w.before w.end (new_record 0 0 0 body) < 2 ^ 63
appends-low w system segment body is low size =
    let starts : (segment.number * bytes_of segment.size) % bytes_of segment.size ≡ 0 = start_aligned segment.number (bytes_of segment.size) (omega (arith, segment.size.is_size.least)) in
    subst (λ (x : Written). end_from x.origin x.before x.end (new_record 0 0 0 body) < 2 ^ 63) (sym is)
    (record_low (origin_of system segment) (new_record 0 0 0 body) starts (is_new body size) size refl (below_top segment low))

pub not_long : (body : List ℕ) (total : ℕ) → length body ≡ 90 → (total ≡ 24 + length body) × (greatest_total < 24 + length body) → ⊥
not_long body total size both = absurd (omega (arith, size, both.1))

-- and is then all of it
pub one-record : (old new : Written) (o : LogOrigin) (cp : Checkpoint) (body : List ℕ) → old ≡ begun o → body ≡ 255 ∷ 88 ∷ checkpoint_bytes cp
    → ((origin : LogOrigin) (records : List NewRecord) → old ≡ written origin records → new ≡ written origin (records ++ new_record 0 0 0 body ∷ [])) → new ≡ written o (checkpoint_record cp ∷ [])
one-record old new o cp body is at more = more o [] (is ∙ no_records o) ∙ ap (λ r. written o (r ∷ [])) (new_checkpoint_record cp body at)

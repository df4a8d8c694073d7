-- A log with one record more.
use Rattle.std.proofs.Common.{◌≡◌, ℕ, ◌+◌, ◌-◌, ◌*◌, ◌/◌, ◌%◌, ◌^◌, ◌<◌, ◌≤◌, ◌++◌, Bool, true, false, cond, List, [], ◌∷◌, length, replicate, Option, Some, refl, sym, ap, ◌∙◌, inl, inr, arith, length-append, mul_assoc}
use Rattle.std.proofs.lemmas.List.{length-replicate}
use Rattle.std.proofs.lemmas.List.Sums.{fold-append}
use Rattle.wal_base.proofs.SizeLemmas.{size_facts}
use Rattle.wal_base.specs.Segment.{bytes_of}
use Rattle.wal_records.specs.declared.header.RecordHeader.{RecordHeader}
use Rattle.wal_records.specs.declared.log_origin.LogOrigin.{LogOrigin}
use Rattle.wal_records.specs.Place.{place_at, segment_end_at}
use Rattle.wal_records.specs.Header.{header_of}
use Rattle.wal_records.specs.Extent.{behind_of, is_switch, end_of}
use Rattle.wal_records.specs.Writer.{NewRecord, Written, record_bytes, lead, laid, end_from, appended, begun, written, whole_pages, in_pages, IsWhole, page_header}
use Rattle.wal_records.specs.Zeros.{ZeroEnded, with_bytes}
use Rattle.wal_records.proofs.ExtentLemmas.{all_behind, end_behind}
use Rattle.wal_records.proofs.WriterLemmas.{length_record_bytes, length-page_header, long_size, laid_reaches, starts_page}
use Rattle.wal_records.proofs.ZerosLemmas.{kept_room}

pub size_some : (o : LogOrigin) → 0 < bytes_of o.size
size_some o = let f = size_facts o.size.bytes o.size.is_size in omega (arith, f.some)

-- a segment begins with a page
pub origin_page : (o : LogOrigin) → o.start % bytes_of o.size ≡ 0 → o.start % 8192 ≡ 0
origin_page o e = let f = size_facts o.size.bytes o.size.is_size in starts_page o.start (bytes_of o.size) f.mebibytes e f.whole

-- where a record ends, by its header and how many bytes it has
pub end_is : (o : LogOrigin) (before : Option ℕ) (at : ℕ) (r : NewRecord) (place total : ℕ) (header : RecordHeader)
    → place ≡ place_at (bytes_of o.size) at → total ≡ 24 + length r.body → header ≡ header_of (record_bytes before r)
    → end_of (bytes_of o.size) header (behind_of (bytes_of o.size) place total) ≡ end_from o before at r
unfolding end_from
end_is o before at r place total header e f g =
    let size : ℕ = bytes_of o.size in
    let bytes : List ℕ = record_bytes before r in
    ap (λ (h : RecordHeader). end_of size h (behind_of size place total)) g
    ∙ ap (λ (p : ℕ). end_of size (header_of bytes) (behind_of size p total)) e
    ∙ ap (λ (n : ℕ). end_of size (header_of bytes) (behind_of size (place_at size at) n)) (f ∙ sym (length_record_bytes before r))

-- a record's bytes end by where it ends
pub within_end : (o : LogOrigin) (place total end : ℕ) (header : RecordHeader) (bytes : List ℕ) → length bytes ≡ total → 0 < total
    → end ≡ end_of (bytes_of o.size) header (behind_of (bytes_of o.size) place total) → place + length (laid o place bytes) ≤ end
within_end o place total end header bytes e some f =
    let size : ℕ = bytes_of o.size in
    let reach : place + length (laid o place bytes) ≡ behind_of size place total = laid_reaches o place bytes ∙ ap (behind_of size place) e in
    omega (arith, reach, all_behind size place total, end_behind size (behind_of size place total) header (size_some o) (omega (arith, all_behind size place total)), f)

aligned_cond : (b : Bool) (x y : ℕ) → x % 8 ≡ 0 → y % 8 ≡ 0 → cond b x y % 8 ≡ 0
aligned_cond true x y e f = e
aligned_cond false x y e f = f

segment_aligned : (o : LogOrigin) (at : ℕ) → segment_end_at (bytes_of o.size) at % 8 ≡ 0
segment_aligned o at =
    let f = size_facts o.size.bytes o.size.is_size in
    let k : ℕ = at / bytes_of o.size + 1 in
    let parts : k * bytes_of o.size ≡ k * f.mebibytes * 2 ^ 20 = ap (λ n. k * n) f.whole ∙ sym (mul_assoc k f.mebibytes (2 ^ 20)) in
    omega (arith, parts)

pub end_aligned : (o : LogOrigin) (header : RecordHeader) (behind : ℕ) → end_of (bytes_of o.size) header behind % 8 ≡ 0
end_aligned o header behind =
    aligned_cond (is_switch header) (segment_end_at (bytes_of o.size) (behind - 1)) ((behind + 7) / 8 * 8) (segment_aligned o (behind - 1)) (omega arith)

-- what is added for a record reaches to where it ends
pub added_length : (o : LogOrigin) (at place end size : ℕ) (bytes : List ℕ) → o.start + size + length (lead o at) ≡ place → place + length (laid o place bytes) ≤ end
    → size + length (lead o at ++ laid o place bytes ++ replicate (end - (place + length (laid o place bytes))) 0) ≡ end - o.start
added_length o at place end size bytes e h =
    let gap : ℕ = end - (place + length (laid o place bytes)) in
    let parts = length-append (lead o at ++ laid o place bytes) (replicate gap 0) in
    let front = length-append (lead o at) (laid o place bytes) in
    omega (arith, parts, front, length-replicate {A = ℕ} gap 0)

-- the writer is whole again
pub whole_again : (o : LogOrigin) (end : ℕ) (old grown new : ZeroEnded) (piece : List ℕ)
    → o.start % bytes_of o.size ≡ 0 → end % 8 ≡ 0 → end < 2 ^ 63 → o.start < end
    → grown ≡ record { bytes = old.bytes; zeros = whole_pages (end - o.start) - length old.bytes }
    → new ≡ with_bytes grown piece → length old.bytes + length piece ≡ end - o.start → IsWhole o end new
whole_again o end old grown new piece s a l b g n size =
    let before : length grown.bytes ≡ length old.bytes = ap (λ (z : ZeroEnded). length z.bytes) g in
    let room : grown.zeros ≡ whole_pages (end - o.start) - length old.bytes = ap (λ (z : ZeroEnded). z.zeros) g in
    let up : end - o.start ≤ whole_pages (end - o.start) = omega arith in
    let all : length new.bytes + new.zeros ≡ length grown.bytes + grown.zeros = kept_room grown new piece n (omega (arith, size, before, room, up)) in
    let zeros : new.zeros ≡ grown.zeros - length piece = ap (λ (z : ZeroEnded). z.zeros) n in
    let pages : length new.bytes + new.zeros ≡ whole_pages (end - o.start) = omega (arith, all, before, room, size, up) in
    let few : whole_pages (end - o.start) - (end - o.start) < 8192 = omega arith in
    record {
      starts = s;
      aligned = a;
      low = l;
      paged = omega (arith, pages);
      less = omega (arith, zeros, room, size, few);
      reaches = inr (b, omega (arith, pages, zeros, room, size, up));
    }

pub whole_first : (o : LogOrigin) (grown new : ZeroEnded) → o.start % bytes_of o.size ≡ 0 → o.start < 2 ^ 63 → length grown.bytes ≡ 0 → grown.zeros ≡ 8192
    → new ≡ with_bytes grown (page_header o o.start 0) → IsWhole o o.start new
whole_first o grown new s l e f n =
    let header : length (page_header o o.start 0) ≡ 40 = length-page_header o o.start 0 ∙ long_size (bytes_of o.size) o.start s in
    let bytes : length new.bytes ≡ length grown.bytes + length (page_header o o.start 0) = ap (λ (z : ZeroEnded). length z.bytes) n ∙ length-append grown.bytes (page_header o o.start 0) in
    let zeros : new.zeros ≡ grown.zeros - length (page_header o o.start 0) = ap (λ (z : ZeroEnded). z.zeros) n in
    record {
      starts = s;
      aligned = omega (arith, origin_page o s);
      low = l;
      paged = omega (arith, header, bytes, zeros, e, f);
      less = omega (arith, header, zeros, f);
      reaches = inl (refl, omega (arith, header, bytes, e));
    }

abbrev written_as : LogOrigin → ℕ → ℕ → List ℕ → Written
written_as o place end bytes = record { origin = o; before = Some place; end = end; bytes = bytes }

pub appended_is : (o : LogOrigin) (before : Option ℕ) (at : ℕ) (old : List ℕ) (r : NewRecord) (place end : ℕ) (rec bytes : List ℕ)
    → place ≡ place_at (bytes_of o.size) at → end ≡ end_from o before at r → rec ≡ record_bytes before r
    → bytes ≡ old ++ (lead o at ++ laid o place rec ++ replicate (end - (place + length (laid o place rec))) 0)
    → ◌≡◌ {A = Written} (record { origin = o; before = Some place; end = end; bytes = bytes }) (appended (record { origin = o; before = before; end = at; bytes = old }) r)
unfolding appended
appended_is o before at old r place end rec bytes p e b f =
    let size : ℕ = bytes_of o.size in
    let whole : List ℕ = record_bytes before r in
    let gap : place + length (laid o place rec) ≡ behind_of size place (length rec) = laid_reaches o place rec in
    ap (λ (t : List ℕ). written_as o place end t) f
    ∙ ap (λ (n : ℕ). written_as o place end (old ++ (lead o at ++ laid o place rec ++ replicate (end - n) 0))) gap
    ∙ ap (λ (t : List ℕ). written_as o place end (old ++ (lead o at ++ laid o place t ++ replicate (end - behind_of size place (length t)) 0))) b
    ∙ ap (λ (n : ℕ). written_as o place n (old ++ (lead o at ++ laid o place whole ++ replicate (n - behind_of size place (length whole)) 0))) e
    ∙ ap (λ (n : ℕ). written_as o n (end_from o before at r) (old ++ (lead o at ++ laid o n whole ++ replicate (end_from o before at r - behind_of size n (length whole)) 0))) p

pub written_more : (o : LogOrigin) (records : List NewRecord) (r : NewRecord) → written o (records ++ r ∷ []) ≡ appended (written o records) r
unfolding written
written_more o records r = fold-append appended (begun o) records (r ∷ [])

-- the zeros of a writer fill its last page
pub filled : (o : LogOrigin) (end : ℕ) (pages : ZeroEnded) → IsWhole o end pages → pages.zeros ≡ whole_pages (length pages.bytes) - length pages.bytes
filled o end pages w = omega (arith, w.paged, w.less)

pub in_pages_is : (bytes : List ℕ) (zeros : ℕ) → zeros ≡ whole_pages (length bytes) - length bytes → bytes ++ replicate zeros 0 ≡ in_pages bytes
unfolding in_pages
in_pages_is bytes count e = ap (λ (n : ℕ). bytes ++ replicate n 0) e

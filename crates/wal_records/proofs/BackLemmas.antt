-- What a writer wrote is read back from the segment files that have it.
use Rattle.std.proofs.Common.{◌≡◌, ℕ, ◌+◌, ◌-◌, ◌%◌, ◌^◌, ◌<◌, ◌≤◌, true, false, nat_lt, nat_eq, List, [], ◌∷◌, map, drop, length, None, refl, sym, ap, ◌∙◌, arith, inl, inr, subst}
use Rattle.std.specs.List.{fold}
use Rattle.std.proofs.lemmas.List.{append-nil}
use Rattle.std.proofs.lemmas.Bool.Decides.{nat_tests}
use Rattle.cluster_tree.specs.Contents.{Contents}
use Rattle.wal_base.specs.Segment.{bytes_of}
use Rattle.wal_pages.specs.declared.log_path.LogPath.{LogPath}
use Rattle.wal_pages.specs.Folder.{Folder, folder_of}
use Rattle.wal_pages.specs.Header.{header_size, page_of}
use Rattle.wal_pages.specs.Page.{page_at}
use Rattle.wal_records.specs.declared.header.RecordHeader.{RecordHeader}
use Rattle.wal_records.specs.declared.log_origin.LogOrigin.{LogOrigin}
use Rattle.wal_records.specs.declared.why.Why.{Why}
use Rattle.wal_records.specs.declared.why.Why.TheVariants as why
use Rattle.wal_records.specs.declared.why.Stop.TheVariants.{Ends}
use Rattle.wal_records.specs.Place.{place_at}
use Rattle.wal_records.specs.Further.{Pages, pages_of}
use Rattle.wal_records.specs.Reading.{LogRecord, Stopped, reading}
use Rattle.wal_records.specs.Log.{Log, log_from, log_of, end_after}
use Rattle.wal_records.specs.Writer.{NewRecord, new_record, Written, begun, appended, in_pages, whole_pages, page_header, record_bytes, end_from}
use Rattle.wal_records.specs.Again.{IsNew, IsLogFrom, Holds, log_records, with_records, new_log_record}
use Rattle.wal_records.specs.Sound.{IsEndIn, IsFirst, IsInPage, IsSound, AllNew}
use Rattle.wal_records.specs.Stored.{Wrote, IsPathOf, IsStored, IsReadBack, read_as, end_why}
use Rattle.wal_records.proofs.LogLemmas.{log_on}
use Rattle.wal_records.proofs.WriterLemmas.{place_of_page, place_inside, long_size, length-page_header}
use Rattle.wal_records.proofs.AgainLemmas.{records_again}
use Rattle.wal_records.proofs.AppendLemmas.{size_some, origin_page}
use Rattle.wal_records.proofs.StateLemmas.{begun_sound, reached}
use Rattle.wal_records.proofs.NextLemmas.{sound_after, grown_end}
use Rattle.wal_records.proofs.EndLemmas.{ends_at_page, ends_in_page}
use Rattle.wal_records.proofs.RunLemmas.{log_read}
use Rattle.wal_records.proofs.StoredLemmas.{stored_holds, path_from}
use Rattle.wal_records.proofs.WroteLemmas.{wrote_is}

-- a log of records that could be appended is sound, and ends below 2 ^ 63
pub all_sound : (records : List NewRecord) (w : Written) → IsSound w → AllNew w records → IsSound (fold appended w records)
all_sound [] w s each = s
all_sound (r ∷ rest) w s each = all_sound rest (appended w r) (sound_after w r s each.0) each.2

pub all_low : (records : List NewRecord) (w : Written) → w.end < 2 ^ 63 → AllNew w records → (fold appended w records).end < 2 ^ 63
all_low [] w low each = low
all_low (r ∷ rest) w low each = all_low rest (appended w r) (omega (arith, grown_end w r, each.1)) each.2

-- its records end where it does
ends_after : (records : List NewRecord) (w : Written) (at : ℕ) → at ≡ w.end → end_after at (log_records w records) ≡ (fold appended w records).end
ends_after [] w at e = e
ends_after (r ∷ rest) w at e = ends_after rest (appended w r) (end_from w.origin w.before w.end r) (sym (grown_end w r))

as_appended : (bytes body : List ℕ) (h : RecordHeader) (r : NewRecord) → h.xid ≡ r.xid → h.info ≡ r.info → h.manager ≡ r.manager → body ≡ r.body → new_record h.xid h.info h.manager body ≡ r
as_appended bytes body h r x i m b = rw (x, i, m, b) refl

read_one : (w : Written) (r : NewRecord) → IsNew w.before r → read_as (new_log_record w r) ≡ r
read_one w r new =
    let again = records_again w.before r new in
    as_appended (record_bytes w.before r) (drop 24 (record_bytes w.before r)) (new_log_record w r).header r
    (ap (λ (h : RecordHeader). h.xid) again.header) (ap (λ (h : RecordHeader). h.info) again.header) (ap (λ (h : RecordHeader). h.manager) again.header) again.body

-- and are read as what was appended
all_as_appended : (records : List NewRecord) (w : Written) → AllNew w records → map read_as (log_records w records) ≡ records
all_as_appended [] w each = refl
all_as_appended (r ∷ rest) w each =
    ap (λ (first : NewRecord). first ∷ map read_as (log_records (appended w r) rest)) (read_one w r each.0)
    ∙ ap (λ (l : List NewRecord). r ∷ l) (all_as_appended rest (appended w r) each.2)

why_first : (w : Written) → w.end ≡ w.origin.start → end_why w ≡ why.ZeroLength
why_first w e =
    let no : nat_lt w.origin.start w.end ≡ false = grind (arith, nat_tests, e) in
    rw no refl

why_page : (w : Written) → w.origin.start < w.end → w.end % 8192 ≡ 0 → end_why w ≡ why.Page
why_page w later p =
    let yes : nat_lt w.origin.start w.end ≡ true = grind (arith, nat_tests, later) in
    let whole : nat_eq (w.end % 8192) 0 ≡ true = grind (arith, nat_tests, p) in
    rw (yes, whole) refl

why_within : (w : Written) → w.origin.start < w.end → (w.end % 8192 ≡ 0 → ⊥) → end_why w ≡ why.ZeroLength
why_within w later p =
    let yes : nat_lt w.origin.start w.end ≡ true = grind (arith, nat_tests, later) in
    let not_whole : nat_eq (w.end % 8192) 0 ≡ false = grind (arith, nat_tests, p) in
    rw (yes, not_whole) refl

-- where no record was appended, the log ends behind the header of its first page
first_end : (w : Written) → w.origin.start % bytes_of w.origin.size ≡ 0 → IsFirst w → IsEndIn w.origin w.bytes (place_at (bytes_of w.origin.size) w.end)
first_end w s a =
    let o : LogOrigin = w.origin in
    let size : ℕ = bytes_of o.size in
    let place : ℕ = place_at size w.end in
    let page = origin_page o s in
    let long : header_size size o.start ≡ 40 = long_size size o.start s in
    let is : place ≡ o.start + 40 = ap (place_at size) a.end ∙ place_of_page size o.start page ∙ ap (λ (n : ℕ). o.start + n) long in
    let first : page_of place ≡ o.start = omega (arith, is, page) in
    let zero : page_of place - o.start ≡ 0 = omega (arith, first) in
    record {
      left = 0;
      rest = [];
      aligned = omega (arith, is, page);
      behind = omega (arith, ap (header_size size) first, long, is, page);
      from = omega (arith, first);
      few = omega arith;
      fresh = λ _. refl;
      head =
          ap (λ (n : ℕ). drop n w.bytes) zero ∙ a.bytes ∙ ap (λ (q : ℕ). page_header o q 0) (sym first)
          ∙ sym (append-nil (page_header o (page_of place) 0));
      reach = omega (arith, is, ap length a.bytes, length-page_header o o.start 0, long);
    }

-- and where the last one ends within a page, it ends there
inner_end : (w : Written) (place : ℕ) → place ≡ w.end → w.end % 8 ≡ 0 → IsInPage w → IsEndIn w.origin w.bytes place
inner_end w place e aligned q =
    subst (IsEndIn w.origin w.bytes) (sym e) (record {
      left = q.has.left;
      rest = q.has.rest;
      aligned = aligned;
      behind = omega (arith, q.has.behind);
      from = q.has.from;
      few = q.has.few;
      fresh = λ f. absurd (omega (arith, f, q.has.behind));
      head = q.has.head;
      reach = q.reach;
    })

pub end_read : (log : LogPath) (files : Folder) (w : Written) → Holds log files w.origin.start w.bytes → IsLogFrom log w.origin → w.origin.start + length w.bytes < 2 ^ 64 → IsSound w
    → reading (page_at log files) (bytes_of w.origin.size) w.before (place_at (bytes_of w.origin.size) w.end) ≡ Stopped (Ends (end_why w))
end_read log files w holds of low s =
    let size : ℕ = bytes_of w.origin.size in
    let place : ℕ = place_at size w.end in
    elim s.state [
      | inl a ↦ ends_in_page log files w.origin w.bytes w.before place holds of low (first_end w s.starts a) ∙ ap (λ (y : Why). Stopped (Ends y)) (sym (why_first w a.end))
      | inr b ↦ elim b [
        | inl p ↦ ends_at_page log files w.origin.start size w.end w.before w.bytes holds p.page (sym p.reach) ∙ ap (λ (y : Why). Stopped (Ends y)) (sym (why_page w p.later p.page))
        | inr q ↦
            let inner : w.end % 8192 ≡ 0 → ⊥ = λ e. omega (arith, e, q.has.behind) in
            ends_in_page log files w.origin w.bytes w.before place holds of low (inner_end w place (place_inside size w.end inner) s.aligned q)
            ∙ ap (λ (y : Why). Stopped (Ends y)) (sym (why_within w q.later inner))
      ]
    ]

-- a page that begins by where the bytes end begins by where the log ends
page_reach : (w : Written) → IsSound w → (at : ℕ) → at % 8192 ≡ 0 → at ≤ w.origin.start + length w.bytes → at ≤ w.end
page_reach w s at p h =
    elim (reached w s) [
      | inl a ↦ omega (arith, a.0, a.1, p, h, origin_page w.origin s.starts)
      | inr b ↦ omega (arith, b.1, h)
    ]

bytes_low : (w : Written) → IsSound w → w.end < 2 ^ 63 → w.origin.start + length w.bytes < 2 ^ 64
bytes_low w s low =
    elim (reached w s) [
      | inl a ↦ omega (arith, a.0, a.1, low)
      | inr b ↦ omega (arith, b.1, low)
    ]

place_near : (size at : ℕ) → place_at size at ≤ at + 40
place_near size at = grind arith

abbrev log_as : List LogRecord → ℕ → Why → Log
log_as records place reason = record { records = records; place = place; why = reason }

-- the log of what was written, where its files hold it
log_back : (log : LogPath) (files : Folder) (w : Written) (records : List NewRecord) → Wrote w records → w ≡ fold appended (begun w.origin) records → IsSound w → w.end < 2 ^ 63
    → Holds log files w.origin.start w.bytes → IsLogFrom log w.origin
    → log_from (page_at log files) (bytes_of w.origin.size) None (place_at (bytes_of w.origin.size) w.origin.start)
    ≡ record { records = log_records (begun w.origin) records; place = place_at (bytes_of w.origin.size) w.end; why = end_why w }
log_back log files w records wrote e s low holds of =
    let o : LogOrigin = w.origin in
    let size : ℕ = bytes_of o.size in
    let pages : Pages = page_at log files in
    let place : ℕ = place_at size w.end in
    let all : List LogRecord = log_records (begun o) records in
    let few : o.start + length w.bytes < 2 ^ 64 = bytes_low w s low in
    let below : place < 2 ^ 64 = omega (arith, place_near size w.end, low) in
    log_read log files o records wrote.starts wrote.each (subst (λ (v : Written). Holds log files o.start v.bytes) e holds) of (subst (λ (v : Written). o.start + length v.bytes < 2 ^ 64) e few)
    ∙ ap (λ (v : Written). with_records all (log_from pages size v.before (place_at size v.end))) (sym e)
    ∙ ap (with_records all) (log_on pages size place w.before (Stopped (Ends (end_why w))) (size_some o) below (end_read log files w holds of few s))
    ∙ ap (λ (l : List LogRecord). log_as l place (end_why w)) (append-nil all)

pages_hold : (log : LogPath) (contents : Contents) (w : Written) → log.size ≡ w.origin.size → IsSound w → w.end < 2 ^ 63
    → IsStored log contents w.origin.start w.end (in_pages w.bytes) → Holds log (folder_of contents log.folder) w.origin.start w.bytes
unfolding in_pages
pages_hold log contents w same s low stored =
    stored_holds log contents w.origin w.bytes (whole_pages (length w.bytes) - length w.bytes) w.end same s.starts low (page_reach w s) stored

pub read_back : (log : LogPath) (contents : Contents) (w : Written) (records : List NewRecord) → Wrote w records → IsPathOf log w.origin
    → IsStored log contents w.origin.start w.end (in_pages w.bytes)
    → IsReadBack (log_of (pages_of log contents) (bytes_of log.size) w.origin.start) w records
read_back log contents w records wrote path stored =
    let o : LogOrigin = w.origin in
    let e : w ≡ fold appended (begun o) records = wrote_is w records wrote in
    let s : IsSound w = subst IsSound (sym e) (all_sound records (begun o) (begun_sound o wrote.starts) wrote.each) in
    let low : w.end < 2 ^ 63 = omega (arith, ap (λ (v : Written). v.end) e, all_low records (begun o) wrote.low wrote.each) in
    let files : Folder = folder_of contents log.folder in
    let holds : Holds log files o.start w.bytes = pages_hold log contents w path.size s low stored in
    let is : log_of (pages_of log contents) (bytes_of log.size) o.start ≡ log_as (log_records (begun o) records) (place_at (bytes_of o.size) w.end) (end_why w) =
    ap (λ (n : ℕ). log_of (pages_of log contents) n o.start) (ap bytes_of path.size) ∙ log_back log files w records wrote e s low holds (path_from log o wrote.timeline wrote.system path) in
    subst (λ (l : Log). IsReadBack l w records) (sym is) (record {
      read = all_as_appended records (begun o) wrote.each;
      whole = refl;
      end = ends_after records (begun o) o.start refl ∙ sym (ap (λ (v : Written). v.end) e);
      place = refl;
      why = refl;
    })

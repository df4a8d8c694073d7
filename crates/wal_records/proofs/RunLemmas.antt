-- Records that were written one after another are read one after another.
use Rattle.std.proofs.Common.{◌≡◌, ℕ, ◌+◌, ◌^◌, ◌<◌, ◌++◌, List, [], ◌∷◌, drop, length, append_assoc, ◌%◌, Option, None, refl, sym, ap, ◌∙◌, arith, subst}
use Rattle.std.specs.List.{fold}
use Rattle.std.proofs.lemmas.List.{append-nil, drop_at}
use Rattle.wal_base.specs.Segment.{bytes_of}
use Rattle.wal_pages.specs.declared.log_path.LogPath.{LogPath}
use Rattle.wal_pages.specs.Folder.{Folder}
use Rattle.wal_pages.specs.Page.{page_at}
use Rattle.wal_records.specs.declared.log_origin.LogOrigin.{LogOrigin}
use Rattle.wal_records.specs.Place.{place_at}
use Rattle.wal_records.specs.Header.{header_of}
use Rattle.wal_records.specs.Further.{Pages}
use Rattle.wal_records.specs.Reading.{Spelled, reading}
use Rattle.wal_records.specs.Log.{log_from, log_step, with_first}
use Rattle.wal_records.specs.Writer.{NewRecord, Written, record_bytes, end_from, appended, begun}
use Rattle.wal_records.specs.Again.{IsLogFrom, Holds, AllWritten, log_records, with_records, new_log_record}
use Rattle.wal_records.specs.Sound.{AllNew, IsSound}
use Rattle.wal_records.proofs.ExtentLemmas.{end_up}
use Rattle.wal_records.proofs.LogLemmas.{log_next}
use Rattle.wal_records.proofs.WriterLemmas.{length_record_bytes}
use Rattle.wal_records.proofs.AppendLemmas.{size_some, end_is}
use Rattle.wal_records.proofs.PlacedLemmas.{placed}
use Rattle.wal_records.proofs.StateLemmas.{begun_sound, written_at, grown}
use Rattle.wal_records.proofs.NextLemmas.{sound_after}

pub place_low : (o : LogOrigin) (before : Option ℕ) (at : ℕ) (r : NewRecord) → end_from o before at r < 2 ^ 63 → place_at (bytes_of o.size) at < 2 ^ 64
place_low o before at r low =
    let size : ℕ = bytes_of o.size in
    let place : ℕ = place_at size at in
    let b : List ℕ = record_bytes before r in
    let end = end_is o before at r place (length b) (header_of b) refl (length_record_bytes before r) refl in
    let up = end_up size place (length b) (header_of b) (size_some o) (omega (arith, length_record_bytes before r)) in
    omega (arith, end, up, low)

-- the log after a record
step_on : (pages : Pages) (w : Written) (r : NewRecord) → log_step (log_from pages (bytes_of w.origin.size)) (bytes_of w.origin.size) w.before (place_at (bytes_of w.origin.size) w.end) (Spelled (new_log_record w r))
    ≡ with_first (new_log_record w r) (log_from pages (bytes_of w.origin.size) (appended w r).before (place_at (bytes_of w.origin.size) (appended w r).end))
unfolding appended
step_on pages w r = refl

same_origin : (w : Written) (r : NewRecord) → (appended w r).origin ≡ w.origin
unfolding appended
same_origin w r = refl

pub all_read : (log : LogPath) (files : Folder) (bytes : List ℕ) (records : List NewRecord) (w : Written) → Holds log files w.origin.start bytes
    → IsLogFrom log w.origin → w.origin.start + length bytes < 2 ^ 64 → AllWritten bytes w records
    → log_from (page_at log files) (bytes_of w.origin.size) w.before (place_at (bytes_of w.origin.size) w.end)
    ≡ with_records (log_records w records) (log_from (page_at log files) (bytes_of w.origin.size) (fold appended w records).before (place_at (bytes_of w.origin.size) (fold appended w records).end))
all_read log files bytes [] w holds of low all = refl
all_read log files bytes (r ∷ rest) w holds of low all =
    let o : LogOrigin = w.origin in
    let size : ℕ = bytes_of o.size in
    let pages : Pages = page_at log files in
    let place : ℕ = place_at size w.end in
    let next : Written = appended w r in
    let same : next.origin ≡ o = same_origin w r in
    let read : reading pages size w.before place ≡ Spelled (new_log_record w r) = placed log files o bytes w.before w.end r holds of low all.0 all.1 (omega (arith, all.2)) in
    let onward = all_read log files bytes rest next
    (subst (λ (p : LogOrigin). Holds log files p.start bytes) (sym same) holds) (subst (λ (p : LogOrigin). IsLogFrom log p) (sym same) of)
    (omega (arith, low, ap (λ (p : LogOrigin). p.start) same)) all.3 in
    let onward_here = subst (λ (p : LogOrigin). log_from pages (bytes_of p.size) next.before (place_at (bytes_of p.size) next.end)
    ≡ with_records (log_records next rest) (log_from pages (bytes_of p.size) (fold appended next rest).before (place_at (bytes_of p.size) (fold appended next rest).end))) same onward in
    log_next pages size place w.before (size_some o) (place_low o w.before w.end r all.2)
    ∙ ap (log_step (log_from pages size) size w.before place) read
    ∙ step_on pages w r
    ∙ ap (with_first (new_log_record w r)) onward_here

-- a log begins with the bytes that it had
longer : (records : List NewRecord) (w : Written) → (after : List ℕ) × ((fold appended w records).bytes ≡ w.bytes ++ after)
longer [] w = ([], sym (append-nil w.bytes))
longer (r ∷ rest) w =
    let more = longer rest (appended w r) in
    let piece : List ℕ = drop (length w.bytes) (appended w r).bytes in
    let here : (appended w r).bytes ≡ w.bytes ++ piece = grown w r ∙ ap (λ (t : List ℕ). w.bytes ++ t) (sym (ap (drop (length w.bytes)) (grown w r) ∙ drop_at w.bytes _ (length w.bytes) refl)) in
    (piece ++ more.0, more.1 ∙ ap (λ (t : List ℕ). t ++ more.0) here ∙ append_assoc w.bytes piece more.0)

all_written : (records : List NewRecord) (w : Written) (all : List ℕ) → all ≡ (fold appended w records).bytes → IsSound w → AllNew w records → AllWritten all w records
all_written [] w all e s new = tt
all_written (r ∷ rest) w all e s new =
    let more = longer rest (appended w r) in
    (new.0, written_at w r all more.0 s (e ∙ more.1), new.1, all_written rest (appended w r) all e (sound_after w r s new.0) new.2)

pub log_read : (log : LogPath) (files : Folder) (o : LogOrigin) (records : List NewRecord) → o.start % bytes_of o.size ≡ 0 → AllNew (begun o) records
    → Holds log files o.start (fold appended (begun o) records).bytes → IsLogFrom log o → o.start + length (fold appended (begun o) records).bytes < 2 ^ 64
    → log_from (page_at log files) (bytes_of o.size) None (place_at (bytes_of o.size) o.start)
    ≡ with_records (log_records (begun o) records) (log_from (page_at log files) (bytes_of o.size) (fold appended (begun o) records).before (place_at (bytes_of o.size) (fold appended (begun o) records).end))
log_read log files o records s new holds of low =
    all_read log files (fold appended (begun o) records).bytes records (begun o) holds of low (all_written records (begun o) (fold appended (begun o) records).bytes refl (begun_sound o s) new)

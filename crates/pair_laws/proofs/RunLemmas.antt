-- A log that stands in one segment is read from where any of its records end.
use Rattle.std.proofs.Common.{◌≡◌, ℕ, ◌+◌, ◌^◌, ◌<◌, List, [], ◌∷◌, ◌++◌, drop, length, inl, inr, refl, ap, sym, ◌∙◌, arith, subst, append_assoc}
use Rattle.std.proofs.lemmas.List.{append-nil, drop_at}
use Rattle.std.specs.List.{fold}
use Rattle.wal_base.specs.Segment.{bytes_of}
use Rattle.wal_pages.specs.Folder.{Folder}
use Rattle.wal_pages.specs.Page.{page_at}
use Rattle.wal_pages.specs.declared.log_path.LogPath.{LogPath}
use Rattle.wal_records.specs.Again.{AllWritten, Holds, IsLogFrom, log_records, new_log_record, with_records}
use Rattle.wal_records.specs.Further.{Pages}
use Rattle.wal_records.specs.Log.{Log, log_from}
use Rattle.wal_records.specs.Place.{place_at}
use Rattle.wal_records.specs.Reading.{LogRecord, Spelled, Stopped, reading}
use Rattle.wal_records.specs.Sound.{AllNew, IsSound}
use Rattle.wal_records.specs.Stored.{end_why}
use Rattle.wal_records.specs.Writer.{NewRecord, Written, appended}
use Rattle.wal_records.specs.declared.log_origin.LogOrigin.{LogOrigin}
use Rattle.wal_records.specs.declared.why.Why.{Why}
use Rattle.wal_records.specs.declared.why.Stop.TheVariants.{Ends}
use Rattle.wal_records.proofs.AppendLemmas.{size_some}
use Rattle.wal_records.proofs.BackLemmas.{all_low, all_sound, end_read}
use Rattle.wal_records.proofs.LogLemmas.{log_on}
use Rattle.wal_records.proofs.NextLemmas.{grown_origin, sound_after}
use Rattle.wal_records.proofs.PlacedLemmas.{placed}
use Rattle.wal_records.proofs.RunLemmas.{all_read}
use Rattle.wal_records.proofs.StateLemmas.{grown, reached, written_at}

-- ---- first records of a log

pub new-back : (front back : List NewRecord) (w : Written) → AllNew w (front ++ back) → AllNew (fold appended w front) back
new-back [] back w new = new
new-back (r ∷ front) back w new = new-back front back (appended w r) new.2

pub new-front : (front back : List NewRecord) (w : Written) → AllNew w (front ++ back) → AllNew w front
new-front [] back w new = tt
new-front (r ∷ front) back w new = (new.0, new.1, new-front front back (appended w r) new.2)

pub run-append : (front back : List NewRecord) (w : Written) → fold appended w (front ++ back) ≡ fold appended (fold appended w front) back
run-append [] back w = refl
run-append (r ∷ front) back w = run-append front back (appended w r)

pub run-origin : (records : List NewRecord) (w : Written) → (fold appended w records).origin ≡ w.origin
run-origin [] w = refl
run-origin (r ∷ rest) w = run-origin rest (appended w r) ∙ grown_origin w r

-- a log begins with the bytes that it had
longer : (records : List NewRecord) (w : Written) → (after : List ℕ) × ((fold appended w records).bytes ≡ w.bytes ++ after)
longer [] w = ([], sym (append-nil w.bytes))
longer (r ∷ rest) w =
    let more = longer rest (appended w r) in
    let piece : List ℕ = drop (length w.bytes) (appended w r).bytes in
    let here : (appended w r).bytes ≡ w.bytes ++ piece = grown w r ∙ ap (λ (t : List ℕ). w.bytes ++ t) (sym (ap (drop (length w.bytes)) (grown w r) ∙ drop_at w.bytes _ (length w.bytes) refl)) in
    (piece ++ more.0, more.1 ∙ ap (λ (t : List ℕ). t ++ more.0) here ∙ append_assoc w.bytes piece more.0)

all-written : (records : List NewRecord) (w : Written) (all : List ℕ) → all ≡ (fold appended w records).bytes → IsSound w → AllNew w records → AllWritten all w records
all-written [] w all e s new = tt
all-written (r ∷ rest) w all e s new =
    let more = longer rest (appended w r) in
    (new.0, written_at w r all more.0 s (e ∙ more.1), new.1, all-written rest (appended w r) all e (sound_after w r s new.0) new.2)

-- ---- what is read from there

abbrev pub log-as : List LogRecord → ℕ → Why → Log
log-as records place reason = record { records = records; place = place; why = reason }

module _ (log : LogPath) (files : Folder) (w : Written) (back : List NewRecord) (sound : IsSound w) (new : AllNew w back) (low : w.end < 2 ^ 63) where
  abbrev whole : Written
  whole = fold appended w back

  whole-sound : IsSound whole
  whole-sound = all_sound back w sound new

  short : whole.origin.start + length whole.bytes < 2 ^ 64
  short =
      let end : whole.end < 2 ^ 63 = all_low back w low new in
      elim (reached whole whole-sound) [
        | inl a ↦ omega (arith, a.0, a.1, end)
        | inr b ↦ omega (arith, b.1, end)
      ]

  place-low : place_at (bytes_of whole.origin.size) whole.end < 2 ^ 64
  place-low = let end : whole.end < 2 ^ 63 = all_low back w low new in grind arith

  pub read-from : Holds log files w.origin.start whole.bytes → IsLogFrom log w.origin
      → log_from (page_at log files) (bytes_of w.origin.size) w.before (place_at (bytes_of w.origin.size) w.end)
      ≡ record { records = log_records w back; place = place_at (bytes_of w.origin.size) whole.end; why = end_why whole }
  read-from holds of =
      let same : whole.origin ≡ w.origin = run-origin back w in
      let size : ℕ = bytes_of w.origin.size in
      let pages : Pages = page_at log files in
      let here : Holds log files whole.origin.start whole.bytes = subst (λ (o : LogOrigin). Holds log files o.start whole.bytes) (sym same) holds in
      let ends = end_read log files whole here (subst (IsLogFrom log) (sym same) of) short whole-sound in
      let stops = log_on pages (bytes_of whole.origin.size) (place_at (bytes_of whole.origin.size) whole.end) whole.before (Stopped (Ends (end_why whole))) (size_some whole.origin) place-low ends in
      let stopped : log_from pages size whole.before (place_at size whole.end) ≡ log-as [] (place_at size whole.end) (end_why whole) =
      subst (λ (o : LogOrigin). log_from pages (bytes_of o.size) whole.before (place_at (bytes_of o.size) whole.end) ≡ log-as [] (place_at (bytes_of o.size) whole.end) (end_why whole)) same stops in
      let bound : w.origin.start + length whole.bytes < 2 ^ 64 = subst (λ (o : LogOrigin). o.start + length whole.bytes < 2 ^ 64) same short in
      all_read log files whole.bytes back w holds of bound (all-written back w whole.bytes refl sound new)
      ∙ ap (with_records (log_records w back)) stopped
      ∙ ap (λ (l : List LogRecord). log-as l (place_at size whole.end) (end_why whole)) (append-nil (log_records w back))

-- a record is read at its place
pub read-at : (log : LogPath) (files : Folder) (w : Written) (r : NewRecord) (back : List NewRecord) → IsSound w → AllNew w (r ∷ back) → w.end < 2 ^ 63
    → Holds log files w.origin.start (fold appended w (r ∷ back)).bytes → IsLogFrom log w.origin
    → reading (page_at log files) (bytes_of w.origin.size) w.before (place_at (bytes_of w.origin.size) w.end) ≡ Spelled (new_log_record w r)
read-at log files w r back sound new low holds of =
    let all : List ℕ = (fold appended w (r ∷ back)).bytes in
    let more = longer back (appended w r) in
    let bound : w.origin.start + length all < 2 ^ 64 = subst (λ (o : LogOrigin). o.start + length all < 2 ^ 64) (run-origin (r ∷ back) w) (short log files w (r ∷ back) sound new low) in
    placed log files w.origin all w.before w.end r holds of bound new.0 (written_at w r all more.0 sound more.1) (omega (arith, new.1))

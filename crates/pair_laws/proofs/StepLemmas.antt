-- Records of a log, one after another: where each begins and ends, and that each is read by itself too.
use Rattle.std.proofs.Common.{◌≡◌, ℕ, ◌+◌, ◌<◌, ◌≤◌, ◌^◌, List, [], ◌∷◌, length, None, Some, Ok, refl, sym, ap, ◌∙◌, arith}
use Rattle.std.specs.List.{AllByRecursion, fold}
use Rattle.cluster_tree.specs.Contents.{Contents}
use Rattle.log_walk.specs.Needed.{needed, read_refusal}
use Rattle.log_walk.proofs.NeededLemmas.{ended_late, ended_none, needed_first, passed_refusal, unrefused}
use Rattle.touched_blocks.specs.declared.named.Named.{Named}
use Rattle.wal_base.specs.Segment.{bytes_of}
use Rattle.wal_base.specs.declared.lsn.Lsn.{Lsn}
use Rattle.wal_pages.specs.Folder.{Folder, folder_of}
use Rattle.wal_pages.specs.Page.{page_at}
use Rattle.wal_pages.specs.declared.log_path.LogPath.{LogPath}
use Rattle.wal_records.specs.declared.why.Why.{Why}
use Rattle.wal_records.specs.Again.{IsNew, log_records}
use Rattle.wal_records.specs.Header.{header_of}
use Rattle.wal_records.specs.Log.{Log, log_from, log_step}
use Rattle.wal_records.specs.Place.{place_at}
use Rattle.wal_records.specs.Reading.{LogRecord, Spelled, reading}
use Rattle.wal_records.specs.Sound.{AllNew}
use Rattle.wal_records.specs.Spells.{Spells}
use Rattle.wal_records.specs.Writer.{NewRecord, Written, appended, end_from, record_bytes}
use Rattle.wal_records.proofs.AgainLemmas.{records_again}
use Rattle.wal_records.proofs.AppendLemmas.{size_some}
use Rattle.wal_records.proofs.ExtentLemmas.{end_up}
use Rattle.wal_records.proofs.LogLemmas.{log_next}
use Rattle.wal_records.proofs.NextLemmas.{grown_end}
use Rattle.wal_records.proofs.PlaceLemmas.{place_at_up}
use Rattle.wal_records.proofs.ViewLemmas.{spells_both}
use Rattle.pair_laws.proofs.RecordLemmas.{AllHaveNames}

-- ---- ends rise

pub rises : (w : Written) (r : NewRecord) → IsNew w.before r → place_at (bytes_of w.origin.size) w.end + 24 ≤ (appended w r).end
unfolding end_from
rises w r new =
    let o = w.origin in
    let bytes = record_bytes w.before r in
    let long = (records_again w.before r new).size in
    let some : 0 < length bytes = omega (arith, long) in
    let up = end_up (bytes_of o.size) (place_at (bytes_of o.size) w.end) (length bytes) (header_of bytes) (size_some o) some in
    rw (grown_end w r) (omega (arith, up, long))

pub grows : (w : Written) (ns : List NewRecord) → AllNew w ns → w.end ≤ (fold appended w ns).end
grows w [] each = omega arith
grows w (r ∷ ns) each =
    let here = rises w r each.0 in
    let up = place_at_up (bytes_of w.origin.size) w.end in
    let rest = grows (appended w r) ns each.2 in
    omega (arith, here, up, rest)

-- the last record starts below where it ends
pub record IsBehind (w : Written) : Type 0 where
  pub start : ℕ
  pub is : w.before ≡ Some start
  pub below : start < w.end

appended-behind : (w : Written) (r : NewRecord) → IsNew w.before r → IsBehind (appended w r)
unfolding appended
appended-behind w r new =
    let here = rises w r new in
    record { start = place_at (bytes_of w.origin.size) w.end; is = refl; below = omega (arith, here) }

pub last-behind : (w : Written) (r : NewRecord) (ns : List NewRecord) → AllNew w (r ∷ ns) → IsBehind (fold appended w (r ∷ ns))
last-behind w r [] each = appended-behind w r each.0
last-behind w r (n ∷ ns) each = last-behind (appended w r) n ns each.2

-- ---- all records up to an end are needed, and none is refused

-- it starts below an end, and ends no later
pub record EndsBy (end : ℕ) (r : LogRecord) : Type 0 where
  pub start : r.start < end
  pub last : r.end ≤ end

pub all-end : (w : Written) (ns : List NewRecord) → AllNew w ns → AllByRecursion (EndsBy (fold appended w ns).end) (log_records w ns)
all-end w [] each = tt
all-end w (r ∷ ns) each =
    let here = rises w r each.0 in
    let rest = grows (appended w r) ns each.2 in
    let is = grown_end w r in
    (record { start = omega (arith, here, rest, is); last = omega (arith, rest, is) }, all-end (appended w r) ns each.2)

pub record AllNeeded (end : ℕ) (records : List LogRecord) (place : ℕ) (why : Why) : Type 0 where
  pub refusal : read_refusal end (record { records = records; place = place; why = why }) ≡ None
  pub needed : needed end (record { records = records; place = place; why = why }) ≡ records

pub all-needed : (end : Lsn) (records : List LogRecord) (named : List (List Named)) (place : ℕ) (why : Why) → end.0 ≤ place
    → AllByRecursion (EndsBy end.0) records → AllHaveNames records named → AllNeeded end.0 records place why
all-needed end [] named place why late all has = record { refusal = ended_late end.0 place why late; needed = ended_none end.0 place why }
all-needed end (r ∷ rs) [] place why late all has = absurd has
all-needed end (r ∷ rs) (m ∷ ms) place why late all has =
    let rest = all-needed end rs ms place why late all.1 has.1 in
    let log : Log = record { records = rs; place = place; why = why } in
    let passed = unrefused end (record { 0 = r.end }) r has.0.parts (Ok m) has.0.read has.0.names refl refl all.0.last in
    record {
      refusal = passed_refusal end.0 r log all.0.start passed ∙ rest.refusal;
      needed = needed_first end.0 r log all.0.start ∙ ap (λ l. r ∷ l) rest.needed;
    }

-- ---- a record that links to one below it is read by itself too

module _ (c : Contents) (log : LogPath) (before place : ℕ) (r : LogRecord) (below : before < place) where
  abbrev files : Folder
  files = folder_of c log.folder

  alone_spells : Spells log files (Some before) place r → Spells log files None place r
  alone_spells s = record {
    bytes = s.bytes;
    last = s.last;
    spelled = s.spelled;
    last_byte = s.last_byte;
    start = s.start;
    aligned = s.aligned;
    first_byte = s.first_byte;
    begins = s.begins;
    announced = s.announced;
    header = s.header;
    body = s.body;
    total = s.total;
    least = s.least;
    greatest = s.greatest;
    manager = s.manager;
    link = let link = s.link in omega (arith, link, below);
    crc = s.crc;
    end = s.end;
    within = s.within;
  }

  pub read-alone : reading (page_at log files) (bytes_of log.size) (Some before) place ≡ Spelled r → reading (page_at log files) (bytes_of log.size) None place ≡ Spelled r
  read-alone is = (spells_both log files None place r).1 (alone_spells ((spells_both log files (Some before) place r).0 is))

  -- and the log from there is the same
  pub log-alone : 0 < bytes_of log.size → place < 2 ^ 64 → reading (page_at log files) (bytes_of log.size) (Some before) place ≡ Spelled r
      → log_from (page_at log files) (bytes_of log.size) None place ≡ log_from (page_at log files) (bytes_of log.size) (Some before) place
  log-alone some low is =
      let pages = page_at log files in
      let size = bytes_of log.size in
      log_next pages size place None some low
      ∙ ap (λ x. log_step (log_from pages size) size None place x) (read-alone is)
      ∙ sym (ap (λ x. log_step (log_from pages size) size (Some before) place x) is)
      ∙ sym (log_next pages size place (Some before) some low)

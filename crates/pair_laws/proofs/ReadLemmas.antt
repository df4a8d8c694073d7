-- The logs of a pair are read.
use Rattle.std.proofs.Common.{◌≡◌, ℕ, ◌+◌, ◌-◌, ◌/◌, ◌%◌, ◌^◌, ◌<◌, ◌≤◌, List, [], ◌∷◌, ◌++◌, take, length, replicate, Some, inl, inr, lit<, refl, ap, sym, ◌∙◌, arith, subst, length-append}
use Rattle.std.proofs.Math.Seq.{take-append-add}
use Rattle.std.proofs.lemmas.List.{length-replicate, take-replicate}
use Rattle.std.specs.List.{AllByRecursion, fold}
use Rattle.cluster_tree.specs.Contents.{Contents, FileEntry, entry_at}
use Rattle.cluster_tree.specs.PathValue.{below}
use Rattle.reset_plan.specs.Plan.{padded}
use Rattle.wal_base.specs.Segment.{bytes_of, name_of}
use Rattle.wal_pages.specs.Folder.{folder_of}
use Rattle.wal_pages.specs.LogBytes.{segment_of}
use Rattle.wal_pages.specs.declared.log_path.LogPath.{LogPath}
use Rattle.wal_records.specs.Again.{Holds, IsLogFrom, log_records, new_log_record}
use Rattle.wal_records.specs.Further.{pages_of}
use Rattle.wal_records.specs.Log.{log_from}
use Rattle.wal_records.specs.Place.{place_at}
use Rattle.wal_records.specs.Reading.{Spelled, reading}
use Rattle.wal_records.specs.Sound.{AllNew, IsSound}
use Rattle.wal_records.specs.Stored.{IsPathOf, IsStored, end_why, segment_part}
use Rattle.wal_records.specs.Writer.{NewRecord, Written, appended, begun, in_pages, whole_pages, written}
use Rattle.wal_records.specs.declared.log_origin.LogOrigin.{LogOrigin}
use Rattle.wal_records.proofs.AppendLemmas.{origin_page}
use Rattle.wal_records.proofs.BackLemmas.{all_low, all_sound}
use Rattle.wal_records.proofs.StateLemmas.{begun_sound, reached}
use Rattle.wal_records.proofs.StoredLemmas.{path_from, stored_holds}
use Rattle.pair_maker.specs.Files.{segment_bytes}
use Rattle.pair_maker.specs.Logs.{origin_of, records_of}
use Rattle.pair_maker.specs.declared.side.Side.{Side}
use Rattle.pair_maker.specs.declared.side.Side.TheVariants.{Target, Source}
use Rattle.pair_laws.specs.Read.{IsRead, PairLogsAreRead}
use Rattle.pair_laws.proofs.NearLemmas.{Grown, IsSmall, grown}
use Rattle.pair_laws.proofs.RunLemmas.{log-as, new-back, new-front, read-at, read-from, run-append, run-origin}
use Rattle.pair_laws.proofs.SmallLemmas.{all_few, all_small}

-- ---- the one segment

-- so many of bytes that go on in zeros, where there are no more bytes
take-padded : (n : ℕ) (xs : List ℕ) → length xs ≤ n → take n (xs ++ replicate n 0) ≡ xs ++ replicate (n - length xs) 0
take-padded n xs few =
    let e : n ≡ length xs + (n - length xs) = omega arith in
    ap (λ k. take k (xs ++ replicate n 0)) e ∙ take-append-add xs (replicate n 0) (n - length xs) ∙ ap (λ l. xs ++ l) (take-replicate (n - length xs) n 0 (omega arith))

-- a segment that is whole, as a part of a log that begins with it
one-part : (bytes : List ℕ) → length bytes ≤ 0x10_0000 → segment_part 0x10_0000 0x10_0000 bytes 1 ≡ padded bytes 0x10_0000
one-part bytes few = take-padded 0x10_0000 bytes few

whole-few : (n : ℕ) → n ≤ 0x10_0000 → whole_pages n ≤ 0x10_0000
whole-few n few = omega arith

in_pages-few : (bytes : List ℕ) → length bytes ≤ 0x10_0000 → length (in_pages bytes) ≤ 0x10_0000
unfolding in_pages
in_pages-few bytes few = omega (arith, length-append bytes (replicate (whole_pages (length bytes) - length bytes) 0), length-replicate {A = ℕ} (whole_pages (length bytes) - length bytes) 0, whole-few (length bytes) few, few)

-- where the one segment stands that a sound log has
stored : (log : LogPath) (c : Contents) (w : Written) → bytes_of log.size ≡ 0x10_0000 → w.origin.start ≡ 0x10_0000 → IsSound w → w.end < 0x20_0000
    → entry_at c (below log.folder (name_of (segment_of log 1) ∷ [])) ≡ Some (FileEntry (padded (in_pages w.bytes) 0x10_0000))
    → IsStored log c w.origin.start w.end (in_pages w.bytes)
stored log c w size start sound low file =
    let few : length w.bytes ≤ 0x10_0000 = elim (reached w sound) [
      | inl a ↦ omega (arith, a.1)
      | inr b ↦ omega (arith, b.1, start, low)
    ] in
    record {
      file = λ number from to.
          let first : w.origin.start / bytes_of log.size ≡ 1 = ap (λ n. n / bytes_of log.size) start ∙ ap (λ n. 0x10_0000 / n) size in
          let last : w.end / bytes_of log.size ≡ w.end / 0x10_0000 = ap (λ n. w.end / n) size in
          let one : number ≡ 1 = omega (arith, first, last, from, to, low) in
          let part : segment_part (bytes_of log.size) w.origin.start (in_pages w.bytes) 1 ≡ padded (in_pages w.bytes) 0x10_0000 =
          ap (λ n. segment_part n w.origin.start (in_pages w.bytes) 1) size ∙ ap (λ n. segment_part 0x10_0000 n (in_pages w.bytes) 1) start ∙ one-part (in_pages w.bytes) (in_pages-few w.bytes few) in
          subst (λ k. entry_at c (below log.folder (name_of (segment_of log k) ∷ [])) ≡ Some (FileEntry (segment_part (bytes_of log.size) w.origin.start (in_pages w.bytes) k))) (sym one)
          (file ∙ ap (λ l. Some (FileEntry l)) (sym part));
    }

pages-hold : (log : LogPath) (c : Contents) (w : Written) → log.size ≡ w.origin.size → IsSound w → w.origin.start % bytes_of w.origin.size ≡ 0 → w.end < 2 ^ 63
    → IsStored log c w.origin.start w.end (in_pages w.bytes) → Holds log (folder_of c log.folder) w.origin.start w.bytes
unfolding in_pages
pages-hold log c w same sound starts low is =
    stored_holds log c w.origin w.bytes (whole_pages (length w.bytes) - length w.bytes) w.end same starts low
    (λ at page within. elim (reached w sound) [
      | inl a ↦ omega (arith, a.0, a.1, page, within, origin_page w.origin starts)
      | inr b ↦ omega (arith, b.1, within)
    ])
    is

-- ---- a log of small records

tli-some : (side : Side) → (0 < (origin_of side).tli) × ((origin_of side).tli < 2 ^ 32)
tli-some Target = (lit< tt, lit< tt)
tli-some Source = (lit< tt, lit< tt)

module _ (log : LogPath) (c : Contents) (side : Side) (records : List NewRecord) (few : length records ≤ 4098) (small : AllByRecursion IsSmall records)
    (path : IsPathOf log (origin_of side))
    (file : entry_at c (below log.folder (name_of (segment_of log 1) ∷ [])) ≡ Some (FileEntry (segment_bytes side records))) where
  abbrev o : LogOrigin
  o = origin_of side

  abbrev whole : Written
  whole = fold appended (begun o) records

  is-written : (front : List NewRecord) → fold appended (begun o) front ≡ written o front
  unfolding written
  is-written front = refl

  sound-first : IsSound (begun o)
  sound-first = begun_sound o refl

  facts : Grown (begun o) whole records
  facts = grown records (begun o) small sound-first (lit< tt) (omega (arith, few))

  low-end : whole.end < 0x20_0000
  low-end = omega (arith, facts.end, few)

  size : bytes_of log.size ≡ 0x10_0000
  size = ap bytes_of path.size

  holds : Holds log (folder_of c log.folder) whole.origin.start whole.bytes
  unfolding segment_bytes written
  holds =
      let same : whole.origin ≡ o = facts.origin in
      pages-hold log c whole (path.size ∙ sym (ap (λ (x : LogOrigin). x.size) same)) facts.sound (subst (λ (x : LogOrigin). x.start % bytes_of x.size ≡ 0) (sym same) refl) (omega (arith, low-end))
      (stored log c whole size (ap (λ (x : LogOrigin). x.start) same) facts.sound low-end file)

  of : IsLogFrom log o
  of = path_from log o (tli-some side).1 (lit< tt) path

  module _ (front back : List NewRecord) (is : records ≡ front ++ back) where
    abbrev at : Written
    at = fold appended (begun o) front

    parts : AllNew (begun o) (front ++ back)
    parts = subst (AllNew (begun o)) is facts.each

    at-sound : IsSound at
    at-sound = all_sound front (begun o) sound-first (new-front front back (begun o) parts)

    at-low : at.end < 2 ^ 63
    at-low = all_low front (begun o) (lit< tt) (new-front front back (begun o) parts)

    at-origin : at.origin ≡ o
    at-origin = run-origin front (begun o)

    rest : whole ≡ fold appended at back
    rest = ap (fold appended (begun o)) is ∙ run-append front back (begun o)

    at-holds : Holds log (folder_of c log.folder) at.origin.start (fold appended at back).bytes
    at-holds =
        subst (λ (x : LogOrigin). Holds log (folder_of c log.folder) x.start (fold appended at back).bytes) (facts.origin ∙ sym at-origin)
        (subst (λ (w : Written). Holds log (folder_of c log.folder) whole.origin.start w.bytes) rest holds)

    at-of : IsLogFrom log at.origin
    at-of = subst (IsLogFrom log) (sym at-origin) of

    from-there : log_from (pages_of log c) 0x10_0000 at.before (place_at 0x10_0000 at.end)
        ≡ record { records = log_records at back; place = place_at 0x10_0000 whole.end; why = end_why whole }
    from-there =
        subst (λ (x : LogOrigin). log_from (pages_of log c) (bytes_of x.size) at.before (place_at (bytes_of x.size) at.end)
        ≡ log-as (log_records at back) (place_at (bytes_of x.size) (fold appended at back).end) (end_why (fold appended at back))) at-origin
        (read-from log (folder_of c log.folder) at back at-sound (new-back front back (begun o) parts) at-low at-holds at-of)
        ∙ ap (λ (w : Written). log-as (log_records at back) (place_at 0x10_0000 w.end) (end_why w)) (sym rest)

  spelled-at : (front : List NewRecord) (r : NewRecord) (back : List NewRecord) → records ≡ front ++ r ∷ back
      → reading (pages_of log c) 0x10_0000 (fold appended (begun o) front).before (place_at 0x10_0000 (fold appended (begun o) front).end)
      ≡ Spelled (new_log_record (fold appended (begun o) front) r)
  spelled-at front r back is =
      subst (λ (x : LogOrigin). reading (pages_of log c) (bytes_of x.size) (fold appended (begun o) front).before (place_at (bytes_of x.size) (fold appended (begun o) front).end)
      ≡ Spelled (new_log_record (fold appended (begun o) front) r)) (at-origin front (r ∷ back) is)
      (read-at log (folder_of c log.folder) (fold appended (begun o) front) r back (at-sound front (r ∷ back) is) (new-back front (r ∷ back) (begun o) (parts front (r ∷ back) is))
      (at-low front (r ∷ back) is) (at-holds front (r ∷ back) is) (at-of front (r ∷ back) is))

  pub small-read : IsRead (pages_of log c) side records
  unfolding written
  small-read = record { each = facts.each; low = low-end; spelled = spelled-at; from = from-there }

pub side-read : PairLogsAreRead
side-read log c side seed blocks few path file =
    small-read log c side (records_of side seed blocks) (omega (arith, all_few side seed blocks, few)) (all_small side seed blocks few) path file

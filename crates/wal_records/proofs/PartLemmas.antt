-- The bytes of a record, as they grow page by page.
use Rattle.std.proofs.Common.{◌≡◌, ℕ, ◌+◌, ◌-◌, ◌%◌, ◌<◌, ◌≤◌, min, List, ◌++◌, take, drop, length, Option, refl, sym, ap, ◌∙◌, subst, arith, length-append, length-drop}
use Rattle.std.proofs.lemmas.List.{take-append-drop, take-append-le, drop-append-le, get_or_append_left, length-take, take_all}
use Rattle.std.proofs.Math.Seq.{take-append_seam, take-length}
use Rattle.layout.specs.Readers.{u8_at, u32_at, u64_at}
use Rattle.wal_pages.specs.declared.log_path.LogPath.{LogPath}
use Rattle.wal_records.specs.declared.cursor.LogEnd.{LogEnd}
use Rattle.wal_records.specs.declared.header.RecordHeader.{RecordHeader}
use Rattle.wal_records.specs.Header.{header_of, greatest_total}
use Rattle.wal_records.specs.Reading.{LogRecord, record_of}
use Rattle.wal_records.specs.Spells.{LinksTo}
use Rattle.wal_records.specs.Cursor.{CursorView, IsWhole}
use Rattle.wal_records.specs.Steps.{Grows, IsPart, HasFirst, IsAll}

-- what stands at the front of some bytes stands there still when more are added
word_front_0 : (xs ys : List ℕ) → 4 ≤ length xs → u32_at 0 (xs ++ ys) ≡ u32_at 0 xs
unfolding u32_at
word_front_0 xs ys h =
    let e0 = get_or_append_left xs ys 0 0 (omega arith) in
    let e1 = get_or_append_left xs ys 0 1 (omega arith) in
    let e2 = get_or_append_left xs ys 0 2 (omega arith) in
    let e3 = get_or_append_left xs ys 0 3 (omega arith) in
    cc

long_front_0 : (xs ys : List ℕ) → 8 ≤ length xs → u64_at 0 (xs ++ ys) ≡ u64_at 0 xs
unfolding u64_at
long_front_0 xs ys h =
    let e0 = get_or_append_left xs ys 0 0 (omega arith) in
    let e1 = get_or_append_left xs ys 0 1 (omega arith) in
    let e2 = get_or_append_left xs ys 0 2 (omega arith) in
    let e3 = get_or_append_left xs ys 0 3 (omega arith) in
    let e4 = get_or_append_left xs ys 0 4 (omega arith) in
    let e5 = get_or_append_left xs ys 0 5 (omega arith) in
    let e6 = get_or_append_left xs ys 0 6 (omega arith) in
    let e7 = get_or_append_left xs ys 0 7 (omega arith) in
    cc

word_dropped : (at : ℕ) (xs : List ℕ) → u32_at at xs ≡ u32_at 0 (drop at xs)
unfolding u32_at
word_dropped at xs = refl

long_dropped : (at : ℕ) (xs : List ℕ) → u64_at at xs ≡ u64_at 0 (drop at xs)
unfolding u64_at
long_dropped at xs = refl

pub word_front : (at : ℕ) (xs ys : List ℕ) → at + 4 ≤ length xs → u32_at at (xs ++ ys) ≡ u32_at at xs
word_front at xs ys h =
    word_dropped at (xs ++ ys) ∙ ap (u32_at 0) (drop-append-le at xs ys (omega arith))
    ∙ word_front_0 (drop at xs) ys (omega (arith, length-drop at xs)) ∙ sym (word_dropped at xs)

pub long_front : (at : ℕ) (xs ys : List ℕ) → at + 8 ≤ length xs → u64_at at (xs ++ ys) ≡ u64_at at xs
long_front at xs ys h =
    long_dropped at (xs ++ ys) ∙ ap (u64_at 0) (drop-append-le at xs ys (omega arith))
    ∙ long_front_0 (drop at xs) ys (omega (arith, length-drop at xs)) ∙ sym (long_dropped at xs)

pub byte_front : (at : ℕ) (xs ys : List ℕ) → at < length xs → u8_at at (xs ++ ys) ≡ u8_at at xs
unfolding u8_at
byte_front at xs ys h = get_or_append_left xs ys 0 at h

-- the word at an offset is the first one of what stands there
pub word_taken : (at total : ℕ) (page : List ℕ) → 4 ≤ length (take total (drop at page)) → u32_at 0 (take total (drop at page)) ≡ u32_at at page
word_taken at total page h =
    sym (word_front_0 (take total (drop at page)) (drop total (drop at page)) h)
    ∙ ap (u32_at 0) (take-append-drop total (drop at page))
    ∙ sym (word_dropped at page)

whole_of : (old new : List ℕ) → take (length old) new ≡ old → new ≡ old ++ drop (length old) new
whole_of old new e = sym (take-append-drop (length old) new) ∙ ap (λ xs. xs ++ drop (length old) new) e

pub part_grows : (total more : ℕ) (old new : List ℕ) → IsPart total old → Grows old new more → IsPart total new
part_grows total more old new part grows = record {
  least = part.least;
  greatest = part.greatest;
  front = omega (arith, part.front, grows.size);
  total_at = ap (u32_at 0) (whole_of old new grows.front) ∙ word_front 0 old (drop (length old) new) part.front ∙ part.total_at;
}

pub grows_on : (a b c : List ℕ) (m n more : ℕ) → Grows a b m → Grows b c n → more ≡ m + n → Grows a c more
grows_on a b c m n more first second e = record {
  front =
      ap (take (length a)) (whole_of b c second.front)
      ∙ take-append-le (length a) b (drop (length b) c) (omega (arith, first.size))
      ∙ first.front;
  size = omega (arith, first.size, second.size, e);
}

pub grows_none : (a : List ℕ) → Grows a a 0
grows_none a = record { front = take-length a; size = omega arith }

pub grows_by : (old new more : List ℕ) (n : ℕ) → new ≡ old ++ more → length more ≡ n → Grows old new n
grows_by old new more n e size = record {
  front = ap (take (length old)) e ∙ take-append_seam old more;
  size = ap length e ∙ length-append old more ∙ ap (λ k. length old + k) size;
}

pub first_part : (place total : ℕ) (page bytes : List ℕ) → length page ≡ 8192 → place % 8 ≡ 0 → 24 ≤ total → total ≤ greatest_total
    → total ≡ u32_at (place % 8192) page → bytes ≡ take total (drop (place % 8192) page) → HasFirst place total bytes
first_part place total page bytes whole at least greatest is e =
    let size : length (take total (drop (place % 8192) page)) ≡ min total (8192 - place % 8192) =
    length-take total (drop (place % 8192) page) ∙ ap (min total) (length-drop (place % 8192) page ∙ ap (λ n. n - place % 8192) whole) in
    let first : length bytes ≡ min total (8192 - place % 8192) = ap length e ∙ size in
    let some : 4 ≤ length (take total (drop (place % 8192) page)) = omega (arith, size, at, least) in
    record {
      part = record {
        least = least;
        greatest = greatest;
        front = omega (arith, first, size, some);
        total_at = ap (u32_at 0) e ∙ word_taken (place % 8192) total page some ∙ sym is;
      };
      first = first;
      whole = at;
    }

pub all_there : (place end total : ℕ) (bytes : List ℕ) → IsPart total bytes → length bytes ≡ total → place + total ≤ end → IsAll place end bytes
all_there place end total bytes part size up = record {
  least = omega (arith, part.least, size);
  greatest = omega (arith, part.greatest, size);
  total = part.total_at ∙ sym size;
  longer = omega (arith, size, up);
}

-- a slice up to the end of a list
pub rest_whole : (bytes : List ℕ) → take (length bytes - 24) (drop 24 bytes) ≡ drop 24 bytes
rest_whole bytes = take_all (length bytes - 24) (drop 24 bytes) (omega (arith, length-drop 24 bytes))

-- a record that was found is whole
pub whole_record : (at end : ℕ) (bytes : List ℕ) → IsAll at end bytes → IsWhole (record_of at end bytes)
whole_record at end bytes all = record {
  size = omega (arith, length-drop 24 bytes, all.least, all.total);
  bound = omega (arith, length-drop 24 bytes, all.least, all.greatest);
}

pub part_of : (a b : ℕ) (bytes : List ℕ) → a ≡ b → IsPart a bytes → IsPart b bytes
part_of a b bytes e part = let P : ℕ → Type 0 = λ n. IsPart n bytes in subst P e part

-- the link of a record is that of its first bytes
pub link_kept : (before : Option ℕ) (place : ℕ) (old new : List ℕ) (header : RecordHeader) → take (length old) new ≡ old → 24 ≤ length old
    → header ≡ header_of old → LinksTo before place header.prev.0 → LinksTo before place (u64_at 8 new)
link_kept before place old new header front long is linked =
    subst (LinksTo before place)
    (ap (λ (h : RecordHeader). h.prev.0) is ∙ sym (long_front 8 old (drop (length old) new) (omega (arith, long))) ∙ sym (ap (u64_at 8) (whole_of old new front)))
    linked

-- and that of the record that was found
pub link_of_record : (old before : Option ℕ) (start end : ℕ) (bytes : List ℕ) (r : LogRecord) → r ≡ record_of start end bytes → old ≡ before
    → LinksTo old start (u64_at 8 bytes) → LinksTo before r.start r.header.prev.0
link_of_record old before start end bytes r is e linked =
    subst (λ (x : LogRecord). LinksTo before x.start x.header.prev.0) (sym is) (subst (λ (x : Option ℕ). LinksTo x start (u64_at 8 bytes)) e linked)

-- a cursor of which a call left all but the page that it holds and the record that it gave
pub same_but_read : (log : LogPath) (old : CursorView) (held : Option ℕ) (page : List ℕ) (before : Option ℕ) (place : ℕ) (ended : Option LogEnd) (current : Option LogRecord)
    → log ≡ old.log → before ≡ old.before → place ≡ old.place → ended ≡ old.ended
    → (let new : CursorView = record { log = log; held = held; page = page; before = before; place = place; ended = ended; current = current } in
    new ≡ record old { held = held; page = page; current = current })
same_but_read log old held page before place ended current a b c d = cc

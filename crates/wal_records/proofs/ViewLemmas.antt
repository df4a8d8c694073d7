-- The two views of a record: what is read at a place, and the relation on the payload.
use Rattle.std.proofs.Common.{◌≡◌, ◌↔◌, ℕ, ◌+◌, ◌-◌, ◌%◌, ◌<◌, ◌≤◌, ◌++◌, false, List, [], map, take, drop, length, Option, Some, None, refl, sym, ap, ◌∙◌, subst, arith, inl, inr, length-append, length-drop}
use Rattle.std.specs.List.{flat_map, AllByRecursion}
use Rattle.std.proofs.lemmas.Bool.{cases_lt, le-ltb}
use Rattle.std.proofs.lemmas.List.{take_all, map-append, append-nil}
use Rattle.layout.specs.Readers.{u32_at}
use Rattle.wal_base.specs.Segment.{bytes_of}
use Rattle.wal_pages.specs.declared.log_path.LogPath.{LogPath}
use Rattle.wal_pages.specs.Folder.{Folder}
use Rattle.wal_pages.specs.Header.{header_size, page_of, header_of as page_header}
use Rattle.wal_pages.specs.Page.{page_at}
use Rattle.wal_pages.specs.Payload.{in_header, payload}
use Rattle.wal_records.specs.declared.header.RecordHeader.{RecordHeader}
use Rattle.wal_records.specs.Header.{header_of, header_fault, checksum}
use Rattle.wal_records.specs.Further.{FurtherPage, further, stop_at, piece}
use Rattle.wal_records.specs.Extent.{behind_in, behind_of, end_of}
use Rattle.wal_records.specs.Reading.{LogRecord, Spelled, reading, sealed, sealed_end}
use Rattle.wal_records.specs.Spells.{Announces, Spells}
use Rattle.wal_records.proofs.FurtherLemmas.{further_none}
use Rattle.wal_records.proofs.FactLemmas.{not_lt, outside, place_is, fresh_of, fresh_is, header_of_none, header_none_is, seal_of_none, seal_none_is}
use Rattle.wal_records.proofs.PartLemmas.{word_taken, word_front}
use Rattle.wal_records.proofs.PayloadLemmas.{IsHere, payload_append, payload_at, page_bytes}
use Rattle.wal_records.proofs.SpellsLemmas.{here, same_bytes, some_length, walks_of}
use Rattle.wal_records.proofs.RelationLemmas.{front_of, rest_of, IsParts, HasParts, parts_read, read_parts, length_least, length_fits}
use Rattle.wal_records.proofs.CarriedLemmas.{are_pages, behind_parts, first_size, pages_first, carried_of, total_at}

announces_left : (log : LogPath) (files : Folder) (at a b : ℕ) → a ≡ b → Announces log files at a → Announces log files at b
announces_left log files at a b e h = let P : ℕ → Type 0 = λ n. Announces log files at n in subst P e h

-- What is read is spelled.
pub spells_from : (log : LogPath) (files : Folder) (before : Option ℕ) (place : ℕ) (page bytes : List ℕ) → IsParts (page_at log files) (bytes_of log.size) before place page bytes
    → Spells log files before place (sealed (bytes_of log.size) place (u32_at (place % 8192) page) bytes)
spells_from log files before place page bytes parts =
    let size : ℕ = bytes_of log.size in
    let o : ℕ = place % 8192 in
    let total : ℕ = u32_at o page in
    let behind : ℕ = behind_of size place total in
    let h = here log files (page_of place) page (pages_first place) parts.begins in
    let stands = outside log place parts.stands in
    let range = length_least total parts.total in
    let c = carried_of log files before place page bytes parts in
    let header = header_of_none before place (header_of bytes) parts.linked in
    let seal = seal_of_none size place total bytes parts.sealing in
    let last : behind ≡ behind - 1 + 1 = omega (arith, c.is.some) in
    let total_is : u32_at 0 bytes ≡ length bytes =
    ap (u32_at 0) parts.payload ∙ total_at place total page (flat_map (piece (page_at log files) size) (rest_of size place page)) h.size stands.0 range.0 ∙ sym c.count in
    record {
      bytes = bytes;
      last = behind - 1;
      spelled = ap (λ n. payload log files place (n - place)) (sym last) ∙ c.is.carried;
      last_byte = c.is.last_byte;
      start = refl;
      aligned = stands.0;
      first_byte = le-ltb (place % 8192) (header_size size (page_of place)) stands.1;
      begins = record { page = page; valid = parts.begins; fresh = fresh_of size place (page_header page).info parts.fresh };
      announced = λ at whole low high.
          announces_left log files at _ _ (ap (λ n. length (payload log files at (n - at))) last)
          (c.is.announced at whole low (omega (arith, high, c.is.some)));
      header = refl;
      body = refl;
      total = total_is;
      least = omega (arith, c.count, range.0);
      greatest = omega (arith, c.count, range.1);
      manager = header.0;
      link = header.1;
      crc = sym seal.1;
      end = ap (end_of size (header_of bytes)) last;
      within = seal.0;
    }

-- from the payload back to the parts
pub record Back (log : LogPath) (files : Folder) (place last : ℕ) (page bytes : List ℕ) : Type 0 where
  pub total_is : u32_at (place % 8192) page ≡ length bytes
  pub announced : AllByRecursion (λ f. stop_at (page_at log files) f ≡ None) (rest_of (bytes_of log.size) place page)
  pub payload : bytes ≡ front_of place page ++ flat_map (piece (page_at log files) (bytes_of log.size)) (rest_of (bytes_of log.size) place page)
  pub behind : behind_of (bytes_of log.size) place (u32_at (place % 8192) page) ≡ last + 1

back_near : (log : LogPath) (files : Folder) (place last : ℕ) (page bytes : List ℕ) → IsHere log files (page_of place) page → header_size (bytes_of log.size) (page_of place) ≤ place % 8192 → place % 8 ≡ 0
    → payload log files place (last + 1 - place) ≡ map Some bytes → 24 ≤ length bytes → u32_at 0 bytes ≡ length bytes → last < page_of place + 8192 → Back log files place last page bytes
back_near log files place last page bytes h head at carried least total near =
    let size : ℕ = bytes_of log.size in
    let o : ℕ = place % 8192 in
    let n : ℕ = last + 1 - place in
    let fm : List FurtherPage → List ℕ = flat_map (piece (page_at log files) size) in
    let whole : page_of place + o ≡ place = omega arith in
    let there : payload log files place n ≡ map Some (take n (drop o page)) =
    payload_at log files place (page_of place + o) n (sym whole) ∙ page_bytes log files (page_of place) page o n h head (omega (arith, near)) in
    let is : bytes ≡ take n (drop o page) = same_bytes bytes (take n (drop o page)) (sym carried ∙ there) in
    let count : length bytes ≡ n = ap length is ∙ first_size place n page h.size ∙ omega (arith, near) in
    let word : u32_at 0 bytes ≡ u32_at o page = ap (u32_at 0) is ∙ word_taken o n page (omega (arith, ap length is, least)) in
    let total_is : u32_at o page ≡ length bytes = sym word ∙ total in
    let front : front_of place page ≡ bytes = ap (λ m. take m (drop o page)) (total_is ∙ count) ∙ sym is in
    let left : u32_at o page - length (front_of place page) ≡ 0 = omega (arith, ap length front, total_is) in
    let rest : rest_of size place page ≡ [] = further_none size (page_of place + 8192) (u32_at o page - length (front_of place page)) left in
    let P : List FurtherPage → Type 0 = AllByRecursion (λ f. stop_at (page_at log files) f ≡ None) in
    record {
      total_is = total_is;
      announced = subst P (sym rest) tt;
      payload = sym front ∙ sym (append-nil (front_of place page)) ∙ sym (ap (λ xs. front_of place page ++ fm xs) rest);
      behind =
          behind_parts size place (u32_at o page) (length (front_of place page)) (u32_at o page - length (front_of place page)) (first_size place (u32_at o page) page h.size) refl
          ∙ ap (behind_in size (place + length (front_of place page))) rest ∙ omega (arith, ap length front, count, least);
    }

back_far : (log : LogPath) (files : Folder) (place last : ℕ) (page bytes : List ℕ) → IsHere log files (page_of place) page → header_size (bytes_of log.size) (page_of place) ≤ place % 8192 → place % 8 ≡ 0
    → payload log files place (last + 1 - place) ≡ map Some bytes → u32_at 0 bytes ≡ length bytes → page_of place + 8192 ≤ last → in_header log last ≡ false
    → ((at : ℕ) → at % 8192 ≡ 0 → place < at → at ≤ last → Announces log files at (length (payload log files at (last + 1 - at))))
    → Back log files place last page bytes
back_far log files place last page bytes h head at carried total far inside announced =
    let size : ℕ = bytes_of log.size in
    let o : ℕ = place % 8192 in
    let n : ℕ = 8192 - o in
    let next : ℕ = page_of place + 8192 in
    let left : ℕ = length (payload log files next (last + 1 - next)) in
    let fm : List FurtherPage → List ℕ = flat_map (piece (page_at log files) size) in
    let whole : page_of place + o ≡ place = omega arith in
    let first : List ℕ = take n (drop o page) in
    let first_is : length first ≡ n = first_size place n page h.size ∙ omega arith in
    let walks = walks_of log files (last + 1) next left last (place + n) (omega arith) far (omega arith) inside refl (λ other whole_other low high. announced other whole_other (omega (arith, low)) high) in
    let rest : List ℕ = fm (further size next left) in
    let count : length rest ≡ left = sym (ap length walks.carried ∙ some_length rest) in
    let span : last + 1 - place ≡ n + (last + 1 - next) = omega (arith, far) in
    let there : payload log files place (last + 1 - place) ≡ map Some (first ++ rest) =
    ap (payload log files place) span ∙ payload_append log files place n (last + 1 - next)
    ∙ ap (λ xs. xs ++ payload log files (place + n) (last + 1 - next)) (payload_at log files place (page_of place + o) n (sym whole) ∙ page_bytes log files (page_of place) page o n h head (omega arith))
    ∙ ap (λ xs. map Some first ++ xs) (payload_at log files (place + n) next (last + 1 - next) (omega arith) ∙ walks.carried)
    ∙ sym (map-append Some first rest) in
    let is : bytes ≡ first ++ rest = same_bytes bytes (first ++ rest) (sym carried ∙ there) in
    let size_is : length bytes ≡ n + left = ap length is ∙ length-append first rest ∙ omega (arith, first_is, count) in
    let some : 4 ≤ length first = omega (arith, first_is, at) in
    let word : u32_at 0 bytes ≡ u32_at o page = ap (u32_at 0) is ∙ word_front 0 first rest (omega (arith, some)) ∙ word_taken o n page some in
    let total_is : u32_at o page ≡ length bytes = sym word ∙ total in
    let front : front_of place page ≡ first =
    take_all (u32_at o page) (drop o page) (omega (arith, length-drop o page, h.size, total_is, size_is)) ∙ sym (take_all n (drop o page) (omega (arith, length-drop o page, h.size))) in
    let left_is : u32_at o page - length (front_of place page) ≡ left = omega (arith, ap length front, first_is, total_is, size_is) in
    let rest_is : rest_of size place page ≡ further size next left = ap (further size next) left_is in
    let P : List FurtherPage → Type 0 = AllByRecursion (λ f. stop_at (page_at log files) f ≡ None) in
    record {
      total_is = total_is;
      announced = subst P (sym rest_is) walks.all;
      payload = is ∙ ap (λ xs. xs ++ rest) (sym front) ∙ sym (ap (λ xs. front_of place page ++ fm xs) rest_is);
      behind =
          behind_parts size place (u32_at o page) (length (front_of place page)) (u32_at o page - length (front_of place page)) (first_size place (u32_at o page) page h.size) refl
          ∙ ap (behind_in size (place + length (front_of place page))) rest_is ∙ ap (λ m. behind_in size (place + m) (further size next left)) (ap length front ∙ first_is) ∙ walks.behind;
    }

same_record : (a b : LogRecord) → a.start ≡ b.start → a.end ≡ b.end → a.header ≡ b.header → a.body ≡ b.body → a ≡ b
same_record a b p q r s = ap (λ x. record { start = x; end = a.end; header = a.header; body = a.body }) p
    ∙ ap (λ x. record { start = b.start; end = x; header = a.header; body = a.body }) q
    ∙ ap (λ x. record { start = b.start; end = b.end; header = x; body = a.body }) r
    ∙ ap (λ x. record { start = b.start; end = b.end; header = b.header; body = x }) s

-- What is spelled has the parts of what is read.
pub parts_from : (log : LogPath) (files : Folder) (before : Option ℕ) (place : ℕ) (r : LogRecord) → Spells log files before place r → HasParts (page_at log files) (bytes_of log.size) before place r
parts_from log files before place r s =
    let size : ℕ = bytes_of log.size in
    let o : ℕ = place % 8192 in
    let page : List ℕ = s.begins.page in
    let total : ℕ = u32_at o page in
    let h = here log files (page_of place) page (pages_first place) s.begins.valid in
    let head : header_size size (page_of place) ≤ o = not_lt o (header_size size (page_of place)) s.first_byte in
    let word : u32_at 0 s.bytes ≡ length s.bytes = sym (ap (λ (x : RecordHeader). x.total) s.header) ∙ s.total in
    let b : Back log files place s.last page s.bytes =
    (elim (cases_lt s.last (page_of place + 8192)) [
      | inl near ↦ back_near log files place s.last page s.bytes h head s.aligned s.spelled s.least word near
      | inr far ↦ back_far log files place s.last page s.bytes h head s.aligned s.spelled word far s.last_byte s.announced
    ]) in
    let end : sealed_end size place total s.bytes ≡ r.end =
    ap (end_of size (header_of s.bytes)) b.behind ∙ sym (ap (λ x. end_of size x (s.last + 1)) s.header) ∙ sym s.end in
    let linked : header_fault before place (header_of s.bytes) ≡ None = sym (ap (header_fault before place) s.header) ∙ header_none_is before place r.header s.manager s.link in
    let sum : checksum s.bytes ≡ (header_of s.bytes).crc = sym s.crc ∙ ap (λ (x : RecordHeader). x.crc) s.header in
    record {
      page = page;
      bytes = s.bytes;
      parts = record {
        stands = place_is log place s.aligned head;
        begins = s.begins.valid;
        fresh = fresh_is size place (page_header page).info s.begins.fresh;
        total = length_fits total (omega (arith, b.total_is, s.least)) (omega (arith, b.total_is, s.greatest));
        announced = b.announced;
        payload = b.payload;
        linked = linked;
        sealing = seal_none_is size place total s.bytes (omega (arith, end, s.within)) sum;
      };
      is = same_record (sealed size place total s.bytes) r (sym s.start) end (sym s.header) (sym s.body);
    }

-- both ways
pub spells_both : (log : LogPath) (files : Folder) (before : Option ℕ) (place : ℕ) (r : LogRecord)
    → (reading (page_at log files) (bytes_of log.size) before place ≡ Spelled r) ↔ Spells log files before place r
spells_both log files before place r = (
  λ e.
      let p = read_parts (page_at log files) (bytes_of log.size) before place r (are_pages log files) e in
      let P : LogRecord → Type 0 = λ x. Spells log files before place x in
      subst P p.is (spells_from log files before place p.page p.bytes p.parts),
  λ s.
      let p = parts_from log files before place r s in
      parts_read (page_at log files) (bytes_of log.size) before place p.page p.bytes (are_pages log files) p.parts ∙ ap Spelled p.is,
)

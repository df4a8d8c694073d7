-- The bytes of a record are the payload from its place on.
use Rattle.std.proofs.Common.{◌≡◌, ℕ, ◌+◌, ◌-◌, ◌%◌, ◌<◌, ◌≤◌, min, ◌++◌, false, List, [], map, take, drop, length, Option, Some, refl, sym, ap, ◌∙◌, subst, arith, inl, inr, length-append, length-drop}
use Rattle.std.specs.List.{flat_map}
use Rattle.std.proofs.lemmas.Bool.{cases_lt}
use Rattle.std.proofs.lemmas.List.{take_all, length-take, map-append, append-nil}
use Rattle.layout.specs.Readers.{u32_at}
use Rattle.wal_base.specs.Segment.{bytes_of}
use Rattle.wal_pages.specs.declared.log_path.LogPath.{LogPath}
use Rattle.wal_pages.specs.Folder.{Folder}
use Rattle.wal_pages.specs.Header.{header_size, page_of}
use Rattle.wal_pages.specs.Page.{page_at}
use Rattle.wal_pages.specs.Payload.{in_header, payload}
use Rattle.wal_pages.proofs.LogLemmas.{is_read, read_length}
use Rattle.wal_records.specs.Further.{FurtherPage, further, piece}
use Rattle.wal_records.specs.Extent.{behind_in, behind_of}
use Rattle.wal_records.specs.Spells.{Announces}
use Rattle.wal_records.proofs.FurtherLemmas.{further_none}
use Rattle.wal_records.proofs.FactLemmas.{outside}
use Rattle.wal_records.proofs.PartLemmas.{word_taken, word_front}
use Rattle.wal_records.proofs.PayloadLemmas.{IsHere, payload_append, payload_at, past_head, page_bytes}
use Rattle.wal_records.proofs.SpellsLemmas.{here, Runs, runs_of}
use Rattle.wal_records.proofs.RelationLemmas.{ArePages, front_of, rest_of, IsParts, length_least}

pub are_pages : (log : LogPath) (files : Folder) → ArePages (page_at log files)
are_pages log files at page e = read_length log files at page (is_read log files at page e)

-- The bytes of a record are the payload up to a last byte, and the pages in between announce them.
pub record Carried (log : LogPath) (files : Folder) (place behind : ℕ) (bytes : List ℕ) : Type 0 where
  pub some : place < behind
  pub last_byte : in_header log (behind - 1) ≡ false
  pub carried : payload log files place (behind - place) ≡ map Some bytes
  pub announced : (at : ℕ) → at % 8192 ≡ 0 → place < at → at < behind → Announces log files at (length (payload log files at (behind - at)))

pub behind_parts : (size place total first left : ℕ) → first ≡ min total (8192 - place % 8192) → left ≡ total - first → behind_of size place total ≡ behind_in size (place + first) (further size (page_of place + 8192) left)
unfolding behind_of
behind_parts size place total first left f l = rw (l, f) refl

carried_near : (log : LogPath) (files : Folder) (place total : ℕ) (page : List ℕ) → IsHere log files (page_of place) page → header_size (bytes_of log.size) (page_of place) ≤ place % 8192 → 0 < total → total ≤ 8192 - place % 8192
    → Carried log files place (place + total) (take total (drop (place % 8192) page))
carried_near log files place total page h head some fits =
    let at : ℕ = page_of place in
    let o : ℕ = place % 8192 in
    let whole : at + o ≡ place = omega arith in
    let span : place + total - place ≡ total = omega arith in
    let last : place + total - 1 ≡ at + (o + total - 1) = omega (arith, some) in
    record {
      some = omega (arith, some);
      last_byte = ap (in_header log) last ∙ past_head log at (o + total - 1) h.whole (omega (arith, fits, some)) (omega (arith, head, some));
      carried = ap (payload log files place) span ∙ payload_at log files place (at + o) total (sym whole) ∙ page_bytes log files at page o total h head (omega (arith, fits));
      announced = λ other whole_other low high. absurd (omega (arith, whole_other, low, high, fits));
    }

carried_far : (log : LogPath) (files : Folder) (place left behind : ℕ) (page rest : List ℕ) → IsHere log files (page_of place) page → header_size (bytes_of log.size) (page_of place) ≤ place % 8192
    → Runs log files (page_of place + 8192) left behind rest → Carried log files place behind (drop (place % 8192) page ++ rest)
carried_far log files place left behind page rest h head runs =
    let at : ℕ = page_of place in
    let o : ℕ = place % 8192 in
    let n : ℕ = 8192 - o in
    let whole : at + o ≡ place = omega arith in
    let all : take n (drop o page) ≡ drop o page = take_all n (drop o page) (omega (arith, length-drop o page, h.size)) in
    let span : behind - place ≡ n + (behind - (at + 8192)) = omega (arith, runs.some) in
    let next : place + n ≡ at + 8192 = omega arith in
    let first : payload log files place n ≡ map Some (drop o page) =
    payload_at log files place (at + o) n (sym whole) ∙ page_bytes log files at page o n h head (omega arith) ∙ ap (map Some) all in
    record {
      some = omega (arith, runs.some);
      last_byte = runs.last_byte;
      carried =
          ap (payload log files place) span ∙ payload_append log files place n (behind - (at + 8192))
          ∙ ap (λ xs. xs ++ payload log files (place + n) (behind - (at + 8192))) first
          ∙ ap (λ xs. map Some (drop o page) ++ xs) (payload_at log files (place + n) (at + 8192) (behind - (at + 8192)) next ∙ runs.carried)
          ∙ sym (map-append Some (drop o page) rest);
      announced = λ other whole_other low high. runs.announced other whole_other (omega (arith, whole_other, low)) high;
    }

carried_at : (log : LogPath) (files : Folder) (place a b : ℕ) (xs ys : List ℕ) → a ≡ b → xs ≡ ys → Carried log files place a xs → Carried log files place b ys
carried_at log files place a b xs ys e f c =
    let P : ℕ → Type 0 = λ n. Carried log files place n xs in
    let Q : List ℕ → Type 0 = λ l. Carried log files place b l in
    subst Q f (subst P e c)

-- what the first page has: all of the record, or all that it holds
pub first_size : (place total : ℕ) (page : List ℕ) → length page ≡ 8192 → length (take total (drop (place % 8192) page)) ≡ min total (8192 - place % 8192)
first_size place total page e = length-take total (drop (place % 8192) page) ∙ ap (min total) (length-drop (place % 8192) page ∙ ap (λ n. n - place % 8192) e)

pub pages_first : (place : ℕ) → page_of place % 8192 ≡ 0
pages_first place = omega arith

-- the payload of a record that is read, with its length
pub record IsCarried (log : LogPath) (files : Folder) (place total : ℕ) (bytes : List ℕ) : Type 0 where
  pub is : Carried log files place (behind_of (bytes_of log.size) place total) bytes
  pub count : length bytes ≡ total

pub carried_of : (log : LogPath) (files : Folder) (before : Option ℕ) (place : ℕ) (page bytes : List ℕ) → IsParts (page_at log files) (bytes_of log.size) before place page bytes
    → IsCarried log files place (u32_at (place % 8192) page) bytes
carried_of log files before place page bytes parts =
    let size : ℕ = bytes_of log.size in
    let o : ℕ = place % 8192 in
    let total : ℕ = u32_at o page in
    let front : List ℕ = front_of place page in
    let left : ℕ = total - length front in
    let fm : List FurtherPage → List ℕ = flat_map (piece (page_at log files) size) in
    let h = here log files (page_of place) page (pages_first place) parts.begins in
    let head = (outside log place parts.stands).1 in
    let range = length_least total parts.total in
    let first : length front ≡ min total (8192 - o) = first_size place total page h.size in
    let behind = behind_parts size place total (length front) left first refl in
    elim (cases_lt 0 left) [
      | inl some ↦
          let whole : front ≡ drop o page = take_all total (drop o page) (omega (arith, length-drop o page, h.size, first, some)) in
          let next : (page_of place + 8192) % 8192 ≡ 0 = omega arith in
          let fits : left ≤ left = omega arith in
          let runs = runs_of log files left (page_of place + 8192) left (place + length front) next some fits parts.announced in
          let bytes_is : drop o page ++ fm (rest_of size place page) ≡ bytes = ap (λ xs. xs ++ fm (rest_of size place page)) (sym whole) ∙ sym parts.payload in
          record {
            is = carried_at log files place _ _ _ _ (sym behind) bytes_is (carried_far log files place left _ page _ h head runs);
            count = ap length parts.payload ∙ length-append front (fm (rest_of size place page)) ∙ omega (arith, runs.count, some);
          }
      | inr none ↦
          let rest : rest_of size place page ≡ [] = further_none size (page_of place + 8192) left (omega (arith, none)) in
          let bytes_is : bytes ≡ front = parts.payload ∙ ap (λ xs. front ++ fm xs) rest ∙ append-nil front in
          let total_is : length front ≡ total = omega (arith, first, none) in
          let behind_is : place + total ≡ behind_of size place total = sym (behind ∙ ap (behind_in size (place + length front)) rest ∙ ap (λ n. place + n) total_is) in
          record {
            is = carried_at log files place _ _ _ _ behind_is (sym bytes_is) (carried_near log files place total page h head (omega (arith, range.0)) (omega (arith, first, total_is)));
            count = ap length bytes_is ∙ total_is;
          }
    ]

pub total_at : (place total : ℕ) (page rest : List ℕ) → length page ≡ 8192 → place % 8 ≡ 0 → 24 ≤ total → u32_at 0 (take total (drop (place % 8192) page) ++ rest) ≡ u32_at (place % 8192) page
total_at place total page rest size at least =
    let some : 4 ≤ length (take total (drop (place % 8192) page)) = omega (arith, first_size place total page size, at, least) in
    word_front 0 (take total (drop (place % 8192) page)) rest (omega (arith, some)) ∙ word_taken (place % 8192) total page some

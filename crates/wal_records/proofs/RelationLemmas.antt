-- What the relation says of a place, and what is read there, are one.
use Rattle.std.proofs.Common.{◌≡◌, ℕ, ◌+◌, ◌-◌, ◌%◌, ◌<◌, ◌≤◌, min, ◌++◌, Bool, true, false, cond, List, [], ◌∷◌, take, drop, length, Option, Some, None, Result, Ok, Err, refl, sym, ap, ◌∙◌, subst, arith, inl, inr, append_assoc, length-append, length-drop}
use Rattle.std.specs.List.{flat_map, AllByRecursion}
use Rattle.std.proofs.lemmas.Bool.{cases_lt}
use Rattle.std.proofs.lemmas.Bool.Decides.{nat_tests}
use Rattle.std.proofs.lemmas.List.{length-take}
use Rattle.layout.specs.Readers.{u32_at}
use Rattle.wal_pages.specs.Header.{header_size, page_of, header_of as page_header}
use Rattle.wal_pages.specs.Page.{Refusal}
use Rattle.wal_records.specs.declared.header.RecordHeader.{RecordHeader}
use Rattle.wal_records.specs.declared.why.Why.{Why}
use Rattle.wal_records.specs.declared.why.Why.TheVariants as why
use Rattle.wal_records.specs.declared.why.Stop.{Stop}
use Rattle.wal_records.specs.declared.why.Stop.TheVariants.{Ends}
use Rattle.wal_records.specs.Place.{is_place}
use Rattle.wal_records.specs.Header.{header_of, length_fault, header_fault, greatest_total}
use Rattle.wal_records.specs.Further.{Pages, FurtherPage, further_page, room, further, first_stop, or_stop, stop_in, stop_at, piece, piece_in, why_refused, Gathered, gathered}
use Rattle.wal_records.specs.Reading.{LogRecord, Reading, Spelled, Stopped, reading, reading_in, continues_at, after_first, after_front, after_header, after_rest, sealed, seal_fault, unless, ends}
use Rattle.wal_records.proofs.FurtherLemmas.{further_more, header_short}
use Rattle.wal_records.proofs.PartLemmas.{word_front, long_front, byte_front}
use Rattle.wal_records.proofs.ReadingLemmas.{read_on, first_whole, first_reaches, front_on, body_on, rest_sealed}

fields : (a b c d e f g h i j k l : ℕ) → a ≡ b → c ≡ d → e ≡ f → g ≡ h → i ≡ j → k ≡ l
    → ◌≡◌ {A = RecordHeader} (record { total = a; xid = c; prev = record { 0 = e }; info = g; manager = i; crc = k }) (record { total = b; xid = d; prev = record { 0 = f }; info = h; manager = j; crc = l })
fields a b c d e f g h i j k l p q r s t u = cc

-- a header stays when bytes are added behind it
pub header_front : (xs ys : List ℕ) → 24 ≤ length xs → header_of (xs ++ ys) ≡ header_of xs
header_front xs ys h = fields _ _ _ _ _ _ _ _ _ _ _ _
    (word_front 0 xs ys (omega arith)) (word_front 4 xs ys (omega arith)) (long_front 8 xs ys (omega arith))
    (byte_front 16 xs ys (omega arith)) (byte_front 17 xs ys (omega arith)) (word_front 20 xs ys (omega arith))

-- what the first page has of a record, and its further pages
abbrev pub front_of : ℕ → List ℕ → List ℕ
front_of place page = take (u32_at (place % 8192) page) (drop (place % 8192) page)

abbrev pub rest_of : ℕ → ℕ → List ℕ → List FurtherPage
rest_of size place page = further size (page_of place + 8192) (u32_at (place % 8192) page - length (front_of place page))

-- the parts of a reading that is a record
pub record IsParts (pages : Pages) (size : ℕ) (before : Option ℕ) (place : ℕ) (page bytes : List ℕ) : Type 0 where
  pub stands : is_place size place ≡ true
  pub begins : pages (page_of place) ≡ Ok page
  pub fresh : continues_at size place (page_header page).info ≡ false
  pub total : length_fault (u32_at (place % 8192) page) ≡ None
  pub announced : AllByRecursion (λ f. stop_at pages f ≡ None) (rest_of size place page)
  pub payload : bytes ≡ front_of place page ++ flat_map (piece pages size) (rest_of size place page)
  pub linked : header_fault before place (header_of bytes) ≡ None
  pub sealing : seal_fault size place (u32_at (place % 8192) page) bytes ≡ None

-- every page has 8192 bytes
abbrev pub ArePages : Pages → Type 0
ArePages pages = (at : ℕ) (page : List ℕ) → pages at ≡ Ok page → length page ≡ 8192

both_none : (a b : Option Stop) → or_stop a b ≡ None → (a ≡ None) × (b ≡ None)
both_none None b e = (refl, e)
both_none (Some a) b e = absurd cc

none_all : (pages : Pages) (xs : List FurtherPage) → first_stop pages xs ≡ None → AllByRecursion (λ x. stop_at pages x ≡ None) xs
none_all pages [] e = tt
none_all pages (x ∷ xs) e = let both = both_none (stop_at pages x) (first_stop pages xs) e in (both.0, none_all pages xs both.1)

all_none : (pages : Pages) (xs : List FurtherPage) → AllByRecursion (λ x. stop_at pages x ≡ None) xs → first_stop pages xs ≡ None
all_none pages [] h = refl
all_none pages (x ∷ xs) h = ap (λ s. or_stop s (first_stop pages xs)) h.0 ∙ all_none pages xs h.1

unless_spelled : (s : Option Stop) (x : Reading) (r : LogRecord) → unless s x ≡ Spelled r → (s ≡ None) × (x ≡ Spelled r)
unless_spelled None x r e = (refl, e)
unless_spelled (Some stop) x r e = absurd cc

stopped_else : (b : Bool) (stop : Stop) (x : Reading) (r : LogRecord) → cond b (Stopped stop) x ≡ Spelled r → (b ≡ false) × (x ≡ Spelled r)
stopped_else true stop x r e = absurd cc
stopped_else false stop x r e = (refl, e)

else_stopped : (b : Bool) (stop : Stop) (x : Reading) (r : LogRecord) → cond b x (Stopped stop) ≡ Spelled r → (b ≡ true) × (x ≡ Spelled r)
else_stopped true stop x r e = (refl, e)
else_stopped false stop x r e = absurd cc

ends_none : (why : Option Why) → ends why ≡ None → why ≡ None
ends_none None e = refl
ends_none (Some why) e = absurd cc

same_record : (a b : LogRecord) → Spelled a ≡ Spelled b → a ≡ b
same_record a b e = cc

-- from a whole header on
pub record Reached (pages : Pages) (size : ℕ) (before : Option ℕ) (place total : ℕ) (rest : List FurtherPage) (bytes : List ℕ) (r : LogRecord) : Type 0 where
  pub linked : header_fault before place (header_of bytes) ≡ None
  pub announced : AllByRecursion (λ f. stop_at pages f ≡ None) rest
  pub sealing : seal_fault size place total (bytes ++ flat_map (piece pages size) rest) ≡ None
  pub is : sealed size place total (bytes ++ flat_map (piece pages size) rest) ≡ r

reached : (pages : Pages) (size : ℕ) (before : Option ℕ) (place total : ℕ) (rest : List FurtherPage) (bytes : List ℕ) (r : LogRecord) → after_header pages size before place total rest bytes ≡ Spelled r
    → Reached pages size before place total rest bytes r
unfolding after_header after_rest gathered
reached pages size before place total rest bytes r e =
    let all : List ℕ = bytes ++ flat_map (piece pages size) rest in
    let a = unless_spelled (ends (header_fault before place (header_of bytes))) (unless (first_stop pages rest) (unless (ends (seal_fault size place total all)) (Spelled (sealed size place total all)))) r e in
    let b = unless_spelled (first_stop pages rest) (unless (ends (seal_fault size place total all)) (Spelled (sealed size place total all))) r a.1 in
    let c = unless_spelled (ends (seal_fault size place total all)) (Spelled (sealed size place total all)) r b.1 in
    record { linked = ends_none _ a.0; announced = none_all pages rest b.0; sealing = ends_none _ c.0; is = same_record _ r c.1 }

gathered_with : (a b : Option Stop) (bytes : List ℕ) → a ≡ b → ◌≡◌ {A = Gathered} (record { stop = a; bytes = bytes }) (record { stop = b; bytes = bytes })
gathered_with a b bytes e = cc

reaches : (pages : Pages) (size : ℕ) (before : Option ℕ) (place total : ℕ) (rest : List FurtherPage) (bytes : List ℕ)
    → header_fault before place (header_of bytes) ≡ None → AllByRecursion (λ f. stop_at pages f ≡ None) rest → seal_fault size place total (bytes ++ flat_map (piece pages size) rest) ≡ None
    → after_header pages size before place total rest bytes ≡ Spelled (sealed size place total (bytes ++ flat_map (piece pages size) rest))
unfolding gathered
reaches pages size before place total rest bytes linked all sealing =
    body_on pages size place total before rest bytes linked
    ∙ rest_sealed size place total (gathered pages size bytes rest) (bytes ++ flat_map (piece pages size) rest) None
    (gathered_with (first_stop pages rest) None (bytes ++ flat_map (piece pages size) rest) (all_none pages rest all)) sealing

has_page : (next : FurtherPage) (found : Result (List ℕ) Refusal) → stop_in next found ≡ None → (page : List ℕ) × (found ≡ Ok page)
has_page next (Err refusal) e = absurd cc
has_page next (Ok page) e = (page, refl)

-- where the header reaches the next page, it is whole with what that page has
long_enough : (pages : Pages) (size place total at left : ℕ) (page front : List ℕ) → ArePages pages → length page ≡ 8192 → 24 ≤ total → front ≡ take total (drop (place % 8192) page) → left ≡ total - length front
    → stop_at pages (further_page at left) ≡ None → 24 ≤ length (front ++ piece pages size (further_page at left))
long_enough pages size place total at left page front are whole least is l on =
    let next : FurtherPage = further_page at left in
    let p = has_page next (pages at) on in
    let size_is : length (piece pages size next) ≡ min left (8192 - header_size size at) =
    ap length (ap (piece_in size next) p.1) ∙ length-take left (drop (header_size size at) p.0) ∙ ap (min left) (length-drop (header_size size at) p.0 ∙ ap (λ n. n - header_size size at) (are at p.0 p.1)) in
    omega (arith, length-append front (piece pages size next), size_is, l, least, header_short size at)

-- a record that is read, from its first page on
pub record Taken (pages : Pages) (size : ℕ) (before : Option ℕ) (place total : ℕ) (rest : List FurtherPage) (bytes : List ℕ) (r : LogRecord) : Type 0 where
  pub linked : header_fault before place (header_of bytes) ≡ None
  pub announced : AllByRecursion (λ f. stop_at pages f ≡ None) rest
  pub sealing : seal_fault size place total bytes ≡ None
  pub is : sealed size place total bytes ≡ r

some_left : (total at left : ℕ) (front : List ℕ) → 24 ≤ total → length front < 24 → left ≡ total - length front → 0 < left
some_left total at left front least short l = omega arith

taken : (pages : Pages) (size : ℕ) (before : Option ℕ) (place total at left : ℕ) (page front : List ℕ) (r : LogRecord) → ArePages pages → length page ≡ 8192 → 24 ≤ total → front ≡ take total (drop (place % 8192) page)
    → at ≡ page_of place + 8192 → left ≡ total - length front → after_first pages size before place total front ≡ Spelled r
    → Taken pages size before place total (further size at left) (front ++ flat_map (piece pages size) (further size at left)) r
unfolding after_front
taken pages size before place total at left page front r are whole least is p l e =
    let fm : List FurtherPage → List ℕ = flat_map (piece pages size) in
    let P : List FurtherPage → Type 0 = AllByRecursion (λ f. stop_at pages f ≡ None) in
    elim (cases_lt (length front) 24) [
      | inl short ↦
          let next : FurtherPage = further_page at left in
          let rest : List FurtherPage = further size (at + 8192) (left - room size at) in
          let a = unless_spelled (stop_at pages next) (after_header pages size before place total rest (front ++ piece pages size next)) r (sym (first_reaches pages size place total at left before front short p l) ∙ e) in
          let t = reached pages size before place total rest (front ++ piece pages size next) r a.1 in
          let more : further size at left ≡ next ∷ rest = further_more size at left (some_left total at left front least short l) in
          let all : (front ++ piece pages size next) ++ fm rest ≡ front ++ fm (further size at left) =
          append_assoc front (piece pages size next) (fm rest) ∙ sym (ap (λ xs. front ++ fm xs) more) in
          let long = long_enough pages size place total at left page front are whole least is l a.0 in
          let header : header_of (front ++ piece pages size next) ≡ header_of (front ++ fm (further size at left)) =
          sym (header_front (front ++ piece pages size next) (fm rest) long) ∙ ap header_of all in
          record {
            linked = sym (ap (header_fault before place) header) ∙ t.linked;
            announced = subst P (sym more) (a.0, t.announced);
            sealing = sym (ap (seal_fault size place total) all) ∙ t.sealing;
            is = sym (ap (sealed size place total) all) ∙ t.is;
          }
      | inr long ↦
          let t = reached pages size before place total (further size at left) front r (sym (first_whole pages size place total at left before front long p l) ∙ e) in
          record {
            linked = ap (header_fault before place) (header_front front (fm (further size at left)) long) ∙ t.linked;
            announced = t.announced;
            sealing = t.sealing;
            is = t.is;
          }
    ]

takes : (pages : Pages) (size : ℕ) (before : Option ℕ) (place total at left : ℕ) (page front : List ℕ) → ArePages pages → length page ≡ 8192 → 24 ≤ total → front ≡ take total (drop (place % 8192) page)
    → at ≡ page_of place + 8192 → left ≡ total - length front
    → header_fault before place (header_of (front ++ flat_map (piece pages size) (further size at left))) ≡ None
    → AllByRecursion (λ f. stop_at pages f ≡ None) (further size at left)
    → seal_fault size place total (front ++ flat_map (piece pages size) (further size at left)) ≡ None
    → after_first pages size before place total front ≡ Spelled (sealed size place total (front ++ flat_map (piece pages size) (further size at left)))
takes pages size before place total at left page front are whole least is p l linked announced sealing =
    let fm : List FurtherPage → List ℕ = flat_map (piece pages size) in
    let P : List FurtherPage → Type 0 = AllByRecursion (λ f. stop_at pages f ≡ None) in
    elim (cases_lt (length front) 24) [
      | inl short ↦
          let next : FurtherPage = further_page at left in
          let rest : List FurtherPage = further size (at + 8192) (left - room size at) in
          let more : further size at left ≡ next ∷ rest = further_more size at left (some_left total at left front least short l) in
          let both : P (next ∷ rest) = subst P more announced in
          let all : (front ++ piece pages size next) ++ fm rest ≡ front ++ fm (further size at left) =
          append_assoc front (piece pages size next) (fm rest) ∙ sym (ap (λ xs. front ++ fm xs) more) in
          let long = long_enough pages size place total at left page front are whole least is l both.0 in
          let header : header_of (front ++ piece pages size next) ≡ header_of (front ++ fm (further size at left)) =
          sym (header_front (front ++ piece pages size next) (fm rest) long) ∙ ap header_of all in
          first_reaches pages size place total at left before front short p l
          ∙ front_on pages size place total before next front both.0
          ∙ reaches pages size before place total rest (front ++ piece pages size next) (ap (header_fault before place) header ∙ linked) both.1 (ap (seal_fault size place total) all ∙ sealing)
          ∙ ap (λ xs. Spelled (sealed size place total xs)) all
      | inr long ↦
          first_whole pages size place total at left before front long p l
          ∙ reaches pages size before place total (further size at left) front (sym (ap (header_fault before place) (header_front front (fm (further size at left)) long)) ∙ linked) announced sealing
    ]

pub length_least : (total : ℕ) → length_fault total ≡ None → (24 ≤ total) × (total ≤ greatest_total)
length_least total e = (grind (arith, nat_tests), grind (arith, nat_tests))

pub length_fits : (total : ℕ) → 24 ≤ total → total ≤ greatest_total → length_fault total ≡ None
length_fits total a b = grind (arith, nat_tests)

-- What the parts say is read.
pub parts_read : (pages : Pages) (size : ℕ) (before : Option ℕ) (place : ℕ) (page bytes : List ℕ) → ArePages pages → IsParts pages size before place page bytes
    → reading pages size before place ≡ Spelled (sealed size place (u32_at (place % 8192) page) bytes)
parts_read pages size before place page bytes are s =
    let total : ℕ = u32_at (place % 8192) page in
    let front : List ℕ = front_of place page in
    read_on pages size place before page None s.stands s.begins s.fresh s.total
    ∙ takes pages size before place total (page_of place + 8192) (total - length front) page front are (are (page_of place) page s.begins) (length_least total s.total).0 refl refl refl
    (sym (ap (λ b. header_fault before place (header_of b)) s.payload) ∙ s.linked) s.announced (sym (ap (seal_fault size place total) s.payload) ∙ s.sealing)
    ∙ sym (ap (λ b. Spelled (sealed size place total b)) s.payload)

stopped_no : (stop : Stop) (r : LogRecord) → Stopped stop ≡ Spelled r → ⊥
stopped_no stop r e = absurd cc

-- what is read has these parts
pub record HasParts (pages : Pages) (size : ℕ) (before : Option ℕ) (place : ℕ) (r : LogRecord) : Type 0 where
  pub page : List ℕ
  pub bytes : List ℕ
  pub parts : IsParts pages size before place page bytes
  pub is : sealed size place (u32_at (place % 8192) page) bytes ≡ r

from_page : (pages : Pages) (size : ℕ) (before : Option ℕ) (place : ℕ) (r : LogRecord) (found : Result (List ℕ) Refusal) → ArePages pages → is_place size place ≡ true → pages (page_of place) ≡ found
    → reading_in pages size before place found ≡ Spelled r → HasParts pages size before place r
unfolding reading_in
from_page pages size before place r (Err refusal) are stands is e = absurd (stopped_no (Ends (why_refused refusal)) r e)
from_page pages size before place r (Ok page) are stands is e =
    let total : ℕ = u32_at (place % 8192) page in
    let front : List ℕ = front_of place page in
    let a = stopped_else (continues_at size place (page_header page).info) (Ends why.Continuation) (unless (ends (length_fault total)) (after_first pages size before place total front)) r e in
    let b = unless_spelled (ends (length_fault total)) (after_first pages size before place total front) r a.1 in
    let range = ends_none (length_fault total) b.0 in
    let t = taken pages size before place total (page_of place + 8192) (total - length front) page front r are (are (page_of place) page is) (length_least total range).0 refl refl refl b.1 in
    record {
      page = page;
      bytes = front ++ flat_map (piece pages size) (rest_of size place page);
      parts = record { stands = stands; begins = is; fresh = a.0; total = range; announced = t.announced; payload = refl; linked = t.linked; sealing = t.sealing };
      is = t.is;
    }

pub read_parts : (pages : Pages) (size : ℕ) (before : Option ℕ) (place : ℕ) (r : LogRecord) → ArePages pages → reading pages size before place ≡ Spelled r → HasParts pages size before place r
unfolding reading
read_parts pages size before place r are e =
    let a = else_stopped (is_place size place) (Ends why.Place) (reading_in pages size before place (pages (page_of place))) r e in
    from_page pages size before place r (pages (page_of place)) are a.0 refl a.1

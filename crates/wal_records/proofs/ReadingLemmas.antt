-- Each way that the reading of a place may go.
use Rattle.std.proofs.Common.{◌≡◌, ℕ, List, ◌++◌, ◌+◌, ◌-◌, ◌%◌, ◌<◌, ◌≤◌, take, drop, length, Option, Some, None, Result, Ok, Err, true, false, refl, sym, ap, ◌∙◌}
use Rattle.std.proofs.lemmas.Bool.{lt-ltb, le-ltb}
use Rattle.layout.specs.Readers.{u32_at}
use Rattle.wal_pages.specs.Header.{page_of, header_of as page_header}
use Rattle.wal_pages.specs.Page.{Refusal}
use Rattle.wal_records.specs.declared.why.Why.{Why}
use Rattle.wal_records.specs.declared.why.Why.TheVariants as why
use Rattle.wal_records.specs.declared.why.Stop.{Stop}
use Rattle.wal_records.specs.declared.why.Stop.TheVariants.{Ends}
use Rattle.wal_records.specs.Place.{is_place}
use Rattle.wal_records.specs.Header.{header_of, header_fault, length_fault}
use Rattle.wal_records.specs.Further.{Pages, FurtherPage, further_page, further, room, stop_at, piece, Gathered, gathered}
use Rattle.wal_records.specs.Reading.{Spelled, Stopped, reading, reading_in, continues_at, after_first, after_front, after_header, after_rest, sealed, seal_fault, unless, ends}
use Rattle.wal_records.specs.Steps.{page_why}
use Rattle.wal_records.proofs.FurtherLemmas.{same_further}

pub read_no_place : (pages : Pages) (size place : ℕ) (before : Option ℕ) → is_place size place ≡ false → reading pages size before place ≡ Stopped (Ends why.Place)
unfolding reading
read_no_place pages size place before e = rw e refl

pub read_in : (pages : Pages) (size place : ℕ) (before : Option ℕ) → is_place size place ≡ true → reading pages size before place ≡ reading_in pages size before place (pages (page_of place))
unfolding reading
read_in pages size place before e = rw e refl

refused_in : (pages : Pages) (size place : ℕ) (before : Option ℕ) (found : Result (List ℕ) Refusal) (why : Why) → page_why found ≡ Some why → reading_in pages size before place found ≡ Stopped (Ends why)
unfolding reading_in
refused_in pages size place before (Ok page) why e = absurd cc
refused_in pages size place before (Err refusal) why e = ap (λ s. unless (ends s) (Stopped (Ends why))) e

pub read_refused : (pages : Pages) (size place : ℕ) (before : Option ℕ) (why : Why) → is_place size place ≡ true → page_why (pages (page_of place)) ≡ Some why → reading pages size before place ≡ Stopped (Ends why)
read_refused pages size place before why e w = read_in pages size place before e ∙ refused_in pages size place before (pages (page_of place)) why w

read_page : (pages : Pages) (size place : ℕ) (before : Option ℕ) (page : List ℕ) → is_place size place ≡ true → pages (page_of place) ≡ Ok page → reading pages size before place ≡ reading_in pages size before place (Ok page)
read_page pages size place before page e is = read_in pages size place before e ∙ ap (reading_in pages size before place) is

pub read_continues : (pages : Pages) (size place : ℕ) (before : Option ℕ) (page : List ℕ) → is_place size place ≡ true → pages (page_of place) ≡ Ok page → continues_at size place (page_header page).info ≡ true → reading pages size before place ≡ Stopped (Ends why.Continuation)
unfolding reading_in
read_continues pages size place before page e is b = read_page pages size place before page e is ∙ rw b refl

-- past the continuation rule
pub read_on : (pages : Pages) (size place : ℕ) (before : Option ℕ) (page : List ℕ) (fault : Option Why) → is_place size place ≡ true → pages (page_of place) ≡ Ok page → continues_at size place (page_header page).info ≡ false → length_fault (u32_at (place % 8192) page) ≡ fault
    → reading pages size before place ≡ unless (ends fault) (after_first pages size before place (u32_at (place % 8192) page) (take (u32_at (place % 8192) page) (drop (place % 8192) page)))
unfolding reading_in
read_on pages size place before page fault e is b f =
    read_page pages size place before page e is
    ∙ rw b (ap (λ x. unless (ends x) (after_first pages size before place (u32_at (place % 8192) page) (take (u32_at (place % 8192) page) (drop (place % 8192) page)))) f)

pub read_first : (pages : Pages) (size place : ℕ) (before : Option ℕ) (page : List ℕ) (total : ℕ) (bytes : List ℕ) → is_place size place ≡ true → pages (page_of place) ≡ Ok page → continues_at size place (page_header page).info ≡ false → length_fault total ≡ None
    → total ≡ u32_at (place % 8192) page → bytes ≡ take total (drop (place % 8192) page) → reading pages size before place ≡ after_first pages size before place total bytes
read_first pages size place before page total bytes e is b f t bs =
    read_on pages size place before page None e is b (sym (ap length_fault t) ∙ f)
    ∙ sym (ap (λ n. after_first pages size before place n (take n (drop (place % 8192) page))) t)
    ∙ sym (ap (after_first pages size before place total) bs)

-- the header is whole on the first page
pub first_whole : (pages : Pages) (size place total page left : ℕ) (before : Option ℕ) (first : List ℕ) → 24 ≤ length first → page ≡ page_of place + 8192 → left ≡ total - length first
    → after_first pages size before place total first ≡ after_header pages size before place total (further size page left) first
unfolding after_first
first_whole pages size place total page left before first long p l =
    rw (le-ltb (length first) 24 long) (ap (λ rest. after_header pages size before place total rest first) (sym (same_further size page (page_of place + 8192) left (total - length first) p l)))

same_page : (p q left more : ℕ) → p ≡ q → left ≡ more → further_page p left ≡ further_page q more
same_page p q left more a b = cc

-- the header reaches the next page
pub first_reaches : (pages : Pages) (size place total page left : ℕ) (before : Option ℕ) (first : List ℕ) → length first < 24 → page ≡ page_of place + 8192 → left ≡ total - length first
    → after_first pages size before place total first ≡ after_front pages size before place total (further_page page left) first
unfolding after_first
first_reaches pages size place total page left before first short p l =
    rw (lt-ltb (length first) 24 short) (ap (λ next. after_front pages size before place total next first) (sym (same_page page (page_of place + 8192) left (total - length first) p l)))

pub front_stops : (pages : Pages) (size place total : ℕ) (before : Option ℕ) (next : FurtherPage) (first : List ℕ) (stop : Stop) → stop_at pages next ≡ Some stop
    → after_front pages size before place total next first ≡ Stopped stop
unfolding after_front
front_stops pages size place total before next first stop e =
    ap (λ s. unless s (after_header pages size before place total (further size (next.at + 8192) (next.left - room size next.at)) (first ++ piece pages size next))) e

pub front_on : (pages : Pages) (size place total : ℕ) (before : Option ℕ) (next : FurtherPage) (first : List ℕ) → stop_at pages next ≡ None
    → after_front pages size before place total next first ≡ after_header pages size before place total (further size (next.at + 8192) (next.left - room size next.at)) (first ++ piece pages size next)
unfolding after_front
front_on pages size place total before next first e =
    ap (λ s. unless s (after_header pages size before place total (further size (next.at + 8192) (next.left - room size next.at)) (first ++ piece pages size next))) e

pub header_at : (pages : Pages) (size place total n : ℕ) (before : Option ℕ) (rest other : List FurtherPage) (bytes more : List ℕ) → total ≡ n → rest ≡ other → bytes ≡ more → after_header pages size before place total rest bytes ≡ after_header pages size before place n other more
header_at pages size place total n before rest other bytes more t a b = cc

pub body_fault : (pages : Pages) (size place total : ℕ) (before : Option ℕ) (rest : List FurtherPage) (bytes : List ℕ) (why : Why) → header_fault before place (header_of bytes) ≡ Some why → after_header pages size before place total rest bytes ≡ Stopped (Ends why)
unfolding after_header
body_fault pages size place total before rest bytes why e = ap (λ x. unless (ends x) (after_rest size place total (gathered pages size bytes rest))) e

pub body_on : (pages : Pages) (size place total : ℕ) (before : Option ℕ) (rest : List FurtherPage) (bytes : List ℕ) → header_fault before place (header_of bytes) ≡ None → after_header pages size before place total rest bytes ≡ after_rest size place total (gathered pages size bytes rest)
unfolding after_header
body_on pages size place total before rest bytes e = ap (λ x. unless (ends x) (after_rest size place total (gathered pages size bytes rest))) e

pub rest_stops : (size place total : ℕ) (found : Gathered) (stop : Stop) → found.stop ≡ Some stop → after_rest size place total found ≡ Stopped stop
unfolding after_rest
rest_stops size place total found stop e = ap (λ x. unless x (unless (ends (seal_fault size place total found.bytes)) (Spelled (sealed size place total found.bytes)))) e

pub rest_sealed : (size place total : ℕ) (found : Gathered) (bytes : List ℕ) (fault : Option Why) → found ≡ record { stop = None; bytes = bytes } → seal_fault size place total bytes ≡ fault → after_rest size place total found ≡ unless (ends fault) (Spelled (sealed size place total bytes))
unfolding after_rest
rest_sealed size place total found bytes fault e f = ap (after_rest size place total) e ∙ ap (λ x. unless (ends x) (Spelled (sealed size place total bytes))) f

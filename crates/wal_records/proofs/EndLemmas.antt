-- Where the bytes of a written log end, reading ends.
use Rattle.std.proofs.Common.{◌≡◌, ℕ, ◌+◌, ◌-◌, ◌%◌, ◌^◌, ◌<◌, ◌≤◌, ◌++◌, not, nat_eq, List, [], take, drop, length, get_or, replicate, Option, Some, Result, Ok, Err, refl, sym, ap, ◌∙◌, arith, length-drop}
use Rattle.std.proofs.lemmas.List.{drop_all, drop-take, drop-append-le, get_or-take, get_or-replicate}
use Rattle.cluster_tree.specs.Causes.{given}
use Rattle.layout.specs.Readers.{u32_at, u16_at}
use Rattle.wal_base.specs.Segment.{bytes_of}
use Rattle.wal_pages.specs.declared.log_path.LogPath.{LogPath}
use Rattle.wal_pages.specs.declared.field.PageField.TheVariants.{Magic}
use Rattle.wal_pages.specs.Folder.{Folder}
use Rattle.wal_pages.specs.Header.{header_of as page_header_of, header_size, has_bit, page_of}
use Rattle.wal_pages.specs.Page.{Refusal, Bad, page_at, unless_bad}
use Rattle.wal_pages.specs.ValidPage.{first_bad_field}
use Rattle.wal_records.specs.declared.log_origin.LogOrigin.{LogOrigin}
use Rattle.wal_records.specs.declared.why.Why.TheVariants as why
use Rattle.wal_records.specs.declared.why.Stop.TheVariants.{Ends}
use Rattle.wal_records.specs.Place.{place_at}
use Rattle.wal_records.specs.Header.{length_fault}
use Rattle.wal_records.specs.Further.{room}
use Rattle.wal_records.specs.Reading.{Stopped, reading}
use Rattle.wal_records.specs.Steps.{page_why}
use Rattle.wal_records.specs.Writer.{page_header}
use Rattle.wal_records.specs.Again.{IsLogFrom, Holds}
use Rattle.wal_records.specs.Sound.{IsEndIn}
use Rattle.wal_records.proofs.ReadingLemmas.{read_refused, read_on}
use Rattle.wal_records.proofs.FurtherLemmas.{header_short}
use Rattle.wal_records.proofs.WriterLemmas.{place_of_page}
use Rattle.wal_records.proofs.AgainLemmas.{pages_again}
use Rattle.wal_records.proofs.StandsLemmas.{page_stands, page_cut, bit_one}
use Rattle.wal_records.proofs.PlacedLemmas.{place_is, fresh_of}

zero_half : (z : List ℕ) → get_or z 0 0 ≡ 0 → get_or z 1 0 ≡ 0 → u16_at 0 z ≡ 0
unfolding u16_at
zero_half z a b = rw (a, b) refl

zero_word : (z : List ℕ) → get_or z 0 0 ≡ 0 → get_or z 1 0 ≡ 0 → get_or z 2 0 ≡ 0 → get_or z 3 0 ≡ 0 → u32_at 0 z ≡ 0
unfolding u32_at
zero_word z a b c d = rw (a, b, c, d) refl

word_from : (at : ℕ) (xs : List ℕ) → u32_at at xs ≡ u32_at 0 (drop at xs)
unfolding u32_at
word_from at xs = refl

zeros_at : (space n i : ℕ) → i < space → space ≤ n → get_or {A = ℕ} (take space (replicate n 0)) i 0 ≡ 0
zeros_at space n i lt le = get_or-take {A = ℕ} space (replicate n 0) i 0 lt ∙ get_or-replicate {A = ℕ} n i 0 0 (omega arith)

-- a page of zeros has no magic number
no_magic : (log : LogPath) (at : ℕ) (page : List ℕ) → u16_at 0 page ≡ 0 → first_bad_field log at page ≡ Some Magic
unfolding first_bad_field
no_magic log at page e = rw e refl

bad_page : (log : LogPath) (at : ℕ) (page : List ℕ) → u16_at 0 page ≡ 0 → unless_bad at page (first_bad_field log at page) ≡ Err (Bad at Magic)
bad_page log at page e = ap (unless_bad at page) (no_magic log at page e)

page_of_zeros : (log : LogPath) (files : Folder) (start at : ℕ) (bytes : List ℕ) → Holds log files start bytes → at % 8192 ≡ 0 → at ≡ start + length bytes → page_at log files at ≡ Err (Bad at Magic)
unfolding page_at
page_of_zeros log files start at bytes holds p e =
    let none : drop (at - start) bytes ≡ [] = drop_all (at - start) bytes (omega arith) in
    let zeros : List ℕ = take 8192 (replicate 8192 0) in
    ap (λ (r : Result (List ℕ) Refusal). given r (λ (page : List ℕ). unless_bad at page (first_bad_field log at page)))
    (holds.page at p (omega arith) (omega arith) ∙ ap (λ (t : List ℕ). Ok (take 8192 (t ++ replicate 8192 0))) none)
    ∙ bad_page log at zeros (zero_half zeros (zeros_at 8192 8192 0 (omega arith) (omega arith)) (zeros_at 8192 8192 1 (omega arith) (omega arith)))

pub header_eights : (size at : ℕ) → header_size size at % 8 ≡ 0
header_eights size at = grind arith

-- at a page's end the next page isn't there
pub ends_at_page : (log : LogPath) (files : Folder) (start size at : ℕ) (before : Option ℕ) (bytes : List ℕ) → Holds log files start bytes → at % 8192 ≡ 0 → at ≡ start + length bytes
    → reading (page_at log files) size before (place_at size at) ≡ Stopped (Ends why.Page)
ends_at_page log files start size at before bytes holds p e =
    let place : ℕ = place_at size at in
    let is : place ≡ at + header_size size at = place_of_page size at p in
    let page : page_of place ≡ at = omega (arith, is, header_short size at) in
    let behind : header_size size (page_of place) ≤ place % 8192 = omega (arith, ap (header_size size) page, is, header_short size at) in
    read_refused (page_at log files) size place before why.Page (place_is size place (omega (arith, is, header_eights size at)) behind)
    (ap page_why (ap (page_at log files) page ∙ page_of_zeros log files start at bytes holds p e))

-- within a page zeros follow
pub ends_in_page : (log : LogPath) (files : Folder) (o : LogOrigin) (bytes : List ℕ) (before : Option ℕ) (place : ℕ) → Holds log files o.start bytes
    → IsLogFrom log o → o.start + length bytes < 2 ^ 64 → IsEndIn o bytes place
    → reading (page_at log files) (bytes_of o.size) before place ≡ Stopped (Ends why.ZeroLength)
ends_in_page log files o bytes before place holds of low w =
    let size : ℕ = bytes_of o.size in
    let k : ℕ = place % 8192 in
    let space : ℕ = 8192 - k in
    let first : ℕ = page_of place in
    let zeros : List ℕ = replicate 8192 0 in
    let d : List ℕ = drop (first - o.start) bytes in
    let page : List ℕ = page_header o first w.left ++ take (room size first) (w.rest ++ zeros) in
    let split : first + k ≡ place = omega arith in
    let wide : 8 ≤ space = omega (arith, w.aligned) in
    let inside : first ≤ o.start + length bytes = omega (arith, split, w.reach) in
    let read : page_at log files first ≡ Ok page = page_stands log files o first w.left bytes w.rest holds (of first w.from) (omega arith) w.from inside (omega (arith, inside, low)) w.few w.head in
    let fits : k ≤ length d = omega (arith, length-drop (first - o.start) bytes, split, w.from, w.reach) in
    let whole : k + space ≡ 8192 = omega arith in
    let none : drop k d ≡ [] = drop_all k d (omega (arith, length-drop (first - o.start) bytes, split, w.from, w.reach)) in
    let rest : drop k page ≡ take space zeros =
    ap (drop k) (sym (page_cut o first w.left d w.rest w.head)) ∙ ap (λ (n : ℕ). drop k (take n (d ++ zeros))) (sym whole) ∙ drop-take k space (d ++ zeros)
    ∙ ap (take space) (drop-append-le k d zeros fits ∙ ap (λ (t : List ℕ). t ++ zeros) none) in
    let here = λ (i : ℕ) (lt : i < 8). zeros_at space 8192 i (omega (arith, wide, lt)) (omega arith) in
    let word : u32_at k page ≡ 0 = word_from k page ∙ ap (u32_at 0) rest ∙ zero_word (take space zeros) (here 0 (omega arith)) (here 1 (omega arith)) (here 2 (omega arith)) (here 3 (omega arith)) in
    let info = (pages_again log o first w.left (take (room size first) (w.rest ++ zeros)) (omega (arith, inside, low)) w.few (of first w.from)).info in
    read_on (page_at log files) size place before page (Some why.ZeroLength) (place_is size place w.aligned w.behind) read
    (fresh_of size place (page_header_of page).info (λ e.
    ap (λ (n : ℕ). has_bit n 1) info ∙ bit_one (nat_eq w.left 0) (nat_eq (first % size) 0) ∙ ap (λ (n : ℕ). not (nat_eq n 0)) (w.fresh e)))
    (ap length_fault word)

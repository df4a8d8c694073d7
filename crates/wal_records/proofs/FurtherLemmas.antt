-- One further page, and the pages one after another.
use Rattle.std.proofs.Common.{◌≡◌, ℕ, zero, suc, ◌+◌, ◌-◌, ◌*◌, ◌^◌, ◌<◌, ◌≤◌, ◌++◌, List, [], ◌∷◌, take, drop, Option, Some, None, Result, Ok, Err, refl, sym, ap, ◌∙◌, append_assoc, arith, inl, inr}
use Rattle.std.specs.List.{flat_map}
use Rattle.std.proofs.lemmas.List.{append-nil}
use Rattle.std.proofs.lemmas.Bool.{cases_lt}
use Rattle.cluster_tree.specs.Contents.{Contents}
use Rattle.wal_pages.specs.declared.header.PageHeader.{PageHeader}
use Rattle.wal_pages.specs.declared.log_path.LogPath.{LogPath}
use Rattle.wal_pages.specs.Folder.{Folder, folder_of}
use Rattle.wal_pages.specs.LogBytes.{segment_at}
use Rattle.wal_pages.specs.Header.{header_size, page_of, header_of as page_header}
use Rattle.wal_pages.specs.Page.{Refusal, Missing, page_at}
use Rattle.wal_records.specs.declared.why.Why.{Why}
use Rattle.wal_records.specs.declared.why.Why.TheVariants as why
use Rattle.wal_records.specs.declared.why.Stop.{Stop}
use Rattle.wal_records.specs.declared.why.Stop.TheVariants.{Ends, Dropped}
use Rattle.wal_records.specs.Further.{Pages, pages_of, FurtherPage, further_page, room, further_in, further, stop_of, stop_in, stop_at, or_stop, first_stop, piece, piece_in, Gathered, gathered}
use Rattle.wal_records.specs.Reading.{ends}
use Rattle.wal_records.specs.Steps.{page_why, DropsFrom, StopsFrom}

gathered_is : (a b : Option Stop) (x y : List ℕ) → a ≡ b → x ≡ y → ◌≡◌ {A = Gathered} (record { stop = a; bytes = x }) (record { stop = b; bytes = y })
gathered_is a b x y e f = cc

pub header_short : (size page : ℕ) → header_size size page ≤ 40
header_short size page = grind arith

pub room_some : (size page : ℕ) → 0 < room size page
room_some size page = grind arith

none_left : (size n page left : ℕ) → left ≡ 0 → further_in size n page left ≡ []
unfolding further_in
none_left size zero page left e = refl
none_left size (suc n) page left e = rw e refl

some_left : (size n page left : ℕ) → 0 < left → further_in size (suc n) page left ≡ further_page page left ∷ further_in size n (page + 8192) (left - room size page)
unfolding further_in
some_left size n page left h = grind arith

-- more pages than bytes make no difference
fuel_enough : (size m n page left : ℕ) → left ≤ m → left ≤ n → further_in size m page left ≡ further_in size n page left
fuel_enough size zero n page left a b = none_left size zero page left (omega arith) ∙ sym (none_left size n page left (omega arith))
fuel_enough size (suc m) zero page left a b = none_left size (suc m) page left (omega arith) ∙ sym (none_left size zero page left (omega arith))
fuel_enough size (suc m) (suc n) page left a b =
    elim (cases_lt 0 left) [
      | inl some ↦
          some_left size m page left some
          ∙ ap (λ rest. further_page page left ∷ rest) (fuel_enough size m n (page + 8192) (left - room size page) (omega (arith, room_some size page)) (omega (arith, room_some size page)))
          ∙ sym (some_left size n page left some)
      | inr none ↦ none_left size (suc m) page left (omega arith) ∙ sym (none_left size (suc n) page left (omega arith))
    ]

pub further_none : (size page left : ℕ) → left ≡ 0 → further size page left ≡ []
unfolding further
further_none size page left e = none_left size left page left e

pub further_more : (size page left : ℕ) → 0 < left → further size page left ≡ further_page page left ∷ further size (page + 8192) (left - room size page)
unfolding further
further_more size page zero h = absurd (omega arith)
further_more size page (suc n) h =
    some_left size n page (suc n) h
    ∙ ap (λ rest. further_page page (suc n) ∷ rest) (fuel_enough size n (suc n - room size page) (page + 8192) (suc n - room size page) (omega (arith, room_some size page)) (omega arith))

pub same_further : (size p q left more : ℕ) → p ≡ q → left ≡ more → further size p left ≡ further size q more
same_further size p q left more a b = cc

pub gathered_end : (pages : Pages) (size page left : ℕ) (bytes : List ℕ) → left ≡ 0 → gathered pages size bytes (further size page left) ≡ record { stop = None; bytes = bytes }
unfolding gathered
gathered_end pages size page left bytes e =
    ap (gathered pages size bytes) (further_none size page left e) ∙ gathered_is None None _ _ refl (append-nil bytes)

pub gathered_stop : (pages : Pages) (size page left : ℕ) (bytes : List ℕ) (stop : Stop) → 0 < left → stop_at pages (further_page page left) ≡ Some stop → (gathered pages size bytes (further size page left)).stop ≡ Some stop
unfolding gathered
gathered_stop pages size page left bytes stop some e =
    ap (first_stop pages) (further_more size page left some)
    ∙ ap (λ s. or_stop s (first_stop pages (further size (page + 8192) (left - room size page)))) e

pub gathered_more : (pages : Pages) (size page left : ℕ) (bytes : List ℕ) → 0 < left → stop_at pages (further_page page left) ≡ None
    → gathered pages size bytes (further size page left) ≡ gathered pages size (bytes ++ piece pages size (further_page page left)) (further size (page + 8192) (left - room size page))
unfolding gathered
gathered_more pages size page left bytes some e =
    let rest : List FurtherPage = further size (page + 8192) (left - room size page) in
    ap (gathered pages size bytes) (further_more size page left some)
    ∙ gathered_is (or_stop (stop_at pages (further_page page left)) (first_stop pages rest)) (first_stop pages rest) _ _ (ap (λ s. or_stop s (first_stop pages rest)) e)
    (sym (append_assoc bytes (piece pages size (further_page page left)) (flat_map (piece pages size) rest)))

pub gathered_at : (pages : Pages) (size p q left more : ℕ) (bytes others : List ℕ) → bytes ≡ others → p ≡ q → left ≡ more → gathered pages size bytes (further size p left) ≡ gathered pages size others (further size q more)
gathered_at pages size p q left more bytes others a b c = cc

no_page : (log : LogPath) (files : Folder) (page : ℕ) → 2 ^ 64 ≤ page → page_at log files page ≡ Err (Missing (segment_at log page))
unfolding page_at
no_page log files page h = grind arith

-- no segment holds a position from 2 ^ 64 on
pub past_end : (log : LogPath) (contents : Contents) (page left : ℕ) → 2 ^ 64 ≤ page → stop_at (pages_of log contents) (further_page page left) ≡ Some (Ends why.NoSegment)
past_end log contents page left h = ap (stop_in (further_page page left)) (no_page log (folder_of contents log.folder) page h)

pub own_page : (n : ℕ) → page_of (n * 8192) ≡ n * 8192
own_page n = omega arith

refused_in : (further : FurtherPage) (found : Result (List ℕ) Refusal) (why : Why) → page_why found ≡ Some why → stop_in further found ≡ Some (Ends why)
refused_in further (Ok page) why e = absurd cc
refused_in further (Err refusal) why e = ap ends e

pub stop_refused : (pages : Pages) (n left : ℕ) (why : Why) → page_why (pages (page_of (n * 8192))) ≡ Some why → stop_at pages (further_page (n * 8192) left) ≡ Some (Ends why)
stop_refused pages n left why e = refused_in (further_page (n * 8192) left) (pages (n * 8192)) why (sym (ap (λ p. page_why (pages p)) (own_page n)) ∙ e)

pub page_read : (pages : Pages) (n : ℕ) (page : List ℕ) → pages (page_of (n * 8192)) ≡ Ok page → pages (n * 8192) ≡ Ok page
page_read pages n page e = sym (ap pages (own_page n)) ∙ e

pub stop_read : (pages : Pages) (n left : ℕ) (page : List ℕ) (header : PageHeader) → pages (page_of (n * 8192)) ≡ Ok page → header ≡ page_header page → stop_at pages (further_page (n * 8192) left) ≡ stop_of (further_page (n * 8192) left) header
stop_read pages n left page header e h = ap (stop_in (further_page (n * 8192) left)) (page_read pages n page e) ∙ ap (stop_of (further_page (n * 8192) left)) (sym h)

pub piece_read : (pages : Pages) (size n left : ℕ) (page : List ℕ) → pages (page_of (n * 8192)) ≡ Ok page → piece pages size (further_page (n * 8192) left) ≡ take left (drop (header_size size (n * 8192)) page)
piece_read pages size n left page e = ap (piece_in size (further_page (n * 8192) left)) (page_read pages n page e)

pub drops_later : (a b : ℕ) (stop : Stop) → b ≤ a → DropsFrom a stop → DropsFrom b stop
drops_later a b (Ends why) h d = tt
drops_later a b (Dropped page) h d = omega (arith, h, d)

pub stops_later : (a b : ℕ) (stop : Option Stop) → b ≤ a → StopsFrom a stop → StopsFrom b stop
stops_later a b None h d = tt
stops_later a b (Some stop) h d = drops_later a b stop h d

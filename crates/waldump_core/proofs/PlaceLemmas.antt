-- The pages of a log, one by one.
use Rattle.std.proofs.Common.{◌≡◌, ℕ, suc, ◌+◌, ◌-◌, ◌/◌, ◌%◌, ◌^◌, ◌<◌, ◌≤◌, Option, None, Some, Result, Ok, Err, List, [], ◌∷◌, refl, ap, ◌∙◌, arith, map, is_some}
use Rattle.std.specs.List.{range_with_len, take_while}
use Rattle.cluster_tree.specs.Causes.{first_of}
use Rattle.wal_pages.specs.Header.{page_of, header_of}
use Rattle.wal_pages.specs.Page.{Refusal, answer_of}
use Rattle.wal_pages.specs.declared.header.PageHeader.{PageHeader}
use Rattle.wal_pages.specs.declared.fault.PageFault.{PageFault}
use Rattle.wal_records.specs.Further.{Pages}
use Rattle.waldump_core.specs.FirstPlace.{first_place, header_in, is_valid, page_start, pages_from, place_at, place_in, place_on}
use Rattle.waldump_core.proofs.ListLemmas.{kept_first}

-- a page begins where it begins
pub page_begins : (at : ℕ) → at % 8192 ≡ 0 → page_of at ≡ at
page_begins at h = omega (arith, h)

-- what was read of a page is its header, and what was refused is none
pub read_header : (found : Result (List ℕ) Refusal) (header : PageHeader) → answer_of found ≡ Ok header → header_in found ≡ Some header
read_header (Ok page) header is = let same : header_of page ≡ header = cc in ap (λ h. Some h) same
read_header (Err refusal) header is = absurd cc

pub refused_header : (found : Result (List ℕ) Refusal) (e : PageFault) → answer_of found ≡ Err e → header_in found ≡ None
refused_header (Ok page) e is = absurd cc
refused_header (Err refusal) e is = refl

ranged : (from n more : ℕ) → n ≡ suc more → map page_start (range_with_len from n) ≡ page_start from ∷ map page_start (range_with_len (from + 1) more)
ranged from n more is = ap (λ m. map page_start (range_with_len from m)) is

none_ranged : (from n : ℕ) → n ≡ 0 → map page_start (range_with_len from n) ≡ []
none_ranged from n is = ap (λ m. map page_start (range_with_len from m)) is

-- from a page on there are this page and those from the next one on
next_page : (at : ℕ) → at < 2 ^ 64 → at % 8192 ≡ 0 → pages_from at ≡ at ∷ pages_from (at + 8192)
unfolding pages_from
next_page at h whole =
    let less : 2 ^ 51 - at / 8192 ≡ suc (2 ^ 51 - (at + 8192) / 8192) = omega (arith, h, whole) in
    let here : page_start (at / 8192) ≡ at = omega (arith, whole) in
    let further : at / 8192 + 1 ≡ (at + 8192) / 8192 = omega arith in
    ranged (at / 8192) (2 ^ 51 - at / 8192) (2 ^ 51 - (at + 8192) / 8192) less
    ∙ ap (λ k. k ∷ map page_start (range_with_len (at / 8192 + 1) (2 ^ 51 - (at + 8192) / 8192))) here
    ∙ ap (λ k. at ∷ map page_start (range_with_len k (2 ^ 51 - (at + 8192) / 8192))) further

no_page : (at : ℕ) → 2 ^ 64 ≤ at → pages_from at ≡ []
unfolding pages_from
no_page at h = none_ranged (at / 8192) (2 ^ 51 - at / 8192) (omega (arith, h))

-- the first place on these pages
abbrev place_among : Pages → ℕ → List ℕ → Option ℕ
place_among pages size positions = first_of (map (place_at pages size) (take_while (is_valid pages) positions))

valid_first : (pages : Pages) (at : ℕ) (header : PageHeader) (rest : List ℕ) → header_in (pages at) ≡ Some header → take_while (is_valid pages) (at ∷ rest) ≡ at ∷ take_while (is_valid pages) rest
valid_first pages at header rest is = kept_first (is_valid pages) at rest (ap is_some is)

-- a page that isn't valid ends the search
pub place_refused : (pages : Pages) (size at : ℕ) → at < 2 ^ 64 → at % 8192 ≡ 0 → header_in (pages at) ≡ None → first_place pages size at ≡ None
unfolding first_of
place_refused pages size at h whole is = ap (place_among pages size) (next_page at h whole) ∙ rw is refl

pub place_found : (pages : Pages) (size at place : ℕ) (header : PageHeader) → at < 2 ^ 64 → at % 8192 ≡ 0 → header_in (pages at) ≡ Some header → place_on size at header ≡ Some place → first_place pages size at ≡ Some place
unfolding first_of
place_found pages size at place header h whole is on =
    let found : place_at pages size at ≡ Some place = ap (place_in size at) is ∙ on in
    ap (place_among pages size) (next_page at h whole) ∙ rw (valid_first pages at header (pages_from (at + 8192)) is, found) refl

pub place_later : (pages : Pages) (size at : ℕ) (header : PageHeader) → at < 2 ^ 64 → at % 8192 ≡ 0 → header_in (pages at) ≡ Some header → place_on size at header ≡ None → first_place pages size at ≡ first_place pages size (at + 8192)
unfolding first_of
place_later pages size at header h whole is on =
    let none : place_at pages size at ≡ None = ap (place_in size at) is ∙ on in
    ap (place_among pages size) (next_page at h whole) ∙ rw (valid_first pages at header (pages_from (at + 8192)) is, none) refl

-- there is no page behind the last position
pub place_past : (pages : Pages) (size at : ℕ) → 2 ^ 64 ≤ at → first_place pages size at ≡ None
unfolding first_of
place_past pages size at h = ap (place_among pages size) (no_page at h)

pub ruleset place_steps = (page_begins, read_header, refused_header, place_refused, place_found, place_later, place_past)

-- The calls that change a page, as functions of its bytes: PostgreSQL 16, src/backend/storage/page/bufpage.c,
-- PageInit, PageAddItemExtended, PageTruncateLinePointerArray, and itemid.h, ItemIdSetNormal and its kin.
use Rattle.std.specs.Prelude.{ℕ, zero, suc, ◌≡◌, ◌+◌, ◌-◌, ◌*◌, ◌/◌, ◌%◌, ◌==◌, ◌&&◌, ◌||◌, List, ◌++◌, Bool, true, nat_le, nat_lt, length, replicate, Option, Some, None, Result, Ok, Err, if◌then◌else◌}
use Rattle.layout.specs.Splice.{splice}
use Rattle.page_layout.specs.Bytes.{with_u16, cut, up8}
use Rattle.page_layout.specs.Page.{pd_lower, pd_upper, count, is_place, lp_flags, lp_len, well_formed}
use Rattle.page_layout.specs.declared.line.Line.{Line}
use Rattle.page_layout.specs.declared.line.Line.TheVariants.{Unused, Normal, Redirect, Dead}
use Rattle.page_layout.specs.declared.refusal.PageRefusal.{PageRefusal}
use Rattle.page_layout.specs.declared.refusal.PageRefusal.TheVariants.{BadPlace, NoRoom, BadPage}

-- the page with these numbers in the line at index k
abbrev pub with_pointer : List ℕ → ℕ → ℕ → ℕ → ℕ → List ℕ
with_pointer p k off flags len = with_u16 (with_u16 p (24 + 4 * k) (off + 32768 * (flags % 2))) (26 + 4 * k) (flags / 2 + 2 * len)

-- the page with this line at index k; an unused one is all zeros
abbrev pub with_line : List ℕ → ℕ → Line → List ℕ
with_line p k Unused = with_pointer p k 0 0 0
with_line p k (Normal at len) = with_pointer p k at 1 len
with_line p k (Redirect to) = with_pointer p k to 2 0
with_line p k (Dead at len) = with_pointer p k at 3 len

-- each number of the line fits its 15 bits
abbrev pub fits_line : Line → Bool
fits_line Unused = true
fits_line (Normal at len) = nat_lt at 32768 && nat_lt len 32768
fits_line (Redirect to) = nat_lt to 32768
fits_line (Dead at len) = nat_lt at 32768 && nat_lt len 32768

-- refused for this reason, or tried
abbrev pub refuse_or : {E : Type 0} → Option E → Result (List ℕ) E → Result (List ℕ) E
refuse_or None tried = tried
refuse_or (Some why) tried = Err why

-- why a line can't be set
abbrev pub set_refusal : List ℕ → ℕ → Line → Option PageRefusal
set_refusal p place line =
    if well_formed p then (if is_place p place && fits_line line then None else Some BadPlace) else Some BadPage

-- an unused line of length 0
abbrev pub is_free : List ℕ → ℕ → Bool
is_free p k = lp_flags p k == 0 && lp_len p k == 0

-- does the item get a new line, or an old one
abbrev pub is_new : List ℕ → ℕ → Bool → Bool
is_new p place overwrite = if overwrite then nat_lt (count p) place else true

-- where the lines then end
abbrev pub lower_after : List ℕ → ℕ → Bool → ℕ
lower_after p place overwrite = if is_new p place overwrite then pd_lower p + 4 else pd_lower p

-- why an item of this length can't be added
abbrev pub add_refusal : List ℕ → ℕ → ℕ → Bool → Option PageRefusal
add_refusal p len place overwrite =
    if well_formed p then
    if nat_lt 0 place && nat_le place (count p + 1) && (is_new p place overwrite || is_free p (place - 1)) then
    (if nat_le (lower_after p place overwrite + up8 len) (pd_upper p) then None else Some NoRoom)
    else Some BadPlace
    else Some BadPage

-- lines from index k on move up by one
abbrev pub opened_at : List ℕ → ℕ → List ℕ
opened_at p k = splice p (28 + 4 * k) (cut p (24 + 4 * k) (pd_lower p - (24 + 4 * k)))

-- the item laid at `at`, with zeros up to the next multiple of 8
abbrev pub with_item : List ℕ → List ℕ → ℕ → List ℕ
with_item p bytes at = splice p at (bytes ++ replicate (up8 (length bytes) - length bytes) 0)

-- a normal line at index k, the new bounds, and the item
abbrev pub added_at : List ℕ → List ℕ → ℕ → ℕ → ℕ → List ℕ
added_at p bytes k lower upper =
    with_item (with_u16 (with_u16 (with_pointer p k upper 1 (length bytes)) 12 lower) 14 upper) bytes upper

-- the item added at a place
abbrev pub added : List ℕ → List ℕ → ℕ → Bool → List ℕ
added p bytes place overwrite =
    added_at (if is_new p place overwrite then opened_at p (place - 1) else p) bytes (place - 1)
    (lower_after p place overwrite) (pd_upper p - up8 (length bytes))

-- how many of the first n lines stay when unused lines of length 0 at their end are dropped
abbrev pub trimmed_count : List ℕ → ℕ → ℕ
trimmed_count p zero = zero
trimmed_count p (suc n) = if is_free p n then trimmed_count p n else suc n

-- the page without unused lines of length 0 at the end
abbrev pub trimmed : List ℕ → List ℕ
trimmed p = with_u16 p 12 (24 + 4 * trimmed_count p (count p))

-- an empty page
abbrev pub init_bytes : ℕ → List ℕ
init_bytes special =
    let end = 8192 - up8 special in
    with_u16 (with_u16 (with_u16 (with_u16 (replicate 8192 0) 12 24) 14 end) 16 end) 18 8196

-- what a call leaves: the page made, or the page as it was
abbrev pub Answers : Result (List ℕ) PageRefusal → List ℕ → Result (Unit {0}) PageRefusal → List ℕ → Type 0
Answers meant old (Ok done) new = meant ≡ Ok new
Answers meant old (Err why) new = (meant ≡ Err why) × (new ≡ old)

-- set a line
abbrev pub set_line : List ℕ → ℕ → Line → Result (List ℕ) PageRefusal
set_line p place line = refuse_or (set_refusal p place line) (Ok (with_line p (place - 1) line))

-- add an item
abbrev pub add_item : List ℕ → List ℕ → ℕ → Bool → Result (List ℕ) PageRefusal
add_item p bytes place overwrite = refuse_or (add_refusal p (length bytes) place overwrite) (Ok (added p bytes place overwrite))

-- trim
abbrev pub trim : List ℕ → Result (List ℕ) PageRefusal
trim p = if well_formed p then Ok (trimmed p) else Err BadPage

-- make an empty page
abbrev pub init : ℕ → Result (List ℕ) PageRefusal
init special = if nat_lt 8168 special then Err NoRoom else Ok (init_bytes special)

-- A page that is read, as the log bytes at its positions.
use Rattle.std.proofs.Common.{◌≡◌, ℕ, zero, suc, ◌+◌, ◌*◌, ◌/◌, ◌%◌, ◌^◌, ◌<◌, ◌≤◌, ◌==◌, Bool, true, false, cond, not, nat_lt, List, [], ◌∷◌, ◌++◌, map, filter, take, drop, length, Option, Some, None, Result, Ok, Err, refl, ap, sym, ◌∙◌, add-one, arith}
use Rattle.std.proofs.lemmas.Grind.{common_steps}
use Rattle.std.proofs.lemmas.Bool.Decides.{nat_tests}
use Rattle.std.proofs.Math.Nat.{div-div-eq-div-mul, mod-add-div'}
use Rattle.std.proofs.lemmas.List.Elements.{filter-append}
use Rattle.std.proofs.lemmas.List.{get_or-take, get_or-drop}
use Rattle.std.proofs.lemmas.Option.{slice_get-get_or}
use Rattle.std.specs.Prelude.{if◌then◌else◌, option_and_then, slice_get}
use Rattle.std.specs.List.{range_with_len}
use Rattle.wal_base.proofs.SizeLemmas.{size_facts}
use Rattle.wal_base.specs.Segment.{bytes_of, name_of}
use Rattle.wal_base.specs.declared.segment.Segment.{Segment}
use Rattle.cluster_tree.specs.Causes.{given}
use Rattle.wal_pages.specs.declared.log_path.LogPath.{LogPath}
use Rattle.wal_pages.specs.declared.field.PageField.{PageField}
use Rattle.wal_pages.specs.Folder.{Folder}
use Rattle.wal_pages.specs.Header.{page_of, header_size}
use Rattle.wal_pages.specs.LogBytes.{segment_of, segment_at, segment_bytes, log_byte}
use Rattle.wal_pages.specs.ValidPage.{first_bad_field}
use Rattle.wal_pages.specs.Page.{Refusal, Short, bytes_from, unless_bad, page_at}
use Rattle.wal_pages.specs.Payload.{in_header, payload, page_payload}

-- what a page that is read came from
pub record IsRead (log : LogPath) (files : Folder) (at : ℕ) (page : List ℕ) : Type 0 where
  pub bytes : List ℕ
  pub there : segment_bytes log files at ≡ Some bytes
  pub whole : at % bytes_of log.size + 8192 ≤ length bytes
  pub is : page ≡ take 8192 (drop (at % bytes_of log.size) bytes)
  pub unbroken : first_bad_field log at page ≡ None

unbroken_of : (at : ℕ) (found page : List ℕ) (field : Option PageField) → unless_bad at found field ≡ Ok page → (found ≡ page) × (field ≡ None)
unbroken_of at found page None h = (cc, refl)
unbroken_of at found page (Some field) h = absurd cc

-- the page that stands at an offset
record IsFrom (offset : ℕ) (bytes : Option (List ℕ)) (found : List ℕ) : Type 0 where
  pub all : List ℕ
  pub there : bytes ≡ Some all
  pub whole : offset + 8192 ≤ length all
  pub is : found ≡ take 8192 (drop offset all)

from_if : (b : Bool) (segment : Segment) (piece found : List ℕ) → (if b then Err (Short segment) else Ok piece) ≡ Ok found → (b ≡ false) × (piece ≡ found)
from_if true segment piece found h = absurd cc
from_if false segment piece found h = (refl, cc)

not_less : (a b : ℕ) → nat_lt a b ≡ false → b ≤ a
not_less a b h = grind (arith, nat_tests, h)

from_of : (segment : Segment) (offset : ℕ) (bytes : Option (List ℕ)) (found : List ℕ) → bytes_from segment offset bytes ≡ Ok found → IsFrom offset bytes found
from_of segment offset None found h = absurd cc
from_of segment offset (Some all) found h =
    let e = from_if (nat_lt (length all) (offset + 8192)) segment (take 8192 (drop offset all)) found h in
    record { all = all; there = refl; whole = not_less _ _ e.0; is = sym e.1 }

read_by : (log : LogPath) (files : Folder) (at : ℕ) (page : List ℕ) (r : Result (List ℕ) Refusal) → bytes_from (segment_at log at) (at % bytes_of log.size) (segment_bytes log files at) ≡ r → given r (λ page. unless_bad at page (first_bad_field log at page)) ≡ Ok page → IsRead log files at page
read_by log files at page (Err refusal) b h = absurd cc
read_by log files at page (Ok found) b h =
    let e = unbroken_of at found page (first_bad_field log at found) h in
    let f = from_of (segment_at log at) (at % bytes_of log.size) (segment_bytes log files at) found b in
    record { bytes = f.all; there = f.there; whole = f.whole; is = sym e.0 ∙ f.is; unbroken = ap (first_bad_field log at) (sym e.0) ∙ e.1 }

pub is_read : (log : LogPath) (files : Folder) (at : ℕ) (page : List ℕ) → page_at log files at ≡ Ok page → IsRead log files at page
unfolding page_at
is_read log files at page h = read_by log files at page (bytes_from (segment_at log at) (at % bytes_of log.size) (segment_bytes log files at)) refl h

length-take_drop : (n offset : ℕ) (bytes : List ℕ) → offset + n ≤ length bytes → length (take n (drop offset bytes)) ≡ n
length-take_drop n offset bytes h = grind (arith, common_steps)

piece_length : (offset : ℕ) (bytes : List ℕ) → offset + 8192 ≤ length bytes → length (take 8192 (drop offset bytes)) ≡ 8192
piece_length offset bytes h = length-take_drop 8192 offset bytes h

pub read_length : (log : LogPath) (files : Folder) (at : ℕ) (page : List ℕ) → IsRead log files at page → length page ≡ 8192
read_length log files at page r = ap length r.is ∙ piece_length _ r.bytes r.whole

-- segments begin and end at pages
same_segment : (size at i : ℕ) → size % 8192 ≡ 0 → at % 8192 ≡ 0 → i < 8192 → (at + i) / size ≡ at / size
same_segment size at i s p h =
    let cut : size ≡ 8192 * (size / 8192) = omega (arith, mod-add-div' size 8192, s) in
    let here : (at + i) / 8192 ≡ at / 8192 = omega (arith, p, h) in
    ap (λ n. (at + i) / n) cut ∙ sym (div-div-eq-div-mul (at + i) 8192 (size / 8192)) ∙ ap (λ n. n / (size / 8192)) here
    ∙ div-div-eq-div-mul at 8192 (size / 8192) ∙ sym (ap (λ n. at / n) cut)

next_offset : (size at i q : ℕ) → (at + i) / size ≡ q → at / size ≡ q → (at + i) % size ≡ at % size + i
next_offset size at i q a b =
    let far : (at + i) % size + (at + i) / size * size ≡ at + i = mod-add-div' (at + i) size in
    let near : at % size + at / size * size ≡ at = mod-add-div' at size in
    let far' : (at + i) % size + q * size ≡ at + i = sym (ap (λ n. (at + i) % size + n * size) a) ∙ far in
    let near' : at % size + q * size ≡ at = sym (ap (λ n. at % size + n * size) b) ∙ near in
    omega (arith, far', near')

log_size : (log : LogPath) → bytes_of log.size % 8192 ≡ 0
log_size log = let f = size_facts log.size.bytes log.size.is_size in omega (arith, f.whole)

some_in_range : (b : Bool) (x : Option (List ℕ)) (bytes : List ℕ) → (if b then x else None) ≡ Some bytes → (b ≡ true) × (x ≡ Some bytes)
some_in_range true x bytes h = (refl, h)
some_in_range false x bytes h = absurd cc

still_in_range : (at i : ℕ) → at % 8192 ≡ 0 → i < 8192 → nat_lt at (2 ^ 64) ≡ true → nat_lt (at + i) (2 ^ 64) ≡ true
still_in_range at i p h r =
    let lower : at < 2 ^ 64 = grind (arith, nat_tests, r) in
    let upper : at + i < 2 ^ 64 = omega (arith, lower, p, h) in
    grind (arith, nat_tests, upper)

-- the bytes of its segment are those of all its positions
same_bytes : (log : LogPath) (files : Folder) (at i : ℕ) (bytes : List ℕ) → at % 8192 ≡ 0 → i < 8192 → segment_bytes log files at ≡ Some bytes → segment_bytes log files (at + i) ≡ Some bytes
same_bytes log files at i bytes p h there =
    let e = some_in_range (nat_lt at (2 ^ 64)) (files (name_of (segment_at log at))) bytes there in
    ap (λ b. if b then files (name_of (segment_at log (at + i))) else None) (still_in_range at i p h e.0)
    ∙ ap (λ n. files (name_of (segment_of log n))) (same_segment (bytes_of log.size) at i (log_size log) p h)
    ∙ e.1

slice_piece : (offset i : ℕ) (bytes : List ℕ) → offset + 8192 ≤ length bytes → i < 8192 → slice_get bytes (offset + i) ≡ slice_get (take 8192 (drop offset bytes)) i
slice_piece offset i bytes whole h =
    slice_get-get_or bytes (offset + i) 0 (omega (arith, whole, h))
    ∙ sym (ap Some (get_or-take 8192 (drop offset bytes) i 0 h ∙ get_or-drop offset bytes i 0))
    ∙ sym (slice_get-get_or (take 8192 (drop offset bytes)) i 0 (omega (arith, piece_length offset bytes whole, h)))

pub read_bytes : (log : LogPath) (files : Folder) (at : ℕ) (page : List ℕ) → at % 8192 ≡ 0 → IsRead log files at page → (i : ℕ) → i < 8192 → log_byte log files (at + i) ≡ slice_get page i
read_bytes log files at page p r i h =
    let size : ℕ = bytes_of log.size in
    ap (option_and_then (λ bytes. slice_get bytes ((at + i) % size))) (same_bytes log files at i r.bytes p h r.there)
    ∙ ap (slice_get r.bytes) (next_offset size at i (at / size) (same_segment size at i (log_size log) p h) refl)
    ∙ slice_piece (at % size) i r.bytes r.whole h
    ∙ sym (ap (λ s. slice_get s i) r.is)

-- the positions of a range that pass no test, and that pass it all

range_append : (a n m : ℕ) → range_with_len a (n + m) ≡ range_with_len a n ++ range_with_len (a + n) m
range_append a zero m =
    let none : 0 + m ≡ m = omega arith in
    let same : a ≡ a + 0 = omega arith in
    ap (range_with_len a) none ∙ ap (λ k. range_with_len k m) same
range_append a (suc n) m =
    let next : suc n + m ≡ suc (n + m) = omega arith in
    let same : a + 1 + n ≡ a + suc n = omega arith in
    ap (range_with_len a) next ∙ ap (λ r. a ∷ r) (range_append (a + 1) n m ∙ ap (λ k. range_with_len (a + 1) n ++ range_with_len k m) same)

none_pass : (p : ℕ → Bool) (a n : ℕ) → ((i : ℕ) → i < n → p (a + i) ≡ false) → filter p (range_with_len a n) ≡ []
none_pass p a zero h = refl
none_pass p a (suc n) h =
    let first : p a ≡ false = ap p (omega arith) ∙ h 0 (omega arith) in
    ap (λ b. cond b (a ∷ filter p (range_with_len (a + 1) n)) (filter p (range_with_len (a + 1) n))) first
    ∙ none_pass p (a + 1) n (λ i l. ap p (omega arith) ∙ h (i + 1) (omega (arith, l)))

all_pass : (p : ℕ → Bool) (a n : ℕ) → ((i : ℕ) → i < n → p (a + i) ≡ true) → filter p (range_with_len a n) ≡ range_with_len a n
all_pass p a zero h = refl
all_pass p a (suc n) h =
    let first : p a ≡ true = ap p (omega arith) ∙ h 0 (omega arith) in
    ap (λ b. cond b (a ∷ filter p (range_with_len (a + 1) n)) (filter p (range_with_len (a + 1) n))) first
    ∙ ap (λ r. a ∷ r) (all_pass p (a + 1) n (λ i l. ap p (omega arith) ∙ h (i + 1) (omega (arith, l))))

next_of : (x : ℕ) (xs : List ℕ) (i : ℕ) → slice_get (x ∷ xs) (i + 1) ≡ slice_get xs i
next_of x xs i = ap (slice_get (x ∷ xs)) (add-one i)

-- a list, element by element
each_of : (f : ℕ → Option ℕ) (a : ℕ) (xs : List ℕ) → ((i : ℕ) → i < length xs → f (a + i) ≡ slice_get xs i) → map f (range_with_len a (length xs)) ≡ map Some xs
each_of f a [] h = refl
each_of f a (x ∷ xs) h =
    let first : f a ≡ Some x = ap f (omega arith) ∙ h 0 (omega arith) in
    ap (λ y. y ∷ map f (range_with_len (a + 1) (length xs))) first
    ∙ ap (λ ys. Some x ∷ ys) (each_of f (a + 1) xs (λ i l. ap f (omega arith) ∙ h (i + 1) (omega (arith, l)) ∙ next_of x xs i))

header_at : (log : LogPath) (at i : ℕ) → at % 8192 ≡ 0 → i < 8192 → in_header log (at + i) ≡ nat_lt i (header_size (bytes_of log.size) at)
header_at log at i p h =
    let page : page_of (at + i) ≡ at = omega (arith, p, h) in
    let place : (at + i) % 8192 ≡ i = omega (arith, p, h) in
    ap (λ n. nat_lt n (header_size (bytes_of log.size) (page_of (at + i)))) place
    ∙ ap (λ n. nat_lt i (header_size (bytes_of log.size) n)) page

slice_drop : (h i : ℕ) (page : List ℕ) → h + i < length page → slice_get page (h + i) ≡ slice_get (drop h page) i
slice_drop h i page l =
    let within : i < length (drop h page) = grind (arith, common_steps) in
    slice_get-get_or page (h + i) 0 l ∙ sym (ap Some (get_or-drop h page i 0)) ∙ sym (slice_get-get_or (drop h page) i 0 within)

-- what a range carries whose first h positions are a header
carried : (f : ℕ → Option ℕ) (carries : ℕ → Bool) (at h : ℕ) (page : List ℕ) → h ≤ length page
    → ((i : ℕ) → i < h → carries (at + i) ≡ false) → ((i : ℕ) → i < length page → h ≤ i → carries (at + i) ≡ true)
    → ((i : ℕ) → i < length page → f (at + i) ≡ slice_get page i)
    → map f (filter carries (range_with_len at (length page))) ≡ map Some (drop h page)
carried f carries at h page fits header rest bytes =
    let left : ℕ = length (drop h page) in
    let parts : length page ≡ h + left = grind (arith, common_steps) in
    ap (λ n. map f (filter carries (range_with_len at n))) parts
    ∙ ap (λ r. map f (filter carries r)) (range_append at h left)
    ∙ ap (map f) (filter-append carries (range_with_len at h) (range_with_len (at + h) left))
    ∙ ap (λ r. map f (r ++ filter carries (range_with_len (at + h) left))) (none_pass carries at h header)
    ∙ ap (map f) (all_pass carries (at + h) left (λ i l. ap carries (omega arith) ∙ rest (h + i) (omega (arith, parts, l)) (omega arith)))
    ∙ each_of f (at + h) (drop h page) (λ i l. ap f (omega arith) ∙ bytes (h + i) (omega (arith, parts, l)) ∙ slice_drop h i page (omega (arith, parts, l)))

fits_if : (b : Bool) → (if b then 40 else 24) ≤ 40
fits_if true = omega arith
fits_if false = omega arith

header_fits : (log : LogPath) (at : ℕ) → header_size (bytes_of log.size) at ≤ 40
header_fits log at = fits_if (at % bytes_of log.size == 0)

not_in : (log : LogPath) (at i : ℕ) → at % 8192 ≡ 0 → i < 8192 → i < header_size (bytes_of log.size) at → not (in_header log (at + i)) ≡ false
not_in log at i p h l = let t : nat_lt i (header_size (bytes_of log.size) at) ≡ true = grind (arith, nat_tests, l) in ap not (header_at log at i p h ∙ t)

past_it : (log : LogPath) (at i : ℕ) → at % 8192 ≡ 0 → i < 8192 → header_size (bytes_of log.size) at ≤ i → not (in_header log (at + i)) ≡ true
past_it log at i p h l = let t : nat_lt i (header_size (bytes_of log.size) at) ≡ false = grind (arith, nat_tests, l) in ap not (header_at log at i p h ∙ t)

pub read_payload : (log : LogPath) (files : Folder) (at : ℕ) (page : List ℕ) → at % 8192 ≡ 0 → IsRead log files at page → payload log files at 8192 ≡ map Some (page_payload log at page)
read_payload log files at page p r =
    let n = read_length log files at page r in
    let most = header_fits log at in
    sym (ap (payload log files at) n)
    ∙ carried (log_byte log files) (λ q. not (in_header log q)) at (header_size (bytes_of log.size) at) page (omega (arith, n, most))
    (λ i l. not_in log at i p (omega (arith, l, most)) l)
    (λ i l far. past_it log at i p (omega (arith, l, n)) far)
    (λ i l. read_bytes log files at page p r i (omega (arith, l, n)))

-- The payload on one page, and on pages one after another.
use Rattle.std.proofs.Common.{◌≡◌, ℕ, zero, suc, ◌+◌, ◌%◌, ◌<◌, ◌≤◌, ◌++◌, true, false, cond, not, nat_lt, List, [], ◌∷◌, map, filter, take, drop, length, get_or, slice_get, Some, refl, sym, ap, ◌∙◌, arith, drop-cons, add-one}
use Rattle.std.specs.List.{range_with_len}
use Rattle.std.proofs.lemmas.Bool.{lt-ltb, le-ltb}
use Rattle.std.proofs.lemmas.List.Elements.{filter-append}
use Rattle.std.proofs.lemmas.List.{map-append}
use Rattle.std.proofs.lemmas.Option.{slice_get-get_or}
use Rattle.wal_base.specs.Segment.{bytes_of}
use Rattle.wal_pages.specs.declared.log_path.LogPath.{LogPath}
use Rattle.wal_pages.specs.Folder.{Folder}
use Rattle.wal_pages.specs.Header.{header_size, page_of}
use Rattle.wal_pages.specs.LogBytes.{log_byte}
use Rattle.wal_pages.specs.Payload.{in_header, payload}
use Rattle.wal_records.proofs.FurtherLemmas.{header_short}

-- what is known of a page that is read: its length, and that it is the log bytes
pub record IsHere (log : LogPath) (files : Folder) (at : ℕ) (page : List ℕ) : Type 0 where
  pub whole : at % 8192 ≡ 0
  pub size : length page ≡ 8192
  pub bytes : (i : ℕ) → i < 8192 → log_byte log files (at + i) ≡ slice_get page i

range_append : (a n m : ℕ) → range_with_len a (n + m) ≡ range_with_len a n ++ range_with_len (a + n) m
range_append a zero m =
    let none : 0 + m ≡ m = omega arith in
    let same : a ≡ a + 0 = omega arith in
    ap (range_with_len a) none ∙ ap (λ k. range_with_len k m) same
range_append a (suc n) m =
    let next : suc n + m ≡ suc (n + m) = omega arith in
    let same : a + 1 + n ≡ a + suc n = omega arith in
    ap (range_with_len a) next ∙ ap (λ r. a ∷ r) (range_append (a + 1) n m ∙ ap (λ k. range_with_len (a + 1) n ++ range_with_len k m) same)

pub payload_append : (log : LogPath) (files : Folder) (at m n : ℕ) → payload log files at (m + n) ≡ payload log files at m ++ payload log files (at + m) n
payload_append log files at m n =
    ap (λ r. map (log_byte log files) (filter (λ p. not (in_header log p)) r)) (range_append at m n)
    ∙ ap (map (log_byte log files)) (filter-append (λ p. not (in_header log p)) (range_with_len at m) (range_with_len (at + m) n))
    ∙ map-append (log_byte log files) (filter (λ p. not (in_header log p)) (range_with_len at m)) (filter (λ p. not (in_header log p)) (range_with_len (at + m) n))

header_at : (log : LogPath) (at i : ℕ) → at % 8192 ≡ 0 → i < 8192 → in_header log (at + i) ≡ nat_lt i (header_size (bytes_of log.size) at)
header_at log at i p h =
    let page : page_of (at + i) ≡ at = omega (arith, p, h) in
    let place : (at + i) % 8192 ≡ i = omega (arith, p, h) in
    ap (λ n. nat_lt n (header_size (bytes_of log.size) (page_of (at + i)))) place
    ∙ ap (λ n. nat_lt i (header_size (bytes_of log.size) n)) page

pub in_head : (log : LogPath) (at i : ℕ) → at % 8192 ≡ 0 → i < header_size (bytes_of log.size) at → in_header log (at + i) ≡ true
in_head log at i p l = header_at log at i p (omega (arith, l, header_short (bytes_of log.size) at)) ∙ lt-ltb i (header_size (bytes_of log.size) at) l

pub past_head : (log : LogPath) (at i : ℕ) → at % 8192 ≡ 0 → i < 8192 → header_size (bytes_of log.size) at ≤ i → in_header log (at + i) ≡ false
past_head log at i p h l = header_at log at i p h ∙ le-ltb i (header_size (bytes_of log.size) at) l

one_more : (log : LogPath) (files : Folder) (at n : ℕ) → payload log files at (suc n) ≡ map (log_byte log files) (cond (not (in_header log at)) (at ∷ filter (λ p. not (in_header log p)) (range_with_len (at + 1) n)) (filter (λ p. not (in_header log p)) (range_with_len (at + 1) n)))
one_more log files at n = refl

payload_skip : (log : LogPath) (files : Folder) (at n : ℕ) → in_header log at ≡ true → payload log files at (suc n) ≡ payload log files (at + 1) n
payload_skip log files at n e = one_more log files at n ∙ ap (λ b. map (log_byte log files) (cond (not b) (at ∷ filter (λ p. not (in_header log p)) (range_with_len (at + 1) n)) (filter (λ p. not (in_header log p)) (range_with_len (at + 1) n)))) e

payload_take : (log : LogPath) (files : Folder) (at n : ℕ) → in_header log at ≡ false → payload log files at (suc n) ≡ log_byte log files at ∷ payload log files (at + 1) n
payload_take log files at n e = one_more log files at n ∙ ap (λ b. map (log_byte log files) (cond (not b) (at ∷ filter (λ p. not (in_header log p)) (range_with_len (at + 1) n)) (filter (λ p. not (in_header log p)) (range_with_len (at + 1) n)))) e

pub payload_at : (log : LogPath) (files : Folder) (a b n : ℕ) → a ≡ b → payload log files a n ≡ payload log files b n
payload_at log files a b n e = ap (λ k. payload log files k n) e

-- a header carries nothing
pub header_none : (log : LogPath) (files : Folder) (at o n : ℕ) → at % 8192 ≡ 0 → o + n ≤ header_size (bytes_of log.size) at → payload log files (at + o) n ≡ []
header_none log files at o zero p h = refl
header_none log files at o (suc n) p h =
    payload_skip log files (at + o) n (in_head log at o p (omega (arith, h)))
    ∙ payload_at log files (at + o + 1) (at + (o + 1)) n (omega arith)
    ∙ header_none log files at (o + 1) n p (omega (arith, h))

-- behind it stand the bytes of the page
pub page_bytes : (log : LogPath) (files : Folder) (at : ℕ) (page : List ℕ) (o n : ℕ) → IsHere log files at page → header_size (bytes_of log.size) at ≤ o → o + n ≤ 8192
    → payload log files (at + o) n ≡ map Some (take n (drop o page))
page_bytes log files at page o zero here h low = refl
page_bytes log files at page o (suc n) here h low =
    let inside : o < length page = omega (arith, low, here.size) in
    let byte : log_byte log files (at + o) ≡ Some (get_or page o 0) = here.bytes o (omega (arith, low)) ∙ slice_get-get_or page o 0 inside in
    let rest : drop o page ≡ get_or page o 0 ∷ drop (o + 1) page = drop-cons page o 0 inside ∙ ap (λ k. get_or page o 0 ∷ drop k page) (sym (add-one o)) in
    payload_take log files (at + o) n (past_head log at o here.whole (omega (arith, low)) h)
    ∙ ap (λ x. x ∷ payload log files (at + o + 1) n) byte
    ∙ ap (λ xs. Some (get_or page o 0) ∷ xs) (payload_at log files (at + o + 1) (at + (o + 1)) n (omega arith) ∙ page_bytes log files at page (o + 1) n here (omega (arith, h)) (omega (arith, low)))
    ∙ sym (ap (λ xs. map Some (take (suc n) xs)) rest)

-- the payload of a page from its start
pub page_front : (log : LogPath) (files : Folder) (at : ℕ) (page : List ℕ) (n : ℕ) → IsHere log files at page → header_size (bytes_of log.size) at + n ≤ 8192
    → payload log files at (header_size (bytes_of log.size) at + n) ≡ map Some (take n (drop (header_size (bytes_of log.size) at) page))
page_front log files at page n here low =
    let head : ℕ = header_size (bytes_of log.size) at in
    payload_append log files at head n
    ∙ ap (λ xs. xs ++ payload log files (at + head) n) (payload_at log files at (at + 0) head (omega arith) ∙ header_none log files at 0 head here.whole (omega arith))
    ∙ page_bytes log files at page head n here (omega arith) low

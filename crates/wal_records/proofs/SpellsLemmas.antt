-- A place spells a record exactly where that is what is read there.
use Rattle.std.proofs.Common.{◌≡◌, ◌&&◌, ℕ, zero, suc, ◌+◌, ◌-◌, ◌*◌, ◌%◌, ◌<◌, ◌≤◌, min, ◌++◌, Bool, true, false, cond, eqb, List, [], ◌∷◌, map, take, drop, length, Option, Some, None, Result, Ok, Err, refl, sym, ap, ◌∙◌, subst, arith, eqb-true, eq-eqb, inl, inr, length-append, length-drop}
use Rattle.std.specs.List.{flat_map, AllByRecursion}
use Rattle.std.proofs.lemmas.Bool.{cases_lt}
use Rattle.std.proofs.lemmas.List.{take_all, length-take, map-append, append-nil}
use Rattle.wal_base.specs.Segment.{bytes_of}
use Rattle.wal_pages.specs.declared.header.PageHeader.{PageHeader}
use Rattle.wal_pages.specs.declared.log_path.LogPath.{LogPath}
use Rattle.wal_pages.specs.Folder.{Folder}
use Rattle.wal_pages.specs.Header.{header_size, has_bit, header_of as page_header}
use Rattle.wal_pages.specs.Page.{Refusal, page_at}
use Rattle.wal_pages.specs.Payload.{in_header, payload}
use Rattle.wal_pages.proofs.LogLemmas.{is_read, read_length, read_bytes}
use Rattle.wal_records.specs.declared.why.Why.TheVariants as why
use Rattle.wal_records.specs.declared.why.Stop.{Stop}
use Rattle.wal_records.specs.declared.why.Stop.TheVariants.{Ends, Dropped}
use Rattle.wal_records.specs.Further.{FurtherPage, further_page, room, further, stop_of, stop_in, stop_at, piece, piece_in}
use Rattle.wal_records.specs.Extent.{behind_in}
use Rattle.wal_records.specs.Spells.{Announces}
use Rattle.wal_records.proofs.FurtherLemmas.{further_none, further_more, room_some, header_short}
use Rattle.wal_records.proofs.ExtentLemmas.{behind_more}
use Rattle.wal_records.proofs.PayloadLemmas.{IsHere, payload_append, in_head, past_head, page_front}

pub here : (log : LogPath) (files : Folder) (at : ℕ) (page : List ℕ) → at % 8192 ≡ 0 → page_at log files at ≡ Ok page → IsHere log files at page
here log files at page whole e =
    let r = is_read log files at page e in
    record { whole = whole; size = read_length log files at page r; bytes = read_bytes log files at page whole r }

-- A further page that doesn't stop a record announces it, and the other way round.
none_else : (b : Bool) (stop : Stop) (x : Option Stop) → cond b (Some stop) x ≡ None → (b ≡ false) × (x ≡ None)
none_else true stop x e = absurd cc
none_else false stop x e = (refl, e)

none_then : (b : Bool) (stop : Stop) → cond b None (Some stop) ≡ None → b ≡ true
none_then true stop e = refl
none_then false stop e = absurd cc

both_true : (a b : Bool) → (a && b) ≡ true → (a ≡ true) × (b ≡ true)
both_true true true e = (refl, refl)
both_true true false e = absurd cc
both_true false b e = absurd cc

announced_in : (log : LogPath) (files : Folder) (at left : ℕ) (found : Result (List ℕ) Refusal) → page_at log files at ≡ found → stop_in (further_page at left) found ≡ None → Announces log files at left
announced_in log files at left (Err refusal) is e = absurd cc
announced_in log files at left (Ok page) is e =
    let header : PageHeader = page_header page in
    let kept = none_else (has_bit header.info 8) (Dropped at) (cond (has_bit header.info 1 && eqb header.remaining left) None (Some (Ends why.Continuation))) e in
    let rest = both_true (has_bit header.info 1) (eqb header.remaining left) (none_then (has_bit header.info 1 && eqb header.remaining left) (Ends why.Continuation) kept.1) in
    record { page = page; valid = is; kept = kept.0; goes_on = rest.0; remaining = eqb-true header.remaining left rest.1 }

announced : (log : LogPath) (files : Folder) (at left : ℕ) → stop_at (page_at log files) (further_page at left) ≡ None → Announces log files at left
announced log files at left e = announced_in log files at left (page_at log files at) refl e

goes_on_in : (at left : ℕ) (header : PageHeader) → has_bit header.info 8 ≡ false → has_bit header.info 1 ≡ true → header.remaining ≡ left → stop_of (further_page at left) header ≡ None
goes_on_in at left header kept on remaining = rw (kept, on, eq-eqb header.remaining left remaining) refl

goes_on : (log : LogPath) (files : Folder) (at left : ℕ) → Announces log files at left → stop_at (page_at log files) (further_page at left) ≡ None
goes_on log files at left a = ap (stop_in (further_page at left)) a.valid ∙ goes_on_in at left (page_header a.page) a.kept a.goes_on a.remaining

piece_is : (log : LogPath) (files : Folder) (at left : ℕ) (page : List ℕ) → page_at log files at ≡ Ok page → piece (page_at log files) (bytes_of log.size) (further_page at left) ≡ take left (drop (header_size (bytes_of log.size) at) page)
piece_is log files at left page e = ap (piece_in (bytes_of log.size) (further_page at left)) e

announces_left : (log : LogPath) (files : Folder) (at a b : ℕ) → a ≡ b → Announces log files at a → Announces log files at b
announces_left log files at a b e h = let P : ℕ → Type 0 = λ n. Announces log files at n in subst P e h

announces_at : (log : LogPath) (files : Folder) (a b left : ℕ) → a ≡ b → Announces log files a left → Announces log files b left
announces_at log files a b left e h = let P : ℕ → Type 0 = λ n. Announces log files n left in subst P e h

some_apart : (x y : ℕ) → ◌≡◌ {A = Option ℕ} (Some x) (Some y) → x ≡ y
some_apart x y e = cc

heads : (x y : Option ℕ) (xs ys : List (Option ℕ)) → x ∷ xs ≡ y ∷ ys → (x ≡ y) × (xs ≡ ys)
heads x y xs ys e = (cc, cc)

pub same_bytes : (xs ys : List ℕ) → map Some xs ≡ map Some ys → xs ≡ ys
same_bytes [] [] e = refl
same_bytes [] (y ∷ ys) e = absurd cc
same_bytes (x ∷ xs) [] e = absurd cc
same_bytes (x ∷ xs) (y ∷ ys) e =
    let both = heads (Some x) (Some y) (map Some xs) (map Some ys) e in
    let first : x ≡ y = some_apart x y both.0 in
    let rest : xs ≡ ys = same_bytes xs ys both.1 in
    cc

pub some_length : (xs : List ℕ) → length (map Some xs) ≡ length xs
some_length [] = refl
some_length (x ∷ xs) = ap (λ n. suc n) (some_length xs)

-- What the further pages have of a record, from one on: so many bytes, up to the position behind the last.
pub record Runs (log : LogPath) (files : Folder) (page left behind : ℕ) (bytes : List ℕ) : Type 0 where
  pub some : page < behind
  pub last_byte : in_header log (behind - 1) ≡ false
  pub carried : payload log files page (behind - page) ≡ map Some bytes
  pub count : length bytes ≡ left
  pub announced : (at : ℕ) → at % 8192 ≡ 0 → page ≤ at → at < behind → Announces log files at (length (payload log files at (behind - at)))

-- a page that has the last byte
last_page : (log : LogPath) (files : Folder) (at left : ℕ) (page : List ℕ) → IsHere log files at page → 0 < left → left ≤ room (bytes_of log.size) at → Announces log files at left
    → Runs log files at left (at + (header_size (bytes_of log.size) at + left)) (take left (drop (header_size (bytes_of log.size) at) page))
last_page log files at left page here some fits announces =
    let size : ℕ = bytes_of log.size in
    let head : ℕ = header_size size at in
    let short : head ≤ 40 = header_short size at in
    let bytes : List ℕ = take left (drop head page) in
    let behind : ℕ = at + (head + left) in
    let span : behind - at ≡ head + left = omega arith in
    let carried : payload log files at (behind - at) ≡ map Some bytes = ap (payload log files at) span ∙ page_front log files at page left here (omega (arith, fits, short)) in
    let count : length bytes ≡ left = length-take left (drop head page) ∙ ap (min left) (length-drop head page) ∙ omega (arith, here.size, fits, short) in
    let last : behind - 1 ≡ at + (head + left - 1) = omega (arith, some) in
    record {
      some = omega (arith, some);
      last_byte = ap (in_header log) last ∙ past_head log at (head + left - 1) here.whole (omega (arith, fits, short, some)) (omega (arith, some));
      carried = carried;
      count = count;
      announced = λ other whole low high.
          let same : at ≡ other = omega (arith, here.whole, whole, low, high, fits, short) in
          let left_is : left ≡ length (payload log files at (behind - at)) = sym (ap length carried ∙ some_length bytes ∙ count) in
          let P : ℕ → Type 0 = λ n. Announces log files n (length (payload log files n (behind - n))) in
          subst P same (announces_left log files at left (length (payload log files at (behind - at))) left_is announces);
    }

-- a page that is full of the record, and the pages behind it
full_page : (log : LogPath) (files : Folder) (at left behind : ℕ) (page rest : List ℕ) → IsHere log files at page → room (bytes_of log.size) at < left → Announces log files at left
    → Runs log files (at + 8192) (left - room (bytes_of log.size) at) behind rest
    → Runs log files at left behind (take left (drop (header_size (bytes_of log.size) at) page) ++ rest)
full_page log files at left behind page rest here more announces runs =
    let size : ℕ = bytes_of log.size in
    let head : ℕ = header_size size at in
    let short : head ≤ 40 = header_short size at in
    let all : ℕ = room size at in
    let whole : take left (drop head page) ≡ take all (drop head page) =
    take_all left (drop head page) (omega (arith, length-drop head page, here.size, more)) ∙ sym (take_all all (drop head page) (omega (arith, length-drop head page, here.size))) in
    let bytes : List ℕ = take left (drop head page) ++ rest in
    let count : length (take left (drop head page)) ≡ all = length-take left (drop head page) ∙ ap (min left) (length-drop head page) ∙ omega (arith, here.size, more, short) in
    let span : behind - at ≡ 8192 + (behind - (at + 8192)) = omega (arith, runs.some) in
    let full : head + all ≡ 8192 = omega (arith, short) in
    let first : payload log files at 8192 ≡ map Some (take left (drop head page)) =
    ap (payload log files at) (sym full) ∙ page_front log files at page all here (omega (arith, short)) ∙ ap (map Some) (sym whole) in
    let carried : payload log files at (behind - at) ≡ map Some bytes =
    ap (payload log files at) span ∙ payload_append log files at 8192 (behind - (at + 8192))
    ∙ ap (λ xs. xs ++ payload log files (at + 8192) (behind - (at + 8192))) first
    ∙ ap (λ xs. map Some (take left (drop head page)) ++ xs) runs.carried
    ∙ sym (map-append Some (take left (drop head page)) rest) in
    let size_is : length bytes ≡ left = length-append (take left (drop head page)) rest ∙ omega (arith, count, runs.count, more) in
    record {
      some = omega (arith, runs.some);
      last_byte = runs.last_byte;
      carried = carried;
      count = size_is;
      announced = λ other whole_other low high.
          elim (cases_lt at other) [
            | inl later ↦ runs.announced other whole_other (omega (arith, here.whole, whole_other, later)) high
            | inr not_later ↦
                let same : at ≡ other = omega (arith, low, not_later) in
                let left_is : left ≡ length (payload log files at (behind - at)) = sym (ap length carried ∙ some_length bytes ∙ size_is) in
                let P : ℕ → Type 0 = λ n. Announces log files n (length (payload log files n (behind - n))) in
                subst P same (announces_left log files at left (length (payload log files at (behind - at))) left_is announces)
          ];
    }

runs_at : (log : LogPath) (files : Folder) (page left a b : ℕ) (xs ys : List ℕ) → a ≡ b → xs ≡ ys → Runs log files page left a xs → Runs log files page left b ys
runs_at log files page left a b xs ys e f r =
    let P : ℕ → Type 0 = λ n. Runs log files page left n xs in
    let Q : List ℕ → Type 0 = λ l. Runs log files page left b l in
    subst Q f (subst P e r)

-- From the pages that announce a record to the payload.
pub runs_of : (log : LogPath) (files : Folder) (n page left before : ℕ) → page % 8192 ≡ 0 → 0 < left → left ≤ n
    → AllByRecursion (λ f. stop_at (page_at log files) f ≡ None) (further (bytes_of log.size) page left)
    → Runs log files page left (behind_in (bytes_of log.size) before (further (bytes_of log.size) page left)) (flat_map (piece (page_at log files) (bytes_of log.size)) (further (bytes_of log.size) page left))
runs_of log files zero page left before whole some fits all = absurd (omega arith)
runs_of log files (suc n) page left before whole some fits all =
    let size : ℕ = bytes_of log.size in
    let pages = page_at log files in
    let head : ℕ = header_size size page in
    let short : head ≤ 40 = header_short size page in
    let more = further_more size page left some in
    let P : List FurtherPage → Type 0 = AllByRecursion (λ f. stop_at pages f ≡ None) in
    let both : P (further_page page left ∷ further size (page + 8192) (left - room size page)) = subst P more all in
    let a = announced log files page left both.0 in
    let h = here log files page a.page whole a.valid in
    let piece_here : piece pages size (further_page page left) ≡ take left (drop head a.page) = piece_is log files page left a.page a.valid in
    elim (cases_lt (room size page) left) [
      | inl full ↦
          let next : ℕ = page + (head + min left (room size page)) in
          let rest = runs_of log files n (page + 8192) (left - room size page) next (omega (arith, whole)) (omega (arith, full)) (omega (arith, fits, room_some size page)) both.1 in
          runs_at log files page left _ _ _ _
          (sym (behind_more size before page left some))
          (sym (ap (flat_map (piece pages size)) more ∙ ap (λ xs. xs ++ flat_map (piece pages size) (further size (page + 8192) (left - room size page))) piece_here))
          (full_page log files page left _ a.page _ h full a rest)
      | inr last ↦
          let none : further size (page + 8192) (left - room size page) ≡ [] = further_none size (page + 8192) (left - room size page) (omega (arith, last)) in
          let behind : behind_in size before (further size page left) ≡ page + (head + left) =
          behind_more size before page left some ∙ ap (behind_in size (page + (head + min left (room size page)))) none ∙ omega (arith, last) in
          let bytes : flat_map (piece pages size) (further size page left) ≡ take left (drop head a.page) =
          ap (flat_map (piece pages size)) more
          ∙ ap (λ xs. piece pages size (further_page page left) ++ flat_map (piece pages size) xs) none
          ∙ append-nil (piece pages size (further_page page left)) ∙ piece_here in
          runs_at log files page left _ _ _ _ (sym behind) (sym bytes) (last_page log files page left a.page h some (omega (arith, last)) a)
    ]

-- The way back: from the payload up to a last byte to the pages that announce it.
pub record Walks (log : LogPath) (files : Folder) (page left last before : ℕ) : Type 0 where
  pub some : 0 < left
  pub all : AllByRecursion (λ f. stop_at (page_at log files) f ≡ None) (further (bytes_of log.size) page left)
  pub carried : payload log files page (last + 1 - page) ≡ map Some (flat_map (piece (page_at log files) (bytes_of log.size)) (further (bytes_of log.size) page left))
  pub behind : behind_in (bytes_of log.size) before (further (bytes_of log.size) page left) ≡ last + 1

true_false : (b : Bool) → b ≡ true → b ≡ false → ⊥
true_false b t f = absurd cc

pub walks_of : (log : LogPath) (files : Folder) (k page left last before : ℕ) → page % 8192 ≡ 0 → page ≤ last → last < page + k * 8192 → in_header log last ≡ false
    → left ≡ length (payload log files page (last + 1 - page))
    → ((at : ℕ) → at % 8192 ≡ 0 → page ≤ at → at ≤ last → Announces log files at (length (payload log files at (last + 1 - at))))
    → Walks log files page left last before
walks_of log files zero page left last before whole low high inside is all = absurd (omega arith)
walks_of log files (suc k) page left last before whole low high inside is all =
    let size : ℕ = bytes_of log.size in
    let pages = page_at log files in
    let head : ℕ = header_size size page in
    let short : head ≤ 40 = header_short size page in
    let a = announces_left log files page _ left (sym is) (all page whole (omega arith) low) in
    let h = here log files page a.page whole a.valid in
    let on : stop_at pages (further_page page left) ≡ None = goes_on log files page left a in
    let piece_here : piece pages size (further_page page left) ≡ take left (drop head a.page) = piece_is log files page left a.page a.valid in
    let P : List FurtherPage → Type 0 = AllByRecursion (λ f. stop_at pages f ≡ None) in
    elim (cases_lt last (page + 8192)) [
      | inl near ↦
          let offset : ℕ = last - page in
          let outside : head ≤ offset =
          elim (cases_lt offset head) [
            | inl in_it ↦ absurd (true_false (in_header log last) (ap (in_header log) (omega (arith, low)) ∙ in_head log page offset whole in_it) inside)
            | inr out ↦ out
          ] in
          let n : ℕ = offset + 1 - head in
          let span : last + 1 - page ≡ head + n = omega (arith, low, outside) in
          let carried : payload log files page (last + 1 - page) ≡ map Some (take n (drop head a.page)) =
          ap (payload log files page) span ∙ page_front log files page a.page n h (omega (arith, near, low, outside)) in
          let count : length (take n (drop head a.page)) ≡ n = length-take n (drop head a.page) ∙ ap (min n) (length-drop head a.page) ∙ omega (arith, h.size, near, low, outside) in
          let left_is : left ≡ n = is ∙ ap length carried ∙ some_length (take n (drop head a.page)) ∙ count in
          let some : 0 < left = omega (arith, left_is, outside) in
          let more = further_more size page left some in
          let none : further size (page + 8192) (left - room size page) ≡ [] = further_none size (page + 8192) (left - room size page) (omega (arith, left_is, near, low, outside)) in
          let alone : further size page left ≡ further_page page left ∷ [] = more ∙ ap (λ xs. further_page page left ∷ xs) none in
          record {
            some = some;
            all = subst P (sym alone) (on, tt);
            carried =
                carried ∙ ap (λ m. map Some (take m (drop head a.page))) (sym left_is)
                ∙ ap (map Some) (sym piece_here ∙ sym (append-nil (piece pages size (further_page page left))) ∙ sym (ap (flat_map (piece pages size)) alone));
            behind = behind_more size before page left some ∙ ap (behind_in size (page + (head + min left (room size page)))) none ∙ omega (arith, left_is, near, low, outside, short);
          }
      | inr far ↦
          let all_room : ℕ = room size page in
          let rest : ℕ = length (payload log files (page + 8192) (last + 1 - (page + 8192))) in
          let next : ℕ = page + (head + min left all_room) in
          let w = walks_of log files k (page + 8192) rest last next (omega (arith, whole)) far (omega (arith, high)) inside refl (λ at whole_at up down. all at whole_at (omega (arith, up)) down) in
          let full : head + all_room ≡ 8192 = omega (arith, short) in
          let span : last + 1 - page ≡ 8192 + (last + 1 - (page + 8192)) = omega (arith, far) in
          let front : payload log files page 8192 ≡ map Some (take all_room (drop head a.page)) =
          ap (payload log files page) (sym full) ∙ page_front log files page a.page all_room h (omega (arith, short)) in
          let parts : payload log files page (last + 1 - page) ≡ map Some (take all_room (drop head a.page)) ++ payload log files (page + 8192) (last + 1 - (page + 8192)) =
          ap (payload log files page) span ∙ payload_append log files page 8192 (last + 1 - (page + 8192))
          ∙ ap (λ xs. xs ++ payload log files (page + 8192) (last + 1 - (page + 8192))) front in
          let count : length (take all_room (drop head a.page)) ≡ all_room = length-take all_room (drop head a.page) ∙ ap (min all_room) (length-drop head a.page) ∙ omega (arith, h.size, short) in
          let left_is : left ≡ all_room + rest =
          is ∙ ap length parts ∙ length-append (map Some (take all_room (drop head a.page))) (payload log files (page + 8192) (last + 1 - (page + 8192)))
          ∙ ap (λ m. m + rest) (some_length (take all_room (drop head a.page)) ∙ count) in
          let some : 0 < left = omega (arith, left_is, w.some) in
          let rest_is : left - room size page ≡ rest = omega (arith, left_is) in
          let more : further size page left ≡ further_page page left ∷ further size (page + 8192) rest =
          further_more size page left some ∙ ap (λ m. further_page page left ∷ further size (page + 8192) m) rest_is in
          let whole_piece : take left (drop head a.page) ≡ take all_room (drop head a.page) =
          take_all left (drop head a.page) (omega (arith, length-drop head a.page, h.size, left_is)) ∙ sym (take_all all_room (drop head a.page) (omega (arith, length-drop head a.page, h.size))) in
          record {
            some = some;
            all = subst P (sym more) (on, w.all);
            carried =
                parts ∙ ap (λ xs. map Some (take all_room (drop head a.page)) ++ xs) w.carried
                ∙ sym (map-append Some (take all_room (drop head a.page)) (flat_map (piece pages size) (further size (page + 8192) rest)))
                ∙ ap (λ xs. map Some (xs ++ flat_map (piece pages size) (further size (page + 8192) rest))) (sym whole_piece ∙ sym piece_here)
                ∙ sym (ap (λ xs. map Some (flat_map (piece pages size) xs)) more);
            behind = ap (behind_in size before) more ∙ w.behind;
          }
    ]

-- A record that stands in the pages of a log is read there.
use Rattle.std.proofs.Common.{◌≡◌, ℕ, zero, suc, ◌+◌, ◌-◌, ◌%◌, ◌^◌, ◌<◌, ◌≤◌, ◌++◌, Bool, true, false, not, nat_eq, cond, List, [], ◌∷◌, take, drop, length, replicate, Option, None, Result, Ok, refl, sym, ap, ◌∙◌, append_assoc, arith, inl, inr, subst, eq-eqb, length-append, length-take, length-drop}
use Rattle.std.specs.List.{flat_map, AllByRecursion}
use Rattle.std.proofs.Math.Seq.{take-append-add}
use Rattle.std.proofs.lemmas.Bool.{cases_lt}
use Rattle.std.proofs.lemmas.Bool.Decides.{nat_tests}
use Rattle.std.proofs.lemmas.List.{drop_at, take_at, take_all, drop_all, drop-drop, take-append-drop}
use Rattle.cluster_tree.specs.Causes.{given}
use Rattle.wal_base.specs.Segment.{bytes_of}
use Rattle.wal_pages.specs.declared.log_path.LogPath.{LogPath}
use Rattle.wal_pages.specs.declared.header.PageHeader.{PageHeader}
use Rattle.wal_pages.specs.declared.field.PageField.{PageField}
use Rattle.wal_pages.specs.Folder.{Folder}
use Rattle.wal_pages.specs.Header.{header_of as page_header_of, header_size, has_bit}
use Rattle.wal_pages.specs.Page.{Refusal, page_at, unless_bad}
use Rattle.wal_pages.specs.ValidPage.{first_bad_field}
use Rattle.wal_pages.proofs.ValidLemmas.{valid_unbroken}
use Rattle.wal_records.specs.declared.log_origin.LogOrigin.{LogOrigin}
use Rattle.wal_records.specs.Further.{Pages, FurtherPage, further_page, room, further, stop_of, stop_in, stop_at, piece, piece_in}
use Rattle.wal_records.specs.Writer.{pages_from, page_header}
use Rattle.wal_records.specs.Again.{IsLogOf, IsLogFrom, Holds, Carries}
use Rattle.wal_records.proofs.FurtherLemmas.{further_none, further_more, room_some}
use Rattle.wal_records.proofs.WriterLemmas.{pages_more, length-page_header, header_and_room}
use Rattle.wal_records.proofs.AgainLemmas.{pages_again}

unbroken_is : (at : ℕ) (page : List ℕ) (broken : Option PageField) → broken ≡ None → unless_bad at page broken ≡ Ok page
unbroken_is at page broken e = ap (unless_bad at page) e

pub page_cut : (o : LogOrigin) (at left : ℕ) (d rest : List ℕ) → d ≡ page_header o at left ++ rest
    → take 8192 (d ++ replicate 8192 0) ≡ page_header o at left ++ take (room (bytes_of o.size) at) (rest ++ replicate 8192 0)
page_cut o at left d rest e =
    let head : List ℕ = page_header o at left in
    let behind : List ℕ = take (room (bytes_of o.size) at) (rest ++ replicate 8192 0) in
    let whole : length head + room (bytes_of o.size) at ≡ 8192 = omega (arith, length-page_header o at left, header_and_room (bytes_of o.size) at) in
    ap (λ (t : List ℕ). take 8192 (t ++ replicate 8192 0)) e
    ∙ ap (take 8192) (append_assoc head rest (replicate 8192 0))
    ∙ ap (λ (n : ℕ). take n (head ++ (rest ++ replicate 8192 0))) (sym whole)
    ∙ take-append-add head (rest ++ replicate 8192 0) (room (bytes_of o.size) at)

-- the page that a written header begins, as it is read
pub page_stands : (log : LogPath) (files : Folder) (o : LogOrigin) (at left : ℕ) (bytes rest : List ℕ) → Holds log files o.start bytes → IsLogOf log o at
    → at % 8192 ≡ 0 → o.start ≤ at → at ≤ o.start + length bytes → at < 2 ^ 64 → left < 2 ^ 32 → drop (at - o.start) bytes ≡ page_header o at left ++ rest
    → page_at log files at ≡ Ok (page_header o at left ++ take (room (bytes_of o.size) at) (rest ++ replicate 8192 0))
unfolding page_at
page_stands log files o at left bytes rest holds of p from to low few e =
    let head : List ℕ = page_header o at left in
    let behind : List ℕ = take (room (bytes_of o.size) at) (rest ++ replicate 8192 0) in
    let cut : take 8192 (drop (at - o.start) bytes ++ replicate 8192 0) ≡ head ++ behind = page_cut o at left (drop (at - o.start) bytes) rest e in
    let valid = valid_unbroken log at (head ++ behind) (pages_again log o at left behind low few of).valid in
    ap (λ (r : Result (List ℕ) Refusal). given r (λ (page : List ℕ). unless_bad at page (first_bad_field log at page))) (holds.page at p from to ∙ ap (λ (t : List ℕ). Ok t) cut)
    ∙ unbroken_is at (head ++ behind) (first_bad_field log at (head ++ behind)) valid

bit_eight : (none first : Bool) → has_bit (cond none 0 1 + cond first 2 0) 8 ≡ false
bit_eight true true = refl
bit_eight true false = refl
bit_eight false true = refl
bit_eight false false = refl

pub bit_one : (none first : Bool) → has_bit (cond none 0 1 + cond first 2 0) 1 ≡ not none
bit_one true true = refl
bit_one true false = refl
bit_one false true = refl
bit_one false false = refl

none_left : (left : ℕ) → 0 < left → nat_eq left 0 ≡ false
none_left left h = grind (arith, nat_tests)

stop_none : (next : FurtherPage) (header : PageHeader) → has_bit header.info 8 ≡ false → has_bit header.info 1 ≡ true → header.remaining ≡ next.left → stop_of next header ≡ None
stop_none next header a b e = rw (a, b, eq-eqb header.remaining next.left e) refl

-- a further page that was written goes on
pub goes_on : (log : LogPath) (o : LogOrigin) (pages : Pages) (at left : ℕ) (behind : List ℕ) → IsLogOf log o at → at < 2 ^ 64 → 0 < left → left < 2 ^ 32
    → pages at ≡ Ok (page_header o at left ++ behind) → stop_at pages (further_page at left) ≡ None
goes_on log o pages at left behind of low some few e =
    let again = pages_again log o at left behind low few of in
    let size : ℕ = bytes_of o.size in
    let page : List ℕ = page_header o at left ++ behind in
    ap (stop_in (further_page at left)) e
    ∙ stop_none (further_page at left) (page_header_of page)
    (ap (λ (n : ℕ). has_bit n 8) again.info ∙ bit_eight (nat_eq left 0) (nat_eq (at % size) 0))
    (ap (λ (n : ℕ). has_bit n 1) again.info ∙ bit_one (nat_eq left 0) (nat_eq (at % size) 0) ∙ ap not (none_left left some))
    again.remaining

-- the bytes of a record on a further page
pub taken_again : (space left : ℕ) (x more : List ℕ) → length x ≡ left → take left (take space (take space x ++ more)) ≡ take space x
taken_again space left x more e =
    elim (cases_lt space left) [
      | inl fewer ↦
          let size : length (take space x) ≡ space = length-take space x ∙ omega arith in
          ap (take left) (take_at (take space x) more space size) ∙ take_all left (take space x) (omega arith)
      | inr all ↦
          let whole : take space x ≡ x = take_all space x (omega arith) in
          let sum : space ≡ length x + (space - left) = omega arith in
          ap (λ (t : List ℕ). take left (take space (t ++ more))) whole
          ∙ ap (λ (n : ℕ). take left (take n (x ++ more))) sum
          ∙ ap (take left) (take-append-add x more (space - left))
          ∙ take_at x (take (space - left) more) left e
          ∙ sym whole
    ]

piece_again : (o : LogOrigin) (pages : Pages) (at left : ℕ) (x more : List ℕ) → length x ≡ left
    → pages at ≡ Ok (page_header o at left ++ take (room (bytes_of o.size) at) (take (room (bytes_of o.size) at) x ++ more))
    → piece pages (bytes_of o.size) (further_page at left) ≡ take (room (bytes_of o.size) at) x
piece_again o pages at left x more e h =
    let space : ℕ = room (bytes_of o.size) at in
    ap (piece_in (bytes_of o.size) (further_page at left)) h
    ∙ ap (take left) (drop_at (page_header o at left) (take space (take space x ++ more)) (header_size (bytes_of o.size) at) (length-page_header o at left))
    ∙ taken_again space left x more e

pub carries_none : (pages : Pages) (size page left : ℕ) (b : List ℕ) → left ≡ 0 → Carries pages size (further size page left) (drop (length b - left) b)
carries_none pages size page left b e =
    let none : further size page left ≡ [] = further_none size page left e in
    record {
      announced = subst (AllByRecursion (λ f. stop_at pages f ≡ None)) (sym none) tt;
      carried = ap (flat_map (piece pages size)) none ∙ sym (drop_all (length b - left) b (omega arith));
    }

later_part : (b : List ℕ) (left space : ℕ) → left ≤ length b → drop (length b - (left - space)) b ≡ drop space (drop (length b - left) b)
later_part b left space fits =
    elim (cases_lt left space) [
      | inl past ↦ drop_all (length b - (left - space)) b (omega arith) ∙ sym (drop_all space (drop (length b - left) b) (omega (arith, length-drop (length b - left) b)))
      | inr within ↦ let n : length b - (left - space) ≡ length b - left + space = omega arith in ap (λ (k : ℕ). drop k b) n ∙ sym (drop-drop space (length b - left) b)
    ]

carries_more : (pages : Pages) (size page left space : ℕ) (b : List ℕ) → 0 < left → left ≤ length b → space ≡ room size page → stop_at pages (further_page page left) ≡ None
    → piece pages size (further_page page left) ≡ take space (drop (length b - left) b) → Carries pages size (further size (page + 8192) (left - space)) (drop (length b - (left - space)) b)
    → Carries pages size (further size page left) (drop (length b - left) b)
carries_more pages size page left space b some fits e stop here rest =
    let more : further size page left ≡ further_page page left ∷ further size (page + 8192) (left - space) = further_more size page left some ∙ ap (λ (n : ℕ). further_page page left ∷ further size (page + 8192) (left - n)) (sym e) in
    let x : List ℕ = drop (length b - left) b in
    let onward : drop (length b - (left - space)) b ≡ drop space x = later_part b left space fits in
    record {
      announced = subst (AllByRecursion (λ f. stop_at pages f ≡ None)) (sym more) (stop, rest.announced);
      carried =
          ap (flat_map (piece pages size)) more
          ∙ ap (λ (t : List ℕ). t ++ flat_map (piece pages size) (further size (page + 8192) (left - space))) here
          ∙ ap (λ (t : List ℕ). take space x ++ t) (rest.carried ∙ onward)
          ∙ take-append-drop space x;
    }

four_parts : (a t n f : List ℕ) → ((a ++ t) ++ n) ++ f ≡ a ++ (t ++ (n ++ f))
four_parts a t n f = simp append_assoc

pub head_some : (size at : ℕ) → 0 < header_size size at
head_some size at = grind arith

page_as : (o : LogOrigin) (pages : Pages) (at left : ℕ) (x more zeros : List ℕ) → pages at ≡ Ok (page_header o at left ++ take (room (bytes_of o.size) at) ((x ++ more) ++ zeros))
    → pages at ≡ Ok (page_header o at left ++ take (room (bytes_of o.size) at) (x ++ (more ++ zeros)))
page_as o pages at left x more zeros e = e ∙ ap (λ (t : List ℕ). Ok (page_header o at left ++ take (room (bytes_of o.size) at) t)) (append_assoc x more zeros)

past_page : (o : LogOrigin) (bytes : List ℕ) (page : ℕ) (head x rest : List ℕ) → o.start ≤ page → drop (page - o.start) bytes ≡ head ++ (x ++ rest) → length head + length x ≡ 8192
    → drop (page + 8192 - o.start) bytes ≡ rest
past_page o bytes page head x rest from e size =
    let place : page + 8192 - o.start ≡ page - o.start + 8192 = omega arith in
    ap (λ (k : ℕ). drop k bytes) place ∙ sym (drop-drop 8192 (page - o.start) bytes)
    ∙ ap (drop 8192) (e ∙ sym (append_assoc head x rest)) ∙ drop_at (head ++ x) rest 8192 (length-append head x ∙ size)

-- by induction over the pages
pub pages_stand : (log : LogPath) (files : Folder) (o : LogOrigin) (bytes b : List ℕ) (n page left : ℕ) (after : List ℕ) → Holds log files o.start bytes
    → IsLogFrom log o → left ≤ n → left ≤ length b → length b < 2 ^ 32 → page % 8192 ≡ 0 → o.start ≤ page → o.start + length bytes < 2 ^ 64
    → drop (page - o.start) bytes ≡ pages_from o b page left ++ after
    → Carries (page_at log files) (bytes_of o.size) (further (bytes_of o.size) page left) (drop (length b - left) b)
pages_stand log files o bytes b zero page left after holds of most fits few p from low e = carries_none (page_at log files) (bytes_of o.size) page left b (omega arith)
pages_stand log files o bytes b (suc n) page left after holds of most fits few p from low e =
    elim (cases_lt 0 left) [
      | inl some ↦
          let size : ℕ = bytes_of o.size in
          let space : ℕ = room size page in
          let x : List ℕ = drop (length b - left) b in
          let head : List ℕ = page_header o page left in
          let next : List ℕ = pages_from o b (page + 8192) (left - space) in
          let here : drop (page - o.start) bytes ≡ head ++ (take space x ++ (next ++ after)) =
          e ∙ ap (λ (t : List ℕ). t ++ after) (pages_more o b page left some) ∙ four_parts head (take space x) next after in
          let there : page < o.start + length bytes = omega (arith, ap length here, length-append head (take space x ++ (next ++ after)), length-page_header o page left, head_some size page, length-drop (page - o.start) bytes) in
          let read = page_stands log files o page left bytes (take space x ++ (next ++ after)) holds (of page from) p from (omega arith) (omega arith) (omega arith) here in
          let again = page_as o (page_at log files) page left (take space x) (next ++ after) (replicate 8192 0) read in
          let onward : 0 < left - space → drop (page + 8192 - o.start) bytes ≡ next ++ after = λ more.
          past_page o bytes page head (take space x) (next ++ after) from here (omega (arith, length-page_header o page left, length-take space x, length-drop (length b - left) b, header_and_room size page, more)) in
          carries_more (page_at log files) size page left space b some fits refl
          (goes_on log o (page_at log files) page left _ (of page from) (omega arith) some (omega arith) again)
          (piece_again o (page_at log files) page left x ((next ++ after) ++ replicate 8192 0) (length-drop (length b - left) b ∙ omega arith) again)
          (elim (cases_lt 0 (left - space)) [
            | inl more ↦ pages_stand log files o bytes b n (page + 8192) (left - space) after holds of (omega (arith, room_some size page)) (omega arith) few (omega arith) (omega arith) low (onward more)
            | inr none ↦ carries_none (page_at log files) size (page + 8192) (left - space) b (omega arith)
          ])
      | inr none ↦ carries_none (page_at log files) (bytes_of o.size) page left b (omega arith)
    ]

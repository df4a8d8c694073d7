-- A record that was written at a place is read there.
use Rattle.std.proofs.Common.{◌≡◌, ℕ, ◌+◌, ◌-◌, ◌%◌, ◌^◌, ◌<◌, ◌≤◌, ◌++◌, min, Bool, true, false, not, nat_eq, List, take, drop, length, replicate, Option, None, Ok, refl, sym, ap, ◌∙◌, append_assoc, arith, inl, inr, subst, eq-eqb, length-append, length-take, length-drop}
use Rattle.std.specs.Prelude.{◌&&◌}
use Rattle.std.specs.List.{flat_map, AllByRecursion}
use Rattle.std.proofs.lemmas.Bool.{cases_eq, cases_lt, le-leb, lt-leb}
use Rattle.std.proofs.lemmas.Bool.Decides.{nat_tests}
use Rattle.std.proofs.lemmas.List.{drop_at, drop_all, drop-drop, drop-take, drop-append-le, take-append-drop}
use Rattle.layout.specs.Readers.{u32_at}
use Rattle.wal_base.specs.Segment.{bytes_of}
use Rattle.wal_pages.specs.declared.log_path.LogPath.{LogPath}
use Rattle.wal_pages.specs.Folder.{Folder}
use Rattle.wal_pages.specs.Header.{header_of as page_header_of, header_size, has_bit, page_of}
use Rattle.wal_pages.specs.Page.{page_at}
use Rattle.wal_records.specs.declared.header.RecordHeader.{RecordHeader}
use Rattle.wal_records.specs.declared.log_origin.LogOrigin.{LogOrigin}
use Rattle.wal_records.specs.Place.{place_at, is_place}
use Rattle.wal_records.specs.Header.{header_of, length_fault, checksum}
use Rattle.wal_records.specs.Further.{Pages, FurtherPage, room, further, stop_at, piece}
use Rattle.wal_records.specs.Reading.{Spelled, reading, record_of, sealed, sealed_end, seal_fault, continues_at}
use Rattle.wal_records.specs.Writer.{NewRecord, page_header, pages_from, record_bytes, end_from}
use Rattle.wal_records.specs.Again.{IsNew, IsLogFrom, Holds, Carries, IsWrittenAt}
use Rattle.wal_records.proofs.PartLemmas.{word_taken, word_front}
use Rattle.wal_records.proofs.RelationLemmas.{front_of, rest_of, parts_read, length_fits}
use Rattle.wal_records.proofs.CarriedLemmas.{are_pages}
use Rattle.wal_records.proofs.WriterLemmas.{laid_is}
use Rattle.wal_records.proofs.AppendLemmas.{end_is}
use Rattle.wal_records.proofs.AgainLemmas.{records_again, pages_again}
use Rattle.wal_records.proofs.StandsLemmas.{page_stands, page_cut, bit_one, taken_again, carries_none, pages_stand, head_some}

pub place_is : (size place : ℕ) → place % 8 ≡ 0 → header_size size (page_of place) ≤ place % 8192 → is_place size place ≡ true
place_is size place a b = rw (eq-eqb (place % 8) 0 a, le-leb (header_size size (page_of place)) (place % 8192) b) refl

and_false : (x y : Bool) → y ≡ false → (x && y) ≡ false
and_false true y e = e
and_false false y e = refl

not_equal : (a b : ℕ) → (a ≡ b → ⊥) → nat_eq a b ≡ false
not_equal a b n = grind (arith, nat_tests)

pub fresh_of : (size place info : ℕ) → (place % 8192 ≡ header_size size (page_of place) → has_bit info 1 ≡ false) → continues_at size place info ≡ false
fresh_of size place info f =
    elim (cases_eq (place % 8192) (header_size size (page_of place))) [
      | inl e ↦ and_false (nat_eq (place % 8192) (header_size size (page_of place))) (has_bit info 1) (f e)
      | inr n ↦ ap (λ (x : Bool). x && has_bit info 1) (not_equal (place % 8192) (header_size size (page_of place)) n)
    ]

seal_none : (size place total : ℕ) (bytes : List ℕ) → sealed_end size place total bytes < 2 ^ 64 → checksum bytes ≡ (header_of bytes).crc → seal_fault size place total bytes ≡ None
seal_none size place total bytes low sum = rw (lt-leb (2 ^ 64) (sealed_end size place total bytes) low, eq-eqb (checksum bytes) (header_of bytes).crc sum) refl

beyond_space : (b : List ℕ) (space : ℕ) → drop (length b - (length b - space)) b ≡ drop space b
beyond_space b space =
    elim (cases_lt (length b) space) [
      | inl past ↦ drop_all (length b - (length b - space)) b (omega arith) ∙ sym (drop_all space b (omega arith))
      | inr within ↦ let n : length b - (length b - space) ≡ space = omega arith in ap (λ (k : ℕ). drop k b) n
    ]

four : (a b c d : List ℕ) → ((a ++ b) ++ c) ++ d ≡ a ++ (b ++ (c ++ d))
four a b c d = simp append_assoc

-- where the record's first page goes on, from its place
from_place : (d front pages after zeros page : List ℕ) (k space : ℕ) → k + space ≡ 8192 → k ≤ length d → take 8192 (d ++ zeros) ≡ page → drop k d ≡ (front ++ pages) ++ after
    → drop k page ≡ take space (front ++ (pages ++ (after ++ zeros)))
from_place d front pages after zeros page k space sum fits cut e =
    ap (drop k) (sym cut)
    ∙ ap (λ (n : ℕ). drop k (take n (d ++ zeros))) (sym sum)
    ∙ drop-take k space (d ++ zeros)
    ∙ ap (take space) (drop-append-le k d zeros fits ∙ ap (λ (t : List ℕ). t ++ zeros) e ∙ four front pages after zeros)

pub placed : (log : LogPath) (files : Folder) (o : LogOrigin) (bytes : List ℕ) (before : Option ℕ) (at : ℕ) (r : NewRecord) → Holds log files o.start bytes
    → IsLogFrom log o → o.start + length bytes < 2 ^ 64 → IsNew before r → IsWrittenAt o bytes (place_at (bytes_of o.size) at) (record_bytes before r)
    → end_from o before at r < 2 ^ 64
    → reading (page_at log files) (bytes_of o.size) before (place_at (bytes_of o.size) at) ≡ Spelled (record_of (place_at (bytes_of o.size) at) (end_from o before at r) (record_bytes before r))
placed log files o bytes before at r holds of low new w ends =
    let size : ℕ = bytes_of o.size in
    let pages : Pages = page_at log files in
    let place : ℕ = place_at size at in
    let b : List ℕ = record_bytes before r in
    let total : ℕ = length b in
    let k : ℕ = place % 8192 in
    let space : ℕ = 8192 - k in
    let first : ℕ = page_of place in
    let next : ℕ = first + 8192 in
    let zeros : List ℕ = replicate 8192 0 in
    let d : List ℕ = drop (first - o.start) bytes in
    let further_bytes : List ℕ = pages_from o b next (total - space) in
    let page : List ℕ = page_header o first w.left ++ take (room size first) (w.rest ++ zeros) in
    let again = records_again before r new in
    let some : 24 ≤ total = omega (arith, again.size) in
    let wide : 8 ≤ space = omega (arith, w.aligned) in
    let begins_size : length (take space b) ≡ min space total = length-take space b in
    let laid_at : drop (place - o.start) bytes ≡ (take space b ++ further_bytes) ++ w.after = w.laid ∙ ap (λ (t : List ℕ). t ++ w.after) (laid_is o place b) in
    let split : first + k ≡ place = omega arith in
    let inside : place - o.start < length bytes =
    omega (arith, ap length laid_at, length-append (take space b ++ further_bytes) w.after, length-append (take space b) further_bytes, begins_size, some, wide, length-drop (place - o.start) bytes) in
    let fits : k ≤ length d = omega (arith, length-drop (first - o.start) bytes, inside, split, w.from) in
    let read : pages first ≡ Ok page = page_stands log files o first w.left bytes w.rest holds (of first w.from) (omega arith) w.from (omega (arith, inside, split, w.from)) (omega (arith, inside, split, w.from, low)) w.few w.head in
    let cut : take 8192 (d ++ zeros) ≡ page = page_cut o first w.left d w.rest w.head in
    let moved : drop k d ≡ (take space b ++ further_bytes) ++ w.after =
    let n : first - o.start + k ≡ place - o.start = omega (arith, split, w.from) in drop-drop k (first - o.start) bytes ∙ ap (λ (i : ℕ). drop i bytes) n ∙ laid_at in
    let front_is : take total (drop k page) ≡ take space b =
    let whole : k + space ≡ 8192 = omega arith in
    ap (take total) (from_place d (take space b) further_bytes w.after zeros page k space whole fits cut moved) ∙ taken_again space total b (further_bytes ++ (w.after ++ zeros)) refl in
    let word : u32_at k page ≡ total =
    sym (word_taken k total page (omega (arith, ap length front_is, begins_size, some, wide)))
    ∙ ap (u32_at 0) front_is ∙ sym (word_front 0 (take space b) (drop space b) (omega (arith, begins_size, some, wide))) ∙ ap (u32_at 0) (take-append-drop space b)
    ∙ ap (λ (h : RecordHeader). h.total) again.header ∙ sym again.size in
    let front : front_of place page ≡ take space b = ap (λ (n : ℕ). take n (drop k page)) word ∙ front_is in
    let behind : total - length (take space b) ≡ total - space = omega (arith, begins_size) in
    let rest : rest_of size place page ≡ further size next (total - space) =
    ap (λ (n : ℕ). further size next (n - length (take n (drop k page)))) word
    ∙ ap (λ (t : List ℕ). further size next (total - length t)) front_is ∙ ap (further size next) behind in
    let carries : Carries pages size (further size next (total - space)) (drop (total - (total - space)) b) =
    elim (cases_lt 0 (total - space)) [
      | inl more ↦
          let n : next - o.start ≡ place - o.start + space = omega (arith, split, w.from) in
          let there : drop (next - o.start) bytes ≡ further_bytes ++ w.after =
          ap (λ (i : ℕ). drop i bytes) n ∙ sym (drop-drop space (place - o.start) bytes) ∙ ap (drop space) (laid_at ∙ append_assoc (take space b) further_bytes w.after)
          ∙ drop_at (take space b) (further_bytes ++ w.after) space (begins_size ∙ omega (arith, more)) in
          pages_stand log files o bytes b (total - space) next (total - space) w.after holds of (omega arith) (omega arith) (omega (arith, again.size, new.size)) (omega arith) (omega (arith, w.from)) low there
      | inr none ↦ carries_none pages size next (total - space) b (omega arith)
    ] in
    let info = (pages_again log o first w.left (take (room size first) (w.rest ++ zeros)) (omega (arith, inside, split, w.from, low)) w.few (of first w.from)).info in
    let end : sealed_end size place total b ≡ end_from o before at r = end_is o before at r place total (header_of b) refl again.size refl in
    parts_read pages size before place page b (are_pages log files) (record {
      stands = place_is size place w.aligned w.behind;
      begins = read;
      fresh = fresh_of size place (page_header_of page).info (λ e.
          ap (λ (n : ℕ). has_bit n 1) info ∙ bit_one (nat_eq w.left 0) (nat_eq (first % size) 0) ∙ ap (λ (n : ℕ). not (nat_eq n 0)) (w.fresh e));
      total = ap length_fault word ∙ length_fits total some (omega (arith, again.size, new.size));
      announced = subst (AllByRecursion (λ f. stop_at pages f ≡ None)) (sym rest) carries.announced;
      payload =
          sym (take-append-drop space b) ∙ ap (λ (t : List ℕ). take space b ++ t) (sym (beyond_space b space) ∙ sym carries.carried)
          ∙ ap (λ (t : List ℕ). t ++ flat_map (piece pages size) (further size next (total - space))) (sym front)
          ∙ ap (λ (l : List FurtherPage). front_of place page ++ flat_map (piece pages size) l) (sym rest);
      linked = again.linked place (omega (arith, w.behind, head_some size first, split));
      sealing = ap (λ (n : ℕ). seal_fault size place n b) word ∙ seal_none size place total b (omega (arith, end, ends)) again.sum;
    })
    ∙ ap (λ (n : ℕ). Spelled (sealed size place n b)) word
    ∙ ap (λ (e : ℕ). Spelled (record_of place e b)) end

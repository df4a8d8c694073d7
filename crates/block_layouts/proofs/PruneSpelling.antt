-- What a PRUNE makes of lines is spelled as it is read, and read where it is spelled.
use Rattle.std.proofs.Common.{◌≡◌, ◌≤◌, ◌+◌, ◌-◌, ◌*◌, ◌++◌, ℕ, zero, suc, List, [], ◌∷◌, length, drop, Some, refl, sym, ap, subst, ◌∙◌, arith, length-append, take-append-drop}
use Rattle.std.specs.Prelude.{◌↔◌}
use Rattle.std.specs.List.{flat_map}
use Rattle.layout.specs.Readers.{u16_at}
use Rattle.layout.specs.Values.{number}
use Rattle.layout_readers.specs.Rows.{AreBytes, StandFrom, row_bytes, row_width}
use Rattle.layout_readers.proofs.RowLemmas.{length_row, row_fits, row_read, row_spelled}
use Rattle.layout_readers.proofs.WholeLemmas.{whole_is, whole_there}
use Rattle.block_layouts.specs.declared.prune.PrunePlaces.{PrunePlaces}
use Rattle.block_layouts.specs.declared.redirects.Redirect.{Redirect}
use Rattle.block_layouts.specs.Places.{places_from}
use Rattle.block_layouts.specs.Prune.{places_left, prune_places_of}
use Rattle.block_layouts.specs.Redirects.{redirect_at, redirects_from}
use Rattle.block_layouts.specs.Spelling.{SpellsPrune, places_values, prune_values, redirect_values}
use Rattle.block_layouts.proofs.HoldLemmas.{halved}
use Rattle.block_layouts.proofs.ListLemmas.{place_count-is, redirect_count-is}
use Rattle.block_layouts.proofs.SpellingLemmas.{stand_at, stand_joined, stand_parted, width_append}

-- ---- places and pairs

pub places_stand : (n at : ℕ) (bytes : List ℕ) → StandFrom (places_values (places_from n bytes at)) at bytes
places_stand zero at bytes = tt
places_stand (suc n) at bytes = (refl, places_stand n (at + 2) bytes)

pairs_stand : (n at : ℕ) (bytes : List ℕ) → StandFrom (flat_map redirect_values (redirects_from n bytes at)) at bytes
pairs_stand zero at bytes = tt
pairs_stand (suc n) at bytes =
    (refl, (refl, stand_at (flat_map redirect_values (redirects_from n bytes (at + 4))) bytes (at + 4) (at + 2 + 2) (omega arith) (pairs_stand n (at + 4) bytes)))

pub places_width : (ns : List ℕ) → row_width (places_values ns) ≡ 2 * length ns
places_width [] = refl
places_width (n ∷ ns) = let e = places_width ns in omega (arith, e)

pairs_width : (rs : List Redirect) → row_width (flat_map redirect_values rs) ≡ 4 * length rs
pairs_width [] = refl
pairs_width (r ∷ rs) = let e = pairs_width rs in omega (arith, e)

pub places_again : (ns : List ℕ) (at : ℕ) (bytes : List ℕ) → StandFrom (places_values ns) at bytes → places_from (length ns) bytes at ≡ ns
places_again [] at bytes stand = refl
places_again (n ∷ ns) at bytes stand =
    let first : u16_at at bytes ≡ n = ap number stand.0 in
    let others = places_again ns (at + 2) bytes stand.1 in
    rw (first, others) refl

pair_is : (at : ℕ) (bytes : List ℕ) (r : Redirect) → u16_at at bytes ≡ r.from → u16_at (at + 2) bytes ≡ r.to → redirect_at bytes at ≡ r
pair_is at bytes r a b = rw (a, b) refl

pairs_again : (rs : List Redirect) (at : ℕ) (bytes : List ℕ) → StandFrom (flat_map redirect_values rs) at bytes → redirects_from (length rs) bytes at ≡ rs
pairs_again [] at bytes stand = refl
pairs_again (r ∷ rs) at bytes stand =
    let first : redirect_at bytes at ≡ r = pair_is at bytes r (ap number stand.0) (ap number stand.1.0) in
    let others = pairs_again rs (at + 4) bytes (stand_at (flat_map redirect_values rs) bytes (at + 2 + 2) (at + 4) (omega arith) stand.1.1) in
    rw (first, others) refl

-- the widths of a prune's rows
prune_width : (places : PrunePlaces) → row_width (prune_values places) ≡ 4 * length places.redirected + (2 * length places.dead + 2 * length places.unused)
prune_width places =
    let rows = flat_map redirect_values places.redirected in
    let dead = places_values places.dead in
    let unused = places_values places.unused in
    width_append rows (dead ++ unused) ∙ rw (width_append dead unused, pairs_width places.redirected, places_width places.dead, places_width places.unused) refl

-- ---- what is read is spelled so

abbrev read_of : ℕ → ℕ → List ℕ → PrunePlaces
read_of redirected dead bytes = record {
  redirected = redirects_from redirected bytes 0;
  dead = places_from dead bytes (4 * redirected);
  unused = places_from (places_left (4 * redirected + 2 * dead) bytes) bytes (4 * redirected + 2 * dead);
}

read_stands : (redirected dead : ℕ) (bytes : List ℕ) → StandFrom (prune_values (read_of redirected dead bytes)) 0 bytes
read_stands redirected dead bytes =
    let read = read_of redirected dead bytes in
    let rows = flat_map redirect_values read.redirected in
    let singles = places_values read.dead in
    let unused = places_values read.unused in
    let first : row_width rows ≡ 4 * redirected = pairs_width read.redirected ∙ ap (λ (n : ℕ). 4 * n) (redirect_count-is redirected 0 bytes) in
    let second : row_width singles ≡ 2 * dead = places_width read.dead ∙ ap (λ (n : ℕ). 2 * n) (place_count-is dead (4 * redirected) bytes) in
    let dead_at : 4 * redirected ≡ 0 + row_width rows = omega (arith, first) in
    let unused_at : 4 * redirected + 2 * dead ≡ 0 + row_width rows + row_width singles = omega (arith, first, second) in
    stand_joined rows (singles ++ unused) 0 bytes (pairs_stand redirected 0 bytes) (stand_joined singles unused (0 + row_width rows) bytes
    (stand_at singles bytes (4 * redirected) (0 + row_width rows) dead_at (places_stand dead (4 * redirected) bytes))
    (stand_at unused bytes (4 * redirected + 2 * dead) (0 + row_width rows + row_width singles) unused_at (places_stand (places_left (4 * redirected + 2 * dead) bytes) (4 * redirected + 2 * dead) bytes)))

read_spells : (redirected dead : ℕ) (bytes : List ℕ) → AreBytes bytes → 4 * redirected + 2 * dead ≤ length bytes → SpellsPrune redirected dead bytes (read_of redirected dead bytes)
read_spells redirected dead bytes are room =
    let read = read_of redirected dead bytes in
    let values = prune_values read in
    let left = places_left (4 * redirected + 2 * dead) bytes in
    let pairs : length read.redirected ≡ redirected = redirect_count-is redirected 0 bytes in
    let singles : length read.dead ≡ dead = place_count-is dead (4 * redirected) bytes in
    let unused : length read.unused ≡ left = place_count-is left (4 * redirected + 2 * dead) bytes in
    let half = halved (length bytes - (4 * redirected + 2 * dead)) in
    let width : row_width values ≡ 4 * redirected + (2 * dead + 2 * left) = prune_width read ∙ rw (pairs, singles, unused) refl in
    let within : 0 + row_width values ≤ length bytes = omega (arith, width, room, half.0) in
    let stand = read_stands redirected dead bytes in
    let fit = row_fits values 0 bytes are within stand in
    let size : length (row_bytes values) ≡ row_width values = length_row values fit in
    record {
      pairs = pairs;
      singles = singles;
      fit = fit;
      spelled = ap (λ (n : ℕ). row_bytes values ++ drop n bytes) size ∙ ap (λ (xs : List ℕ). xs ++ drop (row_width values) bytes) (row_spelled values 0 bytes are within stand) ∙ take-append-drop (row_width values) bytes;
      odd = omega (arith, width, size, room, half.1);
    }

spelled : (redirected dead : ℕ) (bytes : List ℕ) (places : PrunePlaces) → AreBytes bytes → prune_places_of redirected dead bytes ≡ Some places → SpellsPrune redirected dead bytes places
spelled redirected dead bytes places are e =
    let w = whole_is (4 * redirected + 2 * dead) bytes (read_of redirected dead bytes) places e in
    subst (λ (p : PrunePlaces). SpellsPrune redirected dead bytes p) w.same (read_spells redirected dead bytes are w.room)

-- ---- what is spelled is read

all_read : (redirected dead left : ℕ) (bytes : List ℕ) (places : PrunePlaces) → redirects_from redirected bytes 0 ≡ places.redirected → places_from dead bytes (4 * redirected) ≡ places.dead
    → places_left (4 * redirected + 2 * dead) bytes ≡ left → places_from left bytes (4 * redirected + 2 * dead) ≡ places.unused → read_of redirected dead bytes ≡ places
all_read redirected dead left bytes places pairs singles many unused = rw (pairs, singles, many, unused) refl

read_again : (redirected dead : ℕ) (bytes : List ℕ) (places : PrunePlaces) → SpellsPrune redirected dead bytes places → prune_places_of redirected dead bytes ≡ Some places
read_again redirected dead bytes places s =
    let values = prune_values places in
    let rows = flat_map redirect_values places.redirected in
    let singles = places_values places.dead in
    let free = places_values places.unused in
    let stand : StandFrom values 0 bytes = subst (λ (b : List ℕ). StandFrom values 0 b) s.spelled (row_read values [] (drop (length (row_bytes values)) bytes) s.fit) in
    let first = stand_parted rows (singles ++ free) 0 bytes stand in
    let second = stand_parted singles free (0 + row_width rows) bytes first.1 in
    let wide : row_width rows ≡ 4 * redirected = pairs_width places.redirected ∙ ap (λ (n : ℕ). 4 * n) s.pairs in
    let long : row_width singles ≡ 2 * dead = places_width places.dead ∙ ap (λ (n : ℕ). 2 * n) s.singles in
    let size : length (row_bytes values) ≡ 4 * redirected + (2 * dead + 2 * length places.unused) = length_row values s.fit ∙ prune_width places ∙ rw (s.pairs, s.singles) refl in
    let least : length (row_bytes values) ≤ length bytes = subst (λ (b : List ℕ). length (row_bytes values) ≤ length b) s.spelled (omega (arith, length-append (row_bytes values) (drop (length (row_bytes values)) bytes))) in
    let odd = s.odd in
    let pairs : redirects_from redirected bytes 0 ≡ places.redirected = ap (λ (n : ℕ). redirects_from n bytes 0) (sym s.pairs) ∙ pairs_again places.redirected 0 bytes first.0 in
    let dead_is : places_from dead bytes (4 * redirected) ≡ places.dead =
    ap (λ (n : ℕ). places_from n bytes (4 * redirected)) (sym s.singles) ∙ places_again places.dead (4 * redirected) bytes (stand_at singles bytes (0 + row_width rows) (4 * redirected) (omega (arith, wide)) second.0) in
    let many : places_left (4 * redirected + 2 * dead) bytes ≡ length places.unused = omega (arith, size, least, odd) in
    let unused_is = places_again places.unused (4 * redirected + 2 * dead) bytes (stand_at free bytes (0 + row_width rows + row_width singles) (4 * redirected + 2 * dead) (omega (arith, wide, long)) second.1) in
    whole_there (4 * redirected + 2 * dead) bytes (read_of redirected dead bytes) (omega (arith, size, least)) ∙ ap Some (all_read redirected dead (length places.unused) bytes places pairs dead_is many unused_is)

pub prunes : (redirected dead : ℕ) (bytes : List ℕ) (places : PrunePlaces) → AreBytes bytes → (prune_places_of redirected dead bytes ≡ Some places) ↔ SpellsPrune redirected dead bytes places
prunes redirected dead bytes places are = (spelled redirected dead bytes places are, read_again redirected dead bytes places)

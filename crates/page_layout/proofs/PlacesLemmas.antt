-- Places that rise.
use Rattle.std.proofs.Common.{◌≡◌, ℕ, zero, suc, ◌+◌, ◌-◌, ◌<◌, ◌≤◌, ◌&&◌, List, [], ◌∷◌, Bool, true, false, length, drop, get_or, refl, arith, add-one}
use Rattle.std.specs.Prelude.{nat_lt, nat_le}
use Rattle.std.proofs.lemmas.Bool.Decides.{nat_tests}
use Rattle.std.proofs.Math.Seq.{drop-cons}
use Rattle.page_layout.specs.Deletes.{are_places, without_line, without_lines}

-- the test of the places from index i on, opened once
pub places_from : (lines before i : ℕ) (s : List ℕ) → i < length s
    → are_places lines before (drop i s) ≡ (nat_lt before (get_or s i 0) && nat_le (get_or s i 0) lines && are_places lines (get_or s i 0) (drop (i + 1) s))
places_from lines before i s lt = rw (add-one, drop-cons s i 0) refl

record Parts (lines before place : ℕ) (more : Bool) : Type 0 where
  above : before < place
  below : place ≤ lines
  rest : more ≡ true

parts_of : (lines before place : ℕ) (r : Bool) → (nat_lt before place && nat_le place lines && r) ≡ true → Parts lines before place r
parts_of lines before place true e = record { above = grind (arith, nat_tests); below = grind (arith, nat_tests); rest = refl }
parts_of lines before place false e = absurd (off (nat_lt before place && nat_le place lines) e)
  where
    off : (a : Bool) → (a && false) ≡ true → ⊥
    off true h = cc h
    off false h = cc h

-- later places lie above, so there is room for them
span : (lines before : ℕ) (s : List ℕ) → are_places lines before s ≡ true → before ≤ lines → before + length s ≤ lines
span lines before [] e le = omega arith
span lines before (place ∷ s) e le =
    let t = parts_of lines before place (are_places lines place s) e in
    let more = span lines place s t.rest t.below in
    omega (arith, t.above, more)

-- a place, and how many may follow it
pub record PlaceAt (lines before : ℕ) (s : List ℕ) (i : ℕ) : Type 0 where
  pub above : before < get_or s i 0
  pub left : get_or s i 0 + length s ≤ lines + i + 1

pub place_at : (lines before : ℕ) (s : List ℕ) (i : ℕ) → are_places lines before s ≡ true → i < length s → PlaceAt lines before s i
place_at lines before [] i e lt = absurd (omega arith)
place_at lines before (place ∷ s) zero e lt =
    let t = parts_of lines before place (are_places lines place s) e in
    let more = span lines place s t.rest t.below in
    record { above = t.above; left = omega (arith, more) }
place_at lines before (place ∷ s) (suc i) e lt =
    let t = parts_of lines before place (are_places lines place s) e in
    let more = place_at lines place s i t.rest (omega arith) in
    record { above = omega (arith, t.above, more.above); left = omega (arith, more.left) }

-- the lines from index i on, one more taken out
pub lines_from : (p : List ℕ) (s : List ℕ) (i : ℕ) → i < length s → without_lines p (drop i s) ≡ without_line (without_lines p (drop (i + 1) s)) (get_or s i 0 - 1)
lines_from p s i lt = rw (add-one, drop-cons s i 0) refl

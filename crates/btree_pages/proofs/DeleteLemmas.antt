-- More places than a page has lines.
use Rattle.std.proofs.Common.{◌≡◌, ℕ, ◌+◌, ◌<◌, ◌≤◌, ◌&&◌, List, [], ◌∷◌, Bool, true, false, Err, length, refl, arith}
use Rattle.std.specs.Prelude.{nat_lt, nat_le}
use Rattle.std.proofs.lemmas.Bool.Decides.{nat_tests}
use Rattle.page_layout.specs.Page.{count, IsFormed}
use Rattle.page_layout.specs.Deletes.{are_places}
use Rattle.page_layout.specs.declared.refusal.RedoWhy.TheVariants.{Place}
use Rattle.page_masks.proofs.Unshown.{well}
use Rattle.btree_pages.specs.Delete.{delete_page}

both : (a b : Bool) → (a && b) ≡ true → (a ≡ true) × (b ≡ true)
both true b e = (refl, e)
both false b e = cc e

places_below : (lines before : ℕ) (places : List ℕ) → before ≤ lines → are_places lines before places ≡ true → before + length places ≤ lines
places_below lines before [] le e = omega (arith, le)
places_below lines before (place ∷ places) le e =
    let a = both (nat_lt before place && nat_le place lines) (are_places lines place places) e in
    let b = both (nat_lt before place) (nat_le place lines) a.0 in
    let past : before < place = grind (arith, nat_tests, b.0) in
    let there : place ≤ lines = grind (arith, nat_tests, b.1) in
    omega (arith, places_below lines place places there a.1, past)

pub lines_below : (p : List ℕ) → IsFormed p → count p ≤ 2042
lines_below p f = omega (arith, f.head.low, f.head.mid, f.head.high, f.head.top)

pub too_many_places : (p places : List ℕ) → IsFormed p → 2042 < length places → delete_page places p ≡ Err Place
too_many_places p places f many = by_case (are_places (count p) 0 places) refl
  where
    by_case : (b : Bool) → are_places (count p) 0 places ≡ b → delete_page places p ≡ Err Place
    by_case true e = absurd (omega (arith, places_below (count p) 0 places (omega arith) e, lines_below p f, many))
    by_case false e = rw (well p f.head f.lines, e) refl

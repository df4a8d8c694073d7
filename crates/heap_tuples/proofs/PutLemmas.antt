-- The place and the room of a new tuple.
use Rattle.std.proofs.Common.{◌≡◌, ℕ, ◌+◌, ◌-◌, ◌*◌, ◌<◌, ◌≤◌, ◌&&◌, ◌||◌, List, Bool, true, false, Option, Some, None, length, refl, sym, ◌∙◌, subst, arith}
use Rattle.std.specs.Prelude.{if◌then◌else◌, nat_le, nat_lt}
use Rattle.std.proofs.lemmas.Bool.Decides.{nat_tests}
use Rattle.page_layout.specs.Bytes.{up8}
use Rattle.page_layout.specs.Page.{pd_lower, pd_upper, count, IsFormed}
use Rattle.page_layout.specs.Edits.{is_free, lower_after, add_refusal, added}
use Rattle.page_layout.specs.declared.refusal.RedoWhy.{RedoWhy}
use Rattle.page_layout.specs.declared.refusal.RedoWhy.TheVariants.{Place, Room}
use Rattle.page_masks.proofs.Unshown.{well}
use Rattle.page_laws.proofs.AddResult.{adds_at}
use Rattle.page_laws.proofs.AddViews.{added_formed}
use Rattle.heap_tuples.specs.Put.{is_open, lower_with, has_room_at, extended, filled, put_refusal}
use Rattle.heap_tuples.proofs.HeapLemmas.{both}
use Rattle.heap_tuples.proofs.FilledLemmas.{Extends, ext_formed, ext_lower, ext_upper, ext_count}

-- an item of more than a page has no room
pub too_long : (lower len upper : ℕ) → upper ≤ 8192 → 8192 < len → nat_le (lower + up8 len) upper ≡ false
too_long lower len upper top long = grind (arith, nat_tests)

-- what no refusal says
pub record Opens (p : List ℕ) (place len : ℕ) : Type 0 where
  pub above : 0 < place
  pub line : (nat_lt (count p) place || is_free p (place - 1)) ≡ true
  pub room : nat_le (lower_with p place + up8 len) (pd_upper p) ≡ true

abbrev NotRefused : Option RedoWhy
NotRefused = None

pub opens : (p : List ℕ) (place len : ℕ) → put_refusal p place len ≡ NotRefused → Opens p place len
opens p place len e = by_case (is_open p place) (has_room_at p place len) refl refl e
  where
    by_case : (x y : Bool) → is_open p place ≡ x → has_room_at p place len ≡ y → (if x then (if y then NotRefused else Some Room) else Some Place) ≡ NotRefused → Opens p place len
    by_case true true ex ey h =
        let a = both (nat_lt 0 place && nat_le place 291) (nat_lt (count p) place || is_free p (place - 1)) ex in
        let b = both (nat_lt 0 place) (nat_le place 291) a.0 in
        record { above = grind (arith, nat_tests, b.0); line = a.1; room = ey }
    by_case true false ex ey h = cc h
    by_case false y ex ey h = cc h

-- lines that are added fit
pub extends : (p : List ℕ) (place len : ℕ) → IsFormed p → Opens p place len → count p < place - 1 → Extends p (place - 1)
extends p place len f o lt =
    let past : nat_lt (count p) place ≡ true = grind (arith, nat_tests, lt) in
    let room : nat_le (24 + 4 * place + up8 len) (pd_upper p) ≡ true = let x = o.room in rw past at x in
    let fits : 24 + 4 * place + up8 len ≤ pd_upper p = grind (arith, nat_tests, room) in
    record { formed = f; more = omega (arith, lt); fits = omega (arith, fits) }

-- add_item takes the tuple then
pub record PutsOn (g : List ℕ) (place len : ℕ) : Type 0 where
  pub formed : IsFormed g
  pub there : (nat_lt 0 place && nat_le place (count g + 1) && (nat_lt (count g) place || is_free g (place - 1))) ≡ true
  pub room : nat_le (lower_after g place true + up8 len) (pd_upper g) ≡ true

pub puts_on : (p : List ℕ) (place len : ℕ) → IsFormed p → put_refusal p place len ≡ NotRefused → PutsOn (filled p (place - 1)) place len
puts_on p place len f e = by_case (nat_lt (count p) (place - 1)) refl
  where
    o : Opens p place len
    o = opens p place len e

    above : nat_lt 0 place ≡ true
    above = grind (arith, nat_tests, o.above)

    lowers : place ≤ count p + 1 → (b : Bool) → nat_lt (count p) place ≡ b → (if b then pd_lower p + 4 else pd_lower p) ≡ (if b then 24 + 4 * place else pd_lower p)
    lowers near true t = let past : count p < place = grind (arith, nat_tests, t) in omega (arith, past, near, f.head.low, f.head.by4)
    lowers near false t = refl

    by_case : (b : Bool) → nat_lt (count p) (place - 1) ≡ b → PutsOn (if b then extended p (place - 1) else p) place len
    by_case true t =
        let more : count p < place - 1 = grind (arith, nat_tests, t) in
        let x = extends p place len f o more in
        let g = extended p (place - 1) in
        let n = ext_count p (place - 1) x in
        let last : nat_lt (count g) place ≡ true = grind (arith, nat_tests, n, o.above) in
        let near : nat_le place (count g + 1) ≡ true = grind (arith, nat_tests, n, o.above) in
        let past : nat_lt (count p) place ≡ true = grind (arith, nat_tests, more) in
        let has : nat_le (24 + 4 * place + up8 len) (pd_upper p) ≡ true = let y = o.room in rw past at y in
        let fits : 24 + 4 * place + up8 len ≤ pd_upper p = grind (arith, nat_tests, has) in
        let fits_g : pd_lower g + 4 + up8 len ≤ pd_upper g = omega (arith, fits, ext_lower p (place - 1) x, ext_upper p (place - 1) x, o.above) in
        let test : nat_le (pd_lower g + 4 + up8 len) (pd_upper g) ≡ true = grind (arith, nat_tests, fits_g) in
        record {
          formed = ext_formed p (place - 1) x;
          there = λ t. above t && near t && (last t || is_free g (place - 1));
          room = (λ t. nat_le ((if last t then pd_lower g + 4 else pd_lower g) + up8 len) (pd_upper g)) ∙ test;
        }
    by_case false t =
        let near : place ≤ count p + 1 = grind (arith, nat_tests, t) in
        let close : nat_le place (count p + 1) ≡ true = grind (arith, nat_tests, near) in
        record {
          formed = f;
          there = (λ t. above t && close t && (nat_lt (count p) place || is_free p (place - 1))) ∙ o.line;
          room = (λ t. nat_le (lowers near (nat_lt (count p) place) refl t + up8 len) (pd_upper p)) ∙ o.room;
        }

pub put_allows : (p : List ℕ) (place len : ℕ) → IsFormed p → put_refusal p place len ≡ NotRefused → add_refusal (filled p (place - 1)) len place true ≡ None
put_allows p place len f e =
    let s = puts_on p place len f e in
    rw (well (filled p (place - 1)) s.formed.head s.formed.lines, s.there, s.room) refl

pub put_formed : (p bytes : List ℕ) (place : ℕ) → IsFormed p → put_refusal p place (length bytes) ≡ NotRefused → IsFormed (added (filled p (place - 1)) bytes place true)
put_formed p bytes place f e =
    let g = filled p (place - 1) in
    let s = puts_on p place (length bytes) f e in
    let a = adds_at g bytes place s.formed (put_allows p place (length bytes) f e) in
    subst IsFormed (sym a.is) (added_formed g bytes (place - 1) (lower_after g place true) (pd_upper g - up8 (length bytes)) a.adds)

-- Calls that are refused or carried out: what it says that one was, and two that are refused alike.
use Rattle.std.proofs.Common.{◌≡◌, ℕ, ◌+◌, ◌-◌, ◌/◌, ◌≤◌, ◌<◌, ◌&&◌, ◌||◌, List, Bool, true, false, Option, Some, None, Result, Ok, refl, ◌∙◌, ap, arith}
use Rattle.std.specs.Prelude.{if◌then◌else◌, nat_le, nat_lt}
use Rattle.std.proofs.lemmas.Bool.Decides.{nat_tests}
use Rattle.page_layout.specs.Bytes.{up8}
use Rattle.page_layout.specs.Edits.{is_free, is_new, lower_after, add_refusal, refuse_or}
use Rattle.page_layout.specs.Pack.{total, has_room, room_refusal, packed, pack}
use Rattle.page_layout.specs.Page.{pd_lower, pd_upper, pd_special, count, well_formed, IsFormed}
use Rattle.page_layout.specs.declared.refusal.PageRefusal.{PageRefusal}
use Rattle.page_layout.specs.declared.refusal.PageRefusal.TheVariants.{BadPlace, NoRoom, BadPage}
use Rattle.page_masks.proofs.Unshown.{well}
use Rattle.page_laws.specs.Results.{SameResults}

abbrev pub OkPage : List ℕ → Result (List ℕ) PageRefusal
OkPage p = Ok p

abbrev pub NotRefused : Option PageRefusal
NotRefused = None

-- what was carried out wasn't refused
pub tried : (why : Option PageRefusal) (a : Result (List ℕ) PageRefusal) (r : List ℕ) → refuse_or why a ≡ OkPage r → (why ≡ NotRefused) × (a ≡ OkPage r)
tried None a r e = (refl, e)
tried (Some why) a r e = cc e

pub accepted : (why : Option PageRefusal) (p r : List ℕ) → refuse_or why (OkPage p) ≡ OkPage r → (why ≡ NotRefused) × (p ≡ r)
accepted why p r e = let t = tried why (OkPage p) r e in (t.0, same p r t.1)
  where
    same : (x y : List ℕ) → OkPage x ≡ OkPage y → x ≡ y
    same x y h = cc h

-- two with the same refusal
pub same_refusals : (block : ℕ) (x y : Option PageRefusal) (a b : Result (List ℕ) PageRefusal) → x ≡ y → (x ≡ NotRefused → SameResults block a b) → SameResults block (refuse_or x a) (refuse_or y b)
same_refusals block None None a b e same = same refl
same_refusals block (Some x) (Some y) a b e same = cc e
same_refusals block None (Some y) a b e same = cc e
same_refusals block (Some x) None a b e same = cc e

-- a test that wasn't failed
pub passed : (b : Bool) (why : PageRefusal) → (if b then NotRefused else Some why) ≡ NotRefused → b ≡ true
passed true why e = refl
passed false why e = cc e

le_of : (a b : ℕ) → nat_le a b ≡ true → a ≤ b
le_of a b e = grind (arith, nat_tests, e)

-- packing
pub pack_is : (p : List ℕ) → IsFormed p → pack p ≡ refuse_or (room_refusal p) (OkPage (packed p))
pack_is p f = rw (well p f.head f.lines) refl

pub room_of : (p : List ℕ) → room_refusal p ≡ NotRefused → pd_lower p + total p (count p) ≤ pd_special p
room_of p e = le_of (pd_lower p + total p (count p)) (pd_special p) (passed (has_room p) NoRoom e)

-- adding an item
pub record Allowed (p : List ℕ) (len place : ℕ) (overwrite : Bool) : Type 0 where
  pub some : 0 < place
  pub near : place ≤ count p + 1
  pub line : (is_new p place overwrite || is_free p (place - 1)) ≡ true
  pub room : lower_after p place overwrite + up8 len ≤ pd_upper p

pub allowed : (p : List ℕ) (len place : ℕ) (overwrite : Bool) → add_refusal p len place overwrite ≡ NotRefused → Allowed p len place overwrite
allowed p len place overwrite e =
    by_case (well_formed p) (nat_lt 0 place && nat_le place (count p + 1)) (is_new p place overwrite || is_free p (place - 1)) (nat_le (lower_after p place overwrite + up8 len) (pd_upper p)) refl refl refl e
  where
    by_case : (w a b c : Bool) → (nat_lt 0 place && nat_le place (count p + 1)) ≡ a → (is_new p place overwrite || is_free p (place - 1)) ≡ b → nat_le (lower_after p place overwrite + up8 len) (pd_upper p) ≡ c
        → (if w then if a && b then (if c then NotRefused else Some NoRoom) else Some BadPlace else Some BadPage) ≡ NotRefused → Allowed p len place overwrite
    by_case true true true true ea eb ec h = record { some = grind (arith, nat_tests, ea); near = grind (arith, nat_tests, ea); line = eb; room = le_of (lower_after p place overwrite + up8 len) (pd_upper p) ec }
    by_case true true true false ea eb ec h = cc h
    by_case true true false c ea eb ec h = cc h
    by_case true false b c ea eb ec h = cc h
    by_case false a b c ea eb ec h = cc h

-- a line that may be taken, on pages with as many lines and the same free ones
pub open_alike : (p q : List ℕ) (place : ℕ) (near : Bool) → count p ≡ count q → ((k : ℕ) → k < count p → is_free p k ≡ is_free q k)
    → (nat_lt 0 place && near && (nat_lt (count p) place || is_free p (place - 1))) ≡ (nat_lt 0 place && near && (nat_lt (count q) place || is_free q (place - 1)))
open_alike p q place near counts free = rw (← counts) (pick (nat_lt 0 place) (nat_lt (count p) place) refl refl)
  where
    pick : (z n : Bool) → nat_lt 0 place ≡ z → nat_lt (count p) place ≡ n → (z && near && (n || is_free p (place - 1))) ≡ (z && near && (n || is_free q (place - 1)))
    pick false n ez en = refl
    pick true true ez en = refl
    pick true false ez en =
        let some : 0 < place = grind (arith, nat_tests, ez) in
        let here : place ≤ count p = grind (arith, nat_tests, en) in
        rw (free (place - 1) (omega (arith, some, here))) refl

-- pages with the same bounds, and where a line may be taken with the same free lines
pub same_add_refusal : (p q : List ℕ) (len place : ℕ) (overwrite : Bool) → IsFormed p → IsFormed q → pd_lower p ≡ pd_lower q → pd_upper p ≡ pd_upper q → ((k : ℕ) → overwrite ≡ true → k < count p → is_free p k ≡ is_free q k)
    → add_refusal p len place overwrite ≡ add_refusal q len place overwrite
same_add_refusal p q len place overwrite fp fq lowers uppers frees = rw (well p fp.head fp.lines, well q fq.head fq.lines) (by_kind overwrite frees)
  where
    counts : count p ≡ count q
    counts = ap (λ n. (n - 24) / 4) lowers

    opens : ((k : ℕ) → k < count p → is_free p k ≡ is_free q k)
        → (nat_lt 0 place && nat_le place (count p + 1) && (nat_lt (count p) place || is_free p (place - 1))) ≡ (nat_lt 0 place && nat_le place (count q + 1) && (nat_lt (count q) place || is_free q (place - 1)))
    opens free = open_alike p q place (nat_le place (count p + 1)) counts free ∙ (λ t. nat_lt 0 place && nat_le place (counts t + 1) && (nat_lt (count q) place || is_free q (place - 1)))

    by_kind : (ow : Bool) → ((k : ℕ) → ow ≡ true → k < count p → is_free p k ≡ is_free q k)
        → (if nat_lt 0 place && nat_le place (count p + 1) && (is_new p place ow || is_free p (place - 1)) then (if nat_le (lower_after p place ow + up8 len) (pd_upper p) then NotRefused else Some NoRoom) else Some BadPlace)
        ≡ (if nat_lt 0 place && nat_le place (count q + 1) && (is_new q place ow || is_free q (place - 1)) then (if nat_le (lower_after q place ow + up8 len) (pd_upper q) then NotRefused else Some NoRoom) else Some BadPlace)
    by_kind false free = λ t. if nat_lt 0 place && nat_le place (counts t + 1) && true then (if nat_le (lowers t + 4 + up8 len) (uppers t) then NotRefused else Some NoRoom) else Some BadPlace
    by_kind true free = λ t. if opens (λ k lt. free k refl lt) t then (if nat_le ((if nat_lt (counts t) place then lowers t + 4 else lowers t) + up8 len) (uppers t) then NotRefused else Some NoRoom) else Some BadPlace

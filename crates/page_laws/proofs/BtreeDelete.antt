-- Deleting items of B-tree pages: the same refusal, or pages that the mask can't tell apart.
use Rattle.std.proofs.Common.{◌≡◌, ℕ, zero, suc, ◌+◌, ◌-◌, ◌<◌, ◌≤◌, ◌&&◌, ⊎_elim, List, [], ◌∷◌, Bool, true, false, Option, Some, length, refl, sym, ◌∙◌, ap, subst, arith}
use Rattle.std.specs.Prelude.{if◌then◌else◌, nat_lt, nat_le}
use Rattle.std.proofs.lemmas.Bool.Decides.{leb_tells}
use Rattle.page_layout.specs.Apart.{AreApart}
use Rattle.page_layout.specs.Bytes.{byte, up8}
use Rattle.page_layout.specs.Deletes.{are_places, without_line, without_lines, closed_up, without_item, without_items, is_apart, apart_below, all_apart, packed_if_room, deleted, delete_items}
use Rattle.page_layout.specs.Edits.{refuse_or}
use Rattle.page_layout.specs.Pack.{room_refusal, packed}
use Rattle.page_layout.specs.Page.{pd_upper, count, lp_off, lp_len, IsFormed}
use Rattle.page_layout.specs.declared.refusal.PageRefusal.{PageRefusal}
use Rattle.page_layout.specs.declared.refusal.PageRefusal.TheVariants.{BadPlace, NoRoom}
use Rattle.page_layout.proofs.ApartLemmas.{test_apart}
use Rattle.page_layout.proofs.ItemOut.{ItemOut, item_out, closed_up_stays}
use Rattle.page_layout.proofs.ItemsStay.{formed_without, apart_without}
use Rattle.page_layout.proofs.LineOut.{LineOut, line_out, count_out, special_out, formed_out}
use Rattle.page_layout.proofs.PlacesLemmas.{place_at}
use Rattle.page_layout.proofs.ShapeLemmas.{held_in}
use Rattle.page_masks.specs.Mask.{mask}
use Rattle.page_masks.proofs.Unshown.{well}
use Rattle.page_laws.specs.Btree.{BtreePage}
use Rattle.page_laws.specs.Results.{SameResults}
use Rattle.page_laws.proofs.Refused.{OkPage, NotRefused, tried, accepted, same_refusals, passed, room_of}
use Rattle.page_laws.proofs.BtreeAdd.{btree_formed, btree_page}
use Rattle.page_laws.proofs.BtreeAlike.{BtreeAlike, count_same, btree_masks, btree_alike}
use Rattle.page_laws.proofs.BtreeClose.{closed_alike}
use Rattle.page_laws.proofs.BtreeLines.{line_out_alike}
use Rattle.page_laws.proofs.BtreePack.{same_room, packed_page, packed_alike}
use Rattle.page_laws.proofs.BtreeShown.{same_off, same_len}

-- a line taken out, with its item or alone, leaves a B-tree page
module _ (p : List ℕ) (h : BtreePage p) (k : ℕ) (there : k < count p) where
  f : IsFormed p
  f = btree_formed p h

  o : ItemOut p k (without_item p k)
  o = item_out p k f there

  l : LineOut p k (without_line p k)
  l = line_out p k f.size f.head there

  item_back : (i : ℕ) → 8176 ≤ i → byte (without_item p k) i ≡ byte p i
  item_back i le = ⊎_elim
      (λ (x : (nat_le (lp_off p k + up8 (lp_len p k)) i ≡ true) × (lp_off p k + up8 (lp_len p k) ≤ i)). o.above i high x.1)
      (λ (n : (nat_le (lp_off p k + up8 (lp_len p k)) i ≡ false) × (i < lp_off p k + up8 (lp_len p k))). let none : lp_len p k ≡ 0 = empty n.1 in let same : i - up8 (lp_len p k) ≡ i = omega (arith, none) in o.moved i high n.1 ∙ ap (byte p) same)
      (leb_tells (lp_off p k + up8 (lp_len p k)) i)
    where
      high : pd_upper (without_item p k) ≤ i
      high = omega (arith, le, o.head.high, o.special, h.page.special)

      empty : i < lp_off p k + up8 (lp_len p k) → lp_len p k ≡ 0
      empty low = ⊎_elim
          (λ (x : (nat_le 1 (lp_len p k) ≡ true) × (1 ≤ lp_len p k)). let some : 0 < lp_len p k = omega (arith, x.1) in let i_k = held_in p k f there some in absurd (omega (arith, low, i_k.held, h.page.special, le)))
          (λ (n : (nat_le 1 (lp_len p k) ≡ false) × (lp_len p k < 1)). omega (arith, n.1))
          (leb_tells 1 (lp_len p k))

  item_page : AreApart p → BtreePage (without_item p k)
  item_page apart = btree_page p (without_item p k) h (formed_without p k f there apart) o.special item_back

  line_page : BtreePage (without_line p k)
  line_page = btree_page p (without_line p k) h (formed_out p k f there) (special_out p k (without_line p k) f.head there l) (λ i le. l.rest i (omega (arith, le, f.head.mid, f.head.high, h.page.special)))

-- the places that are left
record First (lines before place : ℕ) (s : List ℕ) : Type 0 where
  above : before < place
  left : place + length s ≤ lines
  rest : are_places lines place s ≡ true

first_of : (lines before place : ℕ) (s : List ℕ) → are_places lines before (place ∷ s) ≡ true → First lines before place s
first_of lines before place s e =
    let a = place_at lines before (place ∷ s) 0 e (omega arith) in
    record { above = a.above; left = omega (arith, a.left); rest = last (nat_lt before place) (nat_le place lines) (are_places lines place s) e }
  where
    last : (x y z : Bool) → (x && y && z) ≡ true → z ≡ true
    last true true z h = h
    last true false z h = cc h
    last false y z h = cc h

-- one page without lines and items
record WithoutItems (p s r : List ℕ) : Type 0 where
  page : BtreePage r
  apart : AreApart r
  lines : count r + length s ≡ count p

items_out : (p : List ℕ) → BtreePage p → AreApart p → (before : ℕ) (s : List ℕ) → are_places (count p) before s ≡ true → WithoutItems p s (without_items p s)
items_out p h apart before [] e = record { page = h; apart = apart; lines = omega arith }
items_out p h apart before (place ∷ s) e =
    let a = first_of (count p) before place s e in
    let d = items_out p h apart place s a.rest in
    let there : place - 1 < count (without_items p s) = omega (arith, a.above, a.left, d.lines) in
    let o = item_out (without_items p s) (place - 1) (btree_formed (without_items p s) d.page) there in
    record {
      page = item_page (without_items p s) d.page (place - 1) there d.apart;
      apart = apart_without (without_items p s) (place - 1) (btree_formed (without_items p s) d.page) there d.apart;
      lines = omega (arith, o.lines, d.lines, there);
    }

record WithoutLines (p s r : List ℕ) : Type 0 where
  page : BtreePage r
  lines : count r + length s ≡ count p

lines_out : (p : List ℕ) → BtreePage p → (before : ℕ) (s : List ℕ) → are_places (count p) before s ≡ true → WithoutLines p s (without_lines p s)
lines_out p h before [] e = record { page = h; lines = omega arith }
lines_out p h before (place ∷ s) e =
    let a = first_of (count p) before place s e in
    let d = lines_out p h place s a.rest in
    let r = without_lines p s in
    let there : place - 1 < count r = omega (arith, a.above, a.left, d.lines) in
    let o = line_out r (place - 1) d.page.page.size d.page.page.head there in
    record {
      page = line_page r d.page (place - 1) there;
      lines = omega (arith, count_out r (place - 1) (without_line r (place - 1)) d.page.page.head there o, d.lines, there);
    }

-- two pages
module _ (p q : List ℕ) (hp : BtreePage p) (hq : BtreePage q) (a : BtreeAlike p q) where
  item_alike : (k : ℕ) → k < count p → BtreeAlike (without_item p k) (without_item q k)
  item_alike k there =
      let there_q : k < count q = omega (arith, there, count_same p q a) in
      let sp = closed_up_stays p k (btree_formed p hp) there in
      let sq = closed_up_stays q k (btree_formed q hq) there_q in
      line_out_alike (closed_up p k) (closed_up q k) sp.size sq.size sp.head sq.head k (omega (arith, there, sp.lines)) (closed_alike p q hp hq k there a)

  line_alike : (k : ℕ) → k < count p → BtreeAlike (without_line p k) (without_line q k)
  line_alike k there = line_out_alike p q hp.page.size hq.page.size hp.page.head hq.page.head k there a

module _ (p q : List ℕ) (hp : BtreePage p) (hq : BtreePage q) (a : BtreeAlike p q) where
  counts : count p ≡ count q
  counts = count_same p q a

  places_q : (before : ℕ) (s : List ℕ) → are_places (count p) before s ≡ true → are_places (count q) before s ≡ true
  places_q before s e = ap (λ n. are_places n before s) (sym counts) ∙ e

  items_alike : AreApart p → AreApart q → (before : ℕ) (s : List ℕ) → are_places (count p) before s ≡ true → BtreeAlike (without_items p s) (without_items q s)
  items_alike apart_p apart_q before [] e = a
  items_alike apart_p apart_q before (place ∷ s) e =
      let b = first_of (count p) before place s e in
      let dp = items_out p hp apart_p place s b.rest in
      let dq = items_out q hq apart_q place s (places_q place s b.rest) in
      item_alike (without_items p s) (without_items q s) dp.page dq.page (items_alike apart_p apart_q place s b.rest) (place - 1) (omega (arith, b.above, b.left, dp.lines))

  lines_alike : (before : ℕ) (s : List ℕ) → are_places (count p) before s ≡ true → BtreeAlike (without_lines p s) (without_lines q s)
  lines_alike before [] e = a
  lines_alike before (place ∷ s) e =
      let b = first_of (count p) before place s e in
      let dp = lines_out p hp place s b.rest in
      let dq = lines_out q hq place s (places_q place s b.rest) in
      line_alike (without_lines p s) (without_lines q s) dp.page dq.page (lines_alike place s b.rest) (place - 1) (omega (arith, b.above, b.left, dp.lines))

  -- whether items overlap is the same
  pair_same : (j k : ℕ) → j < count p → k < count p → is_apart p j k ≡ is_apart q j k
  pair_same j k lt_j lt_k = rw (same_off p q hp hq a j lt_j, same_off p q hp hq a k lt_k, same_len p q hp hq a j lt_j, same_len p q hp hq a k lt_k) refl

  below_same : (k n : ℕ) → k < count p → n ≤ count p → apart_below p k n ≡ apart_below q k n
  below_same k zero lt le = refl
  below_same k (suc n) lt le = let x = below_same k n lt (omega arith) in let y = pair_same n k (omega arith) lt in λ t. x t && y t

  all_same : (n : ℕ) → n ≤ count p → all_apart p n ≡ all_apart q n
  all_same zero le = refl
  all_same (suc n) le = let x = all_same n (omega arith) in let y = below_same n n (omega arith) (omega arith) in λ t. x t && y t

  apart_same : all_apart p (count p) ≡ all_apart q (count q)
  apart_same = all_same (count p) (omega arith) ∙ ap (all_apart q) counts

-- the page packed, if its items fit
packed_results : (block : ℕ) (p q : List ℕ) → BtreePage p → BtreePage q → BtreeAlike p q → SameResults block (packed_if_room p) (packed_if_room q)
packed_results block p q hp hq a =
    let rooms = same_room p q hp hq a in
    same_refusals block (room_refusal p) (room_refusal q) (OkPage (packed p)) (OkPage (packed q)) (λ t. if rooms t then NotRefused else Some NoRoom)
    (λ none. btree_masks block (packed p) (packed q) (packed_page p hp (room_of p none)) (packed_page q hq (room_of q ((λ t. if sym rooms t then NotRefused else Some NoRoom) ∙ none))) (packed_alike p q hp hq a (room_of p none)))

packed_keeps : (p r : List ℕ) → BtreePage p → packed_if_room p ≡ OkPage r → BtreePage r
packed_keeps p r h e = let t = accepted (room_refusal p) (packed p) r e in subst BtreePage t.1 (packed_page p h (room_of p t.0))

-- the answer by its tests
abbrev places_by : ℕ → List ℕ → Option PageRefusal
places_by lines places = if are_places lines 0 places then NotRefused else Some BadPlace

delete_by : (p places : List ℕ) → BtreePage p → delete_items p places ≡ refuse_or (places_by (count p) places) (deleted p places)
delete_by p places h = rw (well p h.page.head h.page.lines) refl

second : (x y : Bool) → (x && y) ≡ true → y ≡ true
second true y e = e
second false y e = cc e

pub delete_respects : (block : ℕ) (p q places : List ℕ) → BtreePage p → BtreePage q → mask block p ≡ mask block q → SameResults block (delete_items p places) (delete_items q places)
delete_respects block p q places hp hq same = rw (delete_by p places hp, delete_by q places hq)
    (same_refusals block (places_by (count p) places) (places_by (count q) places) (deleted p places) (deleted q places) (ap (λ n. places_by n places) (count_same p q a)) (λ none. both (passed (are_places (count p) 0 places) BadPlace none)))
  where
    a : BtreeAlike p q
    a = btree_alike block p q hp hq same

    test : List ℕ → Bool
    test r = nat_le (length places) 2 && all_apart r (count r)

    tests : test p ≡ test q
    tests = λ t. nat_le (length places) 2 && apart_same p q hp hq a t

    by_test : are_places (count p) 0 places ≡ true → (y : Bool) → test p ≡ y → SameResults block (if y then OkPage (without_items p places) else packed_if_room (without_lines p places)) (if y then OkPage (without_items q places) else packed_if_room (without_lines q places))
    by_test e true t =
        let apart_p = test_apart p (second (nat_le (length places) 2) (all_apart p (count p)) t) in
        let apart_q = test_apart q (second (nat_le (length places) 2) (all_apart q (count q)) (sym tests ∙ t)) in
        btree_masks block (without_items p places) (without_items q places) (items_out p hp apart_p 0 places e).page (items_out q hq apart_q 0 places (places_q p q hp hq a 0 places e)).page
        (items_alike p q hp hq a apart_p apart_q 0 places e)
    by_test e false t = packed_results block (without_lines p places) (without_lines q places) (lines_out p hp 0 places e).page (lines_out q hq 0 places (places_q p q hp hq a 0 places e)).page (lines_alike p q hp hq a 0 places e)

    both : are_places (count p) 0 places ≡ true → SameResults block (deleted p places) (deleted q places)
    both e = subst (λ y. SameResults block (deleted p places) (if y then OkPage (without_items q places) else packed_if_room (without_lines q places))) tests (by_test e (test p) refl)

pub delete_keeps_page : (p places r : List ℕ) → BtreePage p → delete_items p places ≡ OkPage r → BtreePage r
delete_keeps_page p places r h e =
    let t = tried (places_by (count p) places) (deleted p places) r (sym (delete_by p places h) ∙ e) in
    kept (passed (are_places (count p) 0 places) BadPlace t.0) (nat_le (length places) 2 && all_apart p (count p)) refl t.1
  where
    kept : are_places (count p) 0 places ≡ true → (y : Bool) → (nat_le (length places) 2 && all_apart p (count p)) ≡ y → (if y then OkPage (without_items p places) else packed_if_room (without_lines p places)) ≡ OkPage r → BtreePage r
    kept ok true t is = subst BtreePage (accepted NotRefused (without_items p places) r is).1 (items_out p h (test_apart p (second (nat_le (length places) 2) (all_apart p (count p)) t)) 0 places ok).page
    kept ok false t is = packed_keeps (without_lines p places) r (lines_out p h 0 places ok).page is

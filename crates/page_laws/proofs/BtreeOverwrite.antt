-- Laying an item over one of B-tree pages whose items don't overlap: the same refusal, or pages that the mask can't tell apart.
use Rattle.std.proofs.Common.{◌≡◌, ℕ, ◌+◌, ◌-◌, ◌*◌, ◌/◌, ◌%◌, ◌<◌, ◌≤◌, ◌==◌, ◌&&◌, ⊎_elim, List, Bool, true, false, Option, Some, length, refl, sym, ◌∙◌, ap, subst, arith}
use Rattle.std.specs.Prelude.{if◌then◌else◌, nat_lt, nat_le}
use Rattle.std.proofs.lemmas.Bool.Decides.{nat_tests, leb_tells}
use Rattle.page_layout.specs.Apart.{AreApart}
use Rattle.page_layout.specs.Bytes.{byte, up8}
use Rattle.page_layout.specs.Deletes.{raised, moved_lines}
use Rattle.page_layout.specs.Edits.{with_pointer, with_item, refuse_or}
use Rattle.page_layout.specs.Overwrite.{has_item, room_left, overwritten, overwrite_item}
use Rattle.page_layout.specs.Page.{pd_lower, pd_upper, count, is_place, lp_off, lp_flags, lp_len, ItemIn}
use Rattle.page_layout.specs.declared.refusal.PageRefusal.{PageRefusal}
use Rattle.page_layout.specs.declared.refusal.PageRefusal.TheVariants.{BadPlace, NoRoom}
use Rattle.page_layout.proofs.ClosedUp.{Shifted}
use Rattle.page_layout.proofs.Overwritten.{laid_below, laid_front, laid_between, laid_item, laid_above, Overwritten, overwritten_is}
use Rattle.page_layout.proofs.OverwrittenStays.{overwritten_formed, overwritten_apart}
use Rattle.page_layout.proofs.ReadLemmas.{lower_u16, upper_u16}
use Rattle.page_layout.proofs.ShapeLemmas.{held_in, flags_small}
use Rattle.page_masks.specs.Mask.{mask, is_leaf, shown_line, shown_flags}
use Rattle.page_masks.proofs.Lines.{alike_flags, pointer_alike}
use Rattle.page_masks.proofs.Unshown.{well}
use Rattle.page_laws.specs.Btree.{BtreePage}
use Rattle.page_laws.specs.Results.{SameResults}
use Rattle.page_laws.proofs.Refused.{OkPage, NotRefused, accepted, same_refusals}
use Rattle.page_laws.proofs.BtreeAdd.{btree_formed, btree_page}
use Rattle.page_laws.proofs.BtreeAlike.{BtreeAlike, upper_same, count_same, btree_masks, btree_alike}
use Rattle.page_laws.proofs.BtreeClose.{shifted_here, shifted_alike}
use Rattle.page_laws.proofs.BtreeShown.{same_off, same_len}

-- line k written on two pages that look alike, and its item laid where it points
module _ (a b : List ℕ) (size_a : length a ≡ 8192) (size_b : length b ≡ 8192) (s : BtreeAlike a b) (k at fa fb : ℕ) (bytes : List ℕ)
    (line : 28 + 4 * k ≤ pd_lower a) (low : pd_lower a ≤ pd_upper a) (above : pd_upper a ≤ at) (fits : at + up8 (length bytes) ≤ 8176) (kind_a : fa < 4) (kind_b : fb < 4) (kinds : is_leaf a ≡ false → fa ≡ fb) where
  abbrev new_a : List ℕ
  new_a = with_item (with_pointer a k at fa (length bytes)) bytes at

  abbrev new_b : List ℕ
  new_b = with_item (with_pointer b k at fb (length bytes)) bytes at

  there : 28 + 4 * k ≤ at
  there = omega (arith, line, low, above)

  in_page : at + up8 (length bytes) ≤ 8192
  in_page = omega (arith, fits)

  front_a : (i : ℕ) → i < 24 → byte new_a i ≡ byte a i
  front_a i lt = laid_front a size_a k at fa bytes there in_page kind_a i (omega (arith, lt))

  front_b : (i : ℕ) → i < 24 → byte new_b i ≡ byte b i
  front_b i lt = laid_front b size_b k at fb bytes there in_page kind_b i (omega (arith, lt))

  end_a : (i : ℕ) → 8176 ≤ i → byte new_a i ≡ byte a i
  end_a i le = laid_above a size_a k at fa bytes there in_page kind_a i (omega (arith, le, fits))

  end_b : (i : ℕ) → 8176 ≤ i → byte new_b i ≡ byte b i
  end_b i le = laid_above b size_b k at fb bytes there in_page kind_b i (omega (arith, le, fits))

  lower : pd_lower new_a ≡ pd_lower a
  lower = lower_u16 new_a ∙ (λ t. front_a 12 (omega arith) t + 256 * front_a 13 (omega arith) t) ∙ sym (lower_u16 a)

  upper : pd_upper new_a ≡ pd_upper a
  upper = upper_u16 new_a ∙ (λ t. front_a 14 (omega arith) t + 256 * front_a 15 (omega arith) t) ∙ sym (upper_u16 a)

  lines : (i : ℕ) → 24 ≤ i → i < pd_lower a → shown_line (is_leaf a) i (byte new_a i) ≡ shown_line (is_leaf a) i (byte new_b i)
  lines i le lt =
      ap (shown_line (is_leaf a) i) (laid_below a size_a k at fa bytes there in_page kind_a i (omega (arith, lt, low, above)))
      ∙ pointer_alike (is_leaf a) (pd_lower a) a b k at fa fb (length bytes) (λ j from to out. s.lines j from to) (omega (arith, size_a, there, in_page)) (omega (arith, size_b, there, in_page)) (omega (arith, in_page)) kind_a kind_b kinds i le lt
      ∙ ap (shown_line (is_leaf a) i) (sym (laid_below b size_b k at fb bytes there in_page kind_b i (omega (arith, lt, low, above))))

  laid_alike : BtreeAlike new_a new_b
  laid_alike = record {
    ten = (λ t. front_a 10 (omega arith) t / 8 * 8) ∙ s.ten ∙ (λ t. sym (front_b 10 (omega arith)) t / 8 * 8);
    head = λ i le lt. front_a i (omega (arith, lt)) ∙ s.head i le lt ∙ sym (front_b i (omega (arith, lt)));
    lines = λ i le lt. ap (λ n. shown_line (n % 2 == 1) i (byte new_a i)) (end_a 8188 (omega arith)) ∙ lines i le (omega (arith, lt, lower)) ∙ ap (λ n. shown_line (n % 2 == 1) i (byte new_b i)) (sym (end_a 8188 (omega arith)));
    items = λ i le lt. ⊎_elim
        (λ (x : (nat_le at i ≡ true) × (at ≤ i)). ⊎_elim
        (λ (y : (nat_le (at + up8 (length bytes)) i ≡ true) × (at + up8 (length bytes) ≤ i)).
        laid_above a size_a k at fa bytes there in_page kind_a i y.1 ∙ s.items i (omega (arith, le, upper)) lt ∙ sym (laid_above b size_b k at fb bytes there in_page kind_b i y.1))
        (λ (z : (nat_le (at + up8 (length bytes)) i ≡ false) × (i < at + up8 (length bytes))).
        laid_item a size_a k at fa bytes there in_page kind_a i x.1 z.1 ∙ sym (laid_item b size_b k at fb bytes there in_page kind_b i x.1 z.1))
        (leb_tells (at + up8 (length bytes)) i))
        (λ (y : (nat_le at i ≡ false) × (i < at)).
        laid_between a size_a k at fa bytes there in_page kind_a i (omega (arith, le, upper, line, low)) y.1 ∙ s.items i (omega (arith, le, upper)) lt
        ∙ sym (laid_between b size_b k at fb bytes there in_page kind_b i (omega (arith, le, upper, line, low)) y.1))
        (leb_tells at i);
    flags = ap shown_flags (end_a 8188 (omega arith)) ∙ s.flags ∙ ap shown_flags (sym (end_b 8188 (omega arith)));
    last = end_a 8189 (omega arith) ∙ s.last ∙ sym (end_b 8189 (omega arith));
  }

-- what an item may be laid over
record Overwrites (p : List ℕ) (k len : ℕ) : Type 0 where
  there : k < count p
  some : 0 < lp_len p k
  room : up8 len ≤ up8 (lp_len p k)

-- one page
module _ (p : List ℕ) (h : BtreePage p) (k : ℕ) (bytes : List ℕ) (o : Overwrites p k (length bytes)) where
  i_k : ItemIn p k
  i_k = held_in p k (btree_formed p h) o.there o.some

  over : Overwritten p k bytes (room_left p k (length bytes)) (overwritten p k bytes)
  over = overwritten_is p k bytes (room_left p k (length bytes)) (btree_formed p h) o.there o.some (omega (arith, o.room))

  overwritten_page : AreApart p → BtreePage (overwritten p k bytes)
  overwritten_page apart = btree_page p (overwritten p k bytes) h (overwritten_formed p k bytes (btree_formed p h) o.there o.some o.room apart) over.special
      (λ i le. over.above i (omega (arith, le, i_k.held, h.page.special)))

-- two pages
module _ (p q : List ℕ) (hp : BtreePage p) (hq : BtreePage q) (a : BtreeAlike p q) (k : ℕ) (bytes : List ℕ) (o : Overwrites p k (length bytes)) where
  off : lp_off p k ≡ lp_off q k
  off = same_off p q hp hq a k o.there

  len : lp_len p k ≡ lp_len q k
  len = same_len p q hp hq a k o.there

  abbrev d : ℕ
  d = room_left p k (length bytes)

  abbrev sp : List ℕ
  sp = moved_lines (raised p (lp_off p k) d) (lp_off p k + 1) d (count p)

  abbrev sq : List ℕ
  sq = moved_lines (raised q (lp_off p k) d) (lp_off p k + 1) d (count q)

  held : ItemIn p k
  held = held_in p k (btree_formed p hp) o.there o.some

  fits : lp_off p k + d ≤ 8176
  fits = omega (arith, held.held, hp.page.special, o.room)

  far : lp_off p k + 1 + d ≤ 8192
  far = omega (arith, fits)

  cp : Shifted p (lp_off p k) (lp_off p k + 1) d sp
  cp = shifted_here p hp (lp_off p k) (lp_off p k + 1) d held.from fits far

  cq : Shifted q (lp_off p k) (lp_off p k + 1) d sq
  cq = shifted_here q hq (lp_off p k) (lp_off p k + 1) d (omega (arith, held.from, upper_same p q a)) fits far

  kinds : is_leaf sp ≡ false → lp_flags p k ≡ lp_flags q k
  kinds e = alike_flags (is_leaf p) (pd_lower p) p q a.lines k (omega (arith, o.there, hp.page.head.low, hp.page.head.by4)) (ap (λ n. n % 2 == 1) (sym (cp.above 8188 (omega (arith, fits)))) ∙ e)

  -- the other page by this one's numbers
  abbrev laid_by : ℕ → ℕ → List ℕ
  laid_by at n = with_item (with_pointer (moved_lines (raised q at (up8 n - up8 (length bytes))) (at + 1) (up8 n - up8 (length bytes)) (count q)) k (at + (up8 n - up8 (length bytes))) (lp_flags q k) (length bytes)) bytes (at + (up8 n - up8 (length bytes)))

  overwritten_alike : BtreeAlike (overwritten p k bytes) (overwritten q k bytes)
  overwritten_alike = subst (BtreeAlike (overwritten p k bytes)) (λ t. laid_by (off t) (len t))
      (laid_alike sp sq cp.size cq.size (shifted_alike p q hp hq a (lp_off p k) (lp_off p k + 1) d held.from fits far) k (lp_off p k + d) (lp_flags p k) (lp_flags q k) bytes
      (omega (arith, cp.lower, o.there, hp.page.head.low, hp.page.head.by4)) (omega (arith, cp.lower, cp.upper, hp.page.head.mid)) (omega (arith, cp.upper, held.from)) (omega (arith, held.held, hp.page.special, o.room))
      (flags_small p k) (flags_small q k) kinds)

-- the answer by its tests
abbrev item_by : List ℕ → ℕ → ℕ → Option PageRefusal
item_by p place len = if has_item p place then (if nat_le (up8 len) (up8 (lp_len p (place - 1))) then NotRefused else Some NoRoom) else Some BadPlace

overwrite_by : (p : List ℕ) (place : ℕ) (bytes : List ℕ) → BtreePage p → overwrite_item p place bytes ≡ refuse_or (item_by p place (length bytes)) (OkPage (overwritten p (place - 1) bytes))
overwrite_by p place bytes h = rw (well p h.page.head h.page.lines) refl

overwrites : (p : List ℕ) (place len : ℕ) → item_by p place len ≡ NotRefused → Overwrites p (place - 1) len
overwrites p place len = by_case (is_place p place) (nat_lt 0 (lp_len p (place - 1))) (nat_le (up8 len) (up8 (lp_len p (place - 1)))) refl refl refl
  where
    by_case : (u v w : Bool) → is_place p place ≡ u → nat_lt 0 (lp_len p (place - 1)) ≡ v → nat_le (up8 len) (up8 (lp_len p (place - 1))) ≡ w
        → (if u && v then (if w then NotRefused else Some NoRoom) else Some BadPlace) ≡ NotRefused → Overwrites p (place - 1) len
    by_case true true true eu ev ew h = record { there = grind (arith, nat_tests, eu); some = grind (arith, nat_tests, ev); room = grind (arith, nat_tests, ew) }
    by_case true true false eu ev ew h = cc h
    by_case true false w eu ev ew h = cc h
    by_case false v w eu ev ew h = cc h

same_item : (p q : List ℕ) (place len : ℕ) → BtreePage p → BtreePage q → BtreeAlike p q → item_by p place len ≡ item_by q place len
same_item p q place len hp hq a = (λ t. by_place (nat_lt 0 place && nat_le place (counts t)) p) ∙ pick (is_place q place) refl
  where
    counts : count p ≡ count q
    counts = count_same p q a

    by_place : Bool → List ℕ → Option PageRefusal
    by_place b r = if b && nat_lt 0 (lp_len r (place - 1)) then (if nat_le (up8 len) (up8 (lp_len r (place - 1))) then NotRefused else Some NoRoom) else Some BadPlace

    pick : (b : Bool) → is_place q place ≡ b → by_place b p ≡ by_place b q
    pick true e =
        let lt : place - 1 < count q = grind (arith, nat_tests, e) in
        let lens = same_len p q hp hq a (place - 1) (omega (arith, lt, counts)) in
        λ t. if true && nat_lt 0 (lens t) then (if nat_le (up8 len) (up8 (lens t)) then NotRefused else Some NoRoom) else Some BadPlace
    pick false e = refl

-- items that don't overlap on one page don't on one that looks like it
apart_alike : (p q : List ℕ) → BtreePage p → BtreePage q → BtreeAlike p q → AreApart p → AreApart q
apart_alike p q hp hq a apart = λ j k lt there some_j some_k.
    let k_p : k < count p = omega (arith, there, count_same p q a) in
    let j_p : j < count p = omega (arith, lt, k_p) in
    let off_j = same_off p q hp hq a j j_p in let len_j = same_len p q hp hq a j j_p in
    let off_k = same_off p q hp hq a k k_p in let len_k = same_len p q hp hq a k k_p in
    rw (← off_j, ← off_k, ← len_j, ← len_k) (apart j k lt k_p (omega (arith, some_j, len_j)) (omega (arith, some_k, len_k)))

pub overwrite_respects : (block place : ℕ) (p q bytes : List ℕ) → BtreePage p → BtreePage q → AreApart p → mask block p ≡ mask block q → SameResults block (overwrite_item p place bytes) (overwrite_item q place bytes)
overwrite_respects block place p q bytes hp hq apart same =
    let a = btree_alike block p q hp hq same in
    let alike = same_item p q place (length bytes) hp hq a in
    rw (overwrite_by p place bytes hp, overwrite_by q place bytes hq)
    (same_refusals block (item_by p place (length bytes)) (item_by q place (length bytes)) (OkPage (overwritten p (place - 1) bytes)) (OkPage (overwritten q (place - 1) bytes)) alike
    (λ none.
    let op = overwrites p place (length bytes) none in
    let oq = overwrites q place (length bytes) (sym alike ∙ none) in
    btree_masks block (overwritten p (place - 1) bytes) (overwritten q (place - 1) bytes) (overwritten_page p hp (place - 1) bytes op apart) (overwritten_page q hq (place - 1) bytes oq (apart_alike p q hp hq a apart))
    (overwritten_alike p q hp hq a (place - 1) bytes op)))

pub overwrite_keeps_page : (place : ℕ) (p bytes r : List ℕ) → BtreePage p → AreApart p → overwrite_item p place bytes ≡ OkPage r → BtreePage r × AreApart r
overwrite_keeps_page place p bytes r h apart e =
    let t = accepted (item_by p place (length bytes)) (overwritten p (place - 1) bytes) r (sym (overwrite_by p place bytes h) ∙ e) in
    let o = overwrites p place (length bytes) t.0 in
    subst (λ x. BtreePage x × AreApart x) t.1 (overwritten_page p h (place - 1) bytes o apart, overwritten_apart p (place - 1) bytes (btree_formed p h) o.there o.some o.room apart)

-- also where items overlap
pub overwrite_size : (place : ℕ) (p bytes r : List ℕ) → BtreePage p → overwrite_item p place bytes ≡ OkPage r → length r ≡ 8192
overwrite_size place p bytes r h e =
    let t = accepted (item_by p place (length bytes)) (overwritten p (place - 1) bytes) r (sym (overwrite_by p place bytes h) ∙ e) in
    let laid = over p h (place - 1) bytes (overwrites p place (length bytes) t.0) in
    subst (λ x. length x ≡ 8192) t.1 laid.size

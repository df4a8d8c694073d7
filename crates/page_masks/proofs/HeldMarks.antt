-- A masked heap page holds its masked items; two bytes that may be the mark of a speculative address are as they were, or no mark.
use Rattle.std.proofs.Common.{◌≡◌, ◌≢◌, ℕ, zero, suc, ◌+◌, ◌-◌, ◌*◌, ◌/◌, ◌%◌, ◌<◌, ◌≤◌, ◌==◌, ◌&&◌, ◌⊎◌, inl, inr, ⊎_elim, List, ◌++◌, Bool, true, false, Option, Some, length, refl, sym, ◌∙◌, ap, subst, arith}
use Rattle.std.specs.Prelude.{if◌then◌else◌, nat_le, replicate}
use Rattle.std.proofs.lemmas.Bool.Decides.{nat_tests, leb_tells}
use Rattle.std.proofs.lemmas.List.{get_or_append_left, get_or-append_right}
use Rattle.page_layout.specs.Bytes.{byte, u16_at, cut, up8}
use Rattle.page_layout.specs.Page.{pd_upper, count, lp_off, lp_flags, lp_len, item, ItemIn}
use Rattle.page_layout.proofs.BytesLemmas.{length-cut, byte-cut, byte-zeros}
use Rattle.page_layout.proofs.Front as Front
use Rattle.page_layout.proofs.Front.{SameFront}
use Rattle.page_masks.specs.Mask.{masked_item, masked_tuple, masked_held, holds, holder, by_holder, heap_byte}
use Rattle.page_masks.specs.Shapes.{HeapPage}
use Rattle.page_masks.proofs.Holders.{Holder, inside, fit_of, holder_is, held_long, back_of}
use Rattle.page_masks.proofs.HeapLaid.{open_holds}
use Rattle.page_masks.proofs.Laid.{length-masked_item}
use Rattle.page_masks.proofs.HolderChunks.{holder_chunk}
use Rattle.page_masks.proofs.TupleBytes.{low_shows, zero_shows, tid_shows, rest_shows}

pub held_open : (block : ℕ) (p : List ℕ) (k o : ℕ) → byte (masked_held block p k) o ≡ byte (masked_item block (k + 1) (lp_flags p k) (item p k) ++ replicate (up8 (lp_len p k) - lp_len p k) 0) o
unfolding masked_held
held_open block p k o = refl

pub item_open : (block place flags : ℕ) (x : List ℕ) → masked_item block place flags x ≡ (if flags == 1 && nat_le 23 (length x) then masked_tuple block place x else x)
unfolding masked_item
item_open block place flags x = refl

-- two neighbours, as they were or no mark
abbrev pub Unmarked : ℕ → ℕ → ℕ → ℕ → Type 0
Unmarked a b x y = ((a ≡ x) × (b ≡ y)) ⊎ (a + 256 * b ≢ 0xFFFE)

-- the page t, and a page m with its header, its lines and its masked bytes
module _ (block : ℕ) (t m : List ℕ) (ht : HeapPage t) (hm : HeapPage m) (front : SameFront t m) (at : (i : ℕ) → i < 8192 → byte m i ≡ heap_byte block t i)
    (small : (i : ℕ) → pd_upper t ≤ i → byte t i < 256) where
  pub n_m : count m ≡ count t
  n_m = Front.count_same t m ht.head front

  pub u_m : pd_upper m ≡ pd_upper t
  u_m = Front.upper_same t m ht.head front

  pub off_m : (k : ℕ) → k < count t → lp_off m k ≡ lp_off t k
  off_m k lt = Front.off_same t m ht.head front k lt

  pub len_m : (k : ℕ) → k < count t → lp_len m k ≡ lp_len t k
  len_m k lt = Front.len_same t m ht.head front k lt

  pub flags_m : (k : ℕ) → k < count t → lp_flags m k ≡ lp_flags t k
  flags_m k lt = Front.flags_same t m ht.head front k lt

  pub holder_m : (i : ℕ) → holder m (count m) i ≡ holder t (count t) i
  holder_m i = ap (λ n. holder m n i) n_m ∙ below (count t) (omega arith)
    where
      below : (n : ℕ) → n ≤ count t → holder m n i ≡ holder t n i
      below zero le = refl
      below (suc n) le =
          let a : holds m n i ≡ holds t n i = open_holds m n i ∙ rw (off_m n (omega arith), len_m n (omega arith)) refl ∙ sym (open_holds t n i) in
          let b = below n (omega arith) in
          λ s. if (a s) then Some n else b s

  -- the items
  pub byte_by : (i : ℕ) → pd_upper t ≤ i → i < 8192 → (c : Option ℕ) → holder t (count t) i ≡ c → byte m i ≡ by_holder block t (byte t i) i c
  byte_by i le lt c e = at i lt ∙ back_of block t i ht le ∙ ap (by_holder block t (byte t i) i) e

  module _ (k : ℕ) (there : k < count t) (some : 0 < lp_len t k) where
    abbrev pub x : List ℕ
    x = item t k

    abbrev pub y : List ℕ
    y = item m k

    abbrev pub w : List ℕ
    w = masked_item block (k + 1) (lp_flags t k) x

    i_k : ItemIn t k
    i_k = fit_of t ht k there some

    pub x_size : length x ≡ lp_len t k
    x_size = length-cut t (lp_off t k) (lp_len t k) (omega (arith, i_k.to, ht.head.top, ht.size))

    y_is : y ≡ cut m (lp_off t k) (lp_len t k)
    y_is = λ s. cut m (off_m k there s) (len_m k there s)

    pub y_size : length y ≡ lp_len t k
    y_size = ap length y_is ∙ length-cut m (lp_off t k) (lp_len t k) (omega (arith, i_k.to, ht.head.top, hm.size))

    w_size : length w ≡ lp_len t k
    w_size = length-masked_item block (k + 1) (lp_flags t k) x ∙ x_size

    pub x_at : (o : ℕ) → o < lp_len t k → byte x o ≡ byte t (lp_off t k + o)
    x_at o lt = byte-cut t (lp_off t k) (lp_len t k) o lt

    pub y_at : (o : ℕ) → o < lp_len t k → byte y o ≡ byte m (lp_off t k + o)
    y_at o lt = ap (λ l. byte l o) y_is ∙ byte-cut m (lp_off t k) (lp_len t k) o lt

  -- what line k holds: its masked item, then zeros
  pub held_item : (k o : ℕ) (there : k < count t) (some : 0 < lp_len t k) → o < lp_len t k → byte (masked_held block t k) o ≡ byte (w k there some) o
  held_item k o there some lt = held_open block t k o ∙ get_or_append_left (w k there some) (replicate (up8 (lp_len t k) - lp_len t k) 0) 0 o (omega (arith, w_size k there some))

  pub held_zero : (k o : ℕ) (there : k < count t) (some : 0 < lp_len t k) → lp_len t k ≤ o → byte (masked_held block t k) o ≡ 0
  held_zero k o there some le = held_open block t k o ∙ get_or-append_right (w k there some) (replicate (up8 (lp_len t k) - lp_len t k) 0) (lp_len t k) o 0 (w_size k there some) le ∙ byte-zeros (up8 (lp_len t k) - lp_len t k) (o - lp_len t k)

  -- a masked item's first two bytes of eight
  item_pair : (k u : ℕ) (there : k < count t) (some : 0 < lp_len t k) → u % 8 ≡ 0 → u + 1 < lp_len t k → Unmarked (byte (w k there some) u) (byte (w k there some) (u + 1)) (byte (item t k) u) (byte (item t k) (u + 1))
  item_pair k u there some by8 lt = by_case (lp_flags t k == 1 && nat_le 23 (length (item t k))) refl
    where
      is : (b : Bool) → (lp_flags t k == 1 && nat_le 23 (length (item t k))) ≡ b → w k there some ≡ (if b then masked_tuple block (k + 1) (item t k) else item t k)
      is b e = item_open block (k + 1) (lp_flags t k) (item t k) ∙ rw e refl

      place_small : k + 1 < 65534
      place_small = omega (arith, there, ht.head.low, ht.head.mid, ht.head.high, ht.head.top)

      whole : (n : ℕ) → n % 256 + 256 * (n / 256) ≡ n
      whole n = omega arith

      tuple : 23 ≤ length (item t k) → (b : Bool) → (u16_at (item t k) 16 == 0xFFFE) ≡ b → (q : List ℕ) → q ≡ masked_tuple block (k + 1) (item t k) → Unmarked (byte q u) (byte q (u + 1)) (byte (item t k) u) (byte (item t k) (u + 1))
      tuple long b e q eq = ⊎_elim
          (λ (t24 : (nat_le 24 u ≡ true) × (24 ≤ u)). inl (ap (λ l. byte l u) eq ∙ rest_shows block (k + 1) (item t k) u long (omega (arith, t24.1)), ap (λ l. byte l (u + 1)) eq ∙ rest_shows block (k + 1) (item t k) (u + 1) long (omega (arith, t24.1))))
          (λ (f24 : (nat_le 24 u ≡ false) × (u < 24)). ⊎_elim
          (λ (t16 : (nat_le 16 u ≡ true) × (16 ≤ u)). let here : u ≡ 16 = omega (arith, t16.1, f24.1, by8) in subst (λ v. Unmarked (byte q v) (byte q (v + 1)) (byte (item t k) v) (byte (item t k) (v + 1))) (sym here) (sixteen b e))
          (λ (f16 : (nat_le 16 u ≡ false) × (u < 16)). ⊎_elim
          (λ (t8 : (nat_le 8 u ≡ true) × (8 ≤ u)). let here : u ≡ 8 = omega (arith, t8.1, f16.1, by8) in subst (λ v. Unmarked (byte q v) (byte q (v + 1)) (byte (item t k) v) (byte (item t k) (v + 1))) (sym here)
          (let a : byte q 8 ≡ 0 = ap (λ l. byte l 8) eq ∙ zero_shows block (k + 1) (item t k) 8 long (omega arith) (omega arith) in let c : byte q 9 ≡ 0 = ap (λ l. byte l 9) eq ∙ zero_shows block (k + 1) (item t k) 9 long (omega arith) (omega arith) in inr (λ h. omega (arith, h, a, c))))
          (λ (f8 : (nat_le 8 u ≡ false) × (u < 8)). inl (ap (λ l. byte l u) eq ∙ low_shows block (k + 1) (item t k) u long f8.1, ap (λ l. byte l (u + 1)) eq ∙ low_shows block (k + 1) (item t k) (u + 1) long (omega (arith, f8.1, by8))))
          (leb_tells 8 u))
          (leb_tells 16 u))
          (leb_tells 24 u)
        where
          sixteen : (b : Bool) → (u16_at (item t k) 16 == 0xFFFE) ≡ b → Unmarked (byte q 16) (byte q 17) (byte (item t k) 16) (byte (item t k) 17)
          sixteen true e =
              let a : byte q 16 ≡ (k + 1) % 256 = ap (λ l. byte l 16) eq ∙ tid_shows block (k + 1) (item t k) 4 long (omega arith) ∙ rw e refl in
              let c : byte q 17 ≡ (k + 1) / 256 = ap (λ l. byte l 17) eq ∙ tid_shows block (k + 1) (item t k) 5 long (omega arith) ∙ rw e refl in
              inr (λ h. omega (arith, h, a, c, whole (k + 1), place_small))
          sixteen false e =
              let a : byte q 16 ≡ byte (item t k) 16 = ap (λ l. byte l 16) eq ∙ tid_shows block (k + 1) (item t k) 4 long (omega arith) ∙ rw e refl in
              let c : byte q 17 ≡ byte (item t k) 17 = ap (λ l. byte l 17) eq ∙ tid_shows block (k + 1) (item t k) 5 long (omega arith) ∙ rw e refl in
              inl (a, c)

      by_case : (b : Bool) → (lp_flags t k == 1 && nat_le 23 (length (item t k))) ≡ b → Unmarked (byte (w k there some) u) (byte (w k there some) (u + 1)) (byte (item t k) u) (byte (item t k) (u + 1))
      by_case false e = let s = is false e in inl (ap (λ l. byte l u) s, ap (λ l. byte l (u + 1)) s)
      by_case true e = tuple (grind (arith, nat_tests)) (u16_at (item t k) 16 == 0xFFFE) refl (w k there some) (is true e)

  -- the last byte of an item that begins eight more is as it was
  last_byte : (k u : ℕ) (there : k < count t) (some : 0 < lp_len t k) → u % 8 ≡ 0 → u + 1 ≡ lp_len t k → byte (w k there some) u ≡ byte (item t k) u
  last_byte k u there some by8 end = ap (λ l. byte l u) (item_open block (k + 1) (lp_flags t k) (item t k)) ∙ by_case (lp_flags t k == 1 && nat_le 23 (length (item t k))) refl
    where
      by_case : (b : Bool) → (lp_flags t k == 1 && nat_le 23 (length (item t k))) ≡ b → byte (if b then masked_tuple block (k + 1) (item t k) else item t k) u ≡ byte (item t k) u
      by_case false e = refl
      by_case true e = let long : 23 ≤ length (item t k) = grind (arith, nat_tests) in rest_shows block (k + 1) (item t k) u long (omega (arith, x_size k there some, end, by8))

  -- what stands at two bytes that line j holds
  pub pair_at : (j a : ℕ) → pd_upper t ≤ a → a % 8 ≡ 0 → a + 1 < 8192 → holder t (count t) a ≡ Some j → Unmarked (byte m a) (byte m (a + 1)) (byte t a) (byte t (a + 1))
  pair_at j a le by8 lt e = ⊎_elim
      (λ (t1 : (nat_le (lp_len t j) u ≡ true) × (lp_len t j ≤ u)). let z0 = m0 ∙ held_zero j u there some t1.1 in let z1 = m1 ∙ held_zero j (u + 1) there some (omega (arith, t1.1)) in inr (λ h. omega (arith, h, z0, z1)))
      (λ (f1 : (nat_le (lp_len t j) u ≡ false) × (u < lp_len t j)). ⊎_elim
      (λ (t2 : (nat_le (lp_len t j) (u + 1) ≡ true) × (lp_len t j ≤ u + 1)).
      let z1 = m1 ∙ held_zero j (u + 1) there some t2.1 in
      let z0 = m0 ∙ held_item j u there some f1.1 ∙ last_byte j u there some u8 (omega (arith, t2.1, f1.1)) ∙ x_at j there some u f1.1 ∙ ap (byte t) back in
      let s = small a le in inr (λ h. omega (arith, h, z0, z1, s)))
      (λ (f2 : (nat_le (lp_len t j) (u + 1) ≡ false) × (u + 1 < lp_len t j)).
      let a0 = m0 ∙ held_item j u there some f1.1 in
      let a1 = m1 ∙ held_item j (u + 1) there some f2.1 in
      let b0 = x_at j there some u f1.1 ∙ ap (byte t) back in
      let b1 = x_at j there some (u + 1) f2.1 ∙ ap (byte t) back1 in
      ⊎_elim (λ (same : (byte (w j there some) u ≡ byte (item t j) u) × (byte (w j there some) (u + 1) ≡ byte (item t j) (u + 1))). inl (a0 ∙ same.0 ∙ b0, a1 ∙ same.1 ∙ b1))
      (λ (no_mark : byte (w j there some) u + 256 * byte (w j there some) (u + 1) ≢ 0xFFFE). inr (λ h. no_mark ((λ s. sym a0 s + 256 * sym a1 s) ∙ h)))
      (item_pair j u there some u8 f2.1))
      (leb_tells (lp_len t j) (u + 1)))
      (leb_tells (lp_len t j) u)
    where
      r : Holder t (count t) a j
      r = holder_is t (count t) a j e

      there : j < count t
      there = r.below

      some : 0 < lp_len t j
      some = held_long t j a r.here

      i_j : ItemIn t j
      i_j = fit_of t ht j there some

      from : lp_off t j ≤ a
      from = (inside t j a r.here).from

      u : ℕ
      u = a - lp_off t j

      back : lp_off t j + u ≡ a
      back = omega (arith, from)

      back1 : lp_off t j + (u + 1) ≡ a + 1
      back1 = omega (arith, from)

      u8 : u % 8 ≡ 0
      u8 = omega (arith, from, i_j.by8, by8)

      m0 : byte m a ≡ byte (masked_held block t j) u
      m0 = byte_by a le (omega arith) (Some j) e

      m1 : byte m (a + 1) ≡ byte (masked_held block t j) (u + 1)
      m1 =
          let chunk : a / 8 ≡ (a + 1) / 8 = omega (arith, by8) in
          let same : a + 1 - lp_off t j ≡ u + 1 = omega (arith, from) in
          byte_by (a + 1) (omega arith) lt (Some j) (sym (holder_chunk t (count t) a (a + 1) (fit_of t ht) chunk) ∙ e) ∙ ap (byte (masked_held block t j)) same

-- Masking a masked heap page changes nothing.
use Rattle.std.proofs.Common.{◌≡◌, ◌≢◌, ℕ, ◌+◌, ◌-◌, ◌*◌, ◌/◌, ◌%◌, ◌<◌, ◌≤◌, ◌==◌, ◌&&◌, ⊎_elim, List, ◌++◌, Bool, true, false, Option, Some, None, length, refl, sym, ◌∙◌, ap, arith}
use Rattle.std.specs.Prelude.{if◌then◌else◌, nat_lt, nat_le, replicate}
use Rattle.std.proofs.lemmas.Bool.Decides.{nat_tests, leb_tells}
use Rattle.std.proofs.lemmas.List.{get_or_append_left, get_or-append_right}
use Rattle.page_layout.specs.Bytes.{byte, u16_at, up8}
use Rattle.page_layout.specs.Page.{pd_upper, count, lp_off, lp_flags, lp_len, item, ItemIn}
use Rattle.page_layout.proofs.BytesLemmas.{byte-zeros}
use Rattle.page_layout.proofs.Front.{SameFront}
use Rattle.page_masks.specs.Mask.{masked_item, masked_tuple, masked_held, holds, holder, by_holder, shown_lower, masked_front, heap_byte}
use Rattle.page_masks.specs.Shapes.{HeapPage}
use Rattle.page_masks.proofs.Holders.{Holder, inside, fit_of, holder_is, held_long, holds_in, none_not, front_of, back_of}
use Rattle.page_masks.proofs.HeapLaid.{front_open}
use Rattle.page_masks.proofs.Laid.{length-masked_item}
use Rattle.page_masks.proofs.HolderChunks.{holder_chunk}
use Rattle.page_masks.proofs.TupleTwice.{twice_at}
use Rattle.page_masks.proofs.HeldMarks.{n_m, u_m, off_m, flags_m, holder_m, byte_by, x_size, y_size, x_at, y_at, w, held_item, held_zero, pair_at, held_open, item_open}

front_twice : (a b c d e f : Bool) (ten low high old : ℕ) → (if a then 0 else if b then ten else if c then low else if d then high else if e then 0
    else if f then (if a then 0 else if b then ten else if c then low else if d then high else if e then 0 else if f then old else 0) else 0)
    ≡ (if a then 0 else if b then ten else if c then low else if d then high else if e then 0 else if f then old else 0)
front_twice true b c d e f ten low high old = refl
front_twice false true c d e f ten low high old = refl
front_twice false false true d e f ten low high old = refl
front_twice false false false true e f ten low high old = refl
front_twice false false false false true f ten low high old = refl
front_twice false false false false false true ten low high old = refl
front_twice false false false false false false ten low high old = refl

eighths : (b : ℕ) → b / 8 * 8 / 8 * 8 ≡ b / 8 * 8
eighths b = omega arith

-- the page t, and a page m with its header, its lines and its masked bytes
module _ (block : ℕ) (t m : List ℕ) (ht : HeapPage t) (hm : HeapPage m) (front : SameFront t m) (at : (i : ℕ) → i < 8192 → byte m i ≡ heap_byte block t i)
    (small : (i : ℕ) → pd_upper t ≤ i → byte t i < 256) where
  -- what line k holds in the masked page is its masked item there already
  held_twice : (k i : ℕ) → holder t (count t) i ≡ Some k → pd_upper t ≤ i → i < 8192 → byte (masked_held block m k) (i - lp_off m k) ≡ byte m i
  held_twice k i e le lt = ap (λ n. byte (masked_held block m k) (i - n)) (off_m block t m ht hm front at small k there) ∙ held_open block m k o ∙ pick
    where
      r : Holder t (count t) i k
      r = holder_is t (count t) i k e

      there : k < count t
      there = r.below

      some : 0 < lp_len t k
      some = held_long t k i r.here

      i_in : ItemIn t k
      i_in = fit_of t ht k there some

      from : lp_off t k ≤ i
      from = (inside t k i r.here).from

      o : ℕ
      o = i - lp_off t k

      back : lp_off t k + o ≡ i
      back = omega (arith, from)

      m_i : byte m i ≡ byte (masked_held block t k) o
      m_i = byte_by block t m ht hm front at small i le lt (Some k) e

      v : List ℕ
      v = masked_item block (k + 1) (lp_flags m k) (item m k)

      pad : List ℕ
      pad = replicate (up8 (lp_len m k) - lp_len m k) 0

      v_size : length v ≡ lp_len t k
      v_size = length-masked_item block (k + 1) (lp_flags m k) (item m k) ∙ y_size block t m ht hm front at small k there some

      x_long : length (item t k) ≡ lp_len t k
      x_long = x_size block t m ht hm front at small k there some

      y_long : length (item m k) ≡ lp_len t k
      y_long = y_size block t m ht hm front at small k there some

      -- the other bytes of this chunk
      chunk : (j : ℕ) → j < lp_len t k → j / 8 ≡ o / 8 → byte (item m k) j ≡ byte (w block t m ht hm front at small k there some) j
      chunk j lt_j e8 =
          let eights : i / 8 ≡ (lp_off t k + j) / 8 = omega (arith, from, i_in.by8, e8) in
          let holder_j = sym (holder_chunk t (count t) i (lp_off t k + j) (fit_of t ht) eights) ∙ e in
          let drop_off : lp_off t k + j - lp_off t k ≡ j = omega arith in
          y_at block t m ht hm front at small k there some j lt_j ∙ byte_by block t m ht hm front at small (lp_off t k + j) (omega (arith, i_in.from)) (omega (arith, i_in.to, ht.head.top, lt_j)) (Some k) holder_j
          ∙ ap (byte (masked_held block t k)) drop_off ∙ held_item block t m ht hm front at small k j there some lt_j

      mark : 23 ≤ lp_len t k → u16_at (item m k) 16 ≡ 0xFFFE → u16_at (item t k) 16 ≡ 0xFFFE
      mark long is = by_holder_of (holder t (count t) a) refl
        where
          a : ℕ
          a = lp_off t k + 16

          a8 : a % 8 ≡ 0
          a8 = omega (arith, i_in.by8)

          y0 : byte (item m k) 16 ≡ byte m a
          y0 = y_at block t m ht hm front at small k there some 16 (omega (arith, long))

          y1 : byte (item m k) 17 ≡ byte m (a + 1)
          y1 = let one : lp_off t k + 17 ≡ a + 1 = omega arith in y_at block t m ht hm front at small k there some 17 (omega (arith, long)) ∙ ap (byte m) one

          x0 : byte (item t k) 16 ≡ byte t a
          x0 = x_at block t m ht hm front at small k there some 16 (omega (arith, long))

          x1 : byte (item t k) 17 ≡ byte t (a + 1)
          x1 = let one : lp_off t k + 17 ≡ a + 1 = omega arith in x_at block t m ht hm front at small k there some 17 (omega (arith, long)) ∙ ap (byte t) one

          by_holder_of : (c : Option ℕ) → holder t (count t) a ≡ c → u16_at (item t k) 16 ≡ 0xFFFE
          by_holder_of None h = let yes_held = holds_in t k a (omega arith) (omega (arith, long)) in let not_held = none_not t (count t) k a h there in absurd (off_on (holds t k a) yes_held not_held)
            where
              off_on : (b : Bool) → b ≡ true → b ≡ false → ⊥
              off_on b p q = cc
          by_holder_of (Some j) h = ⊎_elim
              (λ (same : (byte m a ≡ byte t a) × (byte m (a + 1) ≡ byte t (a + 1))). (λ s. (x0 ∙ sym same.0 ∙ sym y0) s + 256 * (x1 ∙ sym same.1 ∙ sym y1) s) ∙ is)
              (λ (no_mark : byte m a + 256 * byte m (a + 1) ≢ 0xFFFE). absurd (no_mark ((λ s. sym y0 s + 256 * sym y1 s) ∙ is)))
              (pair_at block t m ht hm front at small j a (omega (arith, i_in.from)) a8 (omega (arith, i_in.to, ht.head.top, long)) h)

      in_item : o < lp_len t k → (b : Bool) → (lp_flags t k == 1 && nat_le 23 (lp_len t k)) ≡ b → byte v o ≡ byte m i
      in_item small_o false none =
          let test : (lp_flags m k == 1 && nat_le 23 (length (item m k))) ≡ false = rw (flags_m block t m ht hm front at small k there, y_long) none in
          ap (λ l. byte l o) (item_open block (k + 1) (lp_flags m k) (item m k) ∙ rw test refl) ∙ y_at block t m ht hm front at small k there some o small_o ∙ ap (byte m) back
      in_item small_o true tuple =
          let long : 23 ≤ lp_len t k = grind (arith, nat_tests, tuple) in
          let test : (lp_flags m k == 1 && nat_le 23 (length (item m k))) ≡ true = rw (flags_m block t m ht hm front at small k there, y_long) tuple in
          let test_x : (lp_flags t k == 1 && nat_le 23 (length (item t k))) ≡ true = rw x_long tuple in
          let w_is : w block t m ht hm front at small k there some ≡ masked_tuple block (k + 1) (item t k) = item_open block (k + 1) (lp_flags t k) (item t k) ∙ rw test_x refl in
          ap (λ l. byte l o) (item_open block (k + 1) (lp_flags m k) (item m k) ∙ rw test refl)
          ∙ twice_at block (k + 1) (item t k) (item m k) (omega (arith, long, x_long)) (y_long ∙ sym x_long) (omega (arith, there, ht.head.low, ht.head.mid, ht.head.high, ht.head.top)) o (omega (arith, small_o, x_long))
          (λ j lt_j e8. chunk j (omega (arith, lt_j, x_long)) e8 ∙ ap (λ l. byte l j) w_is) (mark long)
          ∙ ap (λ l. byte l o) (sym w_is) ∙ sym (m_i ∙ held_item block t m ht hm front at small k o there some small_o)

      pick : byte (v ++ pad) o ≡ byte m i
      pick = ⊎_elim
          (λ (t1 : (nat_le (lp_len t k) o ≡ true) × (lp_len t k ≤ o)). get_or-append_right v pad (lp_len t k) o 0 v_size t1.1 ∙ byte-zeros (up8 (lp_len m k) - lp_len m k) (o - lp_len t k) ∙ sym (m_i ∙ held_zero block t m ht hm front at small k o there some t1.1))
          (λ (f1 : (nat_le (lp_len t k) o ≡ false) × (o < lp_len t k)). get_or_append_left v pad 0 o (omega (arith, v_size, f1.1)) ∙ in_item f1.1 (lp_flags t k == 1 && nat_le 23 (lp_len t k)) refl)
          (leb_tells (lp_len t k) o)

  lower_m : shown_lower m ≡ shown_lower t
  lower_m = ap (λ n. 24 + 4 * n) (hm.trimmed ∙ n_m block t m ht hm front at small ∙ sym ht.trimmed)

  front_at : (i : ℕ) → i < pd_upper t → byte m i ≡ masked_front t i
  front_at i lt = at i (omega (arith, ht.head.high, ht.head.top)) ∙ front_of block t i lt

  ten_m : byte m 10 / 8 * 8 ≡ byte t 10 / 8 * 8
  ten_m = ap (λ b. b / 8 * 8) (front_at 10 (omega (arith, ht.head.low, ht.head.mid)) ∙ front_open t 10) ∙ eighths (byte t 10)

  in_front : (i : ℕ) → i < pd_upper t → masked_front m i ≡ byte m i
  in_front i lt = front_open m i ∙ rw (lower_m, ten_m, front_at i lt, front_open t i)
      (front_twice (nat_lt i 10) (i == 10) (i == 12) (i == 13) (nat_le 20 i && nat_lt i 24) (nat_lt i (shown_lower t)) (byte t 10 / 8 * 8) (shown_lower t % 256) (shown_lower t / 256) (byte t i))

  pub heap_twice : (i : ℕ) → i < 8192 → heap_byte block m i ≡ byte m i
  heap_twice i lt = ⊎_elim
      (λ (le : (nat_le (pd_upper t) i ≡ true) × (pd_upper t ≤ i)). back_of block m i hm (omega (arith, le.1, u_m block t m ht hm front at small)) ∙ ap (by_holder block m (byte m i) i) (holder_m block t m ht hm front at small i) ∙ held le.1 (holder t (count t) i) refl)
      (λ (less : (nat_le (pd_upper t) i ≡ false) × (i < pd_upper t)). front_of block m i (omega (arith, less.1, u_m block t m ht hm front at small)) ∙ in_front i less.1)
      (leb_tells (pd_upper t) i)
    where
      held : pd_upper t ≤ i → (c : Option ℕ) → holder t (count t) i ≡ c → by_holder block m (byte m i) i c ≡ byte m i
      held le None e = refl
      held le (Some k) e = held_twice k i e le lt

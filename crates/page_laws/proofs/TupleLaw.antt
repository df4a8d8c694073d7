-- What the mask of a tuple shows, and changes of a tuple that it determines.
use Rattle.std.proofs.Common.{◌≡◌, ℕ, ◌+◌, ◌-◌, ◌*◌, ◌/◌, ◌%◌, ◌<◌, ◌≤◌, ◌==◌, ◌⊎◌, inl, inr, ⊎_elim, List, true, false, length, sym, ◌∙◌, ap, subst, arith}
use Rattle.std.specs.Prelude.{if◌then◌else◌, nat_le}
use Rattle.std.proofs.lemmas.Bool.Decides.{leb_tells}
use Rattle.std.proofs.lemmas.List.{ext_get_or}
use Rattle.layout.specs.Splice.{splice}
use Rattle.page_layout.specs.Bytes.{byte, u16_at, with_u16, u16_bytes}
use Rattle.page_layout.proofs.LineViews.{u16_at-with_u16}
use Rattle.layout.proofs.SpliceLemmas.{length-splice, byte-splice_in, byte-splice_out, byte-splice_below, byte-splice_above}
use Rattle.page_masks.specs.Mask.{masked_item, masked_tuple, masked_infomask, tid_bytes}
use Rattle.page_masks.proofs.Laid.{length-masked_item}
use Rattle.page_masks.proofs.TupleBytes.{tid_byte, low_shows, zero_shows, tid_shows, mid_shows, bits_show, rest_shows, tuple_is}

module _ (block place : ℕ) where
  pub record TupleAlike (x y : List ℕ) : Type 0 where
    pub long : 23 ≤ length x
    pub size : length x ≡ length y
    pub xids : (o : ℕ) → o < 8 → byte x o ≡ byte y o
    pub tid : (o : ℕ) → o < 6 → tid_byte block place x o ≡ tid_byte block place y o
    pub bits2 : (o : ℕ) → 18 ≤ o → o < 20 → byte x o ≡ byte y o
    pub bits : masked_infomask (u16_at x 20) ≡ masked_infomask (u16_at y 20)
    pub rest : (o : ℕ) → 22 ≤ o → byte x o ≡ byte y o

  halves : (a b : ℕ) → a % 256 ≡ b % 256 → a / 256 ≡ b / 256 → a ≡ b
  halves a b e f = omega arith

  pub tuple_alike : (x y : List ℕ) → 23 ≤ length x → length x ≡ length y → masked_item block place 1 x ≡ masked_item block place 1 y → TupleAlike x y
  tuple_alike x y h size same = record {
    long = h;
    size = size;
    xids = λ o lt. sym (low_shows block place x o h lt) ∙ at o ∙ low_shows block place y o h_y lt;
    tid = λ o lt. sym (tid_shows block place x o h lt) ∙ at (12 + o) ∙ tid_shows block place y o h_y lt;
    bits2 = λ o le lt. sym (mid_shows block place x o h le lt) ∙ at o ∙ mid_shows block place y o h_y le lt;
    bits = halves (masked_infomask (u16_at x 20)) (masked_infomask (u16_at y 20)) (sym (bits_show block place x 20 h (omega arith) (omega arith)) ∙ at 20 ∙ bits_show block place y 20 h_y (omega arith) (omega arith))
        (sym (bits_show block place x 21 h (omega arith) (omega arith)) ∙ at 21 ∙ bits_show block place y 21 h_y (omega arith) (omega arith));
    rest = λ o le. sym (rest_shows block place x o h le) ∙ at o ∙ rest_shows block place y o h_y le;
  }
    where
      h_y : 23 ≤ length y
      h_y = omega (arith, size)

      tuples : masked_tuple block place x ≡ masked_tuple block place y
      tuples = sym (tuple_is block place x h) ∙ same ∙ tuple_is block place y h_y

      at : (o : ℕ) → byte (masked_tuple block place x) o ≡ byte (masked_tuple block place y) o
      at o = ap (λ t. byte t o) tuples

  pub alike_masks : (x y : List ℕ) → TupleAlike x y → masked_item block place 1 x ≡ masked_item block place 1 y
  alike_masks x y a = ext_get_or 0 (masked_item block place 1 x) (masked_item block place 1 y) (length-masked_item block place 1 x ∙ a.size ∙ sym (length-masked_item block place 1 y))
      (λ o lt. ap (λ t. byte t o) (tuple_is block place x a.long) ∙ each o ∙ sym (ap (λ t. byte t o) (tuple_is block place y h_y)))
    where
      h_y : 23 ≤ length y
      h_y = omega (arith, a.long, a.size)

      each : (o : ℕ) → byte (masked_tuple block place x) o ≡ byte (masked_tuple block place y) o
      each o = ⊎_elim
          (λ (t22 : (nat_le 22 o ≡ true) × (22 ≤ o)). rest_shows block place x o a.long t22.1 ∙ a.rest o t22.1 ∙ sym (rest_shows block place y o h_y t22.1))
          (λ (f22 : (nat_le 22 o ≡ false) × (o < 22)). ⊎_elim
          (λ (t20 : (nat_le 20 o ≡ true) × (20 ≤ o)). bits_show block place x o a.long t20.1 f22.1 ∙ ap (λ n. byte (u16_bytes n) (o - 20)) a.bits ∙ sym (bits_show block place y o h_y t20.1 f22.1))
          (λ (f20 : (nat_le 20 o ≡ false) × (o < 20)). ⊎_elim
          (λ (t18 : (nat_le 18 o ≡ true) × (18 ≤ o)). mid_shows block place x o a.long t18.1 f20.1 ∙ a.bits2 o t18.1 f20.1 ∙ sym (mid_shows block place y o h_y t18.1 f20.1))
          (λ (f18 : (nat_le 18 o ≡ false) × (o < 18)). ⊎_elim
          (λ (t12 : (nat_le 12 o ≡ true) × (12 ≤ o)).
          let back : 12 + (o - 12) ≡ o = omega (arith, t12.1) in
          subst (λ n. byte (masked_tuple block place x) n ≡ byte (masked_tuple block place y) n) back
          (tid_shows block place x (o - 12) a.long (omega (arith, f18.1, t12.1)) ∙ a.tid (o - 12) (omega (arith, f18.1, t12.1)) ∙ sym (tid_shows block place y (o - 12) h_y (omega (arith, f18.1, t12.1)))))
          (λ (f12 : (nat_le 12 o ≡ false) × (o < 12)). ⊎_elim
          (λ (t8 : (nat_le 8 o ≡ true) × (8 ≤ o)). zero_shows block place x o a.long t8.1 f12.1 ∙ sym (zero_shows block place y o h_y t8.1 f12.1))
          (λ (f8 : (nat_le 8 o ≡ false) × (o < 8)). low_shows block place x o a.long f8.1 ∙ a.xids o f8.1 ∙ sym (low_shows block place y o h_y f8.1))
          (leb_tells 8 o))
          (leb_tells 12 o))
          (leb_tells 18 o))
          (leb_tells 20 o))
          (leb_tells 22 o)

  -- the same bytes over both
  over_both : (x y : List ℕ) (a : ℕ) (bs : List ℕ) (o : ℕ) → a + length bs ≤ length x → length x ≡ length y → ((o < a) ⊎ (a + length bs ≤ o) → byte x o ≡ byte y o) → byte (splice x a bs) o ≡ byte (splice y a bs) o
  over_both x y a bs o fits size out = ⊎_elim
      (λ (t : (nat_le (a + length bs) o ≡ true) × (a + length bs ≤ o)). byte-splice_above x a bs o fits t.1 ∙ out (inr t.1) ∙ sym (byte-splice_above y a bs o (omega (arith, size)) t.1))
      (λ (f : (nat_le (a + length bs) o ≡ false) × (o < a + length bs)). ⊎_elim
      (λ (t : (nat_le a o ≡ true) × (a ≤ o)). byte-splice_in x a bs o fits t.1 f.1 ∙ sym (byte-splice_in y a bs o (omega (arith, size)) t.1 f.1))
      (λ (g : (nat_le a o ≡ false) × (o < a)). byte-splice_below x a bs o fits g.1 ∙ out (inl g.1) ∙ sym (byte-splice_below y a bs o (omega (arith, size)) g.1))
      (leb_tells a o))
      (leb_tells (a + length bs) o)

  -- an address read at o where bytes from 12 to 18 stay
  tid_stays : (x : List ℕ) (a : ℕ) (bs : List ℕ) (o : ℕ) → 23 ≤ length x → a + length bs ≤ length x → o < 6 → (a + length bs ≤ 12) ⊎ (18 ≤ a) → tid_byte block place (splice x a bs) o ≡ tid_byte block place x o
  tid_stays x a bs o long fits lt away = λ t. if ((at 16 (omega arith) (omega arith) t + 256 * at 17 (omega arith) (omega arith) t) == 0xFFFE) then byte (tid_bytes block place) o else at (12 + o) (omega arith) (omega arith) t
    where
      at : (i : ℕ) → 12 ≤ i → i < 18 → byte (splice x a bs) i ≡ byte x i
      at i le lt = byte-splice_out x a bs i fits (⊎_elim (λ (l : a + length bs ≤ 12). inr (omega (arith, l, le))) (λ (h : 18 ≤ a). inl (omega (arith, h, lt))) away)

  u16_out : (x : List ℕ) (a : ℕ) (bs : List ℕ) (i : ℕ) → a + length bs ≤ length x → (i + 1 < a) ⊎ (a + length bs ≤ i) → u16_at (splice x a bs) i ≡ u16_at x i
  u16_out x a bs i fits out = λ t. byte-splice_out x a bs i fits (one out) t + 256 * byte-splice_out x a bs (i + 1) fits (two out) t
    where
      one : (i + 1 < a) ⊎ (a + length bs ≤ i) → (i < a) ⊎ (a + length bs ≤ i)
      one o = ⊎_elim (λ (l : i + 1 < a). inl (omega (arith, l))) (λ r. inr r) o

      two : (i + 1 < a) ⊎ (a + length bs ≤ i) → (i + 1 < a) ⊎ (a + length bs ≤ i + 1)
      two o = ⊎_elim (λ l. inl l) (λ (r : a + length bs ≤ i). inr (omega (arith, r))) o

  -- the same bytes laid over both, beside the first mask, and over the whole address or beside it
  pub laid_alike : (x y : List ℕ) (a : ℕ) (bs : List ℕ) → a + length bs ≤ length x → (a + length bs ≤ 20) ⊎ (22 ≤ a) → ((a + length bs ≤ 12) ⊎ (18 ≤ a)) ⊎ ((a ≡ 12) × (length bs ≡ 6)) → TupleAlike x y → TupleAlike (splice x a bs) (splice y a bs)
  laid_alike x y a bs fx beside address al = record {
    long = omega (arith, length-splice x a bs fx, al.long);
    size = length-splice x a bs fx ∙ al.size ∙ sym (length-splice y a bs fy);
    xids = λ o lt. over o (λ out. al.xids o lt);
    tid = λ o lt. ⊎_elim
        (λ (away : (a + length bs ≤ 12) ⊎ (18 ≤ a)). tid_stays x a bs o al.long fx lt away ∙ al.tid o lt ∙ sym (tid_stays y a bs o (omega (arith, al.long, al.size)) fy lt away))
        (λ (whole : (a ≡ 12) × (length bs ≡ 6)). λ t. if ((at whole 16 (omega arith) (omega arith) t + 256 * at whole 17 (omega arith) (omega arith) t) == 0xFFFE) then byte (tid_bytes block place) o else at whole (12 + o) (omega arith) (omega (arith, lt)) t)
        address;
    bits2 = λ o le lt. over o (λ out. al.bits2 o le lt);
    bits = (λ t. masked_infomask (u16_out x a bs 20 fx past t)) ∙ al.bits ∙ (λ t. masked_infomask (sym (u16_out y a bs 20 fy past) t));
    rest = λ o le. over o (λ out. al.rest o le);
  }
    where
      fy : a + length bs ≤ length y
      fy = omega (arith, fx, al.size)

      over : (o : ℕ) → ((o < a) ⊎ (a + length bs ≤ o) → byte x o ≡ byte y o) → byte (splice x a bs) o ≡ byte (splice y a bs) o
      over o out = over_both x y a bs o fx al.size out

      past : (20 + 1 < a) ⊎ (a + length bs ≤ 20)
      past = ⊎_elim (λ (l : a + length bs ≤ 20). inr l) (λ (h : 22 ≤ a). inl (omega (arith, h))) beside

      at : (a ≡ 12) × (length bs ≡ 6) → (i : ℕ) → 12 ≤ i → i < 18 → byte (splice x a bs) i ≡ byte (splice y a bs) i
      at whole i le lt = over i (λ out. absurd (⊎_elim (λ (l : i < a). omega (arith, l, le, whole.0)) (λ (h : a + length bs ≤ i). omega (arith, h, lt, whole.0, whole.1)) out))

  -- the first mask, by a function that what shows of it determines
  pub put_bits : (g : ℕ → ℕ) (x y : List ℕ) → ((v w : ℕ) → masked_infomask v ≡ masked_infomask w → masked_infomask (g v) ≡ masked_infomask (g w))
      → TupleAlike x y → TupleAlike (with_u16 x 20 (g (u16_at x 20))) (with_u16 y 20 (g (u16_at y 20)))
  put_bits g x y law al =
      let ly : 23 ≤ length y = omega (arith, al.long, al.size) in
      let bx = u16_bytes (g (u16_at x 20)) in
      let by = u16_bytes (g (u16_at y 20)) in
      record {
        long = omega (arith, length-splice x 20 bx (omega (arith, al.long)), al.long);
        size = length-splice x 20 bx (omega (arith, al.long)) ∙ al.size ∙ sym (length-splice y 20 by (omega (arith, ly)));
        xids = λ o lt. out x (g (u16_at x 20)) o al.long (inl (omega arith)) ∙ al.xids o lt ∙ sym (out y (g (u16_at y 20)) o ly (inl (omega arith)));
        tid = λ o lt. tid_stays x 20 bx o al.long (omega (arith, al.long)) lt (inr (omega arith)) ∙ al.tid o lt ∙ sym (tid_stays y 20 by o ly (omega (arith, ly)) lt (inr (omega arith)));
        bits2 = λ o le lt. out x (g (u16_at x 20)) o al.long (inl lt) ∙ al.bits2 o le lt ∙ sym (out y (g (u16_at y 20)) o ly (inl lt));
        bits = ap masked_infomask (u16_at-with_u16 x 20 (g (u16_at x 20)) (omega (arith, al.long))) ∙ law (u16_at x 20) (u16_at y 20) al.bits ∙ sym (ap masked_infomask (u16_at-with_u16 y 20 (g (u16_at y 20)) (omega (arith, ly))));
        rest = λ o le. out x (g (u16_at x 20)) o al.long (inr le) ∙ al.rest o le ∙ sym (out y (g (u16_at y 20)) o ly (inr le));
      }
    where
      out : (t : List ℕ) (n o : ℕ) → 23 ≤ length t → (o < 20) ⊎ (22 ≤ o) → byte (with_u16 t 20 n) o ≡ byte t o
      out t n o long away = byte-splice_out t 20 (u16_bytes n) o (omega arith) away

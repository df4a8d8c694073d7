-- Packing can't tell pages with the same lines and alike items, whatever lies between their items.
use Rattle.std.proofs.Common.{◌≡◌, ◌≢◌, ℕ, zero, suc, ◌+◌, ◌-◌, ◌*◌, ◌/◌, ◌%◌, ◌<◌, ◌≤◌, ◌==◌, ◌⊎◌, inl, inr, ⊎_elim, List, ◌++◌, Bool, true, false, None, length, refl, sym, ◌∙◌, ap, arith}
use Rattle.std.specs.Prelude.{nat_le, replicate}
use Rattle.std.proofs.lemmas.Bool.Decides.{eqb_tells, leb_tells}
use Rattle.std.proofs.lemmas.List.{ext_get_or, get_or_append_left, length-replicate}
use Rattle.page_layout.specs.Bytes.{byte, u16_at, u16_bytes, up8, cut}
use Rattle.page_layout.specs.Page.{pd_lower, pd_upper, pd_special, count, lp_off, lp_flags, lp_len, item, IsFormed}
use Rattle.page_layout.specs.Pack.{total, has_room, packed_off, with_packed, packed_lines, emptied, packed}
use Rattle.layout.proofs.SpliceLemmas.{length-splice, byte-splice_in, byte-splice_out, byte-splice_below}
use Rattle.page_layout.proofs.BytesLemmas.{length-cut, byte-cut}
use Rattle.page_layout.proofs.LineViews.{line_bytes, u16_at-with_u16}
use Rattle.page_layout.proofs.PackViews as PackViews
use Rattle.page_layout.proofs.PackViews.{Packable, Laid, laid, Step, high_enough}
use Rattle.page_layout.proofs.Packing.{total-le}
use Rattle.page_layout.proofs.ReadLemmas.{lower_u16, upper_u16, special_u16, off_same, len_same, flags_same}
use Rattle.page_layout.proofs.ShapeLemmas.{lines_below, held_in, flags_small}
use Rattle.page_layout.proofs.ItemsStay.{fits_in}
use Rattle.page_masks.specs.Mask.{holder, shown_line}
use Rattle.page_masks.proofs.Holders.{holds_in, none_not}
use Rattle.page_masks.proofs.Lines.{LinesAlike, alike_len, alike_flags, lines_same, Outside, beside}
use Rattle.page_laws.proofs.PagesAlike.{SameLines, PagesAlike, counts_same, len_alike}

pub packable : (p : List ℕ) → IsFormed p → pd_lower p + total p (count p) ≤ pd_special p → Packable p
packable p f room = record { size = f.size; head = f.head; fit = λ k lt some. held_in p k f lt some; room = room }

total-by8 : (p : List ℕ) (n : ℕ) → total p n % 8 ≡ 0
total-by8 p zero = refl
total-by8 p (suc n) = let e = total-by8 p n in omega (arith, e)

-- each byte between the packed items' begin and special is of one of them
pub record Covered (p : List ℕ) (n i : ℕ) : Type 0 where
  pub k : ℕ
  pub below : k < n
  pub some : 0 < lp_len p k
  pub from : packed_off p k ≤ i
  pub to : i < packed_off p k + up8 (lp_len p k)

pub covered : (p : List ℕ) (n i : ℕ) → pd_special p - total p n ≤ i → i < pd_special p → total p n ≤ pd_special p → Covered p n i
covered p zero i le lt fits = absurd (omega (arith, le, lt))
covered p (suc n) i le lt fits = ⊎_elim
    (λ (t : (nat_le (pd_special p - total p n) i ≡ true) × (pd_special p - total p n ≤ i)). let c = covered p n i t.1 lt (omega (arith, fits)) in record { k = c.k; below = omega (arith, c.below); some = c.some; from = c.from; to = c.to })
    (λ (f : (nat_le (pd_special p - total p n) i ≡ false) × (i < pd_special p - total p n)). record { k = n; below = omega arith; some = omega (arith, le, f.1, fits); from = le; to = omega (arith, f.1, fits) })
    (leb_tells (pd_special p - total p n) i)

module _ (p : List ℕ) (f : IsFormed p) (room : pd_lower p + total p (count p) ≤ pd_special p) where
  abbrev all : List ℕ
  all = packed_lines p (emptied p) (count p)

  abbrev new : List ℕ
  new = packed p

  l : Laid p (packable p f room) (count p) all
  l = laid p (packable p f room) (count p) (omega arith)

  abbrev upper : ℕ
  upper = pd_special p - total p (count p)

  pub packed_size : length new ≡ 8192
  packed_size = length-splice all 14 (u16_bytes upper) (omega (arith, l.size)) ∙ l.size

  other : (i : ℕ) → (i < 14) ⊎ (16 ≤ i) → byte new i ≡ byte all i
  other i out = byte-splice_out all 14 (u16_bytes upper) i (omega (arith, l.size)) out

  pub packed_top : (i : ℕ) → 14 ≤ i → i < 16 → byte new i ≡ byte (u16_bytes upper) (i - 14)
  packed_top i le lt = byte-splice_in all 14 (u16_bytes upper) i (omega (arith, l.size)) le lt

  pub packed_rest : (i : ℕ) → pd_special p ≤ i → byte new i ≡ byte p i
  packed_rest i le = other i (inr (omega (arith, le, f.head.low, f.head.mid, f.head.high))) ∙ l.rest i le

  pub packed_low : (i : ℕ) → (i < 14) ⊎ (16 ≤ i) → i < 24 → byte new i ≡ byte p i
  packed_low i out lt = other i out ∙ l.low i lt

  pub packed_lower : pd_lower new ≡ pd_lower p
  packed_lower = lower_u16 new ∙ (λ t. packed_low 12 (inl (omega arith)) (omega arith) t + 256 * packed_low 13 (inl (omega arith)) (omega arith) t) ∙ sym (lower_u16 p)

  pub packed_upper : pd_upper new ≡ upper
  packed_upper = upper_u16 new ∙ u16_at-with_u16 all 14 upper (omega (arith, l.size))

  pub packed_special : pd_special new ≡ pd_special p
  packed_special = special_u16 new ∙ (λ t. packed_low 16 (inr (omega arith)) (omega arith) t + 256 * packed_low 17 (inr (omega arith)) (omega arith) t) ∙ sym (special_u16 p)

  pub packed_count : count new ≡ count p
  packed_count = ap (λ n. (n - 24) / 4) packed_lower

  line_u16 : (i : ℕ) → 24 ≤ i → u16_at new i ≡ u16_at all i
  line_u16 i le = λ t. other i (inr (omega arith)) t + 256 * other (i + 1) (inr (omega arith)) t

  u16_all_low : (k : ℕ) → u16_at new (24 + 4 * k) ≡ u16_at all (24 + 4 * k)
  u16_all_low k = line_u16 (24 + 4 * k) (omega arith)

  u16_all_high : (k : ℕ) → u16_at new (26 + 4 * k) ≡ u16_at all (26 + 4 * k)
  u16_all_high k = line_u16 (26 + 4 * k) (omega arith)

  -- lengths and kinds stay
  pub packed_len : (k : ℕ) → k < count p → lp_len new k ≡ lp_len p k
  packed_len k lt = len_same new all k k (u16_all_high k) ∙ ⊎_elim
      (λ (t : ((lp_len p k == 0) ≡ true) × (lp_len p k ≡ 0)). let w = l.words k lt (inr t.1) in len_same all p k k w.1)
      (λ (n : ((lp_len p k == 0) ≡ false) × (lp_len p k ≢ 0)). l.len k lt (omega (arith, n.1)))
      (eqb_tells (lp_len p k) 0)

  pub packed_flags : (k : ℕ) → k < count p → lp_flags new k ≡ lp_flags p k
  packed_flags k lt = flags_same new all k k (u16_all_low k) (u16_all_high k) ∙ ⊎_elim
      (λ (t : ((lp_len p k == 0) ≡ true) × (lp_len p k ≡ 0)). let w = l.words k lt (inr t.1) in flags_same all p k k w.0 w.1)
      (λ (n : ((lp_len p k == 0) ≡ false) × (lp_len p k ≢ 0)). l.flags k lt (omega (arith, n.1)))
      (eqb_tells (lp_len p k) 0)

  pub packed_place : (k : ℕ) → k < count p → 0 < lp_len p k → lp_off new k ≡ packed_off p k
  packed_place k lt some = off_same new all k k (u16_all_low k) ∙ l.off k lt some

  -- and so do the items
  pub packed_here : (k o : ℕ) → k < count p → 0 < lp_len p k → o < up8 (lp_len p k) → byte new (packed_off p k + o) ≡ byte (item p k ++ replicate (up8 (length (item p k)) - length (item p k)) 0) o
  packed_here k o lt some small = let t = total-le p k (count p) lt in other (packed_off p k + o) (inr (omega (arith, t, room, f.head.low))) ∙ l.here k o lt some small

  pub packed_item : (k : ℕ) → k < count p → 0 < lp_len p k → item new k ≡ item p k
  packed_item k lt some =
      let i = held_in p k f lt some in
      let t = total-le p k (count p) lt in
      let fits : packed_off p k + lp_len p k ≤ 8192 = omega (arith, t, room, f.head.top) in
      let old : length (item p k) ≡ lp_len p k = length-cut p (lp_off p k) (lp_len p k) (omega (arith, i.to, f.head.top, f.size)) in
      rw (packed_place k lt some, packed_len k lt) (ext_get_or 0 (cut new (packed_off p k) (lp_len p k)) (item p k)
      (length-cut new (packed_off p k) (lp_len p k) (omega (arith, packed_size, fits)) ∙ sym old)
      (λ o lt_o.
      let small : o < lp_len p k = omega (arith, lt_o, length-cut new (packed_off p k) (lp_len p k) (omega (arith, packed_size, fits))) in
      byte-cut new (packed_off p k) (lp_len p k) o small ∙ packed_here k o lt some (omega (arith, small))
      ∙ get_or_append_left (item p k) (replicate (up8 (length (item p k)) - length (item p k)) 0) 0 o (omega (arith, old, small))))

  pub packed_formed : IsFormed new
  packed_formed =
      let by8 = total-by8 p (count p) in
      record {
        size = packed_size;
        head = record {
          low = rw packed_lower f.head.low;
          mid = omega (arith, packed_lower, packed_upper, room);
          high = omega (arith, packed_upper, packed_special);
          top = rw packed_special f.head.top;
          by4 = rw packed_lower f.head.by4;
          by8 = omega (arith, packed_upper, by8, f.head.special8, room);
          special8 = rw packed_special f.head.special8;
          layout = (λ t. packed_low 18 (inr (omega arith)) (omega arith) t + 256 * packed_low 19 (inr (omega arith)) (omega arith) t) ∙ f.head.layout;
        };
        lines = lines_below new (count new) (λ k lt. fits_in new k (λ some.
            let lt_p : k < count p = omega (arith, lt, packed_count) in
            let some_p : 0 < lp_len p k = omega (arith, some, packed_len k lt_p) in
            let t = total-le p k (count p) lt_p in
            let b = total-by8 p (suc k) in
            (omega (arith, packed_upper, packed_place k lt_p some_p, t), omega (arith, packed_place k lt_p some_p, packed_len k lt_p, packed_special, t, room), rw (packed_place k lt_p some_p) (omega (arith, b, f.head.special8, t, room)))));
      }

  -- no byte is left between upper and special
  pub none_free : (i : ℕ) → pd_special p ≡ 8192 → pd_upper new ≤ i → i < 8192 → holder new (count new) i ≡ None → ⊥
  none_free i top le lt e =
      let c = covered p (count p) i (omega (arith, le, packed_upper)) (omega (arith, lt, top)) (omega (arith, room)) in
      let here = holds_in new c.k i (omega (arith, packed_place c.k c.below c.some, c.from)) (omega (arith, packed_place c.k c.below c.some, packed_len c.k c.below, c.to)) in
      let none = none_not new (count new) c.k i e (omega (arith, c.below, packed_count)) in
      cc

-- a step leaves the other lines
stays : (p : List ℕ) (ok : Packable p) (k : ℕ) (page new : List ℕ) → k < count p → Step p ok k page new → (i : ℕ) → i < pd_lower p → Outside k i → byte new i ≡ byte page i
stays p ok k page new there s i lt out = ⊎_elim (λ (l : i < 24 + 4 * k). s.below i l) (λ (r : 28 + 4 * k ≤ i). let low = high_enough p ok k there in s.between i r (omega (arith, lt, low))) out

-- two pages with lines that look alike: their items take the same room, and their lines look alike once they are laid anew
module _ (leaf : Bool) (p q : List ℕ) (fp : IsFormed p) (fq : IsFormed q) (lowers : pd_lower p ≡ pd_lower q) (specials : pd_special p ≡ pd_special q) (s : LinesAlike leaf (pd_lower p) p q) where
  counts : count p ≡ count q
  counts = ap (λ n. (n - 24) / 4) lowers

  in_lines : (k : ℕ) → k < count p → 28 + 4 * k ≤ pd_lower p
  in_lines k lt = omega (arith, lt, fp.head.low, fp.head.by4)

  lens : (k : ℕ) → k < count p → lp_len p k ≡ lp_len q k
  lens k lt = alike_len leaf (pd_lower p) p q s k (in_lines k lt)

  totals : (k : ℕ) → k ≤ count p → total p k ≡ total q k
  totals zero le = refl
  totals (suc k) le = let a = totals k (omega arith) in let b = lens k (omega arith) in λ t. a t + up8 (b t)

  total_all : total p (count p) ≡ total q (count q)
  total_all = totals (count p) (omega arith) ∙ ap (total q) counts

  pub rooms_alike : has_room p ≡ has_room q
  rooms_alike = λ t. nat_le (lowers t + total_all t) (specials t)

  pub uppers_alike : pd_special p - total p (count p) ≡ pd_special q - total q (count q)
  uppers_alike = λ t. specials t - total_all t

  pub places_alike : (k : ℕ) → k < count p → packed_off p k ≡ packed_off q k
  places_alike k lt = let a = totals (suc k) (omega (arith, lt)) in λ t. specials t - a t

  module _ (room : pd_lower p + total p (count p) ≤ pd_special p) where
    pub room_alike : pd_lower q + total q (count q) ≤ pd_special q
    room_alike = omega (arith, room, lowers, total_all, specials)

    ok_p : Packable p
    ok_p = packable p fp room

    ok_q : Packable q
    ok_q = packable q fq room_alike

    next : (k : ℕ) (x y : List ℕ) → k < count p → length x ≡ 8192 → length y ≡ 8192 → LinesAlike leaf (pd_lower p) x y → LinesAlike leaf (pd_lower p) (with_packed p k x) (with_packed q k y)
    next k x y lt size_x size_y before = λ i from to. beside k i (shown_line leaf i (byte (with_packed p k x) i) ≡ shown_line leaf i (byte (with_packed q k y) i))
        (λ out. ap (shown_line leaf i) (stays p ok_p k x (with_packed p k x) lt a i to out) ∙ before i from to ∙ ap (shown_line leaf i) (sym (stays q ok_q k y (with_packed q k y) lt_q b i (omega (arith, to, lowers)) out)))
        (λ u v. ⊎_elim
        (λ (z : ((lp_len p k == 0) ≡ true) × (lp_len p k ≡ 0)). ap (λ r. shown_line leaf i (byte r i)) (a.same z.1) ∙ before i from to ∙ ap (λ r. shown_line leaf i (byte r i)) (sym (b.same (sym (lens k lt) ∙ z.1))))
        (λ (n : ((lp_len p k == 0) ≡ false) × (lp_len p k ≢ 0)).
        let some : 0 < lp_len p k = omega (arith, n.1) in
        ap (shown_line leaf i) (a.line some i u v)
        ∙ lines_same leaf (packed_off p k) (lp_flags p k) (lp_flags q k) (lp_len p k) i (i - (24 + 4 * k)) (flags_small p k) (flags_small q k) (alike_flags leaf (pd_lower p) p q s k (in_lines k lt)) (omega (arith, v)) (omega (arith, u, v))
        ∙ (λ t. shown_line leaf i (byte (line_bytes (places_alike k lt t) (lp_flags q k) (lens k lt t)) (i - (24 + 4 * k))))
        ∙ ap (shown_line leaf i) (sym (b.line (omega (arith, some, lens k lt)) i u v)))
        (eqb_tells (lp_len p k) 0))
      where
        lt_q : k < count q
        lt_q = omega (arith, lt, counts)

        a : Step p ok_p k x (with_packed p k x)
        a = PackViews.step p ok_p k x lt size_x

        b : Step q ok_q k y (with_packed q k y)
        b = PackViews.step q ok_q k y lt_q size_y

    laid_alike : (n : ℕ) → n ≤ count p → LinesAlike leaf (pd_lower p) (packed_lines p (emptied p) n) (packed_lines q (emptied q) n)
    laid_alike zero le = λ i from to. ap (shown_line leaf i) (byte-splice_below p (pd_lower p) (zeros p) i (fits p fp) to) ∙ s i from to ∙ ap (shown_line leaf i) (sym (byte-splice_below q (pd_lower q) (zeros q) i (fits q fq) (omega (arith, to, lowers))))
      where
        zeros : List ℕ → List ℕ
        zeros r = replicate (pd_special r - pd_lower r) 0

        fits : (r : List ℕ) → IsFormed r → pd_lower r + length (replicate {A = ℕ} (pd_special r - pd_lower r) 0) ≤ length r
        fits r f = omega (arith, length-replicate {A = ℕ} (pd_special r - pd_lower r) 0, f.size, f.head.mid, f.head.high, f.head.top)
    laid_alike (suc n) le =
        let lp = laid p ok_p n (omega (arith, le)) in
        let lq = laid q ok_q n (omega (arith, le, counts)) in
        next n (packed_lines p (emptied p) n) (packed_lines q (emptied q) n) (omega (arith, le)) lp.size lq.size (laid_alike n (omega (arith, le)))

    pub lines_packed : LinesAlike leaf (pd_lower p) (packed p) (packed q)
    lines_packed = λ i from to. ap (shown_line leaf i) (other p fp room i (inr (omega (arith, from)))) ∙ laid_alike (count p) (omega arith) i from to
        ∙ ap (λ n. shown_line leaf i (byte (packed_lines q (emptied q) n) i)) counts ∙ ap (shown_line leaf i) (sym (other q fq room_alike i (inr (omega (arith, from)))))

-- heap pages
module _ (block : ℕ) (p q : List ℕ) (fp : IsFormed p) (fq : IsFormed q) (s : SameLines block p q) where
  specials : pd_special p ≡ pd_special q
  specials = special_u16 p ∙ (λ t. s.head 16 (omega arith) (omega arith) t + 256 * s.head 17 (omega arith) (omega arith) t) ∙ sym (special_u16 q)

  pub same_room : has_room p ≡ has_room q
  same_room = rooms_alike false p q fp fq s.lowers specials s.lines

  pub packed_alike : pd_lower p + total p (count p) ≤ pd_special p → pd_special p ≡ 8192 → PagesAlike block (packed p) (packed q)
  packed_alike room top =
      let rq = room_alike false p q fp fq s.lowers specials s.lines room in
      record {
        same = record {
          lowers = packed_lower p fp room ∙ s.lowers ∙ sym (packed_lower q fq rq);
          ten = (λ t. packed_low p fp room 10 (inl (omega arith)) (omega arith) t / 8 * 8) ∙ s.ten ∙ (λ t. sym (packed_low q fq rq 10 (inl (omega arith)) (omega arith)) t / 8 * 8);
          eleven = packed_low p fp room 11 (inl (omega arith)) (omega arith) ∙ s.eleven ∙ sym (packed_low q fq rq 11 (inl (omega arith)) (omega arith));
          head = λ i le lt. packed_low p fp room i (inr le) (omega arith) ∙ s.head i le lt ∙ sym (packed_low q fq rq i (inr le) (omega arith));
          lines = λ i le lt. lines_packed false p q fp fq s.lowers specials s.lines room i le (omega (arith, lt, packed_lower p fp room));
          items = λ k lt some.
              let lt_p : k < count p = omega (arith, lt, packed_count p fp room) in
              let some_p : 0 < lp_len p k = omega (arith, some, packed_len p fp room k lt_p) in
              let lt_q : k < count q = omega (arith, lt_p, counts_same block p q s fp.head.low fp.head.by4) in
              let some_q : 0 < lp_len q k = omega (arith, some_p, len_alike block p q s fp.head.low fp.head.by4 k lt_p) in
              rw (packed_flags p fp room k lt_p, packed_flags q fq rq k lt_q, packed_item p fp room k lt_p some_p, packed_item q fq rq k lt_q some_q) (s.items k lt_p some_p);
        };
        uppers = (upper_byte room 14 (omega arith) (omega arith), upper_byte room 15 (omega arith) (omega arith));
        free = λ i le lt e. absurd (none_free p fp room i top le lt e);
      }
    where
      upper_byte : pd_lower p + total p (count p) ≤ pd_special p → (i : ℕ) → 14 ≤ i → i < 16 → byte (packed p) i ≡ byte (packed q) i
      upper_byte room i le lt = packed_top p fp room i le lt ∙ ap (λ u. byte (u16_bytes u) (i - 14)) (uppers_alike false p q fp fq s.lowers specials s.lines)
          ∙ sym (packed_top q fq (room_alike false p q fp fq s.lowers specials s.lines room) i le lt)

-- A page after the bytes below an item moved up, and the lines that point there.
use Rattle.std.proofs.Common.{◌≡◌, ◌≢◌, ℕ, zero, suc, ◌+◌, ◌-◌, ◌*◌, ◌<◌, ◌≤◌, ◌==◌, ◌&&◌, ◌⊎◌, inl, inr, ⊎_elim, List, Bool, true, false, length, refl, sym, ◌∙◌, ap, subst, arith}
use Rattle.std.specs.Prelude.{nat_lt, if◌then◌else◌}
use Rattle.std.proofs.lemmas.Bool.Decides.{eqb_tells, nat_tests}
use Rattle.layout.specs.Splice.{splice}
use Rattle.page_layout.specs.Bytes.{byte, u16_at, u16_bytes, cut, up8}
use Rattle.page_layout.specs.Page.{pd_lower, pd_upper, count, lp_off, lp_flags, lp_len, IsFormed}
use Rattle.page_layout.specs.Edits.{with_pointer}
use Rattle.page_layout.specs.Deletes.{raised, moved_line, moved_lines, closed_up}
use Rattle.layout.proofs.SpliceLemmas.{length-splice, byte-splice_in, byte-splice_out, byte-splice_below, byte-splice_above}
use Rattle.page_layout.proofs.BytesLemmas.{length-cut, byte-cut}
use Rattle.page_layout.proofs.LineViews.{u16_at-with_u16, off_is, len_is, flags_is, off_other, len_other, flags_other, byte_other, pointer_size}
use Rattle.page_layout.proofs.ReadLemmas.{lower_u16, upper_u16, off_same, len_same, flags_same}
use Rattle.page_layout.proofs.ShapeLemmas.{held_in, flags_small}

pub record Raised (p : List ℕ) (at size : ℕ) (r : List ℕ) : Type 0 where
  pub size8 : length r ≡ 8192
  pub upper : pd_upper r ≡ pd_upper p + size
  pub low : (i : ℕ) → i < 14 → byte r i ≡ byte p i
  pub top : (i : ℕ) → 14 ≤ i → i < 16 → byte r i ≡ byte (u16_bytes (pd_upper p + size)) (i - 14)
  pub front : (i : ℕ) → 16 ≤ i → i < pd_upper p + size → byte r i ≡ byte p i
  pub moved : (i : ℕ) → pd_upper p + size ≤ i → i < at + size → byte r i ≡ byte p (i - size)
  pub above : (i : ℕ) → at + size ≤ i → byte r i ≡ byte p i

pub raised_is : (p : List ℕ) (at size : ℕ) → length p ≡ 8192 → 24 ≤ pd_upper p → pd_upper p ≤ at → at + size ≤ 8192 → Raised p at size (raised p at size)
raised_is p at size size8 low above below = record {
  size8 = length-splice closed 14 (u16_bytes (pd_upper p + size)) (omega (arith, closed_size)) ∙ closed_size;
  upper = upper_is;
  low = λ i lt. other i (inl lt) ∙ byte-splice_below p (pd_upper p + size) part i fits (omega arith);
  top = λ i le lt. byte-splice_in closed 14 (u16_bytes (pd_upper p + size)) i (omega (arith, closed_size)) le lt;
  front = λ i le lt. other i (inr le) ∙ byte-splice_below p (pd_upper p + size) part i fits lt;
  moved = λ i le lt.
      let there : pd_upper p + (i - (pd_upper p + size)) ≡ i - size = omega arith in
      other i (inr (omega arith)) ∙ byte-splice_in p (pd_upper p + size) part i fits le (omega (arith, part_size))
      ∙ byte-cut p (pd_upper p) (at - pd_upper p) (i - (pd_upper p + size)) (omega arith) ∙ ap (byte p) there;
  above = λ i le. other i (inr (omega arith)) ∙ byte-splice_above p (pd_upper p + size) part i fits (omega (arith, part_size));
}
  where
    part : List ℕ
    part = cut p (pd_upper p) (at - pd_upper p)

    closed : List ℕ
    closed = splice p (pd_upper p + size) part

    part_size : length part ≡ at - pd_upper p
    part_size = length-cut p (pd_upper p) (at - pd_upper p) (omega arith)

    fits : pd_upper p + size + length part ≤ length p
    fits = omega (arith, part_size)

    closed_size : length closed ≡ 8192
    closed_size = length-splice p (pd_upper p + size) part fits ∙ size8

    other : (i : ℕ) → (i < 14) ⊎ (16 ≤ i) → byte (raised p at size) i ≡ byte closed i
    other i out = byte-splice_out closed 14 (u16_bytes (pd_upper p + size)) i (omega (arith, closed_size)) out

    upper_is : pd_upper (raised p at size) ≡ pd_upper p + size
    upper_is = upper_u16 (raised p at size) ∙ u16_at-with_u16 closed 14 (pd_upper p + size) (omega (arith, closed_size))

-- where line j's item lies once those below `at` moved up
abbrev pub moved_off : ℕ → ℕ → List ℕ → ℕ → ℕ
moved_off at size p j = if nat_lt 0 (lp_len p j) && nat_lt (lp_off p j) at then lp_off p j + size else lp_off p j

pub record MovedLines (r : List ℕ) (at size n : ℕ) (page : List ℕ) : Type 0 where
  pub size8 : length page ≡ 8192
  pub off : (j : ℕ) → lp_off page j ≡ (if nat_lt j n then moved_off at size r j else lp_off r j)
  pub len : (j : ℕ) → lp_len page j ≡ lp_len r j
  pub flags : (j : ℕ) → lp_flags page j ≡ lp_flags r j
  pub outside : (i : ℕ) → (i < 24) ⊎ (24 + 4 * n ≤ i) → byte page i ≡ byte r i

-- one more line
choose_last : (a b : ℕ) (n j : ℕ) → j ≢ n → (if nat_lt j n then a else b) ≡ (if nat_lt j (suc n) then a else b)
choose_last a b n j ne = grind (arith, nat_tests)

pub moved_lines_are : (r : List ℕ) (at size n : ℕ) → length r ≡ 8192 → at + size ≤ 32768 → 24 + 4 * n ≤ 8192 → MovedLines r at size n (moved_lines r at size n)
moved_lines_are r at size zero size8 below there = record {
  size8 = size8;
  off = λ j. let no : nat_lt j 0 ≡ false = grind (arith, nat_tests) in rw no refl;
  len = λ j. refl;
  flags = λ j. refl;
  outside = λ i out. refl;
}
moved_lines_are r at size (suc n) size8 below there = next (moved_lines r at size n) (moved_lines_are r at size n size8 below (omega arith))
  where
    next : (page : List ℕ) → MovedLines r at size n page → MovedLines r at size (suc n) (moved_line at size n page)
    next page m = by_case (nat_lt 0 (lp_len page n) && nat_lt (lp_off page n) at) refl
      where
        fits : 28 + 4 * n ≤ length page
        fits = omega (arith, m.size8, there)

        here : lp_off page n ≡ lp_off r n
        here = let no : nat_lt n n ≡ false = grind (arith, nat_tests) in m.off n ∙ rw no refl

        yes_n : nat_lt n (suc n) ≡ true
        yes_n = grind (arith, nat_tests)

        first : (i : ℕ) → (i < 24) ⊎ (24 + 4 * suc n ≤ i) → (i < 24 + 4 * n) ⊎ (28 + 4 * n ≤ i)
        first i out = ⊎_elim (λ (l : i < 24). inl (omega (arith, l))) (λ (h : 24 + 4 * suc n ≤ i). inr (omega (arith, h))) out

        second : (i : ℕ) → (i < 24) ⊎ (24 + 4 * suc n ≤ i) → (i < 24) ⊎ (24 + 4 * n ≤ i)
        second i out = ⊎_elim (λ (l : i < 24). inl l) (λ (h : 24 + 4 * suc n ≤ i). inr (omega (arith, h))) out

        by_case : (b : Bool) → (nat_lt 0 (lp_len page n) && nat_lt (lp_off page n) at) ≡ b → MovedLines r at size (suc n) (if b then with_pointer page n (lp_off page n + size) (lp_flags page n) (lp_len page n) else page)
        by_case true e =
            let sure : (nat_lt 0 (lp_len r n) && nat_lt (lp_off r n) at) ≡ true = rw (← m.len n, ← here) e in
            let small : lp_off page n + size < 32768 = grind (arith, nat_tests, e, below) in
            let kind = flags_small page n in
            record {
              size8 = pointer_size page n (lp_off page n + size) (lp_flags page n) (lp_len page n) fits small kind ∙ m.size8;
              off = λ j. ⊎_elim
                  (λ (t : ((j == n) ≡ true) × (j ≡ n)). subst (λ x. lp_off (with_pointer page n (lp_off page n + size) (lp_flags page n) (lp_len page n)) x ≡ (if nat_lt x (suc n) then moved_off at size r x else lp_off r x)) (sym t.1)
                  (rw (yes_n, sure) (off_is page n (lp_off page n + size) (lp_flags page n) (lp_len page n) fits small kind ∙ ap (λ x. x + size) here)))
                  (λ (f : ((j == n) ≡ false) × (j ≢ n)). off_other page n (lp_off page n + size) (lp_flags page n) (lp_len page n) fits small kind j f.1 ∙ m.off j ∙ choose_last (moved_off at size r j) (lp_off r j) n j f.1)
                  (eqb_tells j n);
              len = λ j. ⊎_elim
                  (λ (t : ((j == n) ≡ true) × (j ≡ n)). subst (λ x. lp_len (with_pointer page n (lp_off page n + size) (lp_flags page n) (lp_len page n)) x ≡ lp_len r x) (sym t.1)
                  (len_is page n (lp_off page n + size) (lp_flags page n) (lp_len page n) fits small kind ∙ m.len n))
                  (λ (f : ((j == n) ≡ false) × (j ≢ n)). len_other page n (lp_off page n + size) (lp_flags page n) (lp_len page n) fits small kind j f.1 ∙ m.len j)
                  (eqb_tells j n);
              flags = λ j. ⊎_elim
                  (λ (t : ((j == n) ≡ true) × (j ≡ n)). subst (λ x. lp_flags (with_pointer page n (lp_off page n + size) (lp_flags page n) (lp_len page n)) x ≡ lp_flags r x) (sym t.1)
                  (flags_is page n (lp_off page n + size) (lp_flags page n) (lp_len page n) fits small kind ∙ m.flags n))
                  (λ (f : ((j == n) ≡ false) × (j ≢ n)). flags_other page n (lp_off page n + size) (lp_flags page n) (lp_len page n) fits small kind j f.1 ∙ m.flags j)
                  (eqb_tells j n);
              outside = λ i out. byte_other page n (lp_off page n + size) (lp_flags page n) (lp_len page n) fits small kind i (first i out) ∙ m.outside i (second i out);
            }
        by_case false e =
            let no : (nat_lt 0 (lp_len r n) && nat_lt (lp_off r n) at) ≡ false = rw (← m.len n, ← here) e in
            record {
              size8 = m.size8;
              off = λ j. ⊎_elim
                  (λ (t : ((j == n) ≡ true) × (j ≡ n)). subst (λ x. lp_off page x ≡ (if nat_lt x (suc n) then moved_off at size r x else lp_off r x)) (sym t.1) (rw (yes_n, no) here))
                  (λ (f : ((j == n) ≡ false) × (j ≢ n)). m.off j ∙ choose_last (moved_off at size r j) (lp_off r j) n j f.1)
                  (eqb_tells j n);
              len = m.len;
              flags = m.flags;
              outside = λ i out. m.outside i (second i out);
            }

-- what stands where once the bytes from upper up to `at` moved up by d, and lines whose items lie below `to` with them
pub record Shifted (p : List ℕ) (at to d : ℕ) (q : List ℕ) : Type 0 where
  pub size : length q ≡ 8192
  pub lower : pd_lower q ≡ pd_lower p
  pub upper : pd_upper q ≡ pd_upper p + d
  pub low : (i : ℕ) → i < 14 → byte q i ≡ byte p i
  pub head : (i : ℕ) → 16 ≤ i → i < 24 → byte q i ≡ byte p i
  pub off : (j : ℕ) → j < count p → lp_off q j ≡ moved_off to d p j
  pub len : (j : ℕ) → j < count p → lp_len q j ≡ lp_len p j
  pub flags : (j : ℕ) → j < count p → lp_flags q j ≡ lp_flags p j
  pub moved : (i : ℕ) → pd_upper p + d ≤ i → i < at + d → byte q i ≡ byte p (i - d)
  pub above : (i : ℕ) → at + d ≤ i → byte q i ≡ byte p i

-- the raised page has the lines of the old one
raised_u16 : (p : List ℕ) (at size : ℕ) (r : List ℕ) (i : ℕ) → Raised p at size r → 16 ≤ i → i + 1 < pd_upper p + size → u16_at r i ≡ u16_at p i
raised_u16 p at size r i m le lt = λ t. m.front i le (omega arith) t + 256 * m.front (i + 1) (omega arith) lt t

pub shifted_is : (p : List ℕ) (at to d : ℕ) → IsFormed p → pd_upper p ≤ at → at + d ≤ 8192 → to + d ≤ 32768 → Shifted p at to d (moved_lines (raised p at d) to d (count p))
shifted_is p at to d f from below far = made (raised p at d) r (moved_lines (raised p at d) to d (count p)) (moved_lines_are (raised p at d) to d (count p) r.size8 far (omega (arith, f.head.low, f.head.by4, f.head.mid, f.head.high, f.head.top)))
  where
    r : Raised p at d (raised p at d)
    r = raised_is p at d f.size (omega (arith, f.head.low, f.head.mid)) from below

    made : (r : List ℕ) → Raised p at d r → (q : List ℕ) → MovedLines r to d (count p) q → Shifted p at to d q
    made r raised q m = record {
      size = m.size8;
      lower = lower;
      upper = upper;
      low = λ i lt. m.outside i (inl (omega arith)) ∙ raised.low i lt;
      head = λ i le lt. m.outside i (inl lt) ∙ raised.front i le (omega (arith, f.head.low, f.head.mid));
      off = λ j lt. let here : nat_lt j (count p) ≡ true = grind (arith, nat_tests) in m.off j ∙ rw (here, off j lt, len j lt) refl;
      len = λ j lt. m.len j ∙ len j lt;
      flags = λ j lt. m.flags j ∙ flags j lt;
      moved = λ j le lt. m.outside j (inr (omega (arith, f.head.low, f.head.by4, f.head.mid))) ∙ raised.moved j le lt;
      above = λ j le. m.outside j (inr (omega (arith, from, f.head.low, f.head.by4, f.head.mid))) ∙ raised.above j le;
    }
      where
        room : (j : ℕ) → j < count p → 28 + 4 * j ≤ pd_upper p
        room j lt = omega (arith, f.head.low, f.head.by4, f.head.mid)

        off : (j : ℕ) → j < count p → lp_off r j ≡ lp_off p j
        off j lt = let fits = room j lt in off_same r p j j (raised_u16 p at d r (24 + 4 * j) raised (omega arith) (omega arith))

        len : (j : ℕ) → j < count p → lp_len r j ≡ lp_len p j
        len j lt = let fits = room j lt in len_same r p j j (raised_u16 p at d r (26 + 4 * j) raised (omega arith) (omega arith))

        flags : (j : ℕ) → j < count p → lp_flags r j ≡ lp_flags p j
        flags j lt = let fits = room j lt in flags_same r p j j (raised_u16 p at d r (24 + 4 * j) raised (omega arith) (omega arith)) (raised_u16 p at d r (26 + 4 * j) raised (omega arith) (omega arith))

        lower : pd_lower q ≡ pd_lower p
        lower = lower_u16 q ∙ (λ t. (m.outside 12 (inl (omega arith)) ∙ raised.low 12 (omega arith)) t + 256 * (m.outside 13 (inl (omega arith)) ∙ raised.low 13 (omega arith)) t) ∙ sym (lower_u16 p)

        upper : pd_upper q ≡ pd_upper p + d
        upper = upper_u16 q ∙ (λ t. m.outside 14 (inl (omega arith)) t + 256 * m.outside 15 (inl (omega arith)) t) ∙ sym (upper_u16 r) ∙ raised.upper

-- what stands where once line k's item is closed up
abbrev pub ClosedUp : List ℕ → ℕ → List ℕ → Type 0
ClosedUp p k q = Shifted p (lp_off p k) (lp_off p k) (up8 (lp_len p k)) q

pub closed_up_is : (p : List ℕ) (k : ℕ) → IsFormed p → k < count p → 0 < lp_len p k → ClosedUp p k (closed_up p k)
closed_up_is p k f there some =
    let i = held_in p k f there some in
    let sure : nat_lt 0 (lp_len p k) ≡ true = grind (arith, nat_tests) in
    let fits : lp_off p k + up8 (lp_len p k) ≤ 8192 = omega (arith, i.held, f.head.top) in
    rw sure (shifted_is p (lp_off p k) (lp_off p k) (up8 (lp_len p k)) f i.from fits (omega (arith, fits)))

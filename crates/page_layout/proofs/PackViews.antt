-- The lines and items of a packed page.
use Rattle.std.proofs.Common.{◌≡◌, ◌≢◌, ℕ, zero, suc, ◌+◌, ◌-◌, ◌*◌, ◌/◌, ◌%◌, ◌<◌, ◌≤◌, ◌==◌, ◌⊎◌, inl, inr, ⊎_elim, List, ◌++◌, Bool, true, false, length, refl, sym, ◌∙◌, ap, subst, arith}
use Rattle.std.specs.Prelude.{if◌then◌else◌, replicate}
use Rattle.std.proofs.lemmas.Bool.Decides.{leb_tells, eqb_tells, nat_tests}
use Rattle.std.proofs.lemmas.List.{length-append, length-replicate}
use Rattle.layout.specs.Splice.{splice}
use Rattle.page_layout.specs.Bytes.{byte, u16_at, with_u16, u16_bytes, up8}
use Rattle.page_layout.specs.Page.{pd_lower, pd_special, count, lp_off, lp_flags, lp_len, item, Head, ItemIn}
use Rattle.page_layout.specs.Edits.{with_pointer, with_item}
use Rattle.page_layout.specs.Pack.{total, packed_off, with_packed, packed_lines}
use Rattle.layout.proofs.SpliceLemmas.{length-splice, byte-splice_in, byte-splice_out, byte-splice_below, byte-splice_above}
use Rattle.page_layout.proofs.BytesLemmas.{byte-zeros, length-cut}
use Rattle.page_layout.proofs.LineViews.{line_bytes, pointer_in, off_is, len_is, flags_is, u16_other}
use Rattle.page_layout.proofs.Packing.{total-le}
use Rattle.page_layout.proofs.ShapeLemmas.{flags_small}

total-step : (p : List ℕ) (k : ℕ) → total p (suc k) ≡ total p k + up8 (lp_len p k)
total-step p k = refl

-- what packing asks of the page as it was
pub record Packable (p : List ℕ) : Type 0 where
  pub size : length p ≡ 8192
  pub head : Head p
  pub fit : (k : ℕ) → k < count p → 0 < lp_len p k → ItemIn p k
  pub room : pd_lower p + total p (count p) ≤ pd_special p

module _ (p : List ℕ) (ok : Packable p) where
  in_lines : (k : ℕ) → k < count p → 28 + 4 * k ≤ pd_lower p
  in_lines k lt = omega (arith, ok.head.low, ok.head.by4)

  abbrev held : ℕ → List ℕ
  held k = item p k ++ replicate (up8 (length (item p k)) - length (item p k)) 0

  item_size : (k : ℕ) → k < count p → 0 < lp_len p k → length (item p k) ≡ lp_len p k
  item_size k lt some = let i = ok.fit k lt some in length-cut p (lp_off p k) (lp_len p k) (omega (arith, i.to, ok.head.top, ok.size))

  held_size : (k : ℕ) → k < count p → 0 < lp_len p k → length (held k) ≡ up8 (lp_len p k)
  held_size k lt some =
      let n = item_size k lt some in
      let z = length-replicate {A = ℕ} (up8 (length (item p k)) - length (item p k)) 0 in
      omega (arith, length-append (item p k) (replicate (up8 (length (item p k)) - length (item p k)) 0), z, n)

  -- a step on a page of the right size
  pub record Step (k : ℕ) (page new : List ℕ) : Type 0 where
    pub size : length new ≡ 8192
    pub same : lp_len p k ≡ 0 → new ≡ page
    pub below : (i : ℕ) → i < 24 + 4 * k → byte new i ≡ byte page i
    pub between : (i : ℕ) → 28 + 4 * k ≤ i → i < packed_off p k → byte new i ≡ byte page i
    pub above : (i : ℕ) → 28 + 4 * k ≤ i → packed_off p k + up8 (lp_len p k) ≤ i → byte new i ≡ byte page i
    pub words : (i : ℕ) → (i + 1 < 24 + 4 * k) ⊎ (28 + 4 * k ≤ i) → i + 1 < pd_lower p → u16_at new i ≡ u16_at page i
    pub here : 0 < lp_len p k → (o : ℕ) → o < up8 (lp_len p k) → byte new (packed_off p k + o) ≡ byte (held k) o
    pub line : 0 < lp_len p k → (i : ℕ) → 24 + 4 * k ≤ i → i < 28 + 4 * k → byte new i ≡ byte (line_bytes (packed_off p k) (lp_flags p k) (lp_len p k)) (i - (24 + 4 * k))
    pub off : 0 < lp_len p k → lp_off new k ≡ packed_off p k
    pub len : 0 < lp_len p k → lp_len new k ≡ lp_len p k
    pub flags : 0 < lp_len p k → lp_flags new k ≡ lp_flags p k

  pub high_enough : (k : ℕ) → k < count p → pd_lower p ≤ packed_off p k
  high_enough k lt = let t = total-le p k (count p) lt in omega (arith, t, ok.room)

  pub on_top : (k : ℕ) → k < count p → packed_off p k + up8 (lp_len p k) ≤ pd_special p
  on_top k lt = let t = total-le p k (count p) lt in omega (arith, t, ok.room)

  pub step : (k : ℕ) (page : List ℕ) → k < count p → length page ≡ 8192 → Step k page (with_packed p k page)
  step k page lt size = by_case (lp_len p k == 0) refl
    where
      made : List ℕ
      made = with_pointer (with_item page (item p k) (packed_off p k)) k (packed_off p k) (lp_flags p k) (lp_len p k)

      by_case : (b : Bool) → (lp_len p k == 0) ≡ b → Step k page (if b then page else with_pointer (with_item page (item p k) (packed_off p k)) k (packed_off p k) (lp_flags p k) (lp_len p k))
      by_case true e =
          let none : lp_len p k ≡ 0 = grind (arith, nat_tests) in
          record {
            size = size;
            same = λ z. refl;
            below = λ i l. refl;
            between = λ i l m. refl;
            above = λ i l m. refl;
            words = λ i o l. refl;
            here = λ some. absurd (omega (arith, some, none));
            line = λ some. absurd (omega (arith, some, none));
            off = λ some. absurd (omega (arith, some, none));
            len = λ some. absurd (omega (arith, some, none));
            flags = λ some. absurd (omega (arith, some, none));
          }
      by_case false e =
          let some : 0 < lp_len p k = grind (arith, nat_tests) in
          let h = held_size k lt some in
          let top = on_top k lt in let low = high_enough k lt in let room = in_lines k lt in
          let fits : packed_off p k + length (held k) ≤ length page = omega (arith, h, top, ok.head.top, size) in
          let one = with_item page (item p k) (packed_off p k) in
          let one_size : length one ≡ length page = length-splice page (packed_off p k) (held k) fits in
          let two_size : length (with_u16 one (24 + 4 * k) (packed_off p k + 32768 * (lp_flags p k % 2))) ≡ length one = length-splice one (24 + 4 * k) (u16_bytes (packed_off p k + 32768 * (lp_flags p k % 2))) (omega (arith, one_size, room, low, top, ok.head.top, size)) in
          let there : 28 + 4 * k ≤ length one = omega (arith, one_size, room, low, top, ok.head.top, size) in
          let small : packed_off p k < 32768 = omega (arith, top, ok.head.top) in
          record {
            size = length-splice (with_u16 one (24 + 4 * k) (packed_off p k + 32768 * (lp_flags p k % 2))) (26 + 4 * k) (u16_bytes (lp_flags p k / 2 + 2 * lp_len p k)) (omega (arith, two_size, there)) ∙ two_size ∙ one_size ∙ size;
            same = λ z. absurd (omega (arith, some, z));
            below = λ i l. pointer_out one i there (inl l) ∙ byte-splice_below page (packed_off p k) (held k) i fits (omega (arith, l, room, low));
            between = λ i l m. pointer_out one i there (inr l) ∙ byte-splice_below page (packed_off p k) (held k) i fits m;
            above = λ i l m. pointer_out one i there (inr l) ∙ byte-splice_above page (packed_off p k) (held k) i fits (omega (arith, m, h));
            words = λ i out l. u16_other one k (packed_off p k) (lp_flags p k) (lp_len p k) there small (flags_small p k) i out
                ∙ (λ t. byte-splice_below page (packed_off p k) (held k) i fits (omega (arith, l, low)) t + 256 * byte-splice_below page (packed_off p k) (held k) (i + 1) fits (omega (arith, l, low)) t);
            here = λ some' o l.
                let back : packed_off p k + o - packed_off p k ≡ o = omega arith in
                pointer_out one (packed_off p k + o) there (inr (omega (arith, room, low))) ∙ byte-splice_in page (packed_off p k) (held k) (packed_off p k + o) fits (omega arith) (omega (arith, h, l)) ∙ ap (byte (held k)) back;
            line = λ s i l m. pointer_in one k (packed_off p k) (lp_flags p k) (lp_len p k) i there l m;
            off = λ s. off_is one k (packed_off p k) (lp_flags p k) (lp_len p k) there small (flags_small p k);
            len = λ s. len_is one k (packed_off p k) (lp_flags p k) (lp_len p k) there small (flags_small p k);
            flags = λ s. flags_is one k (packed_off p k) (lp_flags p k) (lp_len p k) there small (flags_small p k);
          }
        where
          pointer_out : (one : List ℕ) (i : ℕ) → 28 + 4 * k ≤ length one → (i < 24 + 4 * k) ⊎ (28 + 4 * k ≤ i) → byte (with_pointer one k (packed_off p k) (lp_flags p k) (lp_len p k)) i ≡ byte one i
          pointer_out one i there out =
              let a = u16_bytes (packed_off p k + 32768 * (lp_flags p k % 2)) in
              let size1 = length-splice one (24 + 4 * k) a (omega (arith, there)) in
              byte-splice_out (splice one (24 + 4 * k) a) (26 + 4 * k) (u16_bytes (lp_flags p k / 2 + 2 * lp_len p k)) i (omega (arith, size1, there)) (⊎_elim (λ (l : i < 24 + 4 * k). inl (omega (arith, l))) (λ (r : 28 + 4 * k ≤ i). inr (omega (arith, r))) out)
              ∙ byte-splice_out one (24 + 4 * k) a i (omega (arith, there)) (⊎_elim (λ l. inl l) (λ (r : 28 + 4 * k ≤ i). inr (omega (arith, r))) out)

  -- what stands after the first n lines were laid
  pub record Laid (n : ℕ) (page : List ℕ) : Type 0 where
    pub size : length page ≡ 8192
    pub low : (i : ℕ) → i < 24 → byte page i ≡ byte p i
    pub off : (k : ℕ) → k < n → 0 < lp_len p k → lp_off page k ≡ packed_off p k
    pub len : (k : ℕ) → k < n → 0 < lp_len p k → lp_len page k ≡ lp_len p k
    pub flags : (k : ℕ) → k < n → 0 < lp_len p k → lp_flags page k ≡ lp_flags p k
    pub words : (k : ℕ) → k < count p → (n ≤ k) ⊎ (lp_len p k ≡ 0) → (u16_at page (24 + 4 * k) ≡ u16_at p (24 + 4 * k)) × (u16_at page (26 + 4 * k) ≡ u16_at p (26 + 4 * k))
    pub here : (k o : ℕ) → k < n → 0 < lp_len p k → o < up8 (lp_len p k) → byte page (packed_off p k + o) ≡ byte (held k) o
    pub free : (i : ℕ) → pd_lower p ≤ i → i < pd_special p - total p n → byte page i ≡ 0
    pub rest : (i : ℕ) → pd_special p ≤ i → byte page i ≡ byte p i

  from_words : (a b : List ℕ) (k j : ℕ) → u16_at a (24 + 4 * k) ≡ u16_at b (24 + 4 * k) → u16_at a (26 + 4 * k) ≡ u16_at b (26 + 4 * k) → (lp_off a k ≡ lp_off b k) × (lp_len a k ≡ lp_len b k) × (lp_flags a k ≡ lp_flags b k)
  unfolding lp_off lp_len lp_flags
  from_words a b k j l h = (ap (λ w. w % 32768) l, ap (λ w. w / 2) h, λ t. l t / 32768 % 2 + 2 * (h t % 2))

  pub laid : (n : ℕ) → n ≤ count p → Laid n (packed_lines p (splice p (pd_lower p) (replicate (pd_special p - pd_lower p) 0)) n)
  laid zero le =
      let z : length (replicate {A = ℕ} (pd_special p - pd_lower p) 0) ≡ pd_special p - pd_lower p = length-replicate {A = ℕ} (pd_special p - pd_lower p) 0 in
      let h = ok.head in
      let fits : pd_lower p + length (replicate {A = ℕ} (pd_special p - pd_lower p) 0) ≤ length p = omega (arith, z, h.mid, h.high, h.top, ok.size) in
      record {
        size = length-splice p (pd_lower p) (replicate (pd_special p - pd_lower p) 0) fits ∙ ok.size;
        low = λ i lt. byte-splice_below p (pd_lower p) (replicate (pd_special p - pd_lower p) 0) i fits (omega (arith, h.low));
        off = λ k lt. absurd (omega arith);
        len = λ k lt. absurd (omega arith);
        flags = λ k lt. absurd (omega arith);
        words = λ k lt o. let room = in_lines k lt in (
          (λ t. byte-splice_below p (pd_lower p) (replicate (pd_special p - pd_lower p) 0) (24 + 4 * k) fits (omega (arith, room)) t + 256 * byte-splice_below p (pd_lower p) (replicate (pd_special p - pd_lower p) 0) (24 + 4 * k + 1) fits (omega (arith, room)) t),
          (λ t. byte-splice_below p (pd_lower p) (replicate (pd_special p - pd_lower p) 0) (26 + 4 * k) fits (omega (arith, room)) t + 256 * byte-splice_below p (pd_lower p) (replicate (pd_special p - pd_lower p) 0) (26 + 4 * k + 1) fits (omega (arith, room)) t),
        );
        here = λ k o lt. absurd (omega arith);
        free = λ i l m. byte-splice_in p (pd_lower p) (replicate (pd_special p - pd_lower p) 0) i fits l (omega (arith, z, m, h.mid, h.high)) ∙ byte-zeros (pd_special p - pd_lower p) (i - pd_lower p);
        rest = λ i l. byte-splice_above p (pd_lower p) (replicate (pd_special p - pd_lower p) 0) i fits (omega (arith, z, l, h.mid, h.high));
      }
  laid (suc n) le = next (packed_lines p (splice p (pd_lower p) (replicate (pd_special p - pd_lower p) 0)) n) (laid n (omega arith))
    where
      next : (page : List ℕ) → Laid n page → Laid (suc n) (with_packed p n page)
      next page l =
          let lt_n : n < count p = omega (arith, le) in
          let s = step n page lt_n l.size in
          let new = with_packed p n page in
          let room = in_lines n lt_n in let low = high_enough n lt_n in
          record {
            size = s.size;
            low = λ i lt. s.below i (omega arith) ∙ l.low i lt;
            off = λ k lt some. ⊎_elim
                (λ (e : ((k == n) ≡ true) × (k ≡ n)). subst (λ x. lp_off new x ≡ packed_off p x) (sym e.1) (s.off (subst (λ x. 0 < lp_len p x) e.1 some)))
                (λ (f : ((k == n) ≡ false) × (k ≢ n)). let kn : k < n = omega (arith, f.1) in (kept page k kn lt_n l.size).0 ∙ l.off k kn some)
                (eqb_tells k n);
            len = λ k lt some. ⊎_elim
                (λ (e : ((k == n) ≡ true) × (k ≡ n)). subst (λ x. lp_len new x ≡ lp_len p x) (sym e.1) (s.len (subst (λ x. 0 < lp_len p x) e.1 some)))
                (λ (f : ((k == n) ≡ false) × (k ≢ n)). let kn : k < n = omega (arith, f.1) in (kept page k kn lt_n l.size).1 ∙ l.len k kn some)
                (eqb_tells k n);
            flags = λ k lt some. ⊎_elim
                (λ (e : ((k == n) ≡ true) × (k ≡ n)). subst (λ x. lp_flags new x ≡ lp_flags p x) (sym e.1) (s.flags (subst (λ x. 0 < lp_len p x) e.1 some)))
                (λ (f : ((k == n) ≡ false) × (k ≢ n)). let kn : k < n = omega (arith, f.1) in (kept page k kn lt_n l.size).2 ∙ l.flags k kn some)
                (eqb_tells k n);
            words = λ k lt o. ⊎_elim
                (λ (e : ((k == n) ≡ true) × (k ≡ n)). ⊎_elim
                (λ (a : suc n ≤ k). absurd (omega (arith, a, e.1)))
                (λ (z : lp_len p k ≡ 0).
                let same = s.same (subst (λ x. lp_len p x ≡ 0) e.1 z) in
                let old = l.words k lt (inr z) in
                (ap (λ x. u16_at x (24 + 4 * k)) same ∙ old.0, ap (λ x. u16_at x (26 + 4 * k)) same ∙ old.1))
                o)
                (λ (f : ((k == n) ≡ false) × (k ≢ n)).
                let old = l.words k lt (⊎_elim (λ (a : suc n ≤ k). inl (omega (arith, a))) (λ z. inr z) o) in
                let here = in_lines k lt in
                let side = apart k f.1 in
                (s.words (24 + 4 * k) (side.0) (omega (arith, here)) ∙ old.0, s.words (26 + 4 * k) (side.1) (omega (arith, here)) ∙ old.1))
                (eqb_tells k n);
            here = λ k o lt some small. ⊎_elim
                (λ (e : ((k == n) ≡ true) × (k ≡ n)). subst (λ x. byte new (packed_off p x + o) ≡ byte (held x) o) (sym e.1) (s.here (subst (λ x. 0 < lp_len p x) e.1 some) o (subst (λ x. o < up8 (lp_len p x)) e.1 small)))
                (λ (f : ((k == n) ≡ false) × (k ≢ n)).
                let kn : k < n = omega (arith, f.1) in
                let t = total-le p k n kn in
                let tn = total-le p n (count p) lt_n in
                s.above (packed_off p k + o) (omega (arith, room, low, t, tn, ok.room)) (omega (arith, t, tn, ok.room)) ∙ l.here k o kn some small)
                (eqb_tells k n);
            free = λ i a b. s.between i (omega (arith, room, a)) b ∙ l.free i a (omega (arith, b));
            rest = λ i a. s.above i (omega (arith, room, a, ok.head.mid, ok.head.high)) (omega (arith, a, on_top n lt_n)) ∙ l.rest i a;
          }
        where
          apart : (k : ℕ) → k ≢ n → ((24 + 4 * k + 1 < 24 + 4 * n) ⊎ (28 + 4 * n ≤ 24 + 4 * k)) × ((26 + 4 * k + 1 < 24 + 4 * n) ⊎ (28 + 4 * n ≤ 26 + 4 * k))
          apart k ne = ⊎_elim (λ t. (inr (omega (arith, t.1, ne)), inr (omega (arith, t.1, ne)))) (λ f. (inl (omega (arith, f.1)), inl (omega (arith, f.1)))) (leb_tells n k)

          kept : (page : List ℕ) (k : ℕ) → k < n → n < count p → length page ≡ 8192 → (lp_off (with_packed p n page) k ≡ lp_off page k) × (lp_len (with_packed p n page) k ≡ lp_len page k) × (lp_flags (with_packed p n page) k ≡ lp_flags page k)
          kept page k kn lt_n size =
              let s = step n page lt_n size in let room = in_lines n lt_n in
              from_words (with_packed p n page) page k 0 (s.words (24 + 4 * k) (inl (omega arith)) (omega (arith, room, kn))) (s.words (26 + 4 * k) (inl (omega arith)) (omega (arith, room, kn)))

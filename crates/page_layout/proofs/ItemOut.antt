-- A page after a line is taken out with its item.
use Rattle.std.proofs.Common.{◌≡◌, ◌≢◌, ℕ, ◌+◌, ◌-◌, ◌*◌, ◌/◌, ◌<◌, ◌≤◌, ◌==◌, ◌&&◌, ⊎_elim, List, Bool, true, false, length, refl, sym, ◌∙◌, ap, arith}
use Rattle.std.specs.Prelude.{nat_lt, if◌then◌else◌}
use Rattle.std.proofs.lemmas.Bool.Decides.{eqb_tells, nat_tests}
use Rattle.page_layout.specs.Bytes.{byte, up8}
use Rattle.page_layout.specs.Page.{pd_upper, pd_special, count, lp_off, lp_flags, lp_len, Head, IsFormed}
use Rattle.page_layout.specs.Deletes.{closed_up, without_item}
use Rattle.page_layout.proofs.ShapeLemmas.{held_in}
use Rattle.page_layout.proofs.ReadLemmas.{special_u16}
use Rattle.page_layout.proofs.ClosedUp.{ClosedUp, closed_up_is, moved_off}
use Rattle.page_layout.proofs.LineOut.{LineOut, line_out, skip, skip_below, count_out, off_out, len_out, flags_out, upper_out, special_out, head_out}

-- a page with as many lines
pub record Stays (p q : List ℕ) : Type 0 where
  pub size : length q ≡ 8192
  pub head : Head q
  pub lines : count q ≡ count p

-- the lines and items that a page ends with
pub record ItemOut (p : List ℕ) (k : ℕ) (q : List ℕ) : Type 0 where
  pub size : length q ≡ 8192
  pub head : Head q
  pub lines : count q ≡ count p - 1
  pub upper : pd_upper q ≡ pd_upper p + up8 (lp_len p k)
  pub special : pd_special q ≡ pd_special p
  pub low : (i : ℕ) → i < 12 → byte q i ≡ byte p i
  pub rest : (i : ℕ) → 16 ≤ i → i < 24 → byte q i ≡ byte p i
  pub off : (j : ℕ) → j < count q → lp_off q j ≡ moved_off (lp_off p k) (up8 (lp_len p k)) p (skip k j)
  pub len : (j : ℕ) → j < count q → lp_len q j ≡ lp_len p (skip k j)
  pub flags : (j : ℕ) → j < count q → lp_flags q j ≡ lp_flags p (skip k j)
  pub moved : (i : ℕ) → pd_upper q ≤ i → i < lp_off p k + up8 (lp_len p k) → byte q i ≡ byte p (i - up8 (lp_len p k))
  pub above : (i : ℕ) → pd_upper q ≤ i → lp_off p k + up8 (lp_len p k) ≤ i → byte q i ≡ byte p i

off_zero : (at len off : ℕ) → off ≡ (if nat_lt 0 len && nat_lt off at then off + 0 else off)
off_zero at len off = pick (nat_lt 0 len && nat_lt off at)
  where
    pick : (b : Bool) → off ≡ (if b then off + 0 else off)
    pick true = omega arith
    pick false = refl

module _ (p : List ℕ) (k : ℕ) (f : IsFormed p) (there : k < count p) where
  pub any_closed_up : ClosedUp p k (closed_up p k)
  any_closed_up = ⊎_elim
      (λ (t : ((lp_len p k == 0) ≡ true) × (lp_len p k ≡ 0)). none t.1)
      (λ (n : ((lp_len p k == 0) ≡ false) × (lp_len p k ≢ 0)). closed_up_is p k f there (omega (arith, n.1)))
      (eqb_tells (lp_len p k) 0)
    where
      none : lp_len p k ≡ 0 → ClosedUp p k (closed_up p k)
      none e =
          let no : nat_lt 0 (lp_len p k) ≡ false = grind (arith, nat_tests) in
          let z : up8 (lp_len p k) ≡ 0 = omega arith in
          rw no (record {
            size = f.size;
            lower = refl;
            upper = omega (arith, z);
            low = λ i lt. refl;
            head = λ i le lt. refl;
            off = λ j lt. rw z (off_zero (lp_off p k) (lp_len p j) (lp_off p j));
            len = λ j lt. refl;
            flags = λ j lt. refl;
            moved = λ i le lt. let same : i - up8 (lp_len p k) ≡ i = omega (arith, z) in ap (byte p) (sym same);
            above = λ i le. refl;
          })

  abbrev c : List ℕ
  c = closed_up p k

  special_c : pd_special c ≡ pd_special p
  special_c = special_u16 c ∙ (λ t. any_closed_up.head 16 (omega arith) (omega arith) t + 256 * any_closed_up.head 17 (omega arith) (omega arith) t) ∙ sym (special_u16 p)

  high : pd_upper p + up8 (lp_len p k) ≤ pd_special p
  high = ⊎_elim
      (λ (t : ((lp_len p k == 0) ≡ true) × (lp_len p k ≡ 0)). omega (arith, t.1, f.head.high))
      (λ (n : ((lp_len p k == 0) ≡ false) × (lp_len p k ≢ 0)). let i = held_in p k f there (omega (arith, n.1)) in omega (arith, i.from, i.held))
      (eqb_tells (lp_len p k) 0)

  head_c : Head c
  head_c =
      let u = any_closed_up in
      record {
        low = rw u.lower f.head.low;
        mid = omega (arith, u.lower, u.upper, f.head.mid);
        high = omega (arith, u.upper, special_c, high);
        top = rw special_c f.head.top;
        by4 = rw u.lower f.head.by4;
        by8 = omega (arith, u.upper, f.head.by8);
        special8 = rw special_c f.head.special8;
        layout = (λ t. u.head 18 (omega arith) (omega arith) t + 256 * u.head 19 (omega arith) (omega arith) t) ∙ f.head.layout;
      }

  count_c : count c ≡ count p
  count_c = ap (λ n. (n - 24) / 4) any_closed_up.lower

  pub closed_up_stays : Stays p (closed_up p k)
  closed_up_stays = record { size = any_closed_up.size; head = head_c; lines = count_c }

  out : LineOut c k (without_item p k)
  out = line_out c k any_closed_up.size head_c (omega (arith, there, count_c))

  there_c : k < count c
  there_c = omega (arith, there, count_c)

  pub item_out : ItemOut p k (without_item p k)
  item_out = record {
    size = out.size;
    head = head_out c k (without_item p k) head_c there_c out;
    lines = lines;
    upper = upper;
    special = special_out c k (without_item p k) head_c there_c out ∙ special_c;
    low = λ i lt. out.low i lt ∙ any_closed_up.low i (omega arith);
    rest = λ i le lt. out.head i (omega arith) lt ∙ any_closed_up.head i le lt;
    off = λ j lt. off_out c k (without_item p k) head_c there_c out j lt ∙ any_closed_up.off (skip k j) (old j lt);
    len = λ j lt. len_out c k (without_item p k) head_c there_c out j lt ∙ any_closed_up.len (skip k j) (old j lt);
    flags = λ j lt. flags_out c k (without_item p k) head_c there_c out j lt ∙ any_closed_up.flags (skip k j) (old j lt);
    moved = λ i le lt. out.rest i (omega (arith, upper, le, any_closed_up.lower, f.head.mid)) ∙ any_closed_up.moved i (omega (arith, upper, le)) lt;
    above = λ i le lt. out.rest i (omega (arith, upper, le, any_closed_up.lower, f.head.mid)) ∙ any_closed_up.above i lt;
  }
    where
      lines : count (without_item p k) ≡ count p - 1
      lines = count_out c k (without_item p k) head_c there_c out ∙ ap (λ n. n - 1) count_c

      upper : pd_upper (without_item p k) ≡ pd_upper p + up8 (lp_len p k)
      upper = upper_out c k (without_item p k) head_c there_c out ∙ any_closed_up.upper

      old : (j : ℕ) → j < count (without_item p k) → skip k j < count p
      old j lt = skip_below k j (count p) (omega (arith, lt, lines))

-- The lines and items of a page after an item was added with the later lines moved up.
use Rattle.std.proofs.Common.{◌≡◌, ◌≢◌, ℕ, ◌+◌, ◌-◌, ◌*◌, ◌%◌, ◌<◌, ◌≤◌, ◌==◌, inr, ⊎_elim, List, true, false, length, sym, ◌∙◌, ap, subst, arith}
use Rattle.std.specs.Prelude.{if◌then◌else◌, nat_lt, nat_le}
use Rattle.std.proofs.lemmas.Bool.Decides.{nat_tests, eqb_tells, leb_tells}
use Rattle.std.proofs.lemmas.List.{ext_get_or}
use Rattle.page_layout.specs.Bytes.{byte, u16_at, up8, cut}
use Rattle.page_layout.specs.Page.{pd_lower, pd_upper, pd_special, count, lp_off, lp_flags, lp_len, item, line_fits, IsFormed}
use Rattle.page_layout.specs.Edits.{opened_at, added_at}
use Rattle.page_layout.proofs.BytesLemmas.{length-cut, byte-cut}
use Rattle.page_layout.proofs.ReadLemmas.{off_same, len_same, flags_same}
use Rattle.page_layout.proofs.ShapeLemmas.{lines_below, held_in}
use Rattle.page_layout.proofs.ItemsStay.{fits_in}
use Rattle.page_laws.specs.Views.{InsertsItem}
use Rattle.page_laws.proofs.AddedBytes.{added_off, added_len, added_flags, added_item}
use Rattle.page_laws.proofs.InsertViews.{Inserts, room, upper_is, inserted_size, inserted_head, inserted_before, inserted_after, inserted_back, inserted_lower, inserted_upper, inserted_special, inserted_count, lays}

-- the old index of line j beside the new line k
abbrev pub behind : ℕ → ℕ → ℕ
behind k j = if nat_lt j k then j else j - 1

pub behind_below : (k j n : ℕ) → k ≤ n → j ≢ k → j < n + 1 → behind k j < n
behind_below k j n le ne lt = ⊎_elim
    (λ (t : (nat_le k j ≡ true) × (k ≤ j)). let no : nat_lt j k ≡ false = grind (arith, nat_tests, t.1) in rw no (omega (arith, t.1, ne, lt)))
    (λ (f : (nat_le k j ≡ false) × (j < k)). let sure : nat_lt j k ≡ true = grind (arith, nat_tests, f.1) in rw sure (omega (arith, f.1, le)))
    (leb_tells k j)

module _ (p bytes : List ℕ) (k : ℕ) (a : Inserts p bytes k) where
  abbrev f : IsFormed p
  f = a.formed

  abbrev len : ℕ
  len = length bytes

  abbrev upper : ℕ
  upper = pd_upper p - up8 len

  abbrev new : List ℕ
  new = added_at (opened_at p k) bytes k (pd_lower p + 4) upper

  top : pd_upper p ≤ 8192
  top = omega (arith, f.head.high, f.head.top)

  lower_room : pd_lower p + 4 ≤ upper
  lower_room = room p bytes k a

  pub old_line : (j : ℕ) → j ≢ k → j < count new → behind k j < count p
  old_line j ne lt = behind_below k j (count p) a.place ne (omega (arith, lt, inserted_count p bytes k a))

  line_u16 : (j e : ℕ) → e ≤ 2 → j ≢ k → j < count new → u16_at new (24 + e + 4 * j) ≡ u16_at p (24 + e + 4 * behind k j)
  line_u16 j e small_e ne lt = ⊎_elim
      (λ (t : (nat_le k j ≡ true) × (k ≤ j)).
      let no : nat_lt j k ≡ false = grind (arith, nat_tests, t.1) in
      let past : k < j = omega (arith, t.1, ne) in
      let room_j : 28 + 4 * j ≤ pd_lower p + 4 = omega (arith, lt, inserted_count p bytes k a, f.head.low, f.head.by4) in
      let x : 24 + e + 4 * j - 4 ≡ 24 + e + 4 * (j - 1) = omega (arith, past) in
      let y : 24 + e + 4 * j + 1 - 4 ≡ 24 + e + 4 * (j - 1) + 1 = omega (arith, past) in
      let u = inserted_after p bytes k a (24 + e + 4 * j) (omega (arith, past)) (omega (arith, room_j, small_e)) ∙ ap (byte p) x in
      let v = inserted_after p bytes k a (24 + e + 4 * j + 1) (omega (arith, past)) (omega (arith, room_j, small_e)) ∙ ap (byte p) y in
      rw no (λ s. u s + 256 * v s))
      (λ (h : (nat_le k j ≡ false) × (j < k)).
      let sure : nat_lt j k ≡ true = grind (arith, nat_tests, h.1) in
      let u = inserted_before p bytes k a (24 + e + 4 * j) (omega arith) (omega (arith, h.1, small_e)) in
      let v = inserted_before p bytes k a (24 + e + 4 * j + 1) (omega arith) (omega (arith, h.1, small_e)) in
      rw sure (λ s. u s + 256 * v s))
      (leb_tells k j)

  pub moved_off : (j : ℕ) → j ≢ k → j < count new → lp_off new j ≡ lp_off p (behind k j)
  moved_off j ne lt = off_same new p j (behind k j) (line_u16 j 0 (omega arith) ne lt)

  pub moved_len : (j : ℕ) → j ≢ k → j < count new → lp_len new j ≡ lp_len p (behind k j)
  moved_len j ne lt = len_same new p j (behind k j) (line_u16 j 2 (omega arith) ne lt)

  pub moved_flags : (j : ℕ) → j ≢ k → j < count new → lp_flags new j ≡ lp_flags p (behind k j)
  moved_flags j ne lt = flags_same new p j (behind k j) (line_u16 j 0 (omega arith) ne lt) (line_u16 j 2 (omega arith) ne lt)

  pub new_off : lp_off new k ≡ upper
  new_off = added_off (opened_at p k) bytes k (pd_lower p + 4) upper (lays p bytes k a)

  pub new_len : lp_len new k ≡ len
  new_len = added_len (opened_at p k) bytes k (pd_lower p + 4) upper (lays p bytes k a)

  pub new_flags : lp_flags new k ≡ 1
  new_flags = added_flags (opened_at p k) bytes k (pd_lower p + 4) upper (lays p bytes k a)

  pub new_item : item new k ≡ bytes
  new_item = added_item (opened_at p k) bytes k (pd_lower p + 4) upper (lays p bytes k a)

  pub moved_item : (j : ℕ) → j ≢ k → j < count new → 0 < lp_len p (behind k j) → item new j ≡ item p (behind k j)
  moved_item j ne lt some =
      let i = held_in p (behind k j) f (old_line j ne lt) some in
      let whole : lp_off p (behind k j) + lp_len p (behind k j) ≤ 8192 = omega (arith, i.to, f.head.top) in
      rw (moved_off j ne lt, moved_len j ne lt) (ext_get_or 0 (cut new (lp_off p (behind k j)) (lp_len p (behind k j))) (item p (behind k j))
      (length-cut new (lp_off p (behind k j)) (lp_len p (behind k j)) (omega (arith, inserted_size p bytes k a, whole)) ∙ sym (length-cut p (lp_off p (behind k j)) (lp_len p (behind k j)) (omega (arith, f.size, whole))))
      (λ o lt_o.
      let small_o : o < lp_len p (behind k j) = omega (arith, lt_o, length-cut new (lp_off p (behind k j)) (lp_len p (behind k j)) (omega (arith, inserted_size p bytes k a, whole))) in
      byte-cut new (lp_off p (behind k j)) (lp_len p (behind k j)) o small_o ∙ inserted_back p bytes k a (lp_off p (behind k j) + o) (omega (arith, i.from)) ∙ sym (byte-cut p (lp_off p (behind k j)) (lp_len p (behind k j)) o small_o)))

  line_stays : (j : ℕ) → j < count new → line_fits new j ≡ true
  line_stays j lt = fits_in new j (λ some. ⊎_elim
      (λ (t : ((j == k) ≡ true) × (j ≡ k)).
      subst (λ x. (pd_upper new ≤ lp_off new x) × (lp_off new x + lp_len new x ≤ pd_special new) × (lp_off new x % 8 ≡ 0)) (sym t.1)
      (omega (arith, inserted_upper p bytes k a, new_off), omega (arith, new_off, new_len, inserted_special p bytes k a, upper_is p bytes k a, f.head.high), omega (arith, new_off, upper_is p bytes k a, f.head.by8)))
      (λ (n : ((j == k) ≡ false) × (j ≢ k)).
      let i = held_in p (behind k j) f (old_line j n.1 lt) (omega (arith, some, moved_len j n.1 lt)) in
      (omega (arith, inserted_upper p bytes k a, moved_off j n.1 lt, i.from, upper_is p bytes k a), omega (arith, moved_off j n.1 lt, moved_len j n.1 lt, inserted_special p bytes k a, i.to), rw (moved_off j n.1 lt) i.by8))
      (eqb_tells j k))

  pub inserted_formed : IsFormed new
  inserted_formed = record {
    size = inserted_size p bytes k a;
    head = record {
      low = omega (arith, inserted_lower p bytes k a);
      mid = omega (arith, inserted_lower p bytes k a, inserted_upper p bytes k a, lower_room);
      high = omega (arith, inserted_upper p bytes k a, inserted_special p bytes k a, upper_is p bytes k a, f.head.high);
      top = rw (inserted_special p bytes k a) f.head.top;
      by4 = omega (arith, inserted_lower p bytes k a, f.head.by4);
      by8 = omega (arith, inserted_upper p bytes k a, upper_is p bytes k a, f.head.by8);
      special8 = rw (inserted_special p bytes k a) f.head.special8;
      layout = (λ t. inserted_head p bytes k a 18 (inr (omega arith)) (omega arith) t + 256 * inserted_head p bytes k a 19 (inr (omega arith)) (omega arith) t) ∙ f.head.layout;
    };
    lines = lines_below new (count new) line_stays;
  }

  pub inserts_item : InsertsItem p k bytes new
  inserts_item = record {
    formed = inserted_formed;
    lines = inserted_count p bytes k a;
    there = omega (arith, inserted_count p bytes k a, a.place);
    normal = new_flags;
    len = new_len;
    held = new_item;
    others = λ j ne lt. record { flags = moved_flags j ne lt; len = moved_len j ne lt; item = λ some. moved_item j ne lt some };
  }

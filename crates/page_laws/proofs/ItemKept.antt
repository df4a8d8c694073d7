-- An item is as it was after another was taken out.
use Rattle.std.proofs.Common.{◌≡◌, ◌≢◌, ℕ, ◌+◌, ◌-◌, ◌<◌, ◌≤◌, ◌==◌, ◌&&◌, ◌⊎◌, inl, inr, ⊎_elim, List, Bool, true, false, length, refl, sym, ◌∙◌, ap, subst, arith}
use Rattle.std.specs.Prelude.{if◌then◌else◌, nat_lt, nat_le}
use Rattle.std.proofs.lemmas.Bool.Decides.{nat_tests, eqb_tells, leb_tells}
use Rattle.std.proofs.lemmas.List.{ext_get_or}
use Rattle.page_layout.specs.Bytes.{byte, cut, up8}
use Rattle.page_layout.specs.Page.{pd_lower, pd_upper, pd_special, count, lp_off, lp_len, item, IsFormed}
use Rattle.page_layout.specs.Apart.{AreApart}
use Rattle.page_layout.specs.Edits.{added_at, added, add_refusal, add_item, lower_after}
use Rattle.page_laws.proofs.AddResult.{adds_at}
use Rattle.page_laws.proofs.Refused.{OkPage, accepted}
use Rattle.page_layout.specs.Pack.{total, packed}
use Rattle.page_layout.specs.Deletes.{without_item}
use Rattle.page_layout.proofs.BytesLemmas.{length-cut, byte-cut}
use Rattle.page_layout.proofs.ShapeLemmas.{held_in}
use Rattle.page_layout.proofs.LineOut.{skip, skip_below}
use Rattle.page_layout.proofs.ItemOut.{ItemOut, item_out}
use Rattle.page_layout.proofs.ItemsStay.{formed_without, apart_without}
use Rattle.page_laws.specs.Views.{KeepsItems, GainsItem, LosesItem}
use Rattle.page_laws.proofs.AddViews.{Adds, added_formed, kept_flags, kept_len, kept_item, old_or_new, lays}
use Rattle.page_laws.proofs.AddedBytes.{added_flags, added_len, added_item, added_there}
use Rattle.page_laws.proofs.PackLaw.{packed_formed, packed_count, packed_flags, packed_len, packed_item}

skip_not : (k j : ℕ) → skip k j ≢ k
skip_not k j e = grind (arith, nat_tests)

module _ (p : List ℕ) (k : ℕ) (f : IsFormed p) (there : k < count p) (apart : AreApart p) where
  abbrev q : List ℕ
  q = without_item p k

  abbrev size : ℕ
  size = up8 (lp_len p k)

  o : ItemOut p k q
  o = item_out p k f there

  g : IsFormed q
  g = formed_without p k f there apart

  beside : (i : ℕ) → i < count p → i ≢ k → 0 < lp_len p i → (size ≡ 0) ⊎ ((lp_off p i + up8 (lp_len p i) ≤ lp_off p k) ⊎ (lp_off p k + size ≤ lp_off p i))
  beside i lt ne some = ⊎_elim
      (λ (t : ((lp_len p k == 0) ≡ true) × (lp_len p k ≡ 0)). inl (omega (arith, t.1)))
      (λ (n : ((lp_len p k == 0) ≡ false) × (lp_len p k ≢ 0)). let some_k : 0 < lp_len p k = omega (arith, n.1) in inr (⊎_elim
      (λ (t : (nat_le k i ≡ true) × (k ≤ i)). ⊎_elim (λ l. inr l) (λ r. inl r) (apart k i (omega (arith, t.1, ne)) lt some_k some))
      (λ (b : (nat_le k i ≡ false) × (i < k)). apart i k b.1 there some some_k)
      (leb_tells k i)))
      (eqb_tells (lp_len p k) 0)

  -- byte n of the item that was at line i
  moved_byte : (i n : ℕ) (b : Bool) → (nat_lt 0 (lp_len p i) && nat_lt (lp_off p i) (lp_off p k)) ≡ b → i < count p → i ≢ k → 0 < lp_len p i → n < lp_len p i
      → pd_upper q ≤ (if b then lp_off p i + size else lp_off p i) + n → byte q ((if b then lp_off p i + size else lp_off p i) + n) ≡ byte p (lp_off p i + n)
  moved_byte i n true e lt ne some small le =
      let before : lp_off p i < lp_off p k = grind (arith, nat_tests, e) in
      let back : lp_off p i + size + n - size ≡ lp_off p i + n = omega arith in
      ⊎_elim
      (λ (z : size ≡ 0). let same : lp_off p i + size + n ≡ lp_off p i + n = omega (arith, z) in ⊎_elim
      (λ (t : (nat_le (lp_off p k + size) (lp_off p i + size + n) ≡ true) × (lp_off p k + size ≤ lp_off p i + size + n)). o.above (lp_off p i + size + n) le t.1 ∙ ap (byte p) same)
      (λ (u : (nat_le (lp_off p k + size) (lp_off p i + size + n) ≡ false) × (lp_off p i + size + n < lp_off p k + size)). o.moved (lp_off p i + size + n) le u.1 ∙ ap (byte p) back)
      (leb_tells (lp_off p k + size) (lp_off p i + size + n)))
      (λ (either : (lp_off p i + up8 (lp_len p i) ≤ lp_off p k) ⊎ (lp_off p k + size ≤ lp_off p i)).
      let low : lp_off p i + size + n < lp_off p k + size = ⊎_elim (λ (l : lp_off p i + up8 (lp_len p i) ≤ lp_off p k). omega (arith, l, small)) (λ (r : lp_off p k + size ≤ lp_off p i). omega (arith, r, before)) either in
      o.moved (lp_off p i + size + n) le low ∙ ap (byte p) back)
      (beside i lt ne some)
  moved_byte i n false e lt ne some small le =
      let past : lp_off p k ≤ lp_off p i = grind (arith, nat_tests, e) in
      let high : lp_off p k + size ≤ lp_off p i + n = ⊎_elim (λ (z : size ≡ 0). omega (arith, z, past)) (λ (either : (lp_off p i + up8 (lp_len p i) ≤ lp_off p k) ⊎ (lp_off p k + size ≤ lp_off p i)).
      ⊎_elim (λ (l : lp_off p i + up8 (lp_len p i) ≤ lp_off p k). omega (arith, l, past, some)) (λ (r : lp_off p k + size ≤ lp_off p i). omega (arith, r)) either) (beside i lt ne some) in
      o.above (lp_off p i + n) le high

  kept : (j : ℕ) → j < count q → 0 < lp_len p (skip k j) → item q j ≡ item p (skip k j)
  kept j lt some =
      let i = skip k j in
      let lt_i : i < count p = skip_below k j (count p) (omega (arith, lt, o.lines)) in
      let new = held_in q j g lt (omega (arith, some, o.len j lt)) in
      let old = held_in p i f lt_i some in
      let fits_q : lp_off q j + lp_len p i ≤ length q = omega (arith, new.to, o.len j lt, g.head.top, g.size) in
      let fits_p : lp_off p i + lp_len p i ≤ length p = omega (arith, old.to, f.head.top, f.size) in
      ap (cut q (lp_off q j)) (o.len j lt) ∙ ext_get_or 0 (cut q (lp_off q j) (lp_len p i)) (item p i) (length-cut q (lp_off q j) (lp_len p i) fits_q ∙ sym (length-cut p (lp_off p i) (lp_len p i) fits_p))
      (λ n lt_n.
      let small : n < lp_len p i = omega (arith, lt_n, length-cut q (lp_off q j) (lp_len p i) fits_q) in
      byte-cut q (lp_off q j) (lp_len p i) n small ∙ ap (λ a. byte q (a + n)) (o.off j lt)
      ∙ moved_byte i n (nat_lt 0 (lp_len p i) && nat_lt (lp_off p i) (lp_off p k)) refl lt_i (skip_not k j) some small (omega (arith, new.from, o.off j lt))
      ∙ sym (byte-cut p (lp_off p i) (lp_len p i) n small))

  pub loses_item : LosesItem p k q
  loses_item = record {
    formed = g;
    apart = apart_without p k f there apart;
    lines = o.lines;
    items = λ j lt. record { flags = o.flags j lt; len = o.len j lt; item = λ some. kept j lt some };
  }

pub pack_keeps : (p : List ℕ) → IsFormed p → pd_lower p + total p (count p) ≤ pd_special p → KeepsItems p (packed p)
pack_keeps p f room = record {
  formed = packed_formed p f room;
  lines = packed_count p f room;
  items = λ k lt. record { flags = packed_flags p f room k lt; len = packed_len p f room k lt; item = λ some. packed_item p f room k lt some };
}

pub add_gains : (p bytes : List ℕ) (k lower upper : ℕ) → Adds p bytes k lower upper → GainsItem p k bytes (added_at p bytes k lower upper)
add_gains p bytes k lower upper a = record {
  formed = added_formed p bytes k lower upper a;
  there = added_there p bytes k lower upper (lays p bytes k lower upper a);
  normal = added_flags p bytes k lower upper (lays p bytes k lower upper a);
  len = added_len p bytes k lower upper (lays p bytes k lower upper a);
  held = added_item p bytes k lower upper (lays p bytes k lower upper a);
  others = λ j ne lt. let old = old_or_new p bytes k lower upper a j lt ne in
      record { flags = kept_flags p bytes k lower upper a j ne old; len = kept_len p bytes k lower upper a j ne old; item = λ some. kept_item p bytes k lower upper a j ne old some };
}

pub add_keeps : (p bytes r : List ℕ) (place : ℕ) → IsFormed p → add_item p bytes place true ≡ OkPage r → GainsItem p (place - 1) bytes r
add_keeps p bytes r place f e =
    let a = accepted (add_refusal p (length bytes) place true) (added p bytes place true) r e in
    let l = adds_at p bytes place f a.0 in
    subst (GainsItem p (place - 1) bytes) (sym l.is ∙ a.1) (add_gains p bytes (place - 1) (lower_after p place true) (pd_upper p - up8 (length bytes)) l.adds)

-- Lines of B-tree pages that look alike, after one is taken out.
use Rattle.std.proofs.Common.{◌≡◌, ℕ, ◌+◌, ◌-◌, ◌*◌, ◌/◌, ◌%◌, ◌<◌, ◌≤◌, ◌==◌, ⊎_elim, List, Bool, true, false, length, refl, sym, ◌∙◌, ap, arith}
use Rattle.std.specs.Prelude.{nat_le}
use Rattle.std.proofs.lemmas.Bool.Decides.{leb_tells}
use Rattle.layout.specs.Splice.{splice}
use Rattle.page_layout.specs.Bytes.{byte, u16_bytes, cut}
use Rattle.page_layout.specs.Page.{pd_lower, count, Head}
use Rattle.page_layout.specs.Deletes.{without_line}
use Rattle.layout.proofs.SpliceLemmas.{length-splice, byte-splice_in}
use Rattle.page_layout.proofs.BytesLemmas.{length-cut}
use Rattle.page_layout.proofs.LineOut.{LineOut, line_out, upper_out}
use Rattle.page_masks.specs.Mask.{is_leaf, shown_line, shown_flags}
use Rattle.page_laws.proofs.BtreeAlike.{BtreeAlike, lower_same, count_same}

-- a line moved by one looks the same
pub shown_next : (leaf : Bool) (i b : ℕ) → shown_line leaf (i + 4) b ≡ shown_line leaf i b
shown_next leaf i b = let e : (i + 4) % 4 ≡ i % 4 = omega arith in rw e refl

-- where the lines end once one is out
out_bound : (p : List ℕ) (k i : ℕ) → length p ≡ 8192 → Head p → k < count p → 12 ≤ i → i < 14 → byte (without_line p k) i ≡ byte (u16_bytes (pd_lower p - 4)) (i - 12)
out_bound p k i size h there le lt =
    let room : 28 + 4 * k ≤ pd_lower p = omega (arith, there, h.low, h.by4) in
    let n = length-cut p (28 + 4 * k) (pd_lower p - (28 + 4 * k)) (omega (arith, room, size, h.mid, h.high, h.top)) in
    let m = length-splice p (24 + 4 * k) (cut p (28 + 4 * k) (pd_lower p - (28 + 4 * k))) (omega (arith, n, room, size, h.mid, h.high, h.top)) in
    byte-splice_in (splice p (24 + 4 * k) (cut p (28 + 4 * k) (pd_lower p - (28 + 4 * k)))) 12 (u16_bytes (pd_lower p - 4)) i (omega (arith, m, size)) le lt

-- a line taken out
module _ (p q : List ℕ) (size_p : length p ≡ 8192) (size_q : length q ≡ 8192) (hp : Head p) (hq : Head q) (k : ℕ) (there : k < count p) (a : BtreeAlike p q) where
  there_q : k < count q
  there_q = omega (arith, there, count_same p q a)

  op : LineOut p k (without_line p k)
  op = line_out p k size_p hp there

  oq : LineOut q k (without_line q k)
  oq = line_out q k size_q hq there_q

  lowers : pd_lower p ≡ pd_lower q
  lowers = lower_same p q a

  end : (i : ℕ) → 8188 ≤ i → (byte (without_line p k) i ≡ byte p i) × (byte (without_line q k) i ≡ byte q i)
  end i le = (op.rest i (omega (arith, le, hp.mid, hp.high, hp.top)), oq.rest i (omega (arith, le, hq.mid, hq.high, hq.top)))

  pub line_out_alike : BtreeAlike (without_line p k) (without_line q k)
  line_out_alike = record {
    ten = (λ t. op.low 10 (omega arith) t / 8 * 8) ∙ a.ten ∙ (λ t. sym (oq.low 10 (omega arith)) t / 8 * 8);
    head = λ i le lt. ⊎_elim
        (λ (x : (nat_le 14 i ≡ true) × (14 ≤ i)). op.head i x.1 (omega (arith, lt)) ∙ a.head i le lt ∙ sym (oq.head i x.1 (omega (arith, lt))))
        (λ (y : (nat_le 14 i ≡ false) × (i < 14)). ⊎_elim
        (λ (x : (nat_le 12 i ≡ true) × (12 ≤ i)). out_bound p k i size_p hp there x.1 y.1 ∙ ap (λ n. byte (u16_bytes (n - 4)) (i - 12)) lowers ∙ sym (out_bound q k i size_q hq there_q x.1 y.1))
        (λ (z : (nat_le 12 i ≡ false) × (i < 12)). op.low i z.1 ∙ a.head i le lt ∙ sym (oq.low i z.1))
        (leb_tells 12 i))
        (leb_tells 14 i);
    lines = λ i le lt. ap (λ n. shown_line (n % 2 == 1) i (byte (without_line p k) i)) (end 8188 (omega arith)).0 ∙ line i le (omega (arith, lt, op.lower)) ∙ ap (λ n. shown_line (n % 2 == 1) i (byte (without_line q k) i)) (sym (end 8188 (omega arith)).0);
    items = λ i le lt. op.rest i (omega (arith, le, upper_out p k (without_line p k) hp there op, hp.mid)) ∙ a.items i (omega (arith, le, upper_out p k (without_line p k) hp there op)) lt
        ∙ sym (oq.rest i (omega (arith, le, upper_out p k (without_line p k) hp there op, hp.mid, lowers)));
    flags = ap shown_flags (end 8188 (omega arith)).0 ∙ a.flags ∙ ap shown_flags (sym (end 8188 (omega arith)).1);
    last = (end 8189 (omega arith)).0 ∙ a.last ∙ sym (end 8189 (omega arith)).1;
  }
    where
      line : (i : ℕ) → 24 ≤ i → i < pd_lower p - 4 → shown_line (is_leaf p) i (byte (without_line p k) i) ≡ shown_line (is_leaf p) i (byte (without_line q k) i)
      line i le lt = ⊎_elim
          (λ (x : (nat_le (24 + 4 * k) i ≡ true) × (24 + 4 * k ≤ i)). ap (shown_line (is_leaf p) i) (op.after i x.1 lt) ∙ sym (shown_next (is_leaf p) i (byte p (i + 4))) ∙ a.lines (i + 4) (omega (arith, le)) (omega (arith, lt))
          ∙ shown_next (is_leaf p) i (byte q (i + 4)) ∙ ap (shown_line (is_leaf p) i) (sym (oq.after i x.1 (omega (arith, lt, lowers)))))
          (λ (y : (nat_le (24 + 4 * k) i ≡ false) × (i < 24 + 4 * k)). ap (shown_line (is_leaf p) i) (op.before i le y.1) ∙ a.lines i le (omega (arith, lt)) ∙ ap (shown_line (is_leaf p) i) (sym (oq.before i le y.1)))
          (leb_tells (24 + 4 * k) i)

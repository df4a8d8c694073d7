-- Changes of a special space that what is shown of it determines.
use Rattle.std.proofs.Common.{◌≡◌, ◌≢◌, ℕ, ◌+◌, ◌-◌, ◌%◌, ◌<◌, ◌≤◌, ◌&&◌, inl, inr, ⊎_elim, List, [], ◌∷◌, true, false, length, sym, ◌∙◌, ap, arith}
use Rattle.std.specs.Prelude.{if◌then◌else◌, nat_lt, nat_le}
use Rattle.std.proofs.lemmas.Bool.Decides.{leb_tells}
use Rattle.layout.specs.Splice.{splice}
use Rattle.page_layout.specs.Bytes.{byte, with_u16, u16_bytes}
use Rattle.layout.proofs.SpliceLemmas.{length-splice, byte-splice, byte-splice_in, byte-splice_out, byte-splice_below, byte-splice_above}
use Rattle.page_layout.proofs.LineViews.{u16_at-with_u16}
use Rattle.page_masks.specs.Mask.{shown_flags}
use Rattle.page_laws.specs.Btree.{SpecialChange, StaysLeaf}
use Rattle.page_laws.proofs.BtreeSpecial.{same_special, special_same}

-- bytes laid over links and level
module _ (at : ℕ) (bytes : List ℕ) (low : at + length bytes ≤ 12) where
  abbrev laid : List ℕ → List ℕ
  laid x = splice x at bytes

  fits : (x : List ℕ) → length x ≡ 16 → at + length bytes ≤ length x
  fits x size = omega (arith, size, low)

  above : (x : List ℕ) → length x ≡ 16 → (i : ℕ) → 12 ≤ i → byte (laid x) i ≡ byte x i
  above x size i le = byte-splice_above x at bytes i (fits x size) (omega (arith, le, low))

  laid_size : (x : List ℕ) → length x ≡ 16 → length (laid x) ≡ 16
  laid_size x size = length-splice x at bytes (fits x size) ∙ size

  pub link_change : SpecialChange (λ x. splice x at bytes)
  link_change = record {
    size = laid_size;
    shown = λ x y sx sy e. let s = same_special x y sx sy e in special_same (laid x) (laid y) (laid_size x sx) (laid_size y sy) (record {
      plain = λ i lt ne. byte-splice x at bytes i (fits x sx) ∙ (λ t. if nat_le at i && nat_lt i (at + length bytes) then byte bytes (i - at) else s.plain i lt ne t) ∙ sym (byte-splice y at bytes i (fits y sy));
      flags = ap shown_flags (above x sx 12 (omega arith)) ∙ s.flags ∙ ap shown_flags (sym (above y sy 12 (omega arith)));
    });
    cycle = λ x sx le. omega (arith, above x sx 14 (omega arith), above x sx 15 (omega arith), le);
  }

  pub link_leaf : StaysLeaf (λ x. splice x at bytes)
  link_leaf = λ x sx odd. ap (λ b. b % 2) (above x sx 12 (omega arith)) ∙ odd

-- flags by the flags that are shown
module _ (f : ℕ → ℕ) (same : (b c : ℕ) → shown_flags b ≡ shown_flags c → shown_flags (f b) ≡ shown_flags (f c)) where
  abbrev flagged : List ℕ → List ℕ
  flagged x = splice x 12 (f (byte x 12) ∷ [])

  flagged_size : (x : List ℕ) → length x ≡ 16 → length (flagged x) ≡ 16
  flagged_size x size = length-splice x 12 (f (byte x 12) ∷ []) (omega (arith, size)) ∙ size

  flagged_out : (x : List ℕ) → length x ≡ 16 → (i : ℕ) → i ≢ 12 → byte (flagged x) i ≡ byte x i
  flagged_out x size i ne = byte-splice_out x 12 (f (byte x 12) ∷ []) i (omega (arith, size))
      (⊎_elim (λ (t : (nat_le 12 i ≡ true) × (12 ≤ i)). inr (omega (arith, t.1, ne))) (λ (g : (nat_le 12 i ≡ false) × (i < 12)). inl g.1) (leb_tells 12 i))

  flagged_at : (x : List ℕ) → length x ≡ 16 → byte (flagged x) 12 ≡ f (byte x 12)
  flagged_at x size = byte-splice_in x 12 (f (byte x 12) ∷ []) 12 (omega (arith, size)) (omega arith) (omega arith)

  pub flags_change : SpecialChange (λ x. splice x 12 (f (byte x 12) ∷ []))
  flags_change = record {
    size = flagged_size;
    shown = λ x y sx sy e. let s = same_special x y sx sy e in special_same (flagged x) (flagged y) (flagged_size x sx) (flagged_size y sy) (record {
      plain = λ i lt ne. flagged_out x sx i ne ∙ s.plain i lt ne ∙ sym (flagged_out y sy i ne);
      flags = ap shown_flags (flagged_at x sx) ∙ same (byte x 12) (byte y 12) s.flags ∙ ap shown_flags (sym (flagged_at y sy));
    });
    cycle = λ x sx le. omega (arith, flagged_out x sx 14 (λ (e : 14 ≡ 12). omega (arith, e)), flagged_out x sx 15 (λ (e : 15 ≡ 12). omega (arith, e)), le);
  }

-- another cycle id
module _ (n : ℕ) (small : n ≤ 0xFF7F) where
  abbrev cycled : List ℕ → List ℕ
  cycled x = with_u16 x 14 n

  cycled_size : (x : List ℕ) → length x ≡ 16 → length (cycled x) ≡ 16
  cycled_size x size = length-splice x 14 (u16_bytes n) (omega (arith, size)) ∙ size

  cycled_below : (x : List ℕ) → length x ≡ 16 → (i : ℕ) → i < 14 → byte (cycled x) i ≡ byte x i
  cycled_below x size i lt = byte-splice_below x 14 (u16_bytes n) i (omega (arith, size)) lt

  pub cycle_change : SpecialChange (λ x. with_u16 x 14 n)
  cycle_change = record {
    size = cycled_size;
    shown = λ x y sx sy e. let s = same_special x y sx sy e in special_same (cycled x) (cycled y) (cycled_size x sx) (cycled_size y sy) (record {
      plain = λ i lt ne. cycled_below x sx i lt ∙ s.plain i lt ne ∙ sym (cycled_below y sy i lt);
      flags = ap shown_flags (cycled_below x sx 12 (omega arith)) ∙ s.flags ∙ ap shown_flags (sym (cycled_below y sy 12 (omega arith)));
    });
    cycle = λ x sx le. omega (arith, u16_at-with_u16 x 14 n (omega (arith, sx)), small);
  }

  pub cycle_leaf : StaysLeaf (λ x. with_u16 x 14 n)
  cycle_leaf = λ x sx odd. ap (λ b. b % 2) (cycled_below x sx 12 (omega arith)) ∙ odd

pub both_change : (f g : List ℕ → List ℕ) → SpecialChange f → SpecialChange g → SpecialChange (λ x. g (f x))
both_change f g a b = record {
  size = λ x s. b.size (f x) (a.size x s);
  shown = λ x y sx sy e. b.shown (f x) (f y) (a.size x sx) (a.size y sy) (a.shown x y sx sy e);
  cycle = λ x s le. b.cycle (f x) (a.size x s) (a.cycle x s le);
}

pub links : (at : ℕ) (bytes : List ℕ) → at + length bytes ≤ 12 → SpecialChange (λ x. splice x at bytes) × StaysLeaf (λ x. splice x at bytes)
links at bytes low = (link_change at bytes low, link_leaf at bytes low)

pub cycles : (n : ℕ) → n ≤ 0xFF7F → SpecialChange (λ x. with_u16 x 14 n) × StaysLeaf (λ x. with_u16 x 14 n)
cycles n small = (cycle_change n small, cycle_leaf n small)

-- Changes of the special space that redo makes: what is shown of it determines them.
use Rattle.std.proofs.Common.{◌≡◌, ℕ, ◌+◌, ◌-◌, ◌*◌, ◌/◌, ◌%◌, ◌<◌, ◌≤◌, inl, ⊎_elim, List, [], ◌∷◌, true, false, length, sym, ◌∙◌, ap, subst, arith}
use Rattle.std.specs.Prelude.{nat_le}
use Rattle.std.proofs.lemmas.Bool.Decides.{leb_tells}
use Rattle.layout.specs.Splice.{splice}
use Rattle.layout.proofs.SpliceLemmas.{length-splice, byte-splice_in, byte-splice_below, byte-splice_above}
use Rattle.page_layout.specs.Bytes.{byte, u16_bytes, u32_bytes}
use Rattle.page_masks.specs.Mask.{shown_flags}
use Rattle.page_laws.specs.Btree.{BtreePage, with_special, SpecialChange, StaysLeaf}
use Rattle.page_laws.proofs.BtreeSpecial.{same_special, special_same, special_respects, special_keeps}
use Rattle.page_laws.proofs.BtreeChanges.{link_change, link_leaf, flags_change, cycle_change, both_change}
use Rattle.record_layouts.specs.declared.btree.BtreeSplit.{BtreeSplit}
use Rattle.btree_pages.specs.Special.{with_prev, with_next, with_flags, with_cycle, leaf_flag, settled, without_garbage}
use Rattle.btree_pages.specs.Split.{left_special}
use Rattle.btree_pages.proofs.ItemsLemmas.{Done}
use Rattle.btree_laws.proofs.Steps.{IsStep, done_same}

-- a page changed in its special space alone
pub special_step : (block : ℕ) (change : List ℕ → List ℕ) → SpecialChange change → StaysLeaf change → IsStep block (λ p. Done (with_special change p))
special_step block change c leaf = record {
  page = λ p r h e. subst BtreePage (done_same (with_special change p) r e) (special_keeps change p c h);
  same = λ p q hp hq m. special_respects block change p q c hp hq (inl leaf) m;
}

-- one byte of flags by another
module _ (f : ℕ → ℕ) where
  flag_leaf : ((b : ℕ) → b % 2 ≡ 1 → f b % 2 ≡ 1) → StaysLeaf (λ x. splice x 12 (f (byte x 12) ∷ []))
  flag_leaf odd = λ x size e. ap (λ b. b % 2) (byte-splice_in x 12 (f (byte x 12) ∷ []) 12 (omega (arith, size)) (omega arith) (omega arith)) ∙ odd (byte x 12) e

pub settled_change : SpecialChange settled
settled_change = flags_change (λ b. b % 128) (λ b c e. omega (arith, e))

pub settled_leaf : StaysLeaf settled
settled_leaf = flag_leaf (λ b. b % 128) (λ b e. omega (arith, e))

pub garbage_change : SpecialChange without_garbage
garbage_change = flags_change (λ b. b / 128 * 128 + b % 64) (λ b c e. omega (arith, e))

pub garbage_leaf : StaysLeaf without_garbage
garbage_leaf = flag_leaf (λ b. b / 128 * 128 + b % 64) (λ b e. omega (arith, e))

pub prev_change : (block : ℕ) → SpecialChange (with_prev block)
prev_change block = link_change 0 (u32_bytes block) (omega arith)

pub prev_leaf : (block : ℕ) → StaysLeaf (with_prev block)
prev_leaf block = link_leaf 0 (u32_bytes block) (omega arith)

-- both bytes of the flags
module _ (flags : ℕ) where
  abbrev flagged : List ℕ → List ℕ
  flagged x = with_flags flags x

  flagged_size : (x : List ℕ) → length x ≡ 16 → length (flagged x) ≡ 16
  flagged_size x size = length-splice x 12 (u16_bytes flags) (omega (arith, size)) ∙ size

  flagged_in : (x : List ℕ) → length x ≡ 16 → (i : ℕ) → 12 ≤ i → i < 14 → byte (flagged x) i ≡ byte (u16_bytes flags) (i - 12)
  flagged_in x size i le lt = byte-splice_in x 12 (u16_bytes flags) i (omega (arith, size)) le (omega (arith, lt))

  flagged_above : (x : List ℕ) → length x ≡ 16 → (i : ℕ) → 14 ≤ i → byte (flagged x) i ≡ byte x i
  flagged_above x size i le = byte-splice_above x 12 (u16_bytes flags) i (omega (arith, size)) (omega (arith, le))

  flagged_below : (x : List ℕ) → length x ≡ 16 → (i : ℕ) → i < 12 → byte (flagged x) i ≡ byte x i
  flagged_below x size i lt = byte-splice_below x 12 (u16_bytes flags) i (omega (arith, size)) lt

  pub word_change : SpecialChange flagged
  word_change = record {
    size = flagged_size;
    shown = λ x y sx sy e. let s = same_special x y sx sy e in special_same (flagged x) (flagged y) (flagged_size x sx) (flagged_size y sy) (record {
      plain = λ i lt ne. ⊎_elim
          (λ (t : (nat_le 12 i ≡ true) × (12 ≤ i)). flagged_in x sx i t.1 lt ∙ sym (flagged_in y sy i t.1 lt))
          (λ (f : (nat_le 12 i ≡ false) × (i < 12)). flagged_below x sx i f.1 ∙ s.plain i lt ne ∙ sym (flagged_below y sy i f.1))
          (leb_tells 12 i);
      flags = ap shown_flags (flagged_in x sx 12 (omega arith) (omega arith) ∙ sym (flagged_in y sy 12 (omega arith) (omega arith)));
    });
    cycle = λ x sx le. omega (arith, flagged_above x sx 14 (omega arith), flagged_above x sx 15 (omega arith), le);
  }

pub left_change : (right : ℕ) (op : BtreeSplit) → SpecialChange (left_special right op)
left_change right op =
    let flags = 0x80 + leaf_flag op.level in
    let next = link_change 4 (u32_bytes right) (omega arith) in
    let two = both_change (with_next right) (with_flags flags) next (word_change flags) in
    both_change (λ x. with_flags flags (with_next right x)) (with_cycle 0) two (cycle_change 0 (omega arith))

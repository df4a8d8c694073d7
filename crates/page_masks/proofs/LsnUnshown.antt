-- The mask doesn't show a page's LSN.
use Rattle.std.proofs.Common.{◌≡◌, ℕ, zero, suc, ◌+◌, ◌*◌, ◌/◌, ◌==◌, ◌&&◌, List, Bool, true, false, length, refl, sym, ◌∙◌, ap, arith}
use Rattle.std.specs.Prelude.{if◌then◌else◌, nat_lt, nat_le}
use Rattle.std.proofs.lemmas.Bool.Decides.{nat_tests}
use Rattle.page_layout.specs.Bytes.{byte}
use Rattle.page_layout.specs.Page.{pd_lower, pd_upper, count, lp_flags}
use Rattle.page_layout.specs.Edits.{trimmed_count}
use Rattle.page_layout.specs.Lsn.{lsn_bytes, with_lsn}
use Rattle.layout.proofs.SpliceLemmas.{length-splice, byte-splice_above}
use Rattle.page_layout.proofs.ReadLemmas.{flags_same}
use Rattle.page_masks.specs.Mask.{mask, is_leaf, shown_line, shown_flags, btree_byte, btree_front, sequence_byte, other_byte, heap_byte}
use Rattle.page_masks.specs.Shapes.{IsHeap, IsBtree}
use Rattle.page_masks.proofs.OtherBytes.{other_open, sequence_open}
use Rattle.page_masks.proofs.ShapeKind.{SameTail, u16_tail, lower_tail, upper_tail, len_tail, kind_tail, shape_kind, shape_cases, masked_as, mask_at, length-mask, mask_is}
use Rattle.page_masks.proofs.Unshown.{shown_same}

pub btree_front_open : (p : List ℕ) (i : ℕ) → btree_front p i ≡ (if nat_lt i 10 then 0 else if i == 10 then byte p 10 / 8 * 8 else if nat_lt i 20 then byte p i else if nat_lt i 24 then 0
    else if nat_lt i (pd_lower p) then shown_line (is_leaf p) i (byte p i) else 0)
unfolding btree_front
btree_front_open p i = refl

pub btree_open : (p : List ℕ) (i : ℕ) → btree_byte p i ≡ (if nat_lt i (pd_upper p) then btree_front p i else if i == 8188 then shown_flags (byte p i) else if nat_le 8190 i then 0 else byte p i)
unfolding btree_byte
btree_open p i = refl

module _ (block : ℕ) (p q : List ℕ) (s : SameTail p q) where
  other_tail : (i : ℕ) → other_byte q i ≡ other_byte p i
  other_tail i = other_open q i ∙ by_case (nat_lt i 10) refl ∙ sym (other_open p i)
    where
      by_case : (b : Bool) → nat_lt i 10 ≡ b → (if b then 0 else byte q i) ≡ (if b then 0 else byte p i)
      by_case true e = refl
      by_case false e = s.tail i (grind (arith, nat_tests))

  sequence_tail : (i : ℕ) → sequence_byte q i ≡ sequence_byte p i
  sequence_tail i = sequence_open q i ∙ rw (lower_tail p q s, upper_tail p q s) (by_case (nat_lt i 10) refl) ∙ sym (sequence_open p i)
    where
      by_case : (b : Bool) → nat_lt i 10 ≡ b → (if b then 0 else if nat_le (pd_lower p) i && nat_lt i (pd_upper p) then 0 else byte q i) ≡ (if b then 0 else if nat_le (pd_lower p) i && nat_lt i (pd_upper p) then 0 else byte p i)
      by_case true e = refl
      by_case false e = rw (s.tail i (grind (arith, nat_tests))) refl

  btree_front_tail : (i : ℕ) → btree_front q i ≡ btree_front p i
  btree_front_tail i = btree_front_open q i ∙ by_case (nat_lt i 10) refl ∙ sym (btree_front_open p i)
    where
      leaf : byte q 8188 ≡ byte p 8188
      leaf = s.tail 8188 (omega arith)

      by_case : (b : Bool) → nat_lt i 10 ≡ b → (if b then 0 else if i == 10 then byte q 10 / 8 * 8 else if nat_lt i 20 then byte q i else if nat_lt i 24 then 0
          else if nat_lt i (pd_lower q) then shown_line (is_leaf q) i (byte q i) else 0)
          ≡ (if b then 0 else if i == 10 then byte p 10 / 8 * 8 else if nat_lt i 20 then byte p i else if nat_lt i 24 then 0
          else if nat_lt i (pd_lower p) then shown_line (is_leaf p) i (byte p i) else 0)
      by_case true e = refl
      by_case false e = rw (s.tail i (grind (arith, nat_tests)), s.tail 10 (omega arith), leaf, lower_tail p q s) refl

  btree_tail : IsBtree p → (i : ℕ) → btree_byte q i ≡ btree_byte p i
  btree_tail h i = btree_open q i ∙ rw (upper_tail p q s, btree_front_tail i) (by_case (nat_lt i (pd_upper p)) refl) ∙ sym (btree_open p i)
    where
      by_case : (b : Bool) → nat_lt i (pd_upper p) ≡ b → (if b then btree_front p i else if i == 8188 then shown_flags (byte q i) else if nat_le 8190 i then 0 else byte q i)
          ≡ (if b then btree_front p i else if i == 8188 then shown_flags (byte p i) else if nat_le 8190 i then 0 else byte p i)
      by_case true e = refl
      by_case false e = rw (s.tail i (grind (arith, nat_tests, h.head.low, h.head.mid))) refl

  counts_tail : (n : ℕ) → trimmed_count q n ≡ trimmed_count p n
  counts_tail n = counts n
    where
      flags : (k : ℕ) → lp_flags q k ≡ lp_flags p k
      flags k = flags_same q p k k (u16_tail p q s (24 + 4 * k) (omega arith)) (u16_tail p q s (26 + 4 * k) (omega arith))

      counts : (n : ℕ) → trimmed_count q n ≡ trimmed_count p n
      counts zero = refl
      counts (suc n) = rw (flags n, len_tail p q s n, counts n) refl

  heap_tail : IsHeap p → (i : ℕ) → heap_byte block q i ≡ heap_byte block p i
  heap_tail h i = shown_same block p q h s.size_q (record {
    upper = upper_tail p q s;
    shown = rw (lower_tail p q s) (counts_tail (count p));
    ten = ap (λ b. b / 8 * 8) (s.tail 10 (omega arith));
    eleven = s.tail 11 (omega arith);
    head = λ i le lt. s.tail i (omega arith);
    rest = λ i le. s.tail i (omega arith);
  }) i

  pub mask_tail : mask block q ≡ mask block p
  mask_tail = mask_is block q (mask block p) (length-mask block p) (λ i lt. rw ((kind_tail p q s).is) (each i) ∙ sym (mask_at block p i lt))
    where
      each : (i : ℕ) → masked_as (shape_kind p) block q i ≡ masked_as (shape_kind p) block p i
      each i = shape_cases p (λ k. masked_as k block q i ≡ masked_as k block p i) s.size (λ h. heap_tail h i) (λ h w. btree_tail h i) (λ h. sequence_tail i) (λ k. other_tail i)

eight : (at : ℕ) → length (lsn_bytes at) ≡ 8
eight at = refl

pub lsn_tail : (end : ℕ) (p : List ℕ) → length p ≡ 8192 → SameTail p (with_lsn end p)
unfolding with_lsn
lsn_tail end p size = record {
  size = size;
  size_q = length-splice p 0 (lsn_bytes end) (omega (arith, eight end)) ∙ size;
  tail = λ i le. byte-splice_above p 0 (lsn_bytes end) i (omega (arith, eight end)) (omega (arith, eight end));
}

pub lsn_unshown : (block end : ℕ) (p : List ℕ) → length p ≡ 8192 → mask block (with_lsn end p) ≡ mask block p
lsn_unshown block end p size = mask_tail block p (with_lsn end p) (lsn_tail end p size)

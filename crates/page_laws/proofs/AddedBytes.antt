-- The bytes of a page on which a normal line, the bounds and an item were laid.
use Rattle.std.proofs.Common.{◌≡◌, ℕ, ◌+◌, ◌-◌, ◌*◌, ◌<◌, ◌≤◌, ◌⊎◌, inl, inr, ⊎_elim, List, ◌++◌, length, sym, ◌∙◌, ap, arith}
use Rattle.std.specs.Prelude.{replicate}
use Rattle.std.proofs.lemmas.List.{ext_get_or, get_or_append_left, length-append, length-replicate}
use Rattle.page_layout.specs.Bytes.{byte, u16_at, u16_bytes, with_u16, up8, cut}
use Rattle.page_layout.specs.Page.{pd_lower, pd_upper, pd_special, count, lp_off, lp_flags, lp_len, item}
use Rattle.page_layout.specs.Edits.{with_pointer, added_at}
use Rattle.layout.proofs.SpliceLemmas.{length-splice, byte-splice_in, byte-splice_out, byte-splice_below, byte-splice_above}
use Rattle.page_layout.proofs.BytesLemmas.{length-cut, byte-cut}
use Rattle.page_layout.proofs.LineViews.{u16_at-with_u16, off_is, len_is, flags_is, byte_other, pointer_size}
use Rattle.page_layout.proofs.ReadLemmas.{lower_u16, upper_u16, special_u16, off_same, len_same, flags_same}

-- room for the line below lower, and for the item between upper and the page's end
pub record Lays (p bytes : List ℕ) (k lower upper : ℕ) : Type 0 where
  pub size : length p ≡ 8192
  pub line : 28 + 4 * k ≤ lower
  pub room : lower ≤ upper
  pub top : upper + up8 (length bytes) ≤ 8192

module _ (p bytes : List ℕ) (k lower upper : ℕ) (a : Lays p bytes k lower upper) where
  abbrev len : ℕ
  len = length bytes

  abbrev r1 : List ℕ
  r1 = with_pointer p k upper 1 len

  abbrev r2 : List ℕ
  r2 = with_u16 r1 12 lower

  abbrev r3 : List ℕ
  r3 = with_u16 r2 14 upper

  abbrev laid : List ℕ
  laid = bytes ++ replicate (up8 len - len) 0

  abbrev new : List ℕ
  new = added_at p bytes k lower upper

  pub fits : 28 + 4 * k ≤ length p
  fits = omega (arith, a.size, a.line, a.room, a.top)

  pub small : upper < 32768
  small = omega (arith, a.top)

  one : 1 < 4
  one = omega arith

  size1 : length r1 ≡ 8192
  size1 = pointer_size p k upper 1 len fits small one ∙ a.size

  size2 : length r2 ≡ 8192
  size2 = length-splice r1 12 (u16_bytes lower) (omega (arith, size1)) ∙ size1

  size3 : length r3 ≡ 8192
  size3 = length-splice r2 14 (u16_bytes upper) (omega (arith, size2)) ∙ size2

  laid_size : length laid ≡ up8 len
  laid_size = omega (arith, length-append bytes (replicate (up8 len - len) 0), length-replicate {A = ℕ} (up8 len - len) 0)

  fits3 : upper + length laid ≤ length r3
  fits3 = omega (arith, laid_size, size3, a.top)

  pub added_size : length new ≡ 8192
  added_size = length-splice r3 upper laid fits3 ∙ size3

  below3 : (i : ℕ) → i < upper → byte new i ≡ byte r3 i
  below3 i lt = byte-splice_below r3 upper laid i fits3 lt

  head1 : (i : ℕ) → (i < 12) ⊎ (16 ≤ i) → byte r3 i ≡ byte r1 i
  head1 i out = byte-splice_out r2 14 (u16_bytes upper) i (omega (arith, size2)) (⊎_elim (λ (l : i < 12). inl (omega (arith, l))) (λ r. inr r) out)
      ∙ byte-splice_out r1 12 (u16_bytes lower) i (omega (arith, size1)) (⊎_elim (λ l. inl l) (λ (r : 16 ≤ i). inr (omega (arith, r))) out)

  low : 24 ≤ upper
  low = omega (arith, a.line, a.room)

  pub added_head : (i : ℕ) → (i < 12) ⊎ (16 ≤ i) → i < 24 → byte new i ≡ byte p i
  added_head i out lt = below3 i (omega (arith, low)) ∙ head1 i out ∙ byte_other p k upper 1 len fits small one i (inl (omega arith))

  pub added_line : (i : ℕ) → 24 ≤ i → i < upper → byte new i ≡ byte r1 i
  added_line i le lt = below3 i lt ∙ head1 i (inr (omega arith))

  pub added_other_line : (i : ℕ) → 24 ≤ i → i < upper → (i < 24 + 4 * k) ⊎ (28 + 4 * k ≤ i) → byte new i ≡ byte p i
  added_other_line i le lt out = added_line i le lt ∙ byte_other p k upper 1 len fits small one i out

  pub added_item_byte : (i : ℕ) → upper ≤ i → i < upper + up8 len → byte new i ≡ byte laid (i - upper)
  added_item_byte i le lt = byte-splice_in r3 upper laid i fits3 le (omega (arith, laid_size, lt))

  pub added_back : (i : ℕ) → upper + up8 len ≤ i → byte new i ≡ byte p i
  added_back i le = byte-splice_above r3 upper laid i fits3 (omega (arith, laid_size, le)) ∙ head1 i (inr (omega (arith, low, le)))
      ∙ byte_other p k upper 1 len fits small one i (inr (omega (arith, a.line, a.room, le)))

  pub added_lower_byte : (i : ℕ) → 12 ≤ i → i < 14 → byte new i ≡ byte (u16_bytes lower) (i - 12)
  added_lower_byte i le lt = below3 i (omega (arith, low)) ∙ byte-splice_out r2 14 (u16_bytes upper) i (omega (arith, size2)) (inl lt) ∙ byte-splice_in r1 12 (u16_bytes lower) i (omega (arith, size1)) le lt

  pub added_upper_byte : (i : ℕ) → 14 ≤ i → i < 16 → byte new i ≡ byte (u16_bytes upper) (i - 14)
  added_upper_byte i le lt = below3 i (omega (arith, low)) ∙ byte-splice_in r2 14 (u16_bytes upper) i (omega (arith, size2)) le lt

  pub added_lower : pd_lower new ≡ lower
  added_lower = lower_u16 new ∙ (λ t. at 12 (omega arith) (omega arith) t + 256 * at 13 (omega arith) (omega arith) t) ∙ u16_at-with_u16 r1 12 lower (omega (arith, size1))
    where
      at : (i : ℕ) → 12 ≤ i → i < 14 → byte new i ≡ byte r2 i
      at i le lt = below3 i (omega (arith, low)) ∙ byte-splice_out r2 14 (u16_bytes upper) i (omega (arith, size2)) (inl lt)

  pub added_upper : pd_upper new ≡ upper
  added_upper = upper_u16 new ∙ (λ t. below3 14 (omega (arith, low)) t + 256 * below3 15 (omega (arith, low)) t) ∙ u16_at-with_u16 r2 14 upper (omega (arith, size2))

  pub added_special : pd_special new ≡ pd_special p
  added_special = special_u16 new ∙ (λ t. added_head 16 (inr (omega arith)) (omega arith) t + 256 * added_head 17 (inr (omega arith)) (omega arith) t) ∙ sym (special_u16 p)

  pub added_there : k < count new
  added_there = omega (arith, added_lower, a.line)

  word1 : (i : ℕ) → 24 ≤ i → i + 1 < upper → u16_at new i ≡ u16_at r1 i
  word1 i le lt = λ t. added_line i le (omega arith) t + 256 * added_line (i + 1) (omega arith) lt t

  pub added_off : lp_off new k ≡ upper
  added_off = off_same new r1 k k (word1 (24 + 4 * k) (omega arith) (omega (arith, a.line, a.room))) ∙ off_is p k upper 1 len fits small one

  pub added_len : lp_len new k ≡ len
  added_len = len_same new r1 k k (word1 (26 + 4 * k) (omega arith) (omega (arith, a.line, a.room))) ∙ len_is p k upper 1 len fits small one

  pub added_flags : lp_flags new k ≡ 1
  added_flags = flags_same new r1 k k (word1 (24 + 4 * k) (omega arith) (omega (arith, a.line, a.room))) (word1 (26 + 4 * k) (omega arith) (omega (arith, a.line, a.room))) ∙ flags_is p k upper 1 len fits small one

  pub added_item : item new k ≡ bytes
  added_item = rw (added_off, added_len) (ext_get_or 0 (cut new upper len) bytes (length-cut new upper len (omega (arith, added_size, a.top)))
      (λ o lt.
      let small_o : o < len = omega (arith, lt, length-cut new upper len (omega (arith, added_size, a.top))) in
      let back : upper + o - upper ≡ o = omega arith in
      byte-cut new upper len o small_o ∙ added_item_byte (upper + o) (omega arith) (omega (arith, small_o)) ∙ ap (byte laid) back ∙ get_or_append_left bytes (replicate (up8 len - len) 0) 0 o small_o))

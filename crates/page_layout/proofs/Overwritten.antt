-- A page after an item is laid over a line's.
use Rattle.std.proofs.Common.{◌≡◌, ◌≢◌, ℕ, ◌+◌, ◌-◌, ◌*◌, ◌<◌, ◌≤◌, inl, inr, List, ◌++◌, length, sym, ◌∙◌, arith}
use Rattle.std.specs.Prelude.{replicate}
use Rattle.std.proofs.lemmas.List.{length-append, length-replicate}
use Rattle.page_layout.specs.Bytes.{byte, u16_at, up8}
use Rattle.page_layout.specs.Page.{pd_lower, pd_upper, pd_special, count, lp_off, lp_flags, lp_len, ItemIn, IsFormed}
use Rattle.page_layout.specs.Edits.{with_pointer, with_item}
use Rattle.page_layout.specs.Overwrite.{moved_up, overwritten_at}
use Rattle.layout.proofs.SpliceLemmas.{length-splice, byte-splice_below, byte-splice_in, byte-splice_above}
use Rattle.page_layout.proofs.ClosedUp.{Shifted, shifted_is, moved_off}
use Rattle.page_layout.proofs.LineViews.{off_is, len_is, off_other, len_other, byte_other, pointer_size}
use Rattle.page_layout.proofs.ReadLemmas.{lower_u16, upper_u16, special_u16, off_same, len_same}
use Rattle.page_layout.proofs.ShapeLemmas.{held_in, flags_small}

-- line k written, and its item laid where it points
module _ (m : List ℕ) (size : length m ≡ 8192) (k at flags : ℕ) (bytes : List ℕ) (line : 28 + 4 * k ≤ at) (fits : at + up8 (length bytes) ≤ 8192) (kind : flags < 4) where
  line_there : 28 + 4 * k ≤ length m
  line_there = omega (arith, size, line, fits)

  near : at < 32768
  near = omega (arith, fits)

  abbrev w : List ℕ
  w = with_pointer m k at flags (length bytes)

  w_size : length w ≡ 8192
  w_size = pointer_size m k at flags (length bytes) line_there near kind ∙ size

  abbrev held : List ℕ
  held = bytes ++ replicate (up8 (length bytes) - length bytes) 0

  held_size : length held ≡ up8 (length bytes)
  held_size = let z = length-replicate {A = ℕ} (up8 (length bytes) - length bytes) 0 in omega (arith, length-append bytes (replicate (up8 (length bytes) - length bytes) 0), z)

  item_fits : at + length held ≤ length w
  item_fits = omega (arith, held_size, w_size, fits)

  abbrev laid : List ℕ
  laid = with_item w bytes at

  pub laid_size : length laid ≡ 8192
  laid_size = length-splice w at held item_fits ∙ w_size

  -- below the item only the line is new
  pub laid_below : (i : ℕ) → i < at → byte laid i ≡ byte w i
  laid_below i lt = byte-splice_below w at held i item_fits lt

  pub laid_front : (i : ℕ) → i < 24 + 4 * k → byte laid i ≡ byte m i
  laid_front i lt = laid_below i (omega (arith, lt, line)) ∙ byte_other m k at flags (length bytes) line_there near kind i (inl lt)

  pub laid_between : (i : ℕ) → 28 + 4 * k ≤ i → i < at → byte laid i ≡ byte m i
  laid_between i le lt = laid_below i lt ∙ byte_other m k at flags (length bytes) line_there near kind i (inr le)

  pub laid_item : (i : ℕ) → at ≤ i → i < at + up8 (length bytes) → byte laid i ≡ byte (bytes ++ replicate (up8 (length bytes) - length bytes) 0) (i - at)
  laid_item i le lt = byte-splice_in w at held i item_fits le (omega (arith, held_size, lt))

  pub laid_above : (i : ℕ) → at + up8 (length bytes) ≤ i → byte laid i ≡ byte m i
  laid_above i le = byte-splice_above w at held i item_fits (omega (arith, held_size, le)) ∙ byte_other m k at flags (length bytes) line_there near kind i (inr (omega (arith, line, le)))

  below_u16 : (i : ℕ) → i + 1 < at → u16_at laid i ≡ u16_at w i
  below_u16 i lt = λ t. laid_below i (omega arith) t + 256 * laid_below (i + 1) lt t

  off_w : (j : ℕ) → 28 + 4 * j ≤ at → lp_off laid j ≡ lp_off w j
  off_w j room = off_same laid w j j (below_u16 (24 + 4 * j) (omega (arith, room)))

  len_w : (j : ℕ) → 28 + 4 * j ≤ at → lp_len laid j ≡ lp_len w j
  len_w j room = len_same laid w j j (below_u16 (26 + 4 * j) (omega (arith, room)))

  pub laid_off : (j : ℕ) → 28 + 4 * j ≤ at → j ≢ k → lp_off laid j ≡ lp_off m j
  laid_off j room ne = off_w j room ∙ off_other m k at flags (length bytes) line_there near kind j ne

  pub laid_len : (j : ℕ) → 28 + 4 * j ≤ at → j ≢ k → lp_len laid j ≡ lp_len m j
  laid_len j room ne = len_w j room ∙ len_other m k at flags (length bytes) line_there near kind j ne

  pub own_off : lp_off laid k ≡ at
  own_off = off_w k line ∙ off_is m k at flags (length bytes) line_there near kind

  pub own_len : lp_len laid k ≡ length bytes
  own_len = len_w k line ∙ len_is m k at flags (length bytes) line_there near kind

-- what stands where once the new item lies d bytes further up
pub record Overwritten (p : List ℕ) (k : ℕ) (bytes : List ℕ) (d : ℕ) (q : List ℕ) : Type 0 where
  pub size : length q ≡ 8192
  pub lower : pd_lower q ≡ pd_lower p
  pub upper : pd_upper q ≡ pd_upper p + d
  pub special : pd_special q ≡ pd_special p
  pub rest : (i : ℕ) → 16 ≤ i → i < 24 → byte q i ≡ byte p i
  pub off : (j : ℕ) → j < count p → j ≢ k → lp_off q j ≡ moved_off (lp_off p k + 1) d p j
  pub len : (j : ℕ) → j < count p → j ≢ k → lp_len q j ≡ lp_len p j
  pub own_off : lp_off q k ≡ lp_off p k + d
  pub own_len : lp_len q k ≡ length bytes
  pub above : (i : ℕ) → lp_off p k + up8 (lp_len p k) ≤ i → byte q i ≡ byte p i

module _ (p : List ℕ) (k : ℕ) (bytes : List ℕ) (d : ℕ) (f : IsFormed p) (there : k < count p) (some : 0 < lp_len p k) (room : d + up8 (length bytes) ≡ up8 (lp_len p k)) where
  abbrev to : ℕ
  to = lp_off p k + d

  i_k : ItemIn p k
  i_k = held_in p k f there some

  abbrev m : List ℕ
  m = moved_up p k d

  moved : Shifted p (lp_off p k) (lp_off p k + 1) d m
  moved = shifted_is p (lp_off p k) (lp_off p k + 1) d f i_k.from (omega (arith, room, i_k.held, f.head.top)) (omega (arith, room, i_k.held, f.head.top))

  lines_below : (j : ℕ) → j < count p → 28 + 4 * j ≤ to
  lines_below j lt = omega (arith, i_k.from, f.head.low, f.head.by4, f.head.mid)

  fits : to + up8 (length bytes) ≤ 8192
  fits = omega (arith, room, i_k.held, f.head.top)

  abbrev q : List ℕ
  q = overwritten_at p k bytes d

  front : (i : ℕ) → i < 24 → byte q i ≡ byte m i
  front i lt = laid_front m moved.size k to (lp_flags p k) bytes (lines_below k there) fits (flags_small p k) i (omega (arith, lt))

  rest : (i : ℕ) → 16 ≤ i → i < 24 → byte q i ≡ byte p i
  rest i le lt = front i lt ∙ moved.head i le lt

  pub overwritten_is : Overwritten p k bytes d (overwritten_at p k bytes d)
  overwritten_is = record {
    size = laid_size m moved.size k to (lp_flags p k) bytes (lines_below k there) fits (flags_small p k);
    lower = lower_u16 q ∙ (λ t. front 12 (omega arith) t + 256 * front 13 (omega arith) t) ∙ sym (lower_u16 m) ∙ moved.lower;
    upper = upper_u16 q ∙ (λ t. front 14 (omega arith) t + 256 * front 15 (omega arith) t) ∙ sym (upper_u16 m) ∙ moved.upper;
    special = special_u16 q ∙ (λ t. rest 16 (omega arith) (omega arith) t + 256 * rest 17 (omega arith) (omega arith) t) ∙ sym (special_u16 p);
    rest = rest;
    off = λ j lt ne. laid_off m moved.size k to (lp_flags p k) bytes (lines_below k there) fits (flags_small p k) j (lines_below j lt) ne ∙ moved.off j lt;
    len = λ j lt ne. laid_len m moved.size k to (lp_flags p k) bytes (lines_below k there) fits (flags_small p k) j (lines_below j lt) ne ∙ moved.len j lt;
    own_off = own_off m moved.size k to (lp_flags p k) bytes (lines_below k there) fits (flags_small p k);
    own_len = own_len m moved.size k to (lp_flags p k) bytes (lines_below k there) fits (flags_small p k);
    above = λ i le. laid_above m moved.size k to (lp_flags p k) bytes (lines_below k there) fits (flags_small p k) i (omega (arith, room, le)) ∙ moved.above i (omega (arith, room, le));
  }

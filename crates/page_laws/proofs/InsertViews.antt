-- A page after an item was added to it with the later lines moved up.
use Rattle.std.proofs.Common.{◌≡◌, ℕ, ◌+◌, ◌-◌, ◌*◌, ◌<◌, ◌≤◌, ◌⊎◌, inl, inr, List, ◌++◌, length, sym, ◌∙◌, ap, arith}
use Rattle.std.specs.Prelude.{replicate}
use Rattle.page_layout.specs.Bytes.{byte, u16_bytes, up8, cut}
use Rattle.page_layout.specs.Page.{pd_lower, pd_upper, pd_special, count, IsFormed}
use Rattle.page_layout.specs.Edits.{opened_at, added_at}
use Rattle.layout.proofs.SpliceLemmas.{length-splice, byte-splice_in, byte-splice_below, byte-splice_above}
use Rattle.page_layout.proofs.BytesLemmas.{length-cut, byte-cut}
use Rattle.page_layout.proofs.LineViews.{line_bytes, pointer_in}
use Rattle.page_layout.proofs.ReadLemmas.{special_u16}
use Rattle.page_laws.proofs.AddedBytes.{Lays, fits, added_size, added_head, added_line, added_other_line, added_lower_byte, added_upper_byte, added_item_byte, added_back, added_lower, added_upper}

-- a place up to the one past the last, and room for a line and the item
pub record Inserts (p bytes : List ℕ) (k : ℕ) : Type 0 where
  pub formed : IsFormed p
  pub place : k ≤ count p
  pub room : pd_lower p + 4 + up8 (length bytes) ≤ pd_upper p

module _ (p bytes : List ℕ) (k : ℕ) (a : Inserts p bytes k) where
  abbrev f : IsFormed p
  f = a.formed

  abbrev len : ℕ
  len = length bytes

  abbrev lower : ℕ
  lower = pd_lower p + 4

  abbrev upper : ℕ
  upper = pd_upper p - up8 len

  abbrev tail : List ℕ
  tail = cut p (24 + 4 * k) (pd_lower p - (24 + 4 * k))

  abbrev o : List ℕ
  o = opened_at p k

  abbrev new : List ℕ
  new = added_at o bytes k lower upper

  top : pd_upper p ≤ 8192
  top = omega (arith, f.head.high, f.head.top)

  pub line_room : 28 + 4 * k ≤ lower
  line_room = omega (arith, a.place, f.head.low, f.head.by4)

  pub room : lower ≤ upper
  room = omega (arith, a.room)

  pub upper_is : upper + up8 len ≡ pd_upper p
  upper_is = omega (arith, a.room)

  tail_size : length tail ≡ pd_lower p - (24 + 4 * k)
  tail_size = length-cut p (24 + 4 * k) (pd_lower p - (24 + 4 * k)) (omega (arith, line_room, f.size, f.head.mid, top))

  tail_fits : 28 + 4 * k + length tail ≤ length p
  tail_fits = omega (arith, tail_size, line_room, f.size, a.room, top)

  opened_size : length o ≡ 8192
  opened_size = length-splice p (28 + 4 * k) tail tail_fits ∙ f.size

  opened_before : (i : ℕ) → i < 28 + 4 * k → byte o i ≡ byte p i
  opened_before i lt = byte-splice_below p (28 + 4 * k) tail i tail_fits lt

  opened_line : (i : ℕ) → 28 + 4 * k ≤ i → i < lower → byte o i ≡ byte p (i - 4)
  opened_line i le lt =
      let back : 24 + 4 * k + (i - (28 + 4 * k)) ≡ i - 4 = omega arith in
      byte-splice_in p (28 + 4 * k) tail i tail_fits le (omega (arith, tail_size, lt, line_room))
      ∙ byte-cut p (24 + 4 * k) (pd_lower p - (24 + 4 * k)) (i - (28 + 4 * k)) (omega (arith, lt, le, line_room)) ∙ ap (byte p) back

  opened_after : (i : ℕ) → lower ≤ i → byte o i ≡ byte p i
  opened_after i le = byte-splice_above p (28 + 4 * k) tail i tail_fits (omega (arith, tail_size, line_room))

  pub lays : Lays o bytes k lower upper
  lays = record { size = opened_size; line = line_room; room = room; top = omega (arith, upper_is, top) }

  pub inserted_size : length new ≡ 8192
  inserted_size = added_size o bytes k lower upper lays

  -- the header but for its bounds
  pub inserted_head : (i : ℕ) → (i < 12) ⊎ (16 ≤ i) → i < 24 → byte new i ≡ byte p i
  inserted_head i out lt = added_head o bytes k lower upper lays i out lt ∙ opened_before i (omega arith)

  pub inserted_bound : (i : ℕ) → 12 ≤ i → i < 14 → byte new i ≡ byte (u16_bytes lower) (i - 12)
  inserted_bound i le lt = added_lower_byte o bytes k lower upper lays i le lt

  pub inserted_top : (i : ℕ) → 14 ≤ i → i < 16 → byte new i ≡ byte (u16_bytes upper) (i - 14)
  inserted_top i le lt = added_upper_byte o bytes k lower upper lays i le lt

  -- the lines before, the new one, and those after it
  pub inserted_before : (i : ℕ) → 24 ≤ i → i < 24 + 4 * k → byte new i ≡ byte p i
  inserted_before i le lt = added_other_line o bytes k lower upper lays i le (omega (arith, line_room, room, lt)) (inl lt) ∙ opened_before i (omega arith)

  pub inserted_line : (i : ℕ) → 24 + 4 * k ≤ i → i < 28 + 4 * k → byte new i ≡ byte (line_bytes upper 1 len) (i - (24 + 4 * k))
  inserted_line i le lt = added_line o bytes k lower upper lays i (omega (arith, le)) (omega (arith, line_room, room, lt)) ∙ pointer_in o k upper 1 len i (fits o bytes k lower upper lays) le lt

  pub inserted_after : (i : ℕ) → 28 + 4 * k ≤ i → i < lower → byte new i ≡ byte p (i - 4)
  inserted_after i le lt = added_other_line o bytes k lower upper lays i (omega (arith, le)) (omega (arith, room, lt)) (inr le) ∙ opened_line i le lt

  -- the item, and what lies above it
  pub inserted_item_byte : (i : ℕ) → upper ≤ i → i < pd_upper p → byte new i ≡ byte (bytes ++ replicate (up8 len - len) 0) (i - upper)
  inserted_item_byte i le lt = added_item_byte o bytes k lower upper lays i le (omega (arith, upper_is, lt))

  pub inserted_back : (i : ℕ) → pd_upper p ≤ i → byte new i ≡ byte p i
  inserted_back i le = added_back o bytes k lower upper lays i (omega (arith, upper_is, le)) ∙ opened_after i (omega (arith, room, upper_is, le))

  pub inserted_lower : pd_lower new ≡ lower
  inserted_lower = added_lower o bytes k lower upper lays

  pub inserted_upper : pd_upper new ≡ upper
  inserted_upper = added_upper o bytes k lower upper lays

  pub inserted_special : pd_special new ≡ pd_special p
  inserted_special = special_u16 new ∙ (λ t. inserted_head 16 (inr (omega arith)) (omega arith) t + 256 * inserted_head 17 (inr (omega arith)) (omega arith) t) ∙ sym (special_u16 p)

  pub inserted_count : count new ≡ count p + 1
  inserted_count = omega (arith, inserted_lower, f.head.low)

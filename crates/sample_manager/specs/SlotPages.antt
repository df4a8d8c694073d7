-- What the mask shows of a page of slots: all but its first ten bytes.
use Rattle.std.proofs.Common.{◌≡◌, ℕ, ◌+◌, ◌-◌, ◌*◌, ◌<◌, ◌≤◌, ◌&&◌, ◌==◌, ⊎_elim, List, Bool, true, false, length, take, refl, sym, ◌∙◌, ap, arith}
use Rattle.std.specs.Prelude.{if◌then◌else◌, nat_lt, nat_le}
use Rattle.std.proofs.lemmas.Bool.Decides.{nat_tests, leb_tells}
use Rattle.std.proofs.lemmas.List.{get_or_past, take-take}
use Rattle.layout.proofs.SpliceLemmas.{length-splice, byte-splice, take-splice}
use Rattle.page_layout.specs.Bytes.{byte, u32_bytes}
use Rattle.page_layout.specs.Page.{pd_special, count, header_fits, lines_fit, well_formed, Head}
use Rattle.page_layout.proofs.Front as Front
use Rattle.page_layout.proofs.Front.{SameFront}
use Rattle.page_layout.proofs.ShapeLemmas.{head_of}
use Rattle.page_masks.specs.declared.kind.PageKind.TheVariants.{Other}
use Rattle.page_masks.specs.Mask.{mask}
use Rattle.page_masks.proofs.LsnUnshown.{mask_tail}
use Rattle.page_masks.proofs.MaskShape.{kind_shown}
use Rattle.page_masks.proofs.OtherBytes.{other_open}
use Rattle.page_masks.proofs.ShapeKind.{shape_kind, masked_as, mask_at, special_tail, SameTail}
use Rattle.page_masks.proofs.Unshown.{well}
use Rattle.sample_manager.specs.Change.{is_slot, is_slot_page, with_value}
use Rattle.sample_manager.specs.declared.slot.SlotUpdate.{SlotUpdate}

-- what a page of slots is
record SlotPage (p : List ℕ) : Type 0 where
  head : Head p
  lines : lines_fit p (count p) ≡ true
  special : pd_special p ≡ 8160

both : (a b : Bool) → (a && b) ≡ true → (a ≡ true) × (b ≡ true)
both true b e = (refl, e)
both false b e = cc e

slot_page_of : (p : List ℕ) → is_slot_page p ≡ true → SlotPage p
slot_page_of p e =
    let t = both (well_formed p) (pd_special p == 8160) e in
    let w = both (header_fits p) (lines_fit p (count p)) t.0 in
    record { head = head_of p w.0; lines = w.1; special = grind (arith, nat_tests, t.1) }

is_page : (p : List ℕ) → SlotPage p → is_slot_page p ≡ true
is_page p h = let special : (pd_special p == 8160) ≡ true = grind (arith, nat_tests, h.special) in rw (well p h.head h.lines, special) refl

-- it is of the kind Other
kind_of_page : (p : List ℕ) → SlotPage p → shape_kind p ≡ Other
kind_of_page p h =
    let heap : (pd_special p == 8192) ≡ false = grind (arith, nat_tests, h.special) in
    let btree : (pd_special p == 8176) ≡ false = grind (arith, nat_tests, h.special) in
    let sequence : (pd_special p == 8184) ≡ false = grind (arith, nat_tests, h.special) in
    rw (well p h.head h.lines, heap, btree, sequence) refl

-- a byte of such a page from 10 on is shown
shown : (block : ℕ) (p : List ℕ) (i : ℕ) → shape_kind p ≡ Other → 10 ≤ i → i < 8192 → byte (mask block p) i ≡ byte p i
shown block p i kind le lt =
    let late : nat_lt i 10 ≡ false = grind (arith, nat_tests) in
    mask_at block p i lt ∙ ap (λ k. masked_as k block p i) kind ∙ other_open p i ∙ rw late refl

-- a page with the mask of a page of slots differs from it in its first ten bytes alone
pub same_tail : (block : ℕ) (p q : List ℕ) → length p ≡ 8192 → length q ≡ 8192 → is_slot_page p ≡ true → mask block p ≡ mask block q → SameTail p q
same_tail block p q size_p size_q e same = record {
  size = size_p;
  size_q = size_q;
  tail = λ i le. ⊎_elim
      (λ (t : (nat_le 8192 i ≡ true) × (8192 ≤ i)). get_or_past q i 0 (omega (arith, t.1, size_q)) ∙ sym (get_or_past p i 0 (omega (arith, t.1, size_p))))
      (λ (f : (nat_le 8192 i ≡ false) × (i < 8192)). sym (shown block q i kind_q le f.1) ∙ ap (λ m. byte m i) (sym same) ∙ shown block p i kind_p le f.1)
      (leb_tells 8192 i);
}
  where
    kind_p : shape_kind p ≡ Other
    kind_p = kind_of_page p (slot_page_of p e)

    kind_q : shape_kind q ≡ Other
    kind_q = sym (kind_shown block q size_q).is ∙ ap shape_kind (sym same) ∙ (kind_shown block p size_p).is ∙ kind_p

front_of : (p q : List ℕ) → SameTail p q → SameFront p q
front_of p q s = record { head = λ i le lt. s.tail i (omega (arith, le)); lines = λ i le lt. s.tail i (omega (arith, le)) }

-- and is a page of slots
tail_page : (p q : List ℕ) → SameTail p q → is_slot_page p ≡ true → is_slot_page q ≡ true
tail_page p q s e =
    let h = slot_page_of p e in
    let f = front_of p q s in
    is_page q (record {
      head = Front.head_stays p q h.head f;
      lines = ap (lines_fit q) (Front.count_same p q h.head f) ∙ Front.lines_fit_same p q h.head f (count p) (omega arith) ∙ h.lines;
      special = special_tail p q s ∙ h.special;
    })

-- pages with equal masks are both pages of slots, or neither is
pub both_pages : (block : ℕ) (p q : List ℕ) → length p ≡ 8192 → length q ≡ 8192 → mask block p ≡ mask block q → is_slot_page p ≡ is_slot_page q
both_pages block p q size_p size_q same = by_case (is_slot_page p) (is_slot_page q) refl refl
  where
    by_case : (a b : Bool) → is_slot_page p ≡ a → is_slot_page q ≡ b → a ≡ b
    by_case true b e f = sym (tail_page p q (same_tail block p q size_p size_q e same) e) ∙ f
    by_case false true e f = sym e ∙ tail_page q p (same_tail block q p size_q size_p f (sym same)) f
    by_case false false e f = refl

-- the value of a slot lies within the page
value_fits : (update : SlotUpdate) (p : List ℕ) → length p ≡ 8192 → is_slot update.slot ≡ true → 24 + 4 * update.slot + length (u32_bytes update.value) ≤ length p
value_fits update p size e = let small : update.slot < 2034 = grind (arith, nat_tests, e) in omega (arith, size, small)

pub value_size : (update : SlotUpdate) (p : List ℕ) → length p ≡ 8192 → is_slot update.slot ≡ true → length (with_value update p) ≡ 8192
value_size update p size e = length-splice p (24 + 4 * update.slot) (u32_bytes update.value) (value_fits update p size e) ∙ size

pub value_lsn : (update : SlotUpdate) (p : List ℕ) → length p ≡ 8192 → is_slot update.slot ≡ true → take 8 (with_value update p) ≡ take 8 p
value_lsn update p size e =
    let fits = value_fits update p size e in
    sym (take-take 8 at (with_value update p) (omega arith)) ∙ ap (take 8) (take-splice p at (u32_bytes update.value) (omega (arith, fits))) ∙ take-take 8 at p (omega arith)
  where
    at : ℕ
    at = 24 + 4 * update.slot

-- the same value in the same slot of both leaves pages that the mask can't tell apart
pub same_values : (block : ℕ) (update : SlotUpdate) (p q : List ℕ) → length p ≡ 8192 → length q ≡ 8192 → is_slot update.slot ≡ true → is_slot_page p ≡ true → mask block p ≡ mask block q
    → mask block (with_value update p) ≡ mask block (with_value update q)
same_values block update p q size_p size_q slot e same = sym (mask_tail block (with_value update p) (with_value update q) (record {
  size = value_size update p size_p slot;
  size_q = value_size update q size_q slot;
  tail = λ i le. byte-splice q at bytes i (value_fits update q size_q slot) ∙ ap (λ b. if nat_le at i && nat_lt i (at + length bytes) then byte bytes (i - at) else b) (s.tail i le)
      ∙ sym (byte-splice p at bytes i (value_fits update p size_p slot));
}))
  where
    at : ℕ
    at = 24 + 4 * update.slot

    bytes : List ℕ
    bytes = u32_bytes update.value

    s : SameTail p q
    s = same_tail block p q size_p size_q e same

-- The kind of a page by its shape alone; all zeros are masked like any other page.
use Rattle.std.proofs.Common.{◌≡◌, ◌≢◌, ℕ, zero, suc, ◌+◌, ◌*◌, ◌<◌, ◌≤◌, ◌==◌, ◌&&◌, List, Bool, true, false, length, refl, sym, ◌∙◌, arith}
use Rattle.std.specs.Prelude.{if◌then◌else◌, nat_lt, nat_le}
use Rattle.std.proofs.lemmas.Bool.Decides.{nat_tests}
use Rattle.page_layout.specs.Bytes.{byte, u16_at, u32_at}
use Rattle.page_layout.specs.Page.{pd_lower, pd_upper, pd_special, count, lp_off, lp_len, Head, header_fits, line_fits, lines_fit, well_formed}
use Rattle.page_layout.proofs.BytesLemmas.{byte-page_of, length-page_of, same_pages}
use Rattle.page_layout.proofs.ReadLemmas.{lower_u16, upper_u16, special_u16, off_same, len_same}
use Rattle.page_layout.proofs.ShapeLemmas.{head_of}
use Rattle.page_masks.specs.declared.kind.PageKind.{PageKind}
use Rattle.page_masks.specs.declared.kind.PageKind.TheVariants.{Zero, Heap, Btree, Sequence, Other}
use Rattle.page_masks.specs.Kind.{kind_of, is_zero, kind_by_special}
use Rattle.page_masks.specs.Mask.{mask, masked_by, masked_byte, heap_byte, btree_byte, sequence_byte, other_byte}
use Rattle.page_masks.specs.Shapes.{IsHeap, IsBtree}
use Rattle.page_masks.proofs.OtherBytes.{other_open}
use Rattle.page_masks.proofs.Unshown.{zero_byte, well}

abbrev pub shape_kind : List ℕ → PageKind
shape_kind p = if well_formed p then kind_by_special p else Other

abbrev pub masked_as : PageKind → ℕ → List ℕ → ℕ → ℕ
masked_as Zero block p i = other_byte p i
masked_as Heap block p i = heap_byte block p i
masked_as Btree block p i = btree_byte p i
masked_as Sequence block p i = sequence_byte p i
masked_as Other block p i = other_byte p i

-- parts of a test
both : (a b : Bool) → (a && b) ≡ true → (a ≡ true) × (b ≡ true)
both true b e = (refl, e)
both false b e = cc e

zeros_not_formed : (p : List ℕ) → is_zero p ≡ true → well_formed p ≡ false
zeros_not_formed p z = by_case (well_formed p) refl
  where
    by_case : (w : Bool) → well_formed p ≡ w → well_formed p ≡ false
    by_case false e = e
    by_case true e = let h = head_of p (both (header_fits p) (lines_fit p (count p)) e).0 in absurd (omega (arith, h.layout, zero_byte p 18 z, zero_byte p 19 z))

zeros_masked : (p : List ℕ) (i : ℕ) → is_zero p ≡ true → byte p i ≡ other_byte p i
zeros_masked p i z = by_case (nat_lt i 10) ∙ sym (other_open p i)
  where
    by_case : (b : Bool) → byte p i ≡ (if b then 0 else byte p i)
    by_case true = zero_byte p i z
    by_case false = refl

as_by : (k : PageKind) (block : ℕ) (p : List ℕ) (i : ℕ) → k ≢ Zero → masked_by k block p i ≡ masked_as k block p i
as_by Zero block p i other = absurd (other refl)
as_by Heap block p i other = refl
as_by Btree block p i other = refl
as_by Sequence block p i other = refl
as_by Other block p i other = refl

by_tests : (a b c : Bool) → (if a then Heap else if b then Btree else if c then Sequence else Other) ≢ Zero
by_tests true b c e = cc e
by_tests false true c e = cc e
by_tests false false true e = cc e
by_tests false false false e = cc e

never_zero : (p : List ℕ) (w : Bool) → (if w then kind_by_special p else Other) ≢ Zero
never_zero p true e = by_tests (pd_special p == 8192) (pd_special p == 8176 && nat_le (u16_at p 8190) 0xFF7F) (pd_special p == 8184 && u32_at p 8184 == 0x1717) e
never_zero p false e = cc e

pub masked_open : (block : ℕ) (p : List ℕ) (i : ℕ) → masked_byte block p i ≡ masked_as (shape_kind p) block p i
unfolding kind_of
masked_open block p i = by_case (is_zero p) refl
  where
    by_case : (z : Bool) → is_zero p ≡ z → masked_by (if is_zero p then Zero else if well_formed p then kind_by_special p else Other) block p i ≡ masked_as (shape_kind p) block p i
    by_case true z = rw (z, zeros_not_formed p z) (zeros_masked p i z)
    by_case false z = rw z (as_by (shape_kind p) block p i (never_zero p (well_formed p)))

pub mask_at : (block : ℕ) (p : List ℕ) (i : ℕ) → i < 8192 → byte (mask block p) i ≡ masked_as (shape_kind p) block p i
unfolding mask
mask_at block p i lt = byte-page_of (masked_byte block p) i lt ∙ masked_open block p i

pub length-mask : (block : ℕ) (p : List ℕ) → length (mask block p) ≡ 8192
unfolding mask
length-mask block p = length-page_of (masked_byte block p)

-- a page's mask by its bytes
pub mask_is : (block : ℕ) (p q : List ℕ) → length q ≡ 8192 → ((i : ℕ) → i < 8192 → masked_as (shape_kind p) block p i ≡ byte q i) → mask block p ≡ q
mask_is block p q size each = same_pages (mask block p) q (length-mask block p) size (λ i lt. mask_at block p i lt ∙ each i lt)

-- a sequence's page
pub record IsSequence (p : List ℕ) : Type 0 where
  pub head : Head p
  pub lines : lines_fit p (count p) ≡ true
  pub special : pd_special p ≡ 8184
  pub magic : u32_at p 8184 ≡ 0x1717

pub record HasKind (p : List ℕ) (k : PageKind) : Type 0 where
  pub is : shape_kind p ≡ k

pub shape_heap : (p : List ℕ) → IsHeap p → HasKind p Heap
shape_heap p h = let special : (pd_special p == 8192) ≡ true = grind (arith, nat_tests, h.heap) in record { is = rw (well p h.head h.lines, special) refl }

pub shape_btree : (p : List ℕ) → IsBtree p → u16_at p 8190 ≤ 0xFF7F → HasKind p Btree
shape_btree p h low =
    let no : (pd_special p == 8192) ≡ false = grind (arith, nat_tests, h.special) in
    let a : (pd_special p == 8176) ≡ true = grind (arith, nat_tests, h.special) in
    let b : nat_le (u16_at p 8190) 0xFF7F ≡ true = grind (arith, nat_tests, low) in
    record { is = rw (well p h.head h.lines, no, a, b) refl }

pub shape_sequence : (p : List ℕ) → IsSequence p → HasKind p Sequence
shape_sequence p h =
    let no : (pd_special p == 8192) ≡ false = grind (arith, nat_tests, h.special) in
    let no2 : (pd_special p == 8176) ≡ false = grind (arith, nat_tests, h.special) in
    let a : (pd_special p == 8184) ≡ true = grind (arith, nat_tests, h.special) in
    let b : (u32_at p 8184 == 0x1717) ≡ true = grind (arith, nat_tests, h.magic) in
    record { is = rw (well p h.head h.lines, no, no2, a, b) refl }

-- each page is of one of four shapes
pub shape_cases : (p : List ℕ) (P : PageKind → Type 0) → length p ≡ 8192 → (IsHeap p → P Heap) → (IsBtree p → u16_at p 8190 ≤ 0xFF7F → P Btree) → (IsSequence p → P Sequence)
    → (HasKind p Other → P Other) → P (shape_kind p)
shape_cases p P size heap btree sequence other = by_case (well_formed p) refl
  where
    formed : (a b c : Bool) → (pd_special p == 8192) ≡ a → (pd_special p == 8176 && nat_le (u16_at p 8190) 0xFF7F) ≡ b → (pd_special p == 8184 && u32_at p 8184 == 0x1717) ≡ c → well_formed p ≡ true → Head p → lines_fit p (count p) ≡ true
        → P (if a then Heap else if b then Btree else if c then Sequence else Other)
    formed true b c ea eb ec w h l = heap (record { size = size; head = h; lines = l; heap = grind (arith, nat_tests, ea) })
    formed false true c ea eb ec w h l =
        let t = both (pd_special p == 8176) (nat_le (u16_at p 8190) 0xFF7F) eb in
        btree (record { size = size; head = h; lines = l; special = grind (arith, nat_tests, t.0) }) (grind (arith, nat_tests, t.1))
    formed false false true ea eb ec w h l =
        let t = both (pd_special p == 8184) (u32_at p 8184 == 0x1717) ec in
        sequence (record { head = h; lines = l; special = grind (arith, nat_tests, t.0); magic = grind (arith, nat_tests, t.1) })
    formed false false false ea eb ec w h l = other (record { is = rw (w, ea, eb, ec) refl })

    by_case : (w : Bool) → well_formed p ≡ w → P (if w then kind_by_special p else Other)
    by_case false e = other (record { is = rw e refl })
    by_case true e =
        let t = both (header_fits p) (lines_fit p (count p)) e in
        formed (pd_special p == 8192) (pd_special p == 8176 && nat_le (u16_at p 8190) 0xFF7F) (pd_special p == 8184 && u32_at p 8184 == 0x1717) refl refl refl e (head_of p t.0) t.1

-- pages that differ in their first ten bytes alone
pub record SameTail (p q : List ℕ) : Type 0 where
  pub size : length p ≡ 8192
  pub size_q : length q ≡ 8192
  pub tail : (i : ℕ) → 10 ≤ i → byte q i ≡ byte p i

module _ (p q : List ℕ) (s : SameTail p q) where
  pub u16_tail : (i : ℕ) → 10 ≤ i → u16_at q i ≡ u16_at p i
  u16_tail i le = λ t. s.tail i le t + 256 * s.tail (i + 1) (omega arith) t

  pub lower_tail : pd_lower q ≡ pd_lower p
  lower_tail = lower_u16 q ∙ u16_tail 12 (omega arith) ∙ sym (lower_u16 p)

  pub upper_tail : pd_upper q ≡ pd_upper p
  upper_tail = upper_u16 q ∙ u16_tail 14 (omega arith) ∙ sym (upper_u16 p)

  pub special_tail : pd_special q ≡ pd_special p
  special_tail = special_u16 q ∙ u16_tail 16 (omega arith) ∙ sym (special_u16 p)

  pub off_tail : (k : ℕ) → lp_off q k ≡ lp_off p k
  off_tail k = off_same q p k k (u16_tail (24 + 4 * k) (omega arith))

  pub len_tail : (k : ℕ) → lp_len q k ≡ lp_len p k
  len_tail k = len_same q p k k (u16_tail (26 + 4 * k) (omega arith))

  head_tail : header_fits q ≡ header_fits p
  unfolding header_fits
  head_tail = rw (lower_tail, upper_tail, special_tail, u16_tail 18 (omega arith)) refl

  line_tail : (k : ℕ) → line_fits q k ≡ line_fits p k
  unfolding line_fits
  line_tail k = rw (len_tail k, off_tail k, upper_tail, special_tail) refl

  lines_tail : (n : ℕ) → lines_fit q n ≡ lines_fit p n
  lines_tail zero = refl
  lines_tail (suc n) = rw (lines_tail n, line_tail n) refl

  well_tail : well_formed q ≡ well_formed p
  well_tail = rw (head_tail, lower_tail, lines_tail (count p)) refl

  pub kind_tail : HasKind q (shape_kind p)
  kind_tail =
      let m : u16_at q 8190 ≡ u16_at p 8190 = u16_tail 8190 (omega arith) in
      let l : u32_at q 8184 ≡ u32_at p 8184 = λ t. u16_tail 8184 (omega arith) t + 65536 * u16_tail 8186 (omega arith) t in
      record { is = rw (well_tail, special_tail, m, l) refl }

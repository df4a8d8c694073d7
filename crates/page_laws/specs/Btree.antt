-- B-tree pages, and one made anew with its special space kept: PostgreSQL 16, src/include/access/nbtree.h, BTPageOpaqueData, and
-- src/backend/storage/page/bufpage.c, PageGetTempPageCopySpecial.
use Rattle.std.specs.Prelude.{ℕ, ◌≡◌, ◌%◌, ◌<◌, ◌≤◌, List, [], ◌∷◌, length}
use Rattle.layout.specs.Splice.{splice}
use Rattle.page_layout.specs.Bytes.{byte, u16_at, cut}
use Rattle.page_layout.specs.Page.{count, lp_off, lp_len, item}
use Rattle.page_layout.specs.Edits.{init_bytes}
use Rattle.page_masks.specs.Mask.{shown_flags}
use Rattle.page_masks.specs.Shapes.{IsBtree}

-- a page of the kind B-tree: its cycle id is at most MAX_BT_CYCLE_ID
pub record BtreePage (p : List ℕ) : Type 0 where
  pub page : IsBtree p
  pub cycle : u16_at p 8190 ≤ 0xFF7F

-- the page without lines and items, its special space as it was
abbrev pub made_anew : List ℕ → List ℕ
made_anew p = splice (init_bytes 16) 8176 (cut p 8176 16)

-- the same places, lengths and items of lines, the same links and level, and both leaves or neither
pub record SameBtreeItems (p q : List ℕ) : Type 0 where
  pub lines : count q ≡ count p
  pub off : (k : ℕ) → k < count p → lp_off q k ≡ lp_off p k
  pub len : (k : ℕ) → k < count p → lp_len q k ≡ lp_len p k
  pub item : (k : ℕ) → k < count p → 0 < lp_len p k → item q k ≡ item p k
  pub links : (i : ℕ) → 8176 ≤ i → i < 8188 → byte q i ≡ byte p i
  pub leaf : byte q 8188 % 2 ≡ byte p 8188 % 2

-- a special space as the mask shows it: without these flags and the cycle id
abbrev pub shown_special : List ℕ → List ℕ
shown_special x = splice (splice x 12 (shown_flags (byte x 12) ∷ [])) 14 (0 ∷ 0 ∷ [])

-- the page with its special space changed
abbrev pub with_special : (List ℕ → List ℕ) → List ℕ → List ℕ
with_special change p = splice p 8176 (change (cut p 8176 16))

-- a change of the special space that what is shown of it determines
pub record SpecialChange (change : List ℕ → List ℕ) : Type 0 where
  pub size : (x : List ℕ) → length x ≡ 16 → length (change x) ≡ 16
  pub shown : (x y : List ℕ) → length x ≡ 16 → length y ≡ 16 → shown_special x ≡ shown_special y → shown_special (change x) ≡ shown_special (change y)
  pub cycle : (x : List ℕ) → length x ≡ 16 → u16_at x 14 ≤ 0xFF7F → u16_at (change x) 14 ≤ 0xFF7F

-- a leaf stays one
abbrev pub StaysLeaf : (List ℕ → List ℕ) → Type 0
StaysLeaf change = (x : List ℕ) → length x ≡ 16 → byte x 12 % 2 ≡ 1 → byte (change x) 12 % 2 ≡ 1

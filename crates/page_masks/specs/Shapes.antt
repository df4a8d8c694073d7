-- Shapes of pages: PostgreSQL 16, src/include/storage/bufpage.h; a heap page has no special space, a B-tree's has 16 bytes (access/nbtree.h, BTPageOpaqueData).
use Rattle.std.specs.Prelude.{ℕ, ◌≡◌, ◌*◌, ◌/◌, ◌<◌, ◌≤◌, List, true, length}
use Rattle.page_layout.specs.Bytes.{byte}
use Rattle.page_layout.specs.Page.{pd_special, count, lines_fit, Head}
use Rattle.page_masks.specs.Mask.{shown_count}

-- a well formed heap page
pub record IsHeap (p : List ℕ) : Type 0 where
  pub size : length p ≡ 8192
  pub head : Head p
  pub lines : lines_fit p (count p) ≡ true
  pub heap : pd_special p ≡ 8192

-- a well formed heap page whose last line is in use
pub record HeapPage (p : List ℕ) : Type 0 where
  pub size : length p ≡ 8192
  pub head : Head p
  pub lines : lines_fit p (count p) ≡ true
  pub heap : pd_special p ≡ 8192
  pub trimmed : shown_count p ≡ count p

-- pages that differ in LSN, checksum, the flags that aren't shown, and the prune xid
pub record OnlyHead (p q : List ℕ) : Type 0 where
  pub size : length q ≡ 8192
  pub flags : byte q 10 / 8 * 8 ≡ byte p 10 / 8 * 8
  pub head : (i : ℕ) → 11 ≤ i → i < 20 → byte q i ≡ byte p i
  pub rest : (i : ℕ) → 24 ≤ i → byte q i ≡ byte p i

-- a well formed page with a B-tree's special space
pub record IsBtree (p : List ℕ) : Type 0 where
  pub size : length p ≡ 8192
  pub head : Head p
  pub lines : lines_fit p (count p) ≡ true
  pub special : pd_special p ≡ 8176

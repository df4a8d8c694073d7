-- What the mask shows of trimmed heap pages: PostgreSQL 16, src/backend/access/heap/heapam.c, heap_mask.
use Rattle.std.specs.Prelude.{ℕ, ◌≡◌, ◌+◌, ◌<◌, ◌≤◌, List}
use Rattle.page_layout.specs.Bytes.{byte}
use Rattle.page_layout.specs.Page.{count, lp_off, lp_flags, lp_len, item}
use Rattle.page_masks.specs.Mask.{masked_item}

-- the same places, kinds and lengths of lines, and items that look the same: of a tuple the bytes behind its infomasks are the same
pub record SameHeapItems (block : ℕ) (p q : List ℕ) : Type 0 where
  pub lines : count q ≡ count p
  pub off : (k : ℕ) → k < count p → lp_off q k ≡ lp_off p k
  pub flags : (k : ℕ) → k < count p → lp_flags q k ≡ lp_flags p k
  pub len : (k : ℕ) → k < count p → lp_len q k ≡ lp_len p k
  pub rest : (k i : ℕ) → k < count p → lp_flags p k ≡ 1 → 23 ≤ lp_len p k → 22 ≤ i → byte (item q k) i ≡ byte (item p k) i
  pub item : (k : ℕ) → k < count p → 0 < lp_len p k → masked_item block (k + 1) (lp_flags q k) (item q k) ≡ masked_item block (k + 1) (lp_flags p k) (item p k)

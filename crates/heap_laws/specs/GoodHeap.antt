-- Heap pages on which redo of a record begins, trimmed: PostgreSQL 16, src/include/access/htup_details.h, t_hoff. Own: "Laws of the masks".
use Rattle.std.specs.Prelude.{ℕ, ◌≡◌, ◌<◌, ◌≤◌, List}
use Rattle.page_layout.specs.Page.{count, lp_flags, lp_len, item}
use Rattle.page_laws.specs.Results.{TrimmedHeap}
use Rattle.redo_steps.specs.Tuple.{hoff}

-- items don't overlap, and the values of each tuple begin behind its header
pub record GoodHeap (p : List ℕ) : Type 0 where
  pub heap : TrimmedHeap p
  pub hoffs : (k : ℕ) → k < count p → lp_flags p k ≡ 1 → 23 ≤ lp_len p k → 23 ≤ hoff (item p k)

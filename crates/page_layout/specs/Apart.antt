-- Items that share no byte: PostgreSQL 16, src/include/storage/bufpage.h; an item takes its length rounded up to 8.
use Rattle.std.specs.Prelude.{ℕ, ◌+◌, ◌<◌, ◌≤◌, ◌⊎◌, List}
use Rattle.page_layout.specs.Bytes.{up8}
use Rattle.page_layout.specs.Page.{count, lp_off, lp_len}

-- the item of one line ends before the other's begins
abbrev pub Apart : List ℕ → ℕ → ℕ → Type 0
Apart p j k = (lp_off p j + up8 (lp_len p j) ≤ lp_off p k) ⊎ (lp_off p k + up8 (lp_len p k) ≤ lp_off p j)

-- no two items of the page overlap
abbrev pub AreApart : List ℕ → Type 0
AreApart p = (j k : ℕ) → j < k → k < count p → 0 < lp_len p j → 0 < lp_len p k → Apart p j k

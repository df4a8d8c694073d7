-- Pages as lists of lines and items, before and after a call: PostgreSQL 16, src/backend/storage/page/bufpage.c.
use Rattle.std.specs.Prelude.{ℕ, ◌≡◌, ◌≢◌, ◌+◌, ◌-◌, ◌<◌, List, length, nat_lt, if◌then◌else◌}
use Rattle.page_layout.specs.Page.{count, lp_flags, lp_len, item, IsFormed}
use Rattle.page_layout.specs.Apart.{AreApart}

-- line j of the one page has the kind, the length and the item of line i of the other
pub record SameItem (p : List ℕ) (i : ℕ) (q : List ℕ) (j : ℕ) : Type 0 where
  pub flags : lp_flags q j ≡ lp_flags p i
  pub len : lp_len q j ≡ lp_len p i
  pub item : 0 < lp_len p i → item q j ≡ item p i

-- every line and item is as it was
pub record KeepsItems (p q : List ℕ) : Type 0 where
  pub formed : IsFormed q
  pub lines : count q ≡ count p
  pub items : (k : ℕ) → k < count p → SameItem p k q k

-- line k is a normal one with this item, the others are as they were
pub record GainsItem (p : List ℕ) (k : ℕ) (bytes : List ℕ) (q : List ℕ) : Type 0 where
  pub formed : IsFormed q
  pub there : k < count q
  pub normal : lp_flags q k ≡ 1
  pub len : lp_len q k ≡ length bytes
  pub held : item q k ≡ bytes
  pub others : (j : ℕ) → j ≢ k → j < count q → SameItem p j q j

-- line k is a new one with this item, the later lines follow it
pub record InsertsItem (p : List ℕ) (k : ℕ) (bytes : List ℕ) (q : List ℕ) : Type 0 where
  pub formed : IsFormed q
  pub lines : count q ≡ count p + 1
  pub there : k < count q
  pub normal : lp_flags q k ≡ 1
  pub len : lp_len q k ≡ length bytes
  pub held : item q k ≡ bytes
  pub others : (j : ℕ) → j ≢ k → j < count q → SameItem p (if nat_lt j k then j else j - 1) q j

-- line k and its item are gone, the later lines follow
pub record LosesItem (p : List ℕ) (k : ℕ) (q : List ℕ) : Type 0 where
  pub formed : IsFormed q
  pub apart : AreApart q
  pub lines : count q ≡ count p - 1
  pub items : (j : ℕ) → j < count q → SameItem p (if nat_lt j k then j else j + 1) q j

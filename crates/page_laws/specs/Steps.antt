-- Steps that redo of heap records is made of: PostgreSQL 16, src/backend/access/heap/pruneheap.c, heap_page_prune_execute. Own: "Laws of the masks".
use Rattle.std.specs.Prelude.{ℕ, ◌<◌, List, [], ◌∷◌}
use Rattle.page_layout.specs.Edits.{with_pointer}

-- a line that gets no item: unused, a redirect, or dead with length 0
pub record Setting : Type 0 where
  pub index : ℕ
  pub off : ℕ
  pub flags : ℕ

-- lines of a page with this many, each number within its bits
abbrev pub AreSettings : ℕ → List Setting → Type 0
AreSettings lines [] = Unit {0}
AreSettings lines (s ∷ settings) = (s.index < lines) × (s.off < 32768) × (s.flags < 4) × AreSettings lines settings

-- the lines set, one after the other
abbrev pub lines_set : List Setting → List ℕ → List ℕ
lines_set [] p = p
lines_set (s ∷ settings) p = lines_set settings (with_pointer p s.index s.off s.flags 0)

-- Answers of a page's call that the mask can't tell apart. Own: "Laws of the masks".
use Rattle.std.specs.Prelude.{ℕ, ◌≡◌, List, Result, Ok, Err}
use Rattle.page_layout.specs.declared.refusal.PageRefusal.{PageRefusal}
use Rattle.page_layout.specs.Apart.{AreApart}
use Rattle.page_masks.specs.Mask.{mask}
use Rattle.page_masks.specs.Shapes.{HeapPage}

-- the same refusal, or pages with equal masks
abbrev pub SameResults : ℕ → Result (List ℕ) PageRefusal → Result (List ℕ) PageRefusal → Type 0
SameResults block (Ok p) (Ok q) = mask block p ≡ mask block q
SameResults block (Err a) (Err b) = a ≡ b
SameResults block (Ok p) (Err b) = ⊥
SameResults block (Err a) (Ok q) = ⊥

-- a well formed heap page whose last line is in use, and whose items don't overlap
pub record TrimmedHeap (p : List ℕ) : Type 0 where
  pub page : HeapPage p
  pub apart : AreApart p

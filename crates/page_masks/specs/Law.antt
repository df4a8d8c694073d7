-- What replay of a record owes to the mask of a page. Own: "Laws of the masks".
use Rattle.std.specs.Prelude.{ℕ, ◌≡◌, ◌==◌, ◌&&◌, List, Bool, true, false, IsTrue, if◌then◌else◌, Result, Ok, Err, length}
use Rattle.page_layout.specs.Lsn.{lsn, with_lsn}
use Rattle.page_layout.specs.declared.refusal.RedoWhy.{RedoWhy}
use Rattle.page_masks.specs.Kind.{is_zero}
use Rattle.page_masks.specs.Mask.{mask}
use Rattle.page_masks.specs.Sound.{is_sound}

-- what a law knows of the pages of a block
pub record PageView : Type 0 where
  pub is_page : List ℕ → Bool
  pub lsn : List ℕ → ℕ
  pub mask : List ℕ → List ℕ
  pub sound : List ℕ → Bool

-- 8192 bytes that aren't all zeros
abbrev pub is_page : List ℕ → Bool
is_page p = length p == 8192 && (if is_zero p then false else true)

-- the pages of the block of this number
abbrev pub view : ℕ → PageView
view block = record { is_page = is_page; lsn = lsn; mask = mask block; sound = is_sound }

-- equal LSN and equal masked bytes
pub record SamePage (v : PageView) (p q : List ℕ) : Type 0 where
  pub lsn : v.lsn p ≡ v.lsn q
  pub mask : v.mask p ≡ v.mask q

-- what becomes of a page, or why not
abbrev pub Redone : Type 0
Redone = Result (List ℕ) RedoWhy

-- the same refusal, or pages with equal masks
abbrev pub SameMasks : PageView → Redone → Redone → Type 0
SameMasks v (Ok p) (Ok q) = v.mask p ≡ v.mask q
SameMasks v (Err a) (Err b) = a ≡ b
SameMasks v (Ok p) (Err b) = ⊥
SameMasks v (Err a) (Ok q) = ⊥

-- the same refusal, or pages with equal LSN and equal masks
abbrev pub SameAnswer : PageView → Redone → Redone → Type 0
SameAnswer v (Ok p) (Ok q) = SamePage v p q
SameAnswer v (Err a) (Err b) = a ≡ b
SameAnswer v (Ok p) (Err b) = ⊥
SameAnswer v (Err a) (Ok q) = ⊥

-- what is asked of a manager's operation: it makes 8192 bytes of 8192, also of zeros, and can't tell a sound page from one with its mask
pub record IsOperation (v : PageView) (g : List ℕ → Redone) : Type 0 where
  pub page : (p q : List ℕ) → length p ≡ 8192 → g p ≡ Ok q → length q ≡ 8192
  pub mask : (p q : List ℕ) → length p ≡ 8192 → length q ≡ 8192 → IsTrue (v.sound p) → SamePage v p q → SameMasks v (g p) (g q)

-- what is asked of a record's change of a block: the same, and its page has the record's end as LSN
pub record IsChange (v : PageView) (end : ℕ) (f : List ℕ → Redone) : Type 0 where
  pub page : (p q : List ℕ) → IsTrue (v.is_page p) → f p ≡ Ok q → IsTrue (v.is_page q)
  pub lsn : (p q : List ℕ) → IsTrue (v.is_page p) → f p ≡ Ok q → v.lsn q ≡ end
  pub mask : (p q : List ℕ) → IsTrue (v.is_page p) → IsTrue (v.is_page q) → IsTrue (v.sound p) → SamePage v p q → SameAnswer v (f p) (f q)

-- a refusal stays, a page gets the LSN
abbrev pub set_lsn_of : ℕ → Redone → Redone
set_lsn_of end (Ok p) = Ok (with_lsn end p)
set_lsn_of end (Err why) = Err why

-- the change of a block: the operation, then the record's end as LSN
abbrev pub stamped : ℕ → (List ℕ → Redone) → List ℕ → Redone
stamped end g p = set_lsn_of end (g p)

-- one step, then another
abbrev pub and_then : Redone → (List ℕ → Redone) → Redone
and_then (Ok p) g = g p
and_then (Err why) g = Err why

-- a step of an operation: on pages of this shape it keeps the shape, and can't tell pages with equal masks
pub record Respects (v : PageView) (shape : List ℕ → Bool) (g : List ℕ → Redone) : Type 0 where
  pub page : (p q : List ℕ) → length p ≡ 8192 → IsTrue (shape p) → g p ≡ Ok q → length q ≡ 8192
  pub keeps : (p q : List ℕ) → length p ≡ 8192 → IsTrue (shape p) → g p ≡ Ok q → IsTrue (shape q)
  pub mask : (p q : List ℕ) → length p ≡ 8192 → length q ≡ 8192 → IsTrue (shape p) → IsTrue (shape q) → v.mask p ≡ v.mask q → SameMasks v (g p) (g q)

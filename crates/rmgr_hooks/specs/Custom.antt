-- A resource manager of an extension, as it states itself: PostgreSQL 16, src/include/access/xlog_internal.h, RmgrData.
use Rattle.std.specs.Prelude.{ℕ, ◌≡◌, Bool, true, List, Option, Some, None}
use Rattle.page_masks.specs.Law.{IsOperation, Redone, view}
use Rattle.rmgr_hooks.specs.declared.manager.Manager.{Ghosts}

-- its number, the infos of its records, the text of a record, which blocks of one are made anew, and what becomes of a page but for its LSN
pub record Extension : Type 0 where
  pub id : ℕ
  pub is_known : ℕ → Bool
  pub is_fresh : ℕ → ℕ → Bool
  pub text : ℕ → List ℕ → List ℕ
  pub change : (info id : ℕ) (main block : List ℕ) → List ℕ → Redone

-- what a manager states
abbrev pub stated : {M : Type 0} → Ghosts M → Extension
stated manager = record {
  id = manager.ID;
  is_known = manager.is_known;
  is_fresh = manager.is_fresh;
  text = manager.text;
  change = manager.change;
}

-- a manager, where one is handed in
abbrev pub handed_in : {M H : Type 0} → Ghosts M → Option H → Option Extension
handed_in manager None = None
handed_in manager (Some it) = Some (stated manager)

-- what a manager owes for what it does to pages
pub record OwesPages (e : Extension) : Type 0 where
  pub respects : (n info id : ℕ) (main block : List ℕ) → IsOperation (view n) (e.change info id main block)
  pub makes_anew : (info id : ℕ) (main block p q : List ℕ) → e.is_fresh info id ≡ true → e.change info id main block p ≡ e.change info id main block q

-- so does the one that is handed in, if one is
abbrev pub IsSound : Option Extension → Type 0
IsSound None = Unit {0}
IsSound (Some e) = OwesPages e

-- B-tree pages on which records are redone: PostgreSQL 16, src/backend/access/nbtree/nbtxlog.c, btree_redo. Own: "Redo of B-tree pages".
use Rattle.std.specs.Prelude.{ℕ, List, Bool, true, false, Err, if◌then◌else◌}
use Rattle.page_layout.specs.declared.refusal.RedoWhy.TheVariants.{PageShape}
use Rattle.page_masks.specs.declared.kind.PageKind.{PageKind}
use Rattle.page_masks.specs.declared.kind.PageKind.TheVariants.{Btree}
use Rattle.page_masks.specs.Kind.{kind_of}
use Rattle.page_masks.specs.Law.{Redone}

-- the kind is B-tree's
abbrev pub is_btree : PageKind → Bool
is_btree Btree = true
is_btree _ = false

-- a well formed page with a B-tree's special space, whose cycle id is one
abbrev pub is_btree_page : List ℕ → Bool
is_btree_page p = is_btree (kind_of p)

-- redo of a record on such a page
abbrev pub on_btree : (List ℕ → Redone) → List ℕ → Redone
on_btree redo p = if is_btree_page p then redo p else Err PageShape

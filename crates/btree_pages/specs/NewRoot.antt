-- NEWROOT: PostgreSQL 16, src/backend/access/nbtree/nbtxlog.c, btree_xlog_newroot.
use Rattle.std.specs.Prelude.{ℕ, ◌+◌, List}
use Rattle.page_masks.specs.Law.{Redone}
use Rattle.btree_pages.specs.declared.special.Special.{Special}
use Rattle.btree_pages.specs.Special.{leaf_flag, empty_page}
use Rattle.btree_pages.specs.Items.{restored}

-- BTP_ROOT, 2, and the leaf's flag
abbrev pub root_special : ℕ → Special
root_special level = record { prev = 0; next = 0; level = level; flags = 2 + leaf_flag level }

-- a root of a level
abbrev pub new_root_page : ℕ → List (List ℕ) → Redone
new_root_page level tuples = restored tuples (empty_page (root_special level))

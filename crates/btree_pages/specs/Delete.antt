-- DELETE and VACUUM: PostgreSQL 16, src/backend/access/nbtree/nbtxlog.c, btree_xlog_delete, btree_xlog_vacuum.
use Rattle.std.specs.Prelude.{ℕ, List, Ok}
use Rattle.page_layout.specs.Deletes.{delete_items}
use Rattle.page_laws.specs.Btree.{with_special}
use Rattle.page_masks.specs.Law.{Redone, and_then}
use Rattle.redo_steps.specs.Redo.{on_page}
use Rattle.btree_pages.specs.Special.{without_garbage}

-- the tuples at these places are taken out, and none is known to be garbage
abbrev pub delete_page : List ℕ → List ℕ → Redone
delete_page places p = and_then (on_page (delete_items p places)) (λ q. Ok (with_special without_garbage q))

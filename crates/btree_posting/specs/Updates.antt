-- DELETE and VACUUM that make posting lists shorter: PostgreSQL 16, src/backend/access/nbtree/nbtxlog.c, btree_xlog_updates,
-- btree_xlog_delete, btree_xlog_vacuum.
use Rattle.std.specs.Prelude.{ℕ, ◌-◌, ◌&&◌, List, [], ◌∷◌, Ok, Err, if◌then◌else◌}
use Rattle.block_layouts.specs.declared.posting.PostingUpdates.{PostingUpdates}
use Rattle.block_layouts.specs.declared.shortened.Update.{Update}
use Rattle.page_layout.specs.Page.{item}
use Rattle.page_layout.specs.Overwrite.{has_item, overwrite_item}
use Rattle.page_layout.specs.declared.refusal.RedoWhy.TheVariants.{Place}
use Rattle.page_laws.specs.Btree.{with_special}
use Rattle.page_masks.specs.Law.{Redone, and_then}
use Rattle.redo_steps.specs.Redo.{on_page}
use Rattle.btree_pages.specs.Special.{without_garbage}
use Rattle.btree_pages.specs.Delete.{delete_page}
use Rattle.btree_pages.specs.Page.{on_btree}
use Rattle.btree_posting.specs.Form.{can_shorten, shortened}

-- one posting tuple without some of its tids
abbrev pub shorten_item : Update → List ℕ → Redone
shorten_item update p =
    if has_item p update.place && can_shorten update.gone (item p (update.place - 1))
    then on_page (overwrite_item p update.place (shortened update.gone (item p (update.place - 1))))
    else Err Place

-- one after another; a B-tree page is left, which one whose items overlap may not be
abbrev pub shorten_items : List Update → List ℕ → Redone
shorten_items [] p = Ok p
shorten_items (update ∷ updates) p = and_then (shorten_item update p) (on_btree (shorten_items updates))

-- the tuples at these places are taken out, if there are any; none is known to be garbage
abbrev pub delete_any : List ℕ → List ℕ → Redone
delete_any [] p = Ok (with_special without_garbage p)
delete_any (place ∷ places) p = delete_page (place ∷ places) p

-- first the lists, then the tuples that go
abbrev pub updates_page : PostingUpdates → List ℕ → Redone
updates_page updates p = and_then (shorten_items updates.updates p) (delete_any updates.deleted)

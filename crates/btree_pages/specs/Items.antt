-- Items added behind the last line of a B-tree page: PostgreSQL 16, src/backend/access/nbtree/nbtxlog.c, _bt_restore_page, btree_xlog_split.
use Rattle.std.specs.Prelude.{ℕ, ◌+◌, ◌-◌, List, [], ◌∷◌, map, reverse, false, Ok}
use Rattle.std.specs.List.{range_with_len}
use Rattle.page_layout.specs.Page.{count, item}
use Rattle.page_layout.specs.Edits.{add_item}
use Rattle.page_masks.specs.Law.{Redone, and_then}
use Rattle.redo_steps.specs.Redo.{on_page}

-- one item
abbrev pub with_last : List ℕ → List ℕ → Redone
with_last bytes p = on_page (add_item p bytes (count p + 1) false)

-- one after another
abbrev pub with_items : List (List ℕ) → List ℕ → Redone
with_items [] p = Ok p
with_items (bytes ∷ items) p = and_then (with_last bytes p) (with_items items)

-- the tuples of a record, which hold the last line's first
abbrev pub restored : List (List ℕ) → List ℕ → Redone
restored tuples p = with_items (reverse tuples) p

-- the items of a page's lines, from a place up to before another one
abbrev pub items : List ℕ → ℕ → ℕ → List (List ℕ)
items p from to = map (λ place. item p (place - 1)) (range_with_len from (to - from))

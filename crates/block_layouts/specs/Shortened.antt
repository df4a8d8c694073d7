-- Posting lists that become shorter: PostgreSQL 16, src/include/access/nbtxlog.h, xl_btree_delete, xl_btree_vacuum and
-- xl_btree_update; src/backend/access/nbtree/nbtxlog.c, btree_xlog_updates.
use Rattle.std.specs.Prelude.{ℕ, ◌≤◌, ◌+◌, ◌*◌, List, length, Option}
use Rattle.layout.specs.Readers.{u16_at}
use Rattle.layout_readers.specs.Whole.{whole}
use Rattle.block_layouts.specs.declared.shortened.Update.{Update}
use Rattle.block_layouts.specs.Row.{row_of, end_of}
use Rattle.block_layouts.specs.Places.{places_from}

-- how many indexes a list has: ndeletedtids
abbrev pub gone_count : List ℕ → ℕ → ℕ
gone_count bytes list = u16_at list bytes

-- behind a list: the number of its indexes, and these
abbrev pub list_behind : List ℕ → ℕ → ℕ
list_behind bytes list = list + 2 + 2 * gone_count bytes list

-- behind so many lists, the first at an offset
abbrev pub lists_end : ℕ → List ℕ → ℕ → ℕ
lists_end count bytes list = end_of list_behind count bytes list

-- where an update's place stands, and where its list does
pub record UpdatePlace : Type 0 where
  pub place : ℕ
  pub list : ℕ

-- one update: its place, and the indexes of the tids that go
abbrev pub update_at : List ℕ → UpdatePlace → Update
update_at bytes at = record {
  place = u16_at at.place bytes;
  gone = places_from (gone_count bytes at.list) bytes (at.list + 2);
}

-- behind its place, and behind its list
abbrev pub update_behind : List ℕ → UpdatePlace → UpdatePlace
update_behind bytes at = record { place = at.place + 2; list = list_behind bytes at.list }

-- so many updates, the first at a place
abbrev pub updates_from : ℕ → List ℕ → UpdatePlace → List Update
updates_from count bytes at = row_of update_at update_behind count bytes at

-- so many updates are there
pub record HasUpdates (count : ℕ) (bytes : List ℕ) (at : UpdatePlace) : Type 0 where
  pub places : at.place + 2 * count ≤ at.list
  pub lists : lists_end count bytes at.list ≤ length bytes

-- of so many updates behind so many deleted places the first place stands behind these, and the first list behind all
abbrev pub first_update : ℕ → ℕ → UpdatePlace
first_update deleted updated = record { place = 2 * deleted; list = 2 * deleted + 2 * updated }

-- so many updates behind so many deleted places, where all are there
abbrev pub updates_of : ℕ → ℕ → List ℕ → Option (List Update)
updates_of deleted updated bytes =
    let first = first_update deleted updated in
    whole (lists_end updated bytes first.list) bytes (updates_from updated bytes first)

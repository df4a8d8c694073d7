-- Posting lists of B-trees in a block's bytes: PostgreSQL 16, src/include/access/nbtxlog.h, xl_btree_insert,
-- xl_btree_delete and xl_btree_vacuum; src/backend/access/nbtree/nbtxlog.c, btree_xlog_insert, btree_xlog_delete and
-- btree_xlog_vacuum.
use Rattle.std.specs.Prelude.{ℕ, List, drop, Option, option_map}
use Rattle.layout.specs.Readers.{u16_at}
use Rattle.layout_readers.specs.Whole.{whole}
use Rattle.block_layouts.specs.declared.posting.PostingInsert.{PostingInsert}
use Rattle.block_layouts.specs.declared.posting.PostingUpdates.{PostingUpdates}
use Rattle.block_layouts.specs.Places.{places_from}
use Rattle.block_layouts.specs.Shortened.{updates_of}

-- an index in a posting list, counted from 0, and the new tuple
pub record PostingInsertView : Type 0 where
  pub index : ℕ
  pub tuple : List ℕ

-- what a clause sees of them
abbrev pub posting_insert_seen : PostingInsert → PostingInsertView
posting_insert_seen insert = record { index = insert.index; tuple = insert.tuple.now }

-- the index in two bytes, and then the tuple, whose own header has eight
abbrev pub posting_insert_of : List ℕ → Option PostingInsertView
posting_insert_of bytes = whole 10 bytes record { index = u16_at 0 bytes; tuple = drop 2 bytes }

-- the deleted places, the places of the updates, and then the list of each in turn; what stands behind is ignored
abbrev pub posting_updates_of : ℕ → ℕ → List ℕ → Option PostingUpdates
posting_updates_of deleted updated bytes =
    option_map (λ updates. record { deleted = places_from deleted bytes 0; updates = updates }) (updates_of deleted updated bytes)

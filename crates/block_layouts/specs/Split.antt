-- The bytes of a split's left page: PostgreSQL 16, src/include/access/nbtxlog.h, xl_btree_split;
-- src/backend/access/nbtree/nbtxlog.c, btree_xlog_split.
use Rattle.std.specs.Prelude.{ℕ, ◌&&◌, Bool, true, false, List, Option, Some, None, if◌then◌else◌}
use Rattle.std.specs.Option.{option_copied}
use Rattle.block_layouts.specs.declared.split.SplitTuples.{SplitTuples}
use Rattle.block_layouts.specs.IndexTuples.{item_at, item_behind, item_stands}

-- the new tuple, where the bytes begin with it, and the left page's high key
pub record SplitView : Type 0 where
  pub new_tuple : Option (List ℕ)
  pub high_key : List ℕ

-- what a clause sees of them
abbrev pub split_seen : SplitTuples → SplitView
split_seen tuples = record { new_tuple = option_copied tuples.new_tuple; high_key = tuples.high_key.now }

-- both, one behind the other; or the high key alone
unfoldable pub split_tuples_of : Bool → List ℕ → Option SplitView
split_tuples_of true bytes =
    if item_stands bytes 0 && item_stands bytes (item_behind bytes 0)
    then Some (record { new_tuple = Some (item_at bytes 0); high_key = item_at bytes (item_behind bytes 0) })
    else None
split_tuples_of false bytes =
    if item_stands bytes 0 then Some (record { new_tuple = None; high_key = item_at bytes 0 }) else None

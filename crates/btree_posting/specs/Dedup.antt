-- DEDUP: PostgreSQL 16, src/backend/access/nbtree/nbtxlog.c, btree_xlog_dedup; src/backend/access/nbtree/nbtdedup.c,
-- _bt_dedup_start_pending, _bt_dedup_save_htid, _bt_dedup_finish_pending.
use Rattle.std.specs.Prelude.{ℕ, ◌+◌, ◌-◌, ◌&&◌, List, [], ◌∷◌, ◌++◌, Bool, true, Err, nat_le, if◌then◌else◌}
use Rattle.std.specs.List.{flat_map, list_all}
use Rattle.block_layouts.specs.declared.dedup.Interval.{Interval}
use Rattle.page_layout.specs.Page.{count, item}
use Rattle.page_layout.specs.declared.refusal.RedoWhy.TheVariants.{Place}
use Rattle.page_laws.specs.Btree.{made_anew, with_special}
use Rattle.page_masks.specs.Law.{Redone}
use Rattle.btree_pages.specs.Special.{without_garbage}
use Rattle.btree_pages.specs.Items.{items, with_items}
use Rattle.btree_pages.specs.Split.{first_data}
use Rattle.btree_posting.specs.Tuple.{tids_of, has_tids, key_of, is_key}
use Rattle.btree_posting.specs.Form.{form}

-- the tuples of an interval
abbrev pub members : List ℕ → Interval → List (List ℕ)
members p i = items p i.base (i.base + i.count)

-- as one tuple: the first one's key with the tids of all, in their order
abbrev pub merged : List ℕ → Interval → List ℕ
merged p i = form (key_of (item p (i.base - 1))) (flat_map tids_of (members p i))

-- they can be merged: two tuples or more, from a place on; each has tids, and the first one's key can get a list
abbrev pub can_merge : List ℕ → ℕ → Interval → Bool
can_merge p from i =
    nat_le from i.base && nat_le 2 i.count && nat_le (i.base + i.count) (count p + 1)
    && list_all has_tids (members p i) && is_key (key_of (item p (i.base - 1)))

-- all intervals can, each behind the one before it
abbrev pub can_merge_all : List ℕ → ℕ → List Interval → Bool
can_merge_all p from [] = true
can_merge_all p from (i ∷ intervals) = can_merge p from i && can_merge_all p (i.base + i.count) intervals

-- the tuples from a place on, those of each interval merged
abbrev pub dedup_tuples : List ℕ → ℕ → List Interval → List (List ℕ)
dedup_tuples p from [] = items p from (count p + 1)
dedup_tuples p from (i ∷ intervals) = items p from i.base ++ (merged p i ∷ dedup_tuples p (i.base + i.count) intervals)

-- the page made anew with them, its special space kept, and none known to be garbage; the high key is in no interval
abbrev pub dedup_page : List Interval → List ℕ → Redone
dedup_page intervals p =
    if can_merge_all p (first_data p) intervals
    then with_items (dedup_tuples p 1 intervals) (with_special without_garbage (made_anew p))
    else Err Place

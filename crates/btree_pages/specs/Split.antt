-- SPLIT_L and SPLIT_R: PostgreSQL 16, src/backend/access/nbtree/nbtxlog.c, btree_xlog_split. Own: "Splits of B-tree pages".
use Rattle.std.specs.Prelude.{ℕ, ◌+◌, ◌==◌, ◌&&◌, List, ◌++◌, ◌∷◌, Option, Some, None, min, nat_le, nat_lt, if◌then◌else◌}
use Rattle.record_layouts.specs.declared.btree.BtreeSplit.{BtreeSplit}
use Rattle.block_layouts.specs.Split.{SplitView}
use Rattle.page_layout.specs.Page.{count}
use Rattle.page_laws.specs.Btree.{made_anew, with_special}
use Rattle.page_masks.specs.Law.{Redone}
use Rattle.btree_pages.specs.declared.special.Special.{Special}
use Rattle.btree_pages.specs.Special.{with_next, with_flags, with_cycle, leaf_flag, empty_page, btpo_next}
use Rattle.btree_pages.specs.Items.{items, restored, with_items}

-- the place of the first tuple (P_FIRSTDATAKEY): behind the high key, which the rightmost page of a level hasn't
abbrev pub first_data : List ℕ → ℕ
first_data p = if btpo_next p == 0 then 1 else 2

-- the place behind the lines that stay, of those that are there
abbrev pub stay_end : BtreeSplit → List ℕ → ℕ
stay_end op p = min op.first_right (count p + 1)

-- the place before which the new tuple comes: its own, if its line is one of those that stay, else behind them
abbrev pub new_place : BtreeSplit → List ℕ → ℕ
new_place op p =
    if nat_le (first_data p) op.new_item && nat_lt op.new_item (stay_end op p) then op.new_item else stay_end op p

-- the tuples that stay, with the new one, if it comes to this page
abbrev pub left_tuples : BtreeSplit → Option (List ℕ) → List ℕ → List (List ℕ)
left_tuples op None p = items p (first_data p) (stay_end op p)
left_tuples op (Some new) p =
    items p (first_data p) (new_place op p) ++ (new ∷ items p (new_place op p) (stay_end op p))

-- BTP_INCOMPLETE_SPLIT, 80, and the leaf's flag; the right page as next one; no cycle id
abbrev pub left_special : ℕ → BtreeSplit → List ℕ → List ℕ
left_special right op x = with_cycle 0 (with_flags (0x80 + leaf_flag op.level) (with_next right x))

-- the page that is split: its special space stays but for that, then come the new high key and the tuples
abbrev pub split_left_page : ℕ → BtreeSplit → SplitView → List ℕ → Redone
split_left_page right op tuples p =
    with_items (tuples.high_key ∷ left_tuples op tuples.new_tuple p) (with_special (left_special right op) (made_anew p))

-- the new page to its right, beside a next one or 0
abbrev pub right_special : ℕ → ℕ → ℕ → Special
right_special left next level = record { prev = left; next = next; level = level; flags = leaf_flag level }

abbrev pub split_right_page : ℕ → ℕ → ℕ → List (List ℕ) → Redone
split_right_page left next level tuples = restored tuples (empty_page (right_special left next level))

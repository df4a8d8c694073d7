-- The special space of a B-tree page, 16 bytes: PostgreSQL 16, src/include/access/nbtree.h, BTPageOpaqueData and BTP_..; what redo
-- changes in it: src/backend/access/nbtree/nbtxlog.c, _bt_clear_incomplete_split, btree_xlog_split.
use Rattle.std.specs.Prelude.{ℕ, ◌+◌, ◌*◌, ◌/◌, ◌%◌, ◌==◌, List, [], ◌∷◌, if◌then◌else◌}
use Rattle.layout.specs.Splice.{splice}
use Rattle.page_layout.specs.Bytes.{byte, u32_at, u32_bytes, with_u16}
use Rattle.page_layout.specs.Edits.{init_bytes}
use Rattle.page_laws.specs.Btree.{with_special}
use Rattle.btree_pages.specs.declared.special.Special.{Special}

-- btpo_prev, btpo_next and btpo_level
abbrev pub with_prev : ℕ → List ℕ → List ℕ
with_prev block x = splice x 0 (u32_bytes block)

abbrev pub with_next : ℕ → List ℕ → List ℕ
with_next block x = splice x 4 (u32_bytes block)

abbrev pub with_level : ℕ → List ℕ → List ℕ
with_level level x = splice x 8 (u32_bytes level)

-- btpo_flags and btpo_cycleid
abbrev pub with_flags : ℕ → List ℕ → List ℕ
with_flags flags x = with_u16 x 12 flags

abbrev pub with_cycle : ℕ → List ℕ → List ℕ
with_cycle cycle x = with_u16 x 14 cycle

-- all fields, without a cycle id
abbrev pub with_fields : Special → List ℕ → List ℕ
with_fields s x = with_cycle 0 (with_flags s.flags (with_level s.level (with_next s.next (with_prev s.prev x))))

-- BTP_LEAF, 1, of a page of level 0
abbrev pub leaf_flag : ℕ → ℕ
leaf_flag level = if level == 0 then 1 else 0

-- an empty page with this special space
abbrev pub empty_page : Special → List ℕ
empty_page s = with_special (with_fields s) (init_bytes 16)

-- the block to the right of a page, 0 for none
abbrev pub btpo_next : List ℕ → ℕ
btpo_next p = u32_at p 8180

-- without BTP_INCOMPLETE_SPLIT, 80: the split of the page below is finished
abbrev pub settled : List ℕ → List ℕ
settled x = splice x 12 (byte x 12 % 128 ∷ [])

-- without BTP_HAS_GARBAGE, 40
abbrev pub without_garbage : List ℕ → List ℕ
without_garbage x = splice x 12 ((byte x 12 / 128 * 128 + byte x 12 % 64) ∷ [])

-- redo on a page whose child was split, and on the page to the right of a split one
abbrev pub settled_page : List ℕ → List ℕ
settled_page p = with_special settled p

abbrev pub neighbour_page : ℕ → List ℕ → List ℕ
neighbour_page right p = with_special (with_prev right) p

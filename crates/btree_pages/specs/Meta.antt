-- The metapage: PostgreSQL 16, src/include/access/nbtree.h, BTMetaPageData; src/backend/access/nbtree/nbtxlog.c, _bt_restore_meta.
use Rattle.std.specs.Prelude.{ℕ, List, [], ◌∷◌}
use Rattle.layout.specs.Splice.{splice}
use Rattle.page_layout.specs.Bytes.{u32_bytes, with_u16}
use Rattle.block_layouts.specs.declared.meta.BtreeMeta.{BtreeMeta}
use Rattle.btree_pages.specs.declared.special.Special.{Special}
use Rattle.btree_pages.specs.Special.{empty_page}

-- BTP_META, 8
abbrev pub meta_special : Special
meta_special = record { prev = 0; next = 0; level = 0; flags = 8 }

-- a number of four bytes at a place of the page
abbrev pub with_u32 : ℕ → ℕ → List ℕ → List ℕ
with_u32 at n p = splice p at (u32_bytes n)

-- btm_magic, 53162, btm_version, btm_root, btm_level
abbrev pub with_root : BtreeMeta → List ℕ → List ℕ
with_root meta p =
    with_u32 36 meta.level (with_u32 32 meta.root (with_u32 28 meta.version (with_u32 24 0x053162 p)))

-- btm_fastroot, btm_fastlevel, btm_last_cleanup_num_delpages
abbrev pub with_fast_root : BtreeMeta → List ℕ → List ℕ
with_fast_root meta p =
    with_u32 48 meta.deleted_pages (with_u32 44 meta.fast_level (with_u32 40 meta.fast_root p))

-- behind four bytes that aren't used: btm_last_cleanup_num_heap_tuples, -1.0 as a double, and btm_allequalimage
abbrev pub with_rest : BtreeMeta → List ℕ → List ℕ
with_rest meta p =
    splice p 56 (0 ∷ 0 ∷ 0 ∷ 0 ∷ 0 ∷ 0 ∷ 0xF0 ∷ 0xBF ∷ meta.all_equal_image ∷ [])

-- an empty page with these fields, and pd_lower behind them
abbrev pub meta_page : BtreeMeta → List ℕ
meta_page meta = with_u16 (with_rest meta (with_fast_root meta (with_root meta (empty_page meta_special)))) 12 72

-- The manager Btree: PostgreSQL 16, src/include/access/nbtxlog.h.
use Rattle.std.specs.Prelude.{ℕ, List, ◌==◌, bit_and, if◌then◌else◌, Option, slice_get, Bool, true, is_some}
use Rattle.layout.specs.Readers.{u16_at, u32_at}
use Rattle.layout_readers.specs.Whole.{whole}
use Rattle.record_layouts.specs.declared.btree.BtreeOp.{BtreeOp}
use Rattle.record_layouts.specs.declared.btree.BtreeOp.TheVariants as op
use Rattle.record_layouts.specs.declared.btree.BtreeInsert.{BtreeInsert}
use Rattle.record_layouts.specs.declared.btree.BtreeSplit.{BtreeSplit}
use Rattle.record_layouts.specs.declared.btree.BtreeDedup.{BtreeDedup}
use Rattle.record_layouts.specs.declared.btree.BtreeDelete.{BtreeDelete}
use Rattle.record_layouts.specs.declared.btree.BtreeVacuum.{BtreeVacuum}
use Rattle.record_layouts.specs.declared.btree.BtreeNewRoot.{BtreeNewRoot}

-- the operation of a number
abbrev pub btree_op_numbered : ℕ → BtreeOp
btree_op_numbered number =
    if number == 0x00 then op.InsertLeaf
    else if number == 0x10 then op.InsertUpper
    else if number == 0x20 then op.InsertMeta
    else if number == 0x30 then op.SplitLeft
    else if number == 0x40 then op.SplitRight
    else if number == 0x50 then op.InsertPost
    else if number == 0x60 then op.Dedup
    else if number == 0x70 then op.Delete
    else if number == 0x80 then op.UnlinkPage
    else if number == 0x90 then op.UnlinkPageMeta
    else if number == 0xA0 then op.NewRoot
    else if number == 0xB0 then op.MarkPageHalfDead
    else if number == 0xC0 then op.Vacuum
    else if number == 0xD0 then op.ReusePage
    else if number == 0xE0 then op.MetaCleanup
    else op.Unlisted number

-- the operation of `info`, without its low four bits
unfoldable pub btree_op_of : ℕ → BtreeOp
btree_op_of info = btree_op_numbered (bit_and info 0xF0)

-- the number of an operation
abbrev pub btree_number : BtreeOp → ℕ
btree_number op.InsertLeaf = 0x00
btree_number op.InsertUpper = 0x10
btree_number op.InsertMeta = 0x20
btree_number op.SplitLeft = 0x30
btree_number op.SplitRight = 0x40
btree_number op.InsertPost = 0x50
btree_number op.Dedup = 0x60
btree_number op.Delete = 0x70
btree_number op.UnlinkPage = 0x80
btree_number op.UnlinkPageMeta = 0x90
btree_number op.NewRoot = 0xA0
btree_number op.MarkPageHalfDead = 0xB0
btree_number op.Vacuum = 0xC0
btree_number op.ReusePage = 0xD0
btree_number op.MetaCleanup = 0xE0
btree_number (op.Unlisted number) = number

-- INSERT_LEAF, INSERT_UPPER, INSERT_META and INSERT_POST: xl_btree_insert
abbrev pub btree_insert_of : List ℕ → Option BtreeInsert
btree_insert_of bytes = whole 2 bytes record {
  off = u16_at 0 bytes;
}

-- SPLIT_L and SPLIT_R: xl_btree_split
abbrev pub btree_split_of : List ℕ → Option BtreeSplit
btree_split_of bytes = whole 10 bytes record {
  level = u32_at 0 bytes;
  first_right = u16_at 4 bytes;
  new_item = u16_at 6 bytes;
  posting = u16_at 8 bytes;
}

-- DEDUP: xl_btree_dedup
abbrev pub btree_dedup_of : List ℕ → Option BtreeDedup
btree_dedup_of bytes = whole 2 bytes record {
  nintervals = u16_at 0 bytes;
}

-- DELETE: xl_btree_delete, whose last byte may be missing
abbrev pub btree_delete_of : List ℕ → Option BtreeDelete
btree_delete_of bytes = whole 8 bytes record {
  horizon = u32_at 0 bytes;
  ndeleted = u16_at 4 bytes;
  nupdated = u16_at 6 bytes;
  catalog = slice_get bytes 8;
}

-- VACUUM: xl_btree_vacuum
abbrev pub btree_vacuum_of : List ℕ → Option BtreeVacuum
btree_vacuum_of bytes = whole 4 bytes record {
  ndeleted = u16_at 0 bytes;
  nupdated = u16_at 2 bytes;
}

-- NEWROOT: xl_btree_newroot
abbrev pub btree_new_root_of : List ℕ → Option BtreeNewRoot
btree_new_root_of bytes = whole 8 bytes record {
  root = u32_at 0 bytes;
  level = u32_at 4 bytes;
}

-- the main bytes hold the whole layout of an operation
abbrev pub btree_is_whole : BtreeOp → List ℕ → Bool
btree_is_whole op.InsertLeaf main = is_some (btree_insert_of main)
btree_is_whole op.InsertUpper main = is_some (btree_insert_of main)
btree_is_whole op.InsertMeta main = is_some (btree_insert_of main)
btree_is_whole op.SplitLeft main = is_some (btree_split_of main)
btree_is_whole op.SplitRight main = is_some (btree_split_of main)
btree_is_whole op.InsertPost main = is_some (btree_insert_of main)
btree_is_whole op.Dedup main = is_some (btree_dedup_of main)
btree_is_whole op.Delete main = is_some (btree_delete_of main)
btree_is_whole op.UnlinkPage main = true
btree_is_whole op.UnlinkPageMeta main = true
btree_is_whole op.NewRoot main = is_some (btree_new_root_of main)
btree_is_whole op.MarkPageHalfDead main = true
btree_is_whole op.Vacuum main = is_some (btree_vacuum_of main)
btree_is_whole op.ReusePage main = true
btree_is_whole op.MetaCleanup main = true
btree_is_whole (op.Unlisted number) main = true

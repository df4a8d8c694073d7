-- Texts of the manager Btree: PostgreSQL 16, src/backend/access/rmgrdesc/nbtdesc.c. Own: "Names and texts of operations".
use Rattle.std.specs.Prelude.{ℕ, List, [], ◌∷◌, codes}
use Rattle.record_layouts.specs.Btree.{btree_dedup_of, btree_delete_of, btree_insert_of, btree_new_root_of, btree_split_of, btree_vacuum_of}
use Rattle.record_layouts.specs.declared.btree.BtreeDedup.{BtreeDedup}
use Rattle.record_layouts.specs.declared.btree.BtreeDelete.{BtreeDelete}
use Rattle.record_layouts.specs.declared.btree.BtreeInsert.{BtreeInsert}
use Rattle.record_layouts.specs.declared.btree.BtreeNewRoot.{BtreeNewRoot}
use Rattle.record_layouts.specs.declared.btree.BtreeOp.{BtreeOp}
use Rattle.record_layouts.specs.declared.btree.BtreeOp.TheVariants as op
use Rattle.record_layouts.specs.declared.btree.BtreeSplit.{BtreeSplit}
use Rattle.record_layouts.specs.declared.btree.BtreeVacuum.{BtreeVacuum}
use Rattle.rmgr_desc.specs.Pieces.{fields, number, or_short}

-- INSERT_LEAF, INSERT_UPPER, INSERT_META and INSERT_POST
abbrev pub insert_text : BtreeInsert → List ℕ
insert_text r = fields (number (codes "off") r.off ∷ [])

-- SPLIT_L and SPLIT_R
abbrev pub split_text : BtreeSplit → List ℕ
split_text r =
    fields (number (codes "level") r.level ∷ number (codes "firstrightoff") r.first_right ∷ number (codes "newitemoff") r.new_item
    ∷ number (codes "postingoff") r.posting ∷ [])

-- DEDUP
abbrev pub dedup_text : BtreeDedup → List ℕ
dedup_text r = fields (number (codes "nintervals") r.nintervals ∷ [])

-- DELETE
abbrev pub delete_text : BtreeDelete → List ℕ
delete_text r = fields (number (codes "horizon") r.horizon ∷ number (codes "ndeleted") r.ndeleted ∷ number (codes "nupdated") r.nupdated ∷ [])

-- VACUUM
abbrev pub vacuum_text : BtreeVacuum → List ℕ
vacuum_text r = fields (number (codes "ndeleted") r.ndeleted ∷ number (codes "nupdated") r.nupdated ∷ [])

-- NEWROOT
abbrev pub new_root_text : BtreeNewRoot → List ℕ
new_root_text r = fields (number (codes "level") r.level ∷ [])

-- the text of an operation with these main bytes
abbrev pub btree_text : BtreeOp → List ℕ → List ℕ
btree_text op.InsertLeaf main = or_short insert_text (btree_insert_of main)
btree_text op.InsertUpper main = or_short insert_text (btree_insert_of main)
btree_text op.InsertMeta main = or_short insert_text (btree_insert_of main)
btree_text op.SplitLeft main = or_short split_text (btree_split_of main)
btree_text op.SplitRight main = or_short split_text (btree_split_of main)
btree_text op.InsertPost main = or_short insert_text (btree_insert_of main)
btree_text op.Dedup main = or_short dedup_text (btree_dedup_of main)
btree_text op.Delete main = or_short delete_text (btree_delete_of main)
btree_text op.UnlinkPage main = []
btree_text op.UnlinkPageMeta main = []
btree_text op.NewRoot main = or_short new_root_text (btree_new_root_of main)
btree_text op.MarkPageHalfDead main = []
btree_text op.Vacuum main = or_short vacuum_text (btree_vacuum_of main)
btree_text op.ReusePage main = []
btree_text op.MetaCleanup main = []
btree_text (op.Unlisted number) main = []

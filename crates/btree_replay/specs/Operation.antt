-- What a B-tree record does to the page of one of its blocks: PostgreSQL 16, src/backend/access/nbtree/nbtxlog.c, btree_redo.
-- Own: "Redo of B-tree records".
use Rattle.std.specs.Prelude.{ℕ, ◌==◌, ◌&&◌, ◌||◌, not, List, Bool, true, false, Option, Some, None, Ok, Err, if◌then◌else◌}
use Rattle.wal_records.specs.Reading.{LogRecord}
use Rattle.block_refs.specs.Parts.{PartsView}
use Rattle.record_layouts.specs.Operation.{operation_of}
use Rattle.record_layouts.specs.Btree.{btree_split_of, btree_new_root_of}
use Rattle.record_layouts.specs.declared.btree.BtreeOp.{BtreeOp}
use Rattle.record_layouts.specs.declared.btree.BtreeOp.TheVariants as btree
use Rattle.record_layouts.specs.declared.btree.BtreeSplit.{BtreeSplit}
use Rattle.record_layouts.specs.declared.btree.BtreeNewRoot.{BtreeNewRoot}
use Rattle.record_layouts.specs.declared.operation.Operation.{Operation}
use Rattle.record_layouts.specs.declared.operation.Operation.TheVariants.{Btree}
use Rattle.page_layout.specs.declared.refusal.RedoWhy.TheVariants.{Layout}
use Rattle.page_masks.specs.Law.{Redone}
use Rattle.redo_reads.specs.Given.{main_of}
use Rattle.btree_posting.specs.Posting.{is_posting, posting_operation}
use Rattle.btree_replay.specs.Meta.{meta_operation}
use Rattle.btree_replay.specs.Insert.{insert_operation}
use Rattle.btree_replay.specs.Delete.{delete_operation, vacuum_operation}
use Rattle.btree_replay.specs.Split.{split_operation}
use Rattle.btree_replay.specs.NewRoot.{new_root_operation}

-- SPLIT_L and SPLIT_R: a page below only above level 0
abbrev pub split_acts : Option BtreeSplit → ℕ → Bool
split_acts None id = id == 0 || id == 1 || id == 2 || id == 3
split_acts (Some op) id = id == 0 || id == 1 || id == 2 || id == 3 && not (op.level == 0)

-- NEWROOT: a page below only above level 0
abbrev pub new_root_acts : Option BtreeNewRoot → ℕ → Bool
new_root_acts None id = id == 0 || id == 1 || id == 2
new_root_acts (Some op) id = id == 0 || id == 1 && not (op.level == 0) || id == 2

-- the references whose pages an operation with these main bytes changes
abbrev pub btree_acts_on : BtreeOp → List ℕ → ℕ → Bool
btree_acts_on btree.InsertLeaf main id = id == 0
btree_acts_on btree.InsertUpper main id = id == 0 || id == 1
btree_acts_on btree.InsertMeta main id = id == 0 || id == 1 || id == 2
btree_acts_on btree.SplitLeft main id = split_acts (btree_split_of main) id
btree_acts_on btree.SplitRight main id = split_acts (btree_split_of main) id
btree_acts_on btree.InsertPost main id = id == 0
btree_acts_on btree.Dedup main id = id == 0
btree_acts_on btree.Delete main id = id == 0
btree_acts_on btree.Vacuum main id = id == 0
btree_acts_on btree.NewRoot main id = new_root_acts (btree_new_root_of main) id
btree_acts_on btree.MetaCleanup main id = id == 0
btree_acts_on _ main id = false

abbrev pub acts_on : Operation → List ℕ → ℕ → Bool
acts_on (Btree op) main id = btree_acts_on op main id
acts_on _ main id = false

-- a new right page, a new root and every metapage are made anew
abbrev pub btree_makes_anew : BtreeOp → ℕ → Bool
btree_makes_anew btree.InsertMeta id = id == 2
btree_makes_anew btree.SplitLeft id = id == 1
btree_makes_anew btree.SplitRight id = id == 1
btree_makes_anew btree.NewRoot id = id == 0 || id == 2
btree_makes_anew btree.MetaCleanup id = id == 0
btree_makes_anew _ id = false

abbrev pub makes_anew : Operation → ℕ → Bool
makes_anew (Btree op) id = btree_makes_anew op id
makes_anew _ id = false

-- what an operation without posting lists does to the page of a reference that it changes; those of posting lists alone are here
-- where their main bytes aren't whole
abbrev pub btree_change : BtreeOp → LogRecord → PartsView → ℕ → List ℕ → Redone
btree_change btree.InsertLeaf rec parts id p = insert_operation rec parts id p
btree_change btree.InsertUpper rec parts id p = insert_operation rec parts id p
btree_change btree.InsertMeta rec parts id p = insert_operation rec parts id p
btree_change btree.SplitLeft rec parts id p = split_operation true rec parts id p
btree_change btree.SplitRight rec parts id p = split_operation false rec parts id p
btree_change btree.InsertPost rec parts id p = Err Layout
btree_change btree.Dedup rec parts id p = Err Layout
btree_change btree.Delete rec parts id p = delete_operation rec parts p
btree_change btree.Vacuum rec parts id p = vacuum_operation rec parts p
btree_change btree.NewRoot rec parts id p = new_root_operation rec parts id p
btree_change btree.MetaCleanup rec parts id p = meta_operation rec parts id
btree_change _ rec parts id p = Ok p

abbrev pub changed_by : Operation → LogRecord → PartsView → ℕ → List ℕ → Redone
changed_by (Btree op) rec parts id p = btree_change op rec parts id p
changed_by _ rec parts id p = Ok p

-- what a record does
abbrev pub done_by : LogRecord → Operation
done_by rec = operation_of rec.header.manager rec.header.info

-- its reference with an id is one whose page it changes
abbrev pub btree_acts : LogRecord → PartsView → ℕ → Bool
btree_acts rec parts id = acts_on (done_by rec) (main_of rec parts) id

-- .. or makes anew, whatever the page was
abbrev pub btree_fresh : LogRecord → PartsView → ℕ → Bool
btree_fresh rec parts id = makes_anew (done_by rec) id

-- what it does to that page but for the LSN, posting lists aside; another page stays
abbrev pub plain_operation : LogRecord → PartsView → ℕ → List ℕ → Redone
plain_operation rec parts id p =
    if btree_acts rec parts id then changed_by (done_by rec) rec parts id p else Ok p

-- .. and with them
abbrev pub btree_operation : LogRecord → PartsView → ℕ → List ℕ → Redone
btree_operation rec parts id p =
    if is_posting rec parts id then posting_operation rec parts id p else plain_operation rec parts id p

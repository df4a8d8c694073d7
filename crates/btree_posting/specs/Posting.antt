-- What a B-tree record that has to do with posting lists does to its block 0: PostgreSQL 16, src/backend/access/nbtree/nbtxlog.c,
-- btree_redo. Layout where the record's bytes don't hold what is needed. Own: "Redo of B-tree records".
use Rattle.std.specs.Prelude.{ℕ, ◌==◌, ◌&&◌, not, List, Bool, true, false, Option, Some, None, Ok, is_some, if◌then◌else◌}
use Rattle.wal_records.specs.Reading.{LogRecord}
use Rattle.block_refs.specs.Parts.{PartsView}
use Rattle.record_layouts.specs.Operation.{operation_of}
use Rattle.record_layouts.specs.Btree.{btree_insert_of, btree_split_of, btree_dedup_of, btree_delete_of, btree_vacuum_of}
use Rattle.record_layouts.specs.declared.btree.BtreeOp.{BtreeOp}
use Rattle.record_layouts.specs.declared.btree.BtreeOp.TheVariants as btree
use Rattle.record_layouts.specs.declared.btree.BtreeSplit.{BtreeSplit}
use Rattle.record_layouts.specs.declared.btree.BtreeDelete.{BtreeDelete}
use Rattle.record_layouts.specs.declared.btree.BtreeVacuum.{BtreeVacuum}
use Rattle.record_layouts.specs.declared.operation.Operation.{Operation}
use Rattle.record_layouts.specs.declared.operation.Operation.TheVariants.{Btree}
use Rattle.block_layouts.specs.Dedup.{dedup_intervals_of}
use Rattle.block_layouts.specs.Posting.{posting_insert_of, posting_updates_of}
use Rattle.block_layouts.specs.Split.{split_tuples_of}
use Rattle.page_masks.specs.Law.{Redone}
use Rattle.redo_steps.specs.Redo.{laid_out}
use Rattle.redo_reads.specs.Given.{main_of, bytes_for, number_at}
use Rattle.btree_pages.specs.Page.{on_btree}
use Rattle.btree_posting.specs.Dedup.{dedup_page}
use Rattle.btree_posting.specs.Insert.{insert_post_page}
use Rattle.btree_posting.specs.Split.{split_posting_page}
use Rattle.btree_posting.specs.Updates.{updates_page}

-- SPLIT_L and SPLIT_R that split a posting list; DELETE and VACUUM that make some shorter
abbrev pub splits_list : Option BtreeSplit → Bool
splits_list None = false
splits_list (Some op) = not (op.posting == 0)

abbrev pub delete_updates : Option BtreeDelete → Bool
delete_updates None = false
delete_updates (Some op) = not (op.nupdated == 0)

abbrev pub vacuum_updates : Option BtreeVacuum → Bool
vacuum_updates None = false
vacuum_updates (Some op) = not (op.nupdated == 0)

-- an operation with these main bytes has to do with posting lists; the bytes are whole
abbrev pub posting_op : BtreeOp → List ℕ → Bool
posting_op btree.InsertPost main = is_some (btree_insert_of main)
posting_op btree.Dedup main = is_some (btree_dedup_of main)
posting_op btree.SplitLeft main = splits_list (btree_split_of main)
posting_op btree.SplitRight main = splits_list (btree_split_of main)
posting_op btree.Delete main = delete_updates (btree_delete_of main)
posting_op btree.Vacuum main = vacuum_updates (btree_vacuum_of main)
posting_op _ main = false

abbrev pub has_posting : Operation → List ℕ → Bool
has_posting (Btree op) main = posting_op op main
has_posting _ main = false

-- a record's reference with an id is block 0 of such a record
abbrev pub is_posting : LogRecord → PartsView → ℕ → Bool
is_posting rec parts id = id == 0 && has_posting (operation_of rec.header.manager rec.header.info) (main_of rec parts)

-- DEDUP: so many intervals at the front of the block's bytes
abbrev pub dedup_operation : LogRecord → PartsView → List ℕ → Redone
dedup_operation rec parts p =
    laid_out (btree_dedup_of (main_of rec parts)) (λ op.
    laid_out (bytes_for rec parts 0) (λ bytes.
    laid_out (dedup_intervals_of op.nintervals bytes) (λ intervals.
    on_btree (dedup_page intervals) p)))

-- INSERT_POST: an index, and the new tuple
abbrev pub insert_post_operation : LogRecord → PartsView → List ℕ → Redone
insert_post_operation rec parts p =
    laid_out (btree_insert_of (main_of rec parts)) (λ op.
    laid_out (bytes_for rec parts 0) (λ bytes.
    laid_out (posting_insert_of bytes) (λ post.
    on_btree (insert_post_page op post) p)))

-- SPLIT_L and SPLIT_R: the bytes of both begin with the new tuple; block 1 is the new right page
abbrev pub split_posting_operation : Bool → LogRecord → PartsView → List ℕ → Redone
split_posting_operation on_left rec parts p =
    laid_out (btree_split_of (main_of rec parts)) (λ op.
    laid_out (bytes_for rec parts 0) (λ bytes.
    laid_out (split_tuples_of true bytes) (λ tuples.
    laid_out (number_at parts 1) (λ right.
    on_btree (split_posting_page right on_left op tuples) p))))

-- DELETE and VACUUM: so many places of tuples that go, and so many of lists that become shorter
abbrev pub updates_operation : ℕ → ℕ → LogRecord → PartsView → List ℕ → Redone
updates_operation ndeleted nupdated rec parts p =
    laid_out (bytes_for rec parts 0) (λ bytes.
    laid_out (posting_updates_of ndeleted nupdated bytes) (λ updates.
    on_btree (updates_page updates) p))

abbrev pub delete_updates_operation : LogRecord → PartsView → List ℕ → Redone
delete_updates_operation rec parts p =
    laid_out (btree_delete_of (main_of rec parts)) (λ op.
    updates_operation op.ndeleted op.nupdated rec parts p)

abbrev pub vacuum_updates_operation : LogRecord → PartsView → List ℕ → Redone
vacuum_updates_operation rec parts p =
    laid_out (btree_vacuum_of (main_of rec parts)) (λ op.
    updates_operation op.ndeleted op.nupdated rec parts p)

-- what an operation does
abbrev pub posting_change : BtreeOp → LogRecord → PartsView → List ℕ → Redone
posting_change btree.InsertPost rec parts p = insert_post_operation rec parts p
posting_change btree.Dedup rec parts p = dedup_operation rec parts p
posting_change btree.SplitLeft rec parts p = split_posting_operation true rec parts p
posting_change btree.SplitRight rec parts p = split_posting_operation false rec parts p
posting_change btree.Delete rec parts p = delete_updates_operation rec parts p
posting_change btree.Vacuum rec parts p = vacuum_updates_operation rec parts p
posting_change _ rec parts p = Ok p

abbrev pub posting_changed_by : Operation → LogRecord → PartsView → List ℕ → Redone
posting_changed_by (Btree op) rec parts p = posting_change op rec parts p
posting_changed_by _ rec parts p = Ok p

-- what a record does to the page of its reference with an id but for the LSN; a page without such an effect stays
abbrev pub posting_operation : LogRecord → PartsView → ℕ → List ℕ → Redone
posting_operation rec parts id p =
    if is_posting rec parts id then posting_changed_by (operation_of rec.header.manager rec.header.info) rec parts p else Ok p

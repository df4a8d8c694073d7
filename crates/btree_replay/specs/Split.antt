-- SPLIT_L and SPLIT_R: PostgreSQL 16, src/backend/access/nbtree/nbtxlog.c, btree_xlog_split. Layout where the record's bytes don't
-- hold what is needed.
use Rattle.std.specs.Prelude.{ℕ, ◌==◌, List, Bool, Option, Some, None, Ok, if◌then◌else◌}
use Rattle.wal_records.specs.Reading.{LogRecord}
use Rattle.block_refs.specs.Parts.{PartsView}
use Rattle.record_layouts.specs.Btree.{btree_split_of}
use Rattle.record_layouts.specs.declared.btree.BtreeSplit.{BtreeSplit}
use Rattle.block_layouts.specs.Split.{split_tuples_of}
use Rattle.block_layouts.specs.IndexTuples.{restored_tuples_of}
use Rattle.page_masks.specs.Law.{Redone}
use Rattle.redo_steps.specs.Redo.{laid_out}
use Rattle.redo_reads.specs.Given.{main_of, bytes_for, number_at}
use Rattle.btree_pages.specs.Page.{on_btree}
use Rattle.btree_pages.specs.Special.{neighbour_page}
use Rattle.btree_pages.specs.Split.{split_left_page, split_right_page}
use Rattle.btree_replay.specs.Insert.{settle_operation}

-- block 0 is split; SPLIT_L's bytes begin with the new tuple (`on_left`)
abbrev pub split_left : Bool → LogRecord → PartsView → BtreeSplit → List ℕ → Redone
split_left on_left rec parts op p =
    laid_out (bytes_for rec parts 0) (λ bytes.
    laid_out (split_tuples_of on_left bytes) (λ tuples.
    laid_out (number_at parts 1) (λ right.
    on_btree (split_left_page right op tuples) p)))

-- the block to the right of both, 0 for none
abbrev pub or_none : Option ℕ → ℕ
or_none None = 0
or_none (Some block) = block

-- block 1 is the new right page
abbrev pub split_right : LogRecord → PartsView → BtreeSplit → Redone
split_right rec parts op =
    laid_out (bytes_for rec parts 1) (λ bytes.
    laid_out (restored_tuples_of bytes) (λ tuples.
    laid_out (number_at parts 0) (λ left.
    split_right_page left (or_none (number_at parts 2)) op.level tuples)))

-- block 2 is the page to the right of both
abbrev pub split_neighbour : PartsView → List ℕ → Redone
split_neighbour parts p =
    laid_out (number_at parts 1) (λ right.
    on_btree (λ q. Ok (neighbour_page right q)) p)

-- block 3 is the page below whose split is finished
abbrev pub split_operation : Bool → LogRecord → PartsView → ℕ → List ℕ → Redone
split_operation on_left rec parts id p =
    laid_out (btree_split_of (main_of rec parts)) (λ op.
    if id == 0 then split_left on_left rec parts op p
    else if id == 1 then split_right rec parts op
    else if id == 2 then split_neighbour parts p
    else settle_operation p)

-- Which records a dump shows: PostgreSQL 16, src/bin/pg_waldump/pg_waldump.c, XLogRecordMatchesRelationBlock,
-- XLogRecordHasFPW and main.
use Rattle.std.specs.Prelude.{ℕ, ◌==◌, ◌&&◌, ◌||◌, Bool, true, not, is_some, List, Option, Some, None}
use Rattle.std.specs.List.{list_any}
use Rattle.wal_records.specs.Reading.{LogRecord}
use Rattle.block_refs.specs.declared.placed.Placed.{Placed}
use Rattle.block_refs.specs.declared.names.Fork.{Fork}
use Rattle.block_refs.specs.declared.names.RelName.{RelName}
use Rattle.block_refs.specs.Names.{fork_number}
use Rattle.block_refs.specs.Parts.{PartsView}
use Rattle.waldump_core.specs.declared.selection.Selection.{Selection}

-- a filter admits its own value, and where it isn't given every value
abbrev pub admits : Option ℕ → ℕ → Bool
admits None value = true
admits (Some wanted) value = wanted == value

abbrev pub is_same_rel : RelName → RelName → Bool
is_same_rel a b = a.space == b.space && a.database == b.database && a.relation == b.relation

abbrev pub admits_rel : Option RelName → RelName → Bool
admits_rel None rel = true
admits_rel (Some wanted) rel = is_same_rel wanted rel

abbrev pub admits_fork : Option Fork → Fork → Bool
admits_fork None fork = true
admits_fork (Some wanted) fork = fork_number wanted == fork_number fork

-- a block reference meets the filters on relation, block and fork together
abbrev pub is_wanted : Selection → Placed → Bool
is_wanted sel placed =
    admits_rel sel.rel placed.block.name.rel && admits sel.block placed.block.name.block
    && admits_fork sel.fork placed.block.name.fork

-- one of these filters is given
abbrev pub wants_block : Selection → Bool
wants_block sel = is_some sel.rel || is_some sel.block || is_some sel.fork

abbrev pub has_image : Placed → Bool
has_image placed = is_some placed.block.image

-- some image, where only records with one are asked for
abbrev pub meets_images : Selection → List Placed → Bool
meets_images sel blocks = not sel.images_only || list_any has_image blocks

-- some block reference that is wanted, where one is asked for
abbrev pub meets_blocks : Selection → List Placed → Bool
meets_blocks sel blocks = not (wants_block sel) || list_any (is_wanted sel) blocks

-- a record with these parts meets every filter that is given
unfoldable pub meets : Selection → LogRecord → PartsView → Bool
meets sel r parts =
    admits sel.manager r.header.manager && admits sel.xid r.header.xid && meets_images sel parts.blocks
    && meets_blocks sel parts.blocks

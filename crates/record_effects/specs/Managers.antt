-- The rules of the server's own resource managers: PostgreSQL 16, src/include/access/rmgrlist.h; of XLOG,
-- src/backend/access/transam/xlog.c, xlog_redo. Own: "Effects of records".
use Rattle.std.specs.Prelude.{ℕ, ◌==◌, List, Bool, true, false, Option, Some, None, Err, if◌then◌else◌}
use Rattle.block_refs.specs.Bytes.{block_bytes, main_bytes}
use Rattle.block_refs.specs.Parts.{PartsView}
use Rattle.block_refs.specs.declared.names.BlockName.{BlockName}
use Rattle.page_layout.specs.declared.refusal.RedoWhy.TheVariants.{Layout}
use Rattle.page_masks.specs.Law.{Redone}
use Rattle.redo_steps.specs.Redo.{laid_out}
use Rattle.record_layouts.specs.Operation.{operation_of}
use Rattle.record_layouts.specs.declared.operation.Operation.{Operation}
use Rattle.record_layouts.specs.declared.operation.Operation.TheVariants as op
use Rattle.record_layouts.specs.declared.xlog.XlogOp.{XlogOp}
use Rattle.record_layouts.specs.declared.xlog.XlogOp.TheVariants as xlog
use Rattle.replay_law.specs.Effect.{Effect}
use Rattle.wal_records.specs.Reading.{LogRecord}
use Rattle.block_effects.specs.Effects.{effect_by}
use Rattle.block_effects.specs.Rules.{BlockRules, no_rules}
use Rattle.btree_replay.specs.Operation.{btree_acts, btree_fresh, btree_operation}
use Rattle.heap_replay.specs.Operation.{heap_acts, heap_fresh, heap_operation}
use Rattle.storage_pages.specs.SequencePage.{sequence_acts, sequence_operation}
use Rattle.rmgr_hooks.specs.Custom.{Extension}

-- what a record does
abbrev pub done_by : LogRecord → Operation
done_by rec = operation_of rec.header.manager rec.header.info

-- FPI is there for its images: a reference without one that is applied contradicts it. FPI_FOR_HINT may have none, since a
-- server that doesn't write images writes such records too.
abbrev pub is_full_page : XlogOp → Bool
is_full_page xlog.Fpi = true
is_full_page _ = false

abbrev pub needs_images : Operation → Bool
needs_images (op.Xlog o) = is_full_page o
needs_images _ = false

abbrev pub xlog_acts : LogRecord → PartsView → ℕ → Bool
xlog_acts rec parts id = needs_images (done_by rec)

abbrev pub without_image : LogRecord → PartsView → ℕ → List ℕ → Redone
without_image rec parts id p = Err Layout

abbrev pub xlog_rules : BlockRules
xlog_rules = record { acts = xlog_acts; fresh = xlog_acts; operation = without_image }

-- the managers Heap and Heap2
abbrev pub heap_rules : BlockRules
heap_rules = record { acts = heap_acts; fresh = heap_fresh; operation = heap_operation }

-- the manager Btree
abbrev pub btree_rules : BlockRules
btree_rules = record { acts = btree_acts; fresh = btree_fresh; operation = btree_operation }

-- a sequence's page is always made anew
abbrev pub sequence_rules : BlockRules
sequence_rules = record { acts = sequence_acts; fresh = sequence_acts; operation = sequence_operation }

-- the rules of the manager of an operation
abbrev pub rules_for : Operation → BlockRules
rules_for (op.Xlog o) = xlog_rules
rules_for (op.Heap o) = heap_rules
rules_for (op.Heap2 o) = heap_rules
rules_for (op.Btree o) = btree_rules
rules_for (op.Sequence o) = sequence_rules
rules_for _ = no_rules

-- a manager of an extension makes each block of its records anew or changes it, as it states; a block that isn't one of the record contradicts it
abbrev pub extension_fresh : Extension → LogRecord → PartsView → ℕ → Bool
extension_fresh e rec parts id = e.is_fresh rec.header.info id

abbrev pub extension_operation : Extension → LogRecord → PartsView → ℕ → List ℕ → Redone
extension_operation e rec parts id p =
    laid_out (block_bytes rec.body parts id) (λ block. e.change rec.header.info id (main_bytes rec.body parts) block p)

abbrev pub extension_rules : Extension → BlockRules
extension_rules e = record { acts = λ rec parts id. true; fresh = extension_fresh e; operation = extension_operation e }

-- the rules of a record: those of the manager of an extension for its own records, where one is handed in
abbrev pub rules_of : Option Extension → LogRecord → BlockRules
rules_of None rec = rules_for (done_by rec)
rules_of (Some e) rec = if rec.header.manager == e.id then extension_rules e else rules_for (done_by rec)

-- the effect of a record of these parts on a block
abbrev pub effect_on : Option Extension → LogRecord → PartsView → BlockName → Effect
effect_on custom rec parts name = effect_by (rules_of custom rec) rec parts name

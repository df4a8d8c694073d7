-- The page of a sequence in replay: PostgreSQL 16, src/backend/commands/sequence.c, seq_redo, SEQ_MAGIC.
use Rattle.std.specs.Prelude.{ℕ, ◌==◌, ◌&&◌, List, Bool, true, false}
use Rattle.block_refs.specs.Bytes.{main_bytes}
use Rattle.block_refs.specs.Parts.{PartsView}
use Rattle.layout.specs.Splice.{splice}
use Rattle.page_layout.specs.Bytes.{u32_bytes}
use Rattle.page_layout.specs.Edits.{add_item, init_bytes}
use Rattle.page_masks.specs.Law.{Redone}
use Rattle.record_layouts.specs.Operation.{operation_of}
use Rattle.record_layouts.specs.Sequence.{sequence_log_of}
use Rattle.record_layouts.specs.declared.operation.Operation.{Operation}
use Rattle.record_layouts.specs.declared.operation.Operation.TheVariants.{Sequence}
use Rattle.record_layouts.specs.declared.sequence.SequenceOp.{SequenceOp}
use Rattle.record_layouts.specs.declared.sequence.SequenceOp.TheVariants.{Log}
use Rattle.redo_steps.specs.Redo.{laid_out, on_page}
use Rattle.wal_records.specs.Reading.{LogRecord}

-- an empty page of a sequence: its special space has four bytes and holds SEQ_MAGIC
abbrev pub empty_sequence : List ℕ
empty_sequence = splice (init_bytes 4) 8184 (u32_bytes 0x1717)

-- a sequence's page has one tuple
abbrev pub sequence_page : List ℕ → Redone
sequence_page tuple = on_page (add_item empty_sequence tuple 1 false)

-- LOG makes the page of reference 0 anew, whatever it was
abbrev pub is_log : SequenceOp → Bool
is_log Log = true
is_log _ = false

abbrev pub makes_sequence : Operation → Bool
makes_sequence (Sequence op) = is_log op
makes_sequence _ = false

abbrev pub sequence_acts : LogRecord → PartsView → ℕ → Bool
sequence_acts rec parts id = makes_sequence (operation_of rec.header.manager rec.header.info) && id == 0

-- what it makes, but for the LSN
abbrev pub sequence_operation : LogRecord → PartsView → ℕ → List ℕ → Redone
sequence_operation rec parts id p = laid_out (sequence_log_of (main_bytes rec.body parts)) (λ log. sequence_page log.tuple)

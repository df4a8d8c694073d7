-- The text of a record: what docs/RECORDS.md gives under TEXT.
use Rattle.std.specs.Prelude.{ℕ, List, []}
use Rattle.wal_records.specs.Reading.{LogRecord}
use Rattle.block_refs.specs.Bytes.{main_bytes}
use Rattle.block_refs.specs.Parts.{PartsView}
use Rattle.record_layouts.specs.Operation.{operation_of}
use Rattle.record_layouts.specs.declared.operation.Operation.{Operation}
use Rattle.record_layouts.specs.declared.operation.Operation.TheVariants as of
use Rattle.rmgr_desc.specs.Btree.{btree_text}
use Rattle.rmgr_desc.specs.Clog.{clog_text, multixact_text}
use Rattle.rmgr_desc.specs.Database.{database_text, relmap_text}
use Rattle.rmgr_desc.specs.Heap.{heap2_text, heap_text}
use Rattle.rmgr_desc.specs.Standby.{sequence_text, standby_text}
use Rattle.rmgr_desc.specs.Storage.{storage_text}
use Rattle.rmgr_desc.specs.Transaction.{transaction_text}
use Rattle.rmgr_desc.specs.Xlog.{xlog_text}

-- the text of an operation with these main bytes
abbrev pub text_of : Operation → List ℕ → List ℕ
text_of (of.Xlog op) main = xlog_text op main
text_of (of.Transaction op) main = transaction_text op main
text_of (of.Storage op) main = storage_text op main
text_of (of.Clog op) main = clog_text op main
text_of (of.Database op) main = database_text op main
text_of (of.Tablespace op) main = []
text_of (of.MultiXact op) main = multixact_text op main
text_of (of.RelMap op) main = relmap_text op main
text_of (of.Standby op) main = standby_text op main
text_of (of.Heap2 op) main = heap2_text op main
text_of (of.Heap op) main = heap_text op main
text_of (of.Btree op) main = btree_text op main
text_of (of.Sequence op) main = sequence_text op main
text_of (of.Other manager number) main = []

-- the text of a record with these parts
unfoldable pub description_of : LogRecord → PartsView → List ℕ
description_of rec parts = text_of (operation_of rec.header.manager rec.header.info) (main_bytes rec.body parts)

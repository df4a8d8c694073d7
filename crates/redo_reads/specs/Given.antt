-- What redo reads of a record: its main bytes, a block's bytes and number. PostgreSQL 16,
-- src/include/access/xlogreader.h, XLogRecGetData, XLogRecGetBlockData, XLogRecGetBlockTag.
use Rattle.std.specs.Prelude.{ℕ, List, Option, option_map}
use Rattle.wal_records.specs.Reading.{LogRecord}
use Rattle.block_refs.specs.Bytes.{block_with, block_bytes, main_bytes}
use Rattle.block_refs.specs.Parts.{PartsView}

-- the main bytes
abbrev pub main_of : LogRecord → PartsView → List ℕ
main_of rec parts = main_bytes rec.body parts

-- the bytes of the block with an id
abbrev pub bytes_for : LogRecord → PartsView → ℕ → Option (List ℕ)
bytes_for rec parts id = block_bytes rec.body parts id

-- its number in its fork
abbrev pub number_at : PartsView → ℕ → Option ℕ
number_at parts id = option_map (λ placed. placed.block.name.block) (block_with id parts.blocks)

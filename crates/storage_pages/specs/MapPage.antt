-- A page of the visibility map in replay: PostgreSQL 16, src/backend/access/heap/visibilitymap.c, visibilitymap_set;
-- src/include/access/visibilitymapdefs.h; src/backend/access/heap/heapam.c, heap_xlog_visible. Own: "Bits of the map".
use Rattle.std.specs.Prelude.{ℕ, ◌*◌, ◌%◌, ◌^◌, List, Option, bit_or, slice_set, option_map, Ok, if◌then◌else◌}
use Rattle.block_refs.specs.Bytes.{block_with, main_bytes}
use Rattle.block_refs.specs.Parts.{PartsView}
use Rattle.page_layout.specs.Bytes.{byte}
use Rattle.page_layout.specs.Edits.{init_bytes}
use Rattle.page_masks.specs.Kind.{is_zero}
use Rattle.page_masks.specs.Law.{Redone}
use Rattle.record_layouts.specs.Heap2.{heap_visible_of}
use Rattle.redo_steps.specs.Redo.{laid_out}
use Rattle.storage_replay.specs.MapBits.{map_byte, map_pair}
use Rattle.wal_records.specs.Reading.{LogRecord}

-- the bits of a heap block beside those of its byte: 1 all visible, 2 all frozen
abbrev pub bits_set : (bits block byte : ℕ) → ℕ
bits_set bits block old = bit_or old (bits % 4 * 4 ^ map_pair block)

-- the page with these bits of a heap block
abbrev pub with_bits : (bits block : ℕ) → List ℕ → List ℕ
with_bits bits block p = slice_set p (map_byte block) (bits_set bits block (byte p (map_byte block)))

-- a page of zeros counts as an empty one
abbrev pub started_map : List ℕ → List ℕ
started_map p = if is_zero p then init_bytes 0 else p

-- the number of the heap block of VISIBLE, which its reference 1 names
abbrev pub visible_block : PartsView → Option ℕ
visible_block parts = option_map (λ placed. placed.block.name.block) (block_with 1 parts.blocks)

-- VISIBLE sets bits of that block in the page that its reference 0 names, but for the LSN
abbrev pub visible_map : LogRecord → PartsView → List ℕ → Redone
visible_map rec parts p =
    laid_out (heap_visible_of (main_bytes rec.body parts)) (λ op.
    laid_out (visible_block parts) (λ block.
    Ok (with_bits op.flags block (started_map p))))

-- A small resource manager, as an extension may bring one: its pages have one slot, and its records set it. PostgreSQL 16,
-- src/include/access/xlog_internal.h, RmgrData; the manual's chapter "Custom WAL Resource Managers".
use Rattle.std.specs.Prelude.{ℕ, ◌==◌, List, false, take, Ok, Err, if◌then◌else◌}
use Rattle.block_refs.specs.Bytes.{main_bytes}
use Rattle.block_refs.specs.Parts.{PartsView}
use Rattle.layout.specs.Splice.{splice}
use Rattle.layout_readers.specs.Whole.{whole}
use Rattle.page_layout.specs.Page.{pd_special}
use Rattle.page_layout.specs.declared.refusal.RedoWhy.TheVariants.{PageShape}
use Rattle.page_masks.specs.Law.{Redone}
use Rattle.redo_steps.specs.Redo.{laid_out}
use Rattle.wal_records.specs.Reading.{LogRecord}
use Rattle.block_effects.specs.Rules.{BlockRules}

-- the slot of a page, which has a special space of 32 bytes, gets these bytes
abbrev pub slot_set : List ℕ → List ℕ → Redone
slot_set bytes p = if pd_special p == 8160 then Ok (splice p 36 bytes) else Err PageShape

-- a record has four bytes for the slot of its block 0
abbrev pub slot_operation : LogRecord → PartsView → ℕ → List ℕ → Redone
slot_operation rec parts id p =
    laid_out (whole 4 (main_bytes rec.body parts) (take 4 (main_bytes rec.body parts))) (λ bytes. slot_set bytes p)

abbrev pub slot_rules : BlockRules
slot_rules = record {
  acts = λ rec parts id. id == 0;
  fresh = λ rec parts id. false;
  operation = slot_operation;
}

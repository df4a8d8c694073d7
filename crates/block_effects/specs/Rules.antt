-- What a resource manager says of the blocks that its records reference: PostgreSQL 16, src/include/access/xlog_internal.h,
-- RmgrData, rm_redo and rm_mask. Own: "Effects of records".
use Rattle.std.specs.Prelude.{ℕ, ◌≡◌, List, Bool, true, false, Ok, Some}
use Rattle.block_refs.specs.Bytes.{block_with}
use Rattle.block_refs.specs.Parts.{ArePartsOf, PartsView}
use Rattle.block_refs.specs.declared.placed.Placed.{Placed}
use Rattle.page_masks.specs.Law.{IsOperation, Redone, view}
use Rattle.wal_records.specs.Reading.{LogRecord}

-- For a record, its parts and the id of a reference: whether it does something to that block, whether it makes its page
-- anew whatever it was, and what becomes of the page but for its LSN.
pub record BlockRules : Type 0 where
  pub acts : LogRecord → PartsView → ℕ → Bool
  pub fresh : LogRecord → PartsView → ℕ → Bool
  pub operation : LogRecord → PartsView → ℕ → List ℕ → Redone

-- a manager whose records do nothing to blocks but by their images
abbrev pub no_rules : BlockRules
no_rules = record {
  acts = λ rec parts id. false;
  fresh = λ rec parts id. false;
  operation = λ rec parts id p. Ok p;
}

-- what a manager owes for its rules: each operation keeps the law of the masks, and what is made anew follows from the record
pub record AreRules (rules : BlockRules) : Type 0 where
  pub mask : (rec : LogRecord) (parts : PartsView) (placed : Placed) → ArePartsOf rec parts → block_with placed.block.id parts.blocks ≡ Some placed →
      IsOperation (view placed.block.name.block) (rules.operation rec parts placed.block.id)
  pub fresh : (rec : LogRecord) (parts : PartsView) (id : ℕ) (p q : List ℕ) → rules.fresh rec parts id ≡ true →
      rules.operation rec parts id p ≡ rules.operation rec parts id q

-- What a set of touched blocks has. Own: "Touched blocks are bits".
use Rattle.std.specs.Prelude.{◌≡◌, ℕ, List}
use Rattle.block_refs.specs.declared.names.RelName.{RelName}
use Rattle.wal_records.specs.Reading.{LogRecord}
use Rattle.touched_blocks.specs.Set.{TouchedView, has_in}
use Rattle.touched_blocks.specs.Touched.{touches}

-- the set has just the blocks that these records touch
abbrev pub IsTouchedBy : List LogRecord → TouchedView → Type 0
IsTouchedBy records touched = (rel : RelName) (block : ℕ) → has_in touched rel block ≡ touches records rel block

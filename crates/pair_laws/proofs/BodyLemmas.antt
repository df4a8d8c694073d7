-- What the bodies of a pair's records are read as.
use Rattle.std.proofs.Common.{◌≡◌, ℕ, ◌^◌, ◌<◌, List, [], ◌∷◌, length, None, Some, Ok, refl, sym, ap, ◌∙◌, lit<, lit≤, arith}
use Rattle.std.specs.List.{AllByRecursion}
use Rattle.block_refs.specs.Bytes.{main_bytes}
use Rattle.block_refs.specs.Parts.{PartsView, parts_of}
use Rattle.block_refs.specs.Written.{CanWriteAll, body_bytes, written_parts}
use Rattle.block_refs.proofs.WrittenLemmas.{written_read}
use Rattle.control_file.specs.Reading.{checkpoint_of}
use Rattle.control_file.specs.Rows.{checkpoint_rows}
use Rattle.control_file.specs.Writing.{checkpoint_bytes}
use Rattle.control_file.specs.declared.checkpoint.Checkpoint.{Checkpoint}
use Rattle.control_file.proofs.WritingLemmas.{copy_again}
use Rattle.layout.specs.Rows.{RowFits}
use Rattle.layout.specs.Writing.{value_bytes}
use Rattle.pair_maker.specs.Inserts.{insert_block, insert_body, insert_main}
use Rattle.pair_maker.specs.Logs.{common_checkpoint, common_place, last_checkpoint, timeline_of}
use Rattle.pair_maker.specs.declared.side.Side.{Side}
use Rattle.pair_laws.proofs.SmallLemmas.{checkpoint-long, low_timeline, rows_fit}

-- ---- inserts

can_write : (seed block : ℕ) → block < 2 ^ 32 → CanWriteAll None (insert_block seed block ∷ [])
can_write seed block low =
    (record { bytes = lit< tt; image = refl; space = lit< tt; database = lit< tt; relation = lit< tt; block = low }, tt, lit≤ tt, tt)

pub insert-parts : (seed block : ℕ) → block < 2 ^ 32 → parts_of (insert_body seed block) ≡ Ok (written_parts (insert_block seed block ∷ []) insert_main)
unfolding insert_body
insert-parts seed block low = written_read (insert_block seed block ∷ []) insert_main (can_write seed block low) (lit< tt)

-- ---- checkpoints

pub common-fits : (at : ℕ) → AllByRecursion RowFits (checkpoint_rows at common_checkpoint)
common-fits at = rows_fit at common_place 1 700 (lit< tt) (lit< tt) (lit< tt)

pub last-fits : (side : Side) (place at : ℕ) → place < 2 ^ 64 → AllByRecursion RowFits (checkpoint_rows at (last_checkpoint side place))
last-fits side place at low = rows_fit at place (timeline_of side) 701 low (low_timeline side) (lit< tt)

-- a checkpoint's body is that of its bytes alone
main_only : (main : List ℕ) → length main ≡ 88 → body_bytes [] main ≡ 255 ∷ 88 ∷ main
unfolding value_bytes
main_only main long = rw long refl

abbrev pub no_blocks : PartsView
no_blocks = record { start = 2; blocks = []; main = 2 }

parts_only : (main : List ℕ) → length main ≡ 88 → written_parts [] main ≡ no_blocks
unfolding value_bytes
parts_only main long = rw long refl

pub checkpoint-parts : (cp : Checkpoint) → AllByRecursion RowFits (checkpoint_rows 0 cp) → parts_of (255 ∷ 88 ∷ checkpoint_bytes cp) ≡ Ok no_blocks
checkpoint-parts cp fits =
    let long = checkpoint-long cp fits in
    ap parts_of (sym (main_only (checkpoint_bytes cp) long))
    ∙ written_read [] (checkpoint_bytes cp) tt (omega (arith, long))
    ∙ ap (λ p. Ok p) (parts_only (checkpoint_bytes cp) long)

pub checkpoint-said : (cp : Checkpoint) → AllByRecursion RowFits (checkpoint_rows 0 cp) → checkpoint_of (main_bytes (255 ∷ 88 ∷ checkpoint_bytes cp) no_blocks) ≡ Some cp
checkpoint-said cp fits = copy_again cp fits

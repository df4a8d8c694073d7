use Rattle.std.proofs.Common.{◌≡◌, ℕ, ◌+◌, ◌*◌, refl, arith, ◌∙◌}
use Rattle.wal_base.specs.Crc.{crc_fold}
use Rattle.wal_base.specs.Folding.{folded}
use Rattle.wal_base.proofs.CrcPieces.{one_more_row}
use Rattle.wal_base.proofs.folding.last_bytes.Goals as goal

pub loop-row-init : goal.loop-row-init
unfolding crc_fold
loop-row-init c = refl

pub loop-row-preserved : goal.loop-row-preserved
loop-row-preserved c =
    let at : ℕ = 16 * c.loop-row.row in
    let next : 16 * (c.loop-row.row + 1) ≡ at + 16 = omega arith in
    let bytes = folded c.args.piece.now c.args.sums.now in
    c.add_chunk-state.ensures
    ∙ rw next (one_more_row c.loop-row.state at c.args.from bytes c.folded_row-folded.result c.loop-row.invariant c.folded_row-folded.ensures)

use Rattle.std.proofs.Common.{◌≡◌, ℕ, ◌+◌, ◌*◌, ◌≤◌, List, length, arith, ◌∙◌}
use Rattle.wal_base.proofs.FoldedLists.{row_length, row_stored, before_stored, after_stored}
use Rattle.wal_base.proofs.folding.fold_rows.Goals as goal

pub loop-row-preserved : goal.loop-row-preserved
loop-row-preserved c =
    let at : ℕ = 16 * c.loop-row.row in
    let piece : List ℕ = c.args.piece.now in
    let sums : List ℕ = c.loop-row.sums in
    let row : List ℕ = c.folded_row-folded.result in
    let next : 16 * (c.loop-row.row + 1) ≡ at + 16 = omega arith in
    let later : 16 * (c.loop-row.row + 1) + 304 ≡ at + 304 + 16 = omega arith in
    let in_piece : at + 16 ≤ length piece = omega arith in
    let room : at + 320 ≤ length sums = omega arith in
    let long : length row ≡ 16 = row_length at piece sums row in_piece room c.folded_row-folded.ensures in
    record {
      rows = rw next (row_stored at piece sums row long room c.folded_row-folded.ensures c.loop-row.invariant.rows);
      before = before_stored 304 (at + 304) sums row (omega arith) (omega (arith, long)) ∙ c.loop-row.invariant.before;
      after = rw later (after_stored (at + 304) 16 sums row c.args.sums.now long (omega arith) c.loop-row.invariant.after);
    }

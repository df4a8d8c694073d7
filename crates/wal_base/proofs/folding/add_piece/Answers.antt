use Rattle.std.proofs.Common.{◌≡◌, ℕ, ◌+◌, ◌-◌, ◌*◌, ◌/◌, ◌≤◌, List, length, replicate, arith, ◌∙◌}
use Rattle.std.specs.Int.{w32, to_le_bytes}
use Rattle.std.specs.Simd.Lanes.{put_chunk}
use Rattle.wal_base.proofs.CrcPieces.{piece_sum}
use Rattle.wal_base.proofs.folding.add_piece.Goals as goal

pub returns : goal.returns
returns c =
    let piece : List ℕ = c.args.piece.now in
    let done : ℕ = 16 * (length piece / 16 - 19) in
    let long : length piece ≡ done + 304 = omega arith in
    let room : done + 150 ≤ 8192 = omega arith in
    let placed : c.place_state.new.sums ≡ put_chunk 14 (replicate (304 + 8192) 0) (to_le_bytes w32 c.args.state) = c.place_state.ensures in
    c.last_bytes.ensures
    ∙ piece_sum c.args.state done 8192 piece c.place_state.new.sums c.fold_rows.new.sums (omega arith) placed long room
    (omega arith) c.fold_rows.ensures.rows c.fold_rows.ensures.before c.fold_rows.ensures.after

use Rattle.std.proofs.Common.{List, ℕ, ◌*◌, ◌/◌, take, drop, ap, sym, ◌∙◌, take-append-drop}
use Rattle.wal_base.specs.Crc.{crc_fold}
use Rattle.wal_base.proofs.CrcFold.{fold_append}
use Rattle.wal_base.proofs.folding.add_long.Goals as goal

pub loop-rest-preserved : goal.loop-rest-preserved
loop-rest-preserved c =
    let size : ℕ = c.min.result / 16 * 16 in
    let s : ℕ = c.loop-rest.state in
    let rest : List ℕ = c.loop-rest.rest.now in
    rw (c.split_at.ensures.back, c.add_piece-state.ensures, c.split_at.ensures.front)
    (sym (fold_append s (take size rest) (drop size rest)) ∙ ap (crc_fold s) (take-append-drop size rest) ∙ c.loop-rest.invariant)

use Rattle.std.proofs.Common.{arith, ◌∙◌, sym}
use Rattle.wal_base.proofs.CrcFold.{fold_step, fold_end}
use Rattle.wal_base.proofs.plain.add_bytes.Goals as goal

pub loop-byte-preserved : goal.loop-byte-preserved
loop-byte-preserved c =
    let bytes = c.args.bytes.now in
    rw c.add_byte-state.ensures (sym (fold_step c.loop-byte.state bytes c.loop-byte.byte-index (omega arith)) ∙ c.loop-byte.invariant)

pub returns : goal.returns
returns c = sym (fold_end c.loop-byte.state c.args.bytes.now c.loop-byte.byte-index (omega arith)) ∙ c.loop-byte.invariant

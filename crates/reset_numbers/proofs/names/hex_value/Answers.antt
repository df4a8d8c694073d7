use Rattle.std.proofs.Common.{arith}
use Rattle.wal_base.proofs.HexLoop.{room, more}
use Rattle.reset_numbers.proofs.names.hex_value.Goals as goal

pub overflow_mul-value : goal.overflow_mul-value
overflow_mul-value c =
    let h = room c.args.digits.now c.loop-digit.digit-index c.requires.hex c.requires.short (omega arith) in
    omega (arith, h, c.loop-digit.invariant)

pub overflow_add-value : goal.overflow_add-value
overflow_add-value c =
    let h = room c.args.digits.now c.loop-digit.digit-index c.requires.hex c.requires.short (omega arith) in
    omega (arith, h, c.loop-digit.invariant, c.digit_value.ensures, c.from.ensures)

pub loop-digit-preserved : goal.loop-digit-preserved
loop-digit-preserved c =
    let h = more c.args.digits.now c.loop-digit.digit-index (omega arith) in
    omega (arith, h, c.loop-digit.invariant, c.digit_value.ensures, c.from.ensures)

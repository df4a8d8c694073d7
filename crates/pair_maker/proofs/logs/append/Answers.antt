use Rattle.std.proofs.Common.{Err, ap, arith}
use Rattle.wal_records.specs.Writer.{new_record}
use Rattle.pair_maker.proofs.logs.append.Goals as goal

pub append-requires-clause-low : goal.append-requires-clause-low
append-requires-clause-low c = λ short. omega (arith, c.position-end.ensures.near (new_record c.args.xid c.args.info c.args.manager c.args.body.now) short, c.position-end.ensures.value, c.requires.low)

pub unreachable-requires : goal.unreachable-requires
unreachable-requires c =
    let both = (c.in-Err-TooLong.ensures.too_long c.in-Err-TooLong.total).0 (ap (λ e. Err e) c.in-Err-TooLong.field-0-is) in
    absurd (omega (arith, c.requires.short, both.1))

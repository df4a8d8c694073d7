use Rattle.std.proofs.Common.{rules, ◌≡◌, ◌-◌, length, ap, arith}
use Rattle.wal_records.specs.Zeros.{ZeroEnded}
use Rattle.wal_records.proofs.AppendLemmas.{whole_first}
use Rattle.wal_records.specs.declared.log_origin.LogOrigin.{LogOrigin}
use Rattle.wal_records.proofs.WroteLemmas.{wrote_none}
use Rattle.wal_records.proofs.writer.LogWriter.new.Goals as goal

pub invariant_of-result : goal.invariant_of-result
invariant_of-result c =
    let none : length c.new-pages.result.bytes ≡ 0 = ap (λ (z : ZeroEnded). length z.bytes) c.new-pages.ensures in
    let bytes : length c.grow.new.self.bytes ≡ length c.new-pages.result.bytes = ap (λ (z : ZeroEnded). length z.bytes) c.in_ok-grow.ensures.ok in
    let zeros : c.grow.new.self.zeros ≡ 8192 - length c.new-pages.result.bytes = ap (λ (z : ZeroEnded). z.zeros) c.in_ok-grow.ensures.ok in
    whole_first (record { start = c.args.start.0; tli = c.args.tli; system = c.args.system; size = c.args.size }) c.grow.new.self c.add_header.new.into
    c.requires.starts c.requires.low (omega (arith, none, bytes)) (omega (arith, none, zeros)) c.add_header.ensures

pub returns-clause-ok : goal.returns-clause-ok
returns-clause-ok c = search rules

pub returns-clause-wrote : goal.returns-clause-wrote
returns-clause-wrote c =
    let o : LogOrigin = record { start = c.args.start.0; tli = c.args.tli; system = c.args.system; size = c.args.size } in
    wrote_none _ o (returns-clause-ok c) c.requires.starts c.requires.low (omega (arith, c.ranges.tli)) (omega (arith, c.ranges.system))

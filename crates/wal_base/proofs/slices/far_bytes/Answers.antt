use Rattle.std.proofs.Common.{rules, arith, sym, ◌∙◌}
use Rattle.wal_base.proofs.CrcWords.{fresh_sum, fresh_all, eight}
use Rattle.wal_base.proofs.slices.far_bytes.Goals as goal

pub returns : goal.returns
unfolding fresh_sum
returns c =
    eight c.passed.result c.passed-2.result c.passed-3.result c.passed-4.result c.passed-5.result c.passed-6.result c.passed-7.result c.passed-8.result
    ∙ rw (c.passed.ensures, c.passed-2.ensures, c.passed-3.ensures, c.passed-4.ensures, c.passed-5.ensures, c.passed-6.ensures, c.passed-7.ensures, c.passed-8.ensures)
    (sym (fresh_all c.args.bytes.now 7 0 (omega arith) (search rules)))

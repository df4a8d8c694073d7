use Rattle.std.proofs.Common.{rules, arith, sym, ◌∙◌}
use Rattle.wal_base.proofs.CrcWords.{fresh_four, four_and}
use Rattle.wal_base.proofs.slices.late_bytes.Goals as goal

pub returns : goal.returns
returns c =
    four_and c.passed.result c.passed-2.result c.passed-3.result c.passed-4.result c.far_bytes.result
    ∙ rw (c.far_bytes.ensures, c.to_le_bytes.ensures ∙ c.far_word.ensures, c.passed.ensures, c.passed-2.ensures, c.passed-3.ensures, c.passed-4.ensures)
    (sym (fresh_four c.args.chunk.now 4 8 (omega arith) (search rules)))

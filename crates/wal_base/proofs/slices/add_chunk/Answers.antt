use Rattle.std.proofs.Common.{ℕ, ◌<◌, get_or, rules, arith, sym, ◌∙◌}
use Rattle.wal_base.proofs.CrcWords.{word_off, four_and, mixed}
use Rattle.wal_base.proofs.slices.add_chunk.Goals as goal

pub returns : goal.returns
returns c =
    let small : (k : ℕ) → get_or c.args.chunk.now k 0 < 256 = search rules in
    let near = mixed c.from_le_bytes.result c.args.state c.args.chunk.now small c.from_le_bytes.ensures in
    four_and c.passed.result c.passed-2.result c.passed-3.result c.passed-4.result c.late_bytes-late.result
    ∙ rw (c.late_bytes-late.ensures, c.passed.ensures, c.passed-2.ensures, c.passed-3.ensures, c.passed-4.ensures, near.0, near.1, near.2, near.3)
    (sym (word_off c.args.state c.args.chunk.now 12 (omega arith) (omega arith) small))

use Rattle.std.proofs.Common.{arith}
use Rattle.heap_pages.proofs.LineLemmas.{line_formed}
use Rattle.heap_pages.proofs.vacuum.free_line.Goals as goal

pub returns-clause-formed : goal.returns-clause-formed
returns-clause-formed c =
    rw c.put_pointer.ensures (line_formed c.args.page.now c.args.place 0 0 c.requires (omega (arith, c.if-place-eq0.false)) (omega (arith, c.if-place-line_count.false, c.line_count.ensures)) (omega arith) (omega arith))

use Rattle.waldump_core.specs.Line.{sizes_text}
use Rattle.waldump_core.proofs.LineLemmas.{on_ok}
use Rattle.waldump_core.proofs.line.add_sizes.Goals as goal

pub returns : goal.returns
unfolding sizes_text
returns c = on_ok c.write.result _ (rw (c.laid_out.ensures, c.laid_out-2.ensures, c.laid_out-3.ensures) at c.write.ensures.bytes)

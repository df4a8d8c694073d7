use Rattle.control_file.proofs.TimeTextLemmas.{clock_text-parts}
use Rattle.control_file.proofs.time.push_clock.Goals as goal

pub returns : goal.returns
returns c =
    let e = rw (c.laid_out.ensures, c.laid_out-2.ensures, c.laid_out-3.ensures) at c.write.ensures.bytes in
    rw (clock_text-parts c.args.second) e

use Rattle.std.proofs.Common.{replicate}
use Rattle.marked_runs.proofs.ZeroLemmas.{padded-carried, padded-front}
use Rattle.marked_runs.proofs.zeros.write_padded.Goals as goal

pub returns-in-Ok-clause-carries : goal.returns-in-Ok-clause-carries
returns-in-Ok-clause-carries g c = padded-carried g.F.Tree c.args.path.now c.args.bytes.now (replicate c.args.zeros 0) _ _ _ _ _ c.in-Ok.ensures.carries c.fill_zeros.ensures.carries

pub returns-in-Err-clause-carries : goal.returns-in-Err-clause-carries
returns-in-Err-clause-carries g c = padded-front g.F.Tree c.args.path.now c.args.bytes.now (replicate c.args.zeros 0) _ _ _ c.in-Err.ensures.carries

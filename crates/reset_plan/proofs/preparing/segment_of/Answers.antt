use Rattle.std.proofs.Common.{ap, sym}
use Rattle.reset_numbers.specs.Behind.{new_segment}
use Rattle.reset_plan.specs.Reset.{segment_found}
use Rattle.reset_plan.proofs.PrepareLemmas.{no-segment}
use Rattle.reset_plan.proofs.preparing.segment_of.Goals as goal

pub returns-in-Some-clause-exact : goal.returns-in-Some-clause-exact
returns-in-Some-clause-exact c = ap (segment_found c.args.wal.now) (sym c.in-Some.ensures.value)

pub returns-in-None-clause-exact : goal.returns-in-None-clause-exact
returns-in-None-clause-exact c = no-segment c.args.wal.now (new_segment c.args.options.now c.args.old.now c.args.names.now) c.no_segment.result c.in-None.ensures.value c.no_segment.ensures.value

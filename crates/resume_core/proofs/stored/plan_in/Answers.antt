use Rattle.std.specs.Prelude.{◌-◌, drop, length, take}
use Rattle.plan_text.proofs.PlanReadLemmas.{all_said}
use Rattle.plan_text.specs.Text.{said_by}
use Rattle.resume_core.proofs.stored.plan_in.Goals as goal

pub returns-in-Ok-clause-made : goal.returns-in-Ok-clause-made
returns-in-Ok-clause-made c = record {
  placed = c.in-Ok.ensures.placed;
  said = all_said c.args.target.now c.args.source.now (take (length c.args.bytes.now - 14) (drop 14 c.args.bytes.now)) (said_by c.in-Ok.stored) c.in-Ok.ensures.said;
  fit = c.in-Ok.ensures.fit;
}

-- The names so far, but for the one.
use Rattle.std.proofs.Common.{rules}
use Rattle.without_file.proofs.NameLemmas.{others-more}
use Rattle.without_file.proofs.names.without.Goals as goal

pub loop-at-preserved : goal.loop-at-preserved
loop-at-preserved c = others-more c.args.name.now c.args.names.now c.loop-at.at c.in-Some.other.now c.loop-at.left c.add.new.left (search rules) c.loop-at.invariant (search rules)

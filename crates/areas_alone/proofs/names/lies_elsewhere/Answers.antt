use Rattle.areas_alone.proofs.NameLemmas.{held_so, unheld}
use Rattle.areas_alone.proofs.names.lies_elsewhere.Goals as goal

pub returns-then-holds : goal.returns-then-holds
returns-then-holds c = held_so c.args.root.now c.args.path.now c.holds.result c.is_elsewhere.result c.holds.ensures c.if-holds.true c.is_elsewhere.ensures

pub returns-else-holds : goal.returns-else-holds
returns-else-holds c = unheld c.args.root.now c.args.path.now c.holds.result c.holds.ensures c.if-holds.false

use Rattle.std.proofs.Common.{ap, Err}
use Rattle.pair_maker.specs.Entries.{changes_at, made_of}
use Rattle.marked_runs.proofs.CarriedLemmas.{performs-broken, performs-done}
use Rattle.pair_maker.proofs.putting.put_placed.Goals as goal

pub returns-in-Ok-clause-performs : goal.returns-in-Ok-clause-performs
returns-in-Ok-clause-performs g c = performs-done g.F.Tree (changes_at c.args.placed.path (made_of c.args.placed.entry)) _ _ _ c.in-Ok.ensures.carries

pub returns-in-Err-clause-performs : goal.returns-in-Err-clause-performs
returns-in-Err-clause-performs g c = performs-broken g.F.Tree (changes_at c.args.placed.path (made_of c.args.placed.entry)) _ _ c.in-Err.fault c.args.placed.path _ (ap Err c.about.ensures) c.in-Err.ensures.carries

use Rattle.std.proofs.Common.{rules}
use Rattle.pair_maker.proofs.BlockLemmas.{body-is}
use Rattle.pair_maker.proofs.inserts.insert_body.Goals as goal

pub returns-clause-value : goal.returns-clause-value
returns-clause-value c = body-is c.args.seed c.args.block c.extend_from_slice-5.new.self.items (search rules)

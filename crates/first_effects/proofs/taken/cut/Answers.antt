use Rattle.first_effects.specs.Taken.{cut_at}
use Rattle.first_effects.proofs.CutLemmas.{cut_more}
use Rattle.first_effects.proofs.taken.cut.Goals as goal

pub returns : goal.returns
returns c =
    cut_more (λ q. cut_at c.args.cuts.now.entries q) (λ q. cut_at c.insert.new.self.entries q) c.args.rel c.args.from c.lower-from.result c.lower-from.ensures (λ q. c.in_ok-insert.ensures.updates.0 q)

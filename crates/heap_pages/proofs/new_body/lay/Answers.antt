use Rattle.heap_pages.proofs.BodyLemmas.{four_fronts}
use Rattle.heap_pages.proofs.new_body.lay.Goals as goal

pub returns-clause-value : goal.returns-clause-value
returns-clause-value c =
    rw (c.put-4.ensures, c.put-3.ensures, c.put-2.ensures, c.put.ensures) (four_fronts c.args.into.now c.args.a.now c.args.b.now c.args.c.now c.args.d.now c.requires)

use Rattle.heap_tuples.specs.Inplace.{with_values}
use Rattle.heap_tuples.proofs.EditLemmas.{tuple_of, put_is, part_is}
use Rattle.heap_tuples.proofs.inplace.put_values_at.Goals as goal

pub returns : goal.returns
returns c =
    let p = c.args.page.now in let place = c.args.place in let at = c.tuple_span-at.result in
    put_is p c.put_values.new.tuple place at.start at.end (with_values c.args.values.now) (tuple_of p place c.requires.formed c.requires.tuple)
    c.tuple_span-at.ensures.start c.tuple_span-at.ensures.end c.put_values.ensures.value c.put_values.ensures.size

pub put_values-requires-clause-fit : goal.put_values-requires-clause-fit
put_values-requires-clause-fit c =
    let at = c.tuple_span-at.result in
    rw (part_is c.args.page.now c.args.place at.start at.end c.tuple_span-at.ensures.start c.tuple_span-at.ensures.end) c.requires.fit

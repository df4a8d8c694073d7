use Rattle.heap_pages.specs.Freeze.{frozen_tuple}
use Rattle.heap_tuples.proofs.EditLemmas.{tuple_of, put_is, put_formed}
use Rattle.heap_pages.proofs.freeze.freeze_on_page.Goals as goal

pub returns-clause-value : goal.returns-clause-value
returns-clause-value c =
    let p = c.args.page.now in let place = c.args.place in let at = c.tuple_span-at.result in
    put_is p c.freeze_tuple.new.tuple place at.start at.end (frozen_tuple c.args.plan.now) (tuple_of p place c.requires.formed c.requires.tuple)
    c.tuple_span-at.ensures.start c.tuple_span-at.ensures.end c.freeze_tuple.ensures.value c.freeze_tuple.ensures.size

pub returns-clause-formed : goal.returns-clause-formed
returns-clause-formed c =
    let p = c.args.page.now in let place = c.args.place in let at = c.tuple_span-at.result in
    put_formed p c.freeze_tuple.new.tuple place at.start at.end c.requires.formed (tuple_of p place c.requires.formed c.requires.tuple)
    c.tuple_span-at.ensures.start c.tuple_span-at.ensures.end c.freeze_tuple.ensures.size

use Rattle.heap_pages.specs.Update.{updated_tuple}
use Rattle.heap_tuples.proofs.EditLemmas.{tuple_of, put_is, put_formed}
use Rattle.heap_pages.proofs.update.update_on_page.Goals as goal

pub returns-clause-value : goal.returns-clause-value
returns-clause-value c =
    let p = c.args.page.now in let op = c.args.op.now in let at = c.tuple_span-at.result in
    put_is p c.change_tuple.new.tuple op.old_off at.start at.end (updated_tuple c.args.kind c.args.block op) (tuple_of p op.old_off c.requires.formed c.requires.tuple)
    c.tuple_span-at.ensures.start c.tuple_span-at.ensures.end c.change_tuple.ensures.value c.change_tuple.ensures.size

pub returns-clause-formed : goal.returns-clause-formed
returns-clause-formed c =
    let p = c.args.page.now in let op = c.args.op.now in let at = c.tuple_span-at.result in
    put_formed p c.change_tuple.new.tuple op.old_off at.start at.end c.requires.formed (tuple_of p op.old_off c.requires.formed c.requires.tuple)
    c.tuple_span-at.ensures.start c.tuple_span-at.ensures.end c.change_tuple.ensures.size

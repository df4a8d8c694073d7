use Rattle.heap_tuples.specs.Delete.{deleted_tuple}
use Rattle.heap_tuples.proofs.EditLemmas.{tuple_of, put_is}
use Rattle.heap_tuples.proofs.delete.delete_on_page.Goals as goal

pub returns : goal.returns
returns c =
    let p = c.args.page.now in let place = c.args.op.now.off in let at = c.tuple_span-at.result in
    put_is p c.delete_tuple.new.tuple place at.start at.end (deleted_tuple c.args.block c.args.op.now) (tuple_of p place c.requires.formed c.requires.tuple)
    c.tuple_span-at.ensures.start c.tuple_span-at.ensures.end c.delete_tuple.ensures.value c.delete_tuple.ensures.size

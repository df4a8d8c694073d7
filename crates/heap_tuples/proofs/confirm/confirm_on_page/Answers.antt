use Rattle.redo_steps.specs.Tuple.{with_ctid}
use Rattle.heap_tuples.proofs.EditLemmas.{tuple_of, put_is}
use Rattle.heap_tuples.proofs.confirm.confirm_on_page.Goals as goal

pub returns : goal.returns
returns c =
    let p = c.args.page.now in let place = c.args.op.now.off in let at = c.tuple_span-at.result in
    put_is p c.confirm_tuple.new.tuple place at.start at.end (with_ctid c.args.block c.args.op.now.off) (tuple_of p place c.requires.formed c.requires.tuple)
    c.tuple_span-at.ensures.start c.tuple_span-at.ensures.end c.confirm_tuple.ensures.value c.confirm_tuple.ensures.size

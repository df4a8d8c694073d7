use Rattle.heap_tuples.specs.Lock.{locked_version}
use Rattle.heap_tuples.proofs.EditLemmas.{tuple_of, put_is}
use Rattle.heap_tuples.proofs.lock.lock_version_on_page.Goals as goal

pub returns : goal.returns
returns c =
    let p = c.args.page.now in let place = c.args.op.now.off in let at = c.tuple_span-at.result in
    put_is p c.lock_version.new.tuple place at.start at.end (locked_version c.args.op.now) (tuple_of p place c.requires.formed c.requires.tuple)
    c.tuple_span-at.ensures.start c.tuple_span-at.ensures.end c.lock_version.ensures.value c.lock_version.ensures.size

use Rattle.std.proofs.Common.{length}
use Rattle.heap_tuples.proofs.PutLemmas.{puts_on, put_allows, put_formed}
use Rattle.heap_tuples.proofs.put.put_open.Goals as goal

pub put_new-requires-clause-size : goal.put_new-requires-clause-size
put_new-requires-clause-size c =
    let s = puts_on c.args.page.now c.args.place (length c.args.tuple.now) c.requires.formed c.requires.allowed in
    rw c.fill_lines.ensures s.formed.size

pub put_new-requires-clause-head : goal.put_new-requires-clause-head
put_new-requires-clause-head c =
    let s = puts_on c.args.page.now c.args.place (length c.args.tuple.now) c.requires.formed c.requires.allowed in
    rw c.fill_lines.ensures s.formed.head

pub put_new-requires-clause-allowed : goal.put_new-requires-clause-allowed
put_new-requires-clause-allowed c =
    rw c.fill_lines.ensures (put_allows c.args.page.now c.args.place (length c.args.tuple.now) c.requires.formed c.requires.allowed)

pub returns-clause-formed : goal.returns-clause-formed
returns-clause-formed c =
    rw (c.put_new.ensures, c.fill_lines.ensures) (put_formed c.args.page.now c.args.tuple.now c.args.place c.requires.formed c.requires.allowed)

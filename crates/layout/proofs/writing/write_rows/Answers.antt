use Rattle.std.proofs.Common.{rules, ◌≡◌, length, replicate, arith}
use Rattle.layout.proofs.LaidLemmas.{laid_again}
use Rattle.layout.proofs.OrderLemmas.{rows_within}
use Rattle.layout.proofs.writing.write_rows.Goals as goal

pub put_rows-requires : goal.put_rows-requires
put_rows-requires g c = rows_within c.args.rows.now _ _ c.requires.order (omega arith)

pub returns-clause-said : goal.returns-clause-said
returns-clause-said g c =
    let zeros : c.fill.new.self ≡ replicate (length c.args.into.now) 0 = search rules in
    rw (c.put_rows.ensures, zeros) (laid_again c.args.rows.now _ c.requires.order c.requires.fits).said

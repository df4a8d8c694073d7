use Rattle.std.proofs.Common.{sym}
use Rattle.wal_base.proofs.FoldedLists.{folded_row}
use Rattle.wal_base.proofs.folding.folded_row.Goals as goal

pub returns : goal.returns
returns c =
    rw (c.earlier.ensures, c.earlier-2.ensures, c.earlier-3.ensures, c.earlier-4.ensures, c.earlier-5.ensures)
    (sym (folded_row c.args.at c.args.piece.now c.args.sums.now))

use Rattle.std.proofs.Common.{sym}
use Rattle.file_edits.proofs.OwnLemmas.{own-on, own-read}
use Rattle.piece_copies.proofs.PieceLemmas.{piece-laid, piece-read}
use Rattle.piece_copies.proofs.pieces.copy_piece.Goals as goal

pub returns-clause-exact : goal.returns-clause-exact
returns-clause-exact g c = λ told bytes is to fits.
    rw c.read_or_zeros.ensures.frame.same at (piece-laid c.args.to.now (g.F.Tree.contents c.read_or_zeros.new.tree) (g.F.Tree.contents c.write.new.tree) c.args.at _ bytes _ c.write.result (rw (sym c.read_or_zeros.ensures.frame.same) at to) fits
    (piece-read (g.F.Tree.contents c.args.tree.now) c.args.from.now c.args.at _ bytes _ is fits (c.in_ok-read_or_zeros.ensures.exact told)) (c.write.ensures.exact told))

pub returns-clause-own : goal.returns-clause-own
returns-clause-own g c told = own-on g.F.Tree.calls _ _ _ _ (own-read g.F.Tree _ _ _ c.read_or_zeros.ensures.frame) (c.write.ensures.own told)

-- Calls at another path spare a piece of a file.
use Rattle.std.proofs.Common.{◌≡◌, ℕ, ◌+◌, false, not, ◌||◌, nat_le, true, ap}
use Rattle.cluster_tree.specs.PathOrder.{path_eq}
use Rattle.cluster_tree.specs.PathValue.{PathValue}
use Rattle.cluster_tree.specs.declared.tree.ChangeCall.TheVariants as call
use Rattle.file_edits.specs.Sparing.{Piece, spares}

pub apart-write : (piece : Piece) (path : PathValue) (at n : ℕ) → path_eq piece.path path ≡ false → spares piece (call.Write path at n) ≡ true
apart-write piece path at n e = ap (λ b. not b || nat_le (at + n) piece.from || nat_le piece.to at) e

pub apart-cut : (piece : Piece) (path : PathValue) (size : ℕ) → path_eq piece.path path ≡ false → spares piece (call.Cut path size) ≡ true
apart-cut piece path size e = ap (λ b. not b || nat_le piece.to size) e

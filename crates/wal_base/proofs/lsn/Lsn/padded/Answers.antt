use Rattle.std.proofs.Common.{◌≡◌, ◌^◌, ◌%◌, ap, ◌∙◌, arith}
use Rattle.wal_base.specs.Lsn.{lsn_of, lsn_padded}
use Rattle.wal_base.proofs.HexText.{hex8_hole, two_holes}
use Rattle.wal_base.proofs.LsnLemmas.{lsn_of-lsn_padded}
use Rattle.wal_base.proofs.lsn.Lsn.padded.Goals as goal

shown : (c : goal.After-from) → c.from.result ≡ lsn_padded c.args.self.0
shown c =
    c.from.ensures
    ∙ two_holes _ _ _ _ _ c.in_radix.ensures (rw c.laid_out.ensures (hex8_hole _ (c.args.self.0 % 2 ^ 32) c.in_radix-2.ensures (omega arith)))
    c.in_ok-format.ensures.ok

pub returns-clause-value : goal.returns-clause-value
returns-clause-value c = shown c

pub returns-clause-again : goal.returns-clause-again
returns-clause-again c = ap lsn_of (shown c) ∙ lsn_of-lsn_padded c.args.self.0 (omega arith)

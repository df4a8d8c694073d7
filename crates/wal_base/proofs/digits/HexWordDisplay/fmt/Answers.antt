use Rattle.std.proofs.Common.{◌≡◌, Some}
use Rattle.std.specs.Fmt.{digits_output, styled_digits_output}
use Rattle.wal_base.specs.Hex.{upper_hex}
use Rattle.wal_base.proofs.HexText.{upper_hole}
use Rattle.wal_base.proofs.digits.HexWordDisplay.fmt.Goals as goal

pub returns-clause-writes : goal.returns-clause-writes
returns-clause-writes g c =
    let shown : styled_digits_output c.in_radix.result c.laid_out.result ≡ Some (upper_hex c.args.self.now.width c.args.self.now.number) =
    rw c.laid_out.ensures (upper_hole (digits_output c.in_radix.result) c.args.self.now.width c.args.self.now.number c.in_radix.ensures) in
    rw shown at c.write.ensures.writes

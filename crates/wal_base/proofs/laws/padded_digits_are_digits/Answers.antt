use Rattle.wal_base.proofs.HexText.{padded_digits}
use Rattle.wal_base.proofs.laws.padded_digits_are_digits.Goals as goal

pub returns : goal.returns
returns c = padded_digits

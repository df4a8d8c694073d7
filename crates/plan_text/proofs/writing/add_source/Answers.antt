use Rattle.std.proofs.Common.{codes, arith}
use Rattle.std.specs.Fmt.{digits_output, styled_digits_output}
use Rattle.wal_base.specs.Hex.{hex8}
use Rattle.wal_base.proofs.HexText.{hex8_hole}
use Rattle.plan_text.proofs.TextLemmas.{digits_added}
use Rattle.plan_text.proofs.writing.add_source.Goals as goal

pub returns-clause-line : goal.returns-clause-line
returns-clause-line c =
    digits_added _ _ (codes "source ") (hex8 c.args.source) (styled_digits_output c.in_radix.result c.laid_out.result)
    (rw c.laid_out.ensures (hex8_hole (digits_output c.in_radix.result) c.args.source c.in_radix.ensures (omega arith))) c.in_ok-writeln.ensures.bytes

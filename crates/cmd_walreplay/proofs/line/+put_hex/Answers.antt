use Rattle.std.proofs.Common.{◌≡◌, ◌∙◌, ◌≤◌, ◌<◌, ◌^◌, ◌/◌, ◌%◌, ◌++◌, ap, append_assoc, rules}
use Rattle.wal_base.specs.Hex.{hex_text}
use Rattle.cmd_walreplay.proofs.HexSteps.{hex_step}
use Rattle.cmd_walreplay.proofs.line.+put_hex.Goals as goal

pub returns-else-number-lt16-clause-bytes : goal.returns-else-number-lt16-clause-bytes
returns-else-number-lt16-clause-bytes t c =
    let some : 16 ≤ c.args.number = search rules in
    let small : c.args.number < 2 ^ 32 = search rules in
    let digit : c.hex_digit-else-number-lt16.result.now ≡ hex_text (c.args.number % 16) = search rules in
    c.push_str-else-number-lt16.ensures.bytes ∙ ap (λ x. x ++ c.hex_digit-else-number-lt16.result.now) c.put_hex.ensures.bytes
    ∙ ap (λ x. (c.args.line.now.bytes ++ hex_text (c.args.number / 16)) ++ x) digit
    ∙ append_assoc c.args.line.now.bytes (hex_text (c.args.number / 16)) (hex_text (c.args.number % 16))
    ∙ ap (λ x. c.args.line.now.bytes ++ x) (hex_step c.args.number some small)

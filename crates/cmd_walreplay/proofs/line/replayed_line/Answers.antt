use Rattle.std.proofs.Common.{◌≡◌, ◌∙◌, ◌++◌, ap, decimal, rules}
use Rattle.cmd_walreplay.proofs.LineLemmas.{line_built}
use Rattle.cmd_walreplay.proofs.line.replayed_line.Goals as goal

pub returns : goal.returns
returns c =
    let same : c.from.result ≡ c.args.done.tli = search rules in
    line_built c.args.done.records c.args.done.end.0 c.args.done.tli c.new-line.result.bytes c.push_str.new.self.bytes c.put_number.new.line.bytes c.push_str-2.new.self.bytes
    c.put_position.new.line.bytes c.push_str-3.new.self.bytes c.put_number-2.new.line.bytes c.push_str-4.new.self.bytes
    c.new-line.ensures c.push_str.ensures.bytes c.put_number.ensures.bytes c.push_str-2.ensures.bytes c.put_position.ensures.bytes c.push_str-3.ensures.bytes
    (c.put_number-2.ensures.bytes ∙ ap (λ n. c.push_str-3.new.self.bytes ++ decimal n) same) c.push_str-4.ensures.bytes

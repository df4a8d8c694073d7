use Rattle.std.proofs.lemmas.Result.{IfOk-weaker}
use Rattle.control_file.proofs.LineLemmas.{line_is}
use Rattle.control_file.proofs.line.push_line.Goals as goal

pub returns : goal.returns
returns g c = IfOk-weaker c.writeln.result _ _ (λ done written. line_is _ _ _ _ (g.V.Display.output c.args.value.now) c.in_ok-push_label.ensures written) c.writeln.ensures.bytes

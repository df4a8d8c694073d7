use Rattle.std.proofs.Common.{rules, append_assoc}
use Rattle.std.proofs.lemmas.List.{replicate_more}
use Rattle.control_file.proofs.line.push_label.Goals as goal

pub loop-space-preserved : goal.loop-space-preserved
loop-space-preserved c = search (rules, replicate_more, append_assoc)

pub returns : goal.returns
returns c = search (rules, append_assoc)

use Rattle.std.proofs.Common.{rules, append_assoc}
use Rattle.control_file.specs.Text.{line}
use Rattle.control_file.proofs.line.push_time_line.Goals as goal

pub returns : goal.returns
unfolding line
returns c = search (rules, append_assoc)

use Rattle.std.proofs.Common.{rules, append_assoc}
use Rattle.control_file.specs.Time.{civil_text}
use Rattle.control_file.proofs.time.push_civil.Goals as goal

pub returns : goal.returns
unfolding civil_text
returns c = search (rules, append_assoc)

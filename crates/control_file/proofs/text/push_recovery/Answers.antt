use Rattle.control_file.specs.Text.{recovery_lines}
use Rattle.control_file.proofs.text.push_recovery.Goals as goal

pub returns : goal.returns
unfolding recovery_lines
returns c = cc (c.in_ok-push_line.ensures, c.in_ok-push_line-2.ensures, c.in_ok-push_line-3.ensures, c.in_ok-push_line-4.ensures, c.in_ok-push_line-5.ensures, c.in_ok-push_line-6.ensures, c.yes_no.ensures)

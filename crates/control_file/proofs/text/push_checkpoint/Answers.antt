use Rattle.control_file.specs.Text.{checkpoint_lines}
use Rattle.control_file.proofs.text.push_checkpoint.Goals as goal

pub returns : goal.returns
unfolding checkpoint_lines
returns c = cc (c.in_ok-push_line.ensures, c.in_ok-push_line-2.ensures, c.in_ok-push_line-3.ensures, c.in_ok-push_line-4.ensures, c.in_ok-push_line-5.ensures, c.in_ok-push_line-6.ensures, c.in_ok-push_line-7.ensures, c.on_off.ensures)

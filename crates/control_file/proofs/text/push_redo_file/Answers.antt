use Rattle.std.proofs.Common.{refl}
use Rattle.control_file.specs.Text.{redo_file_line}
use Rattle.control_file.proofs.text.push_redo_file.Goals as goal

pub returns : goal.returns
unfolding redo_file_line
returns c = rw (c.in_ok-push_line.ensures, c.as_str.ensures.value, c.in_ok-name.ensures) refl

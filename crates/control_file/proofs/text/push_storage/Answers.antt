use Rattle.control_file.specs.Text.{storage_lines}
use Rattle.control_file.proofs.text.push_storage.Goals as goal

pub returns : goal.returns
unfolding storage_lines
returns c = cc (c.in_ok-nonce.ensures, c.in_ok-push_line.ensures, c.in_ok-push_line-2.ensures, c.in_ok-push_line-3.ensures, c.in_ok-push_line-4.ensures, c.passing.ensures)

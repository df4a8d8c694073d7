use Rattle.control_file.specs.Text.{setting_lines}
use Rattle.control_file.proofs.text.push_settings.Goals as goal

pub returns : goal.returns
unfolding setting_lines
returns c = cc (c.in_ok-push_line.ensures, c.in_ok-push_line-2.ensures, c.in_ok-push_line-3.ensures, c.in_ok-push_line-4.ensures, c.in_ok-push_line-5.ensures, c.in_ok-push_line-6.ensures, c.in_ok-push_line-7.ensures, c.in_ok-push_line-8.ensures, c.wal_level_name.ensures, c.on_off.ensures, c.on_off-2.ensures)

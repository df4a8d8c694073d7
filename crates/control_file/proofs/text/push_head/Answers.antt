use Rattle.std.proofs.Common.{rules, w64, FitsSigned}
use Rattle.std.proofs.lemmas.Int.{to_z-of_z}
use Rattle.control_file.specs.Text.{head_lines}
use Rattle.control_file.proofs.text.push_head.Goals as goal

pub returns : goal.returns
unfolding head_lines
returns c =
    let fits : FitsSigned w64 c.args.c.now.time = search rules in
    cc (to_z-of_z w64 c.args.c.now.time fits, c.in_ok-push_line.ensures, c.in_ok-push_line-2.ensures, c.in_ok-push_line-3.ensures, c.in_ok-push_line-4.ensures, c.in_ok-push_time_line.ensures, c.in_ok-push_line-5.ensures, c.in_ok-push_line-6.ensures, c.state_name.ensures)

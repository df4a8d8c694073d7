use Rattle.std.proofs.Common.{◌≡◌, arith}
use Rattle.cmd_waldump.proofs.ManagerLemmas.{all_lines}
use Rattle.cmd_waldump.proofs.managers.manager_list.Goals as goal

pub returns : goal.returns
returns c =
    let all : c.loop-manager.manager ≡ 22 = omega (arith, c.loop-manager-test.false, c.loop-manager.auto.manager-end) in
    all_lines c.loop-manager.manager _ all c.loop-manager.invariant

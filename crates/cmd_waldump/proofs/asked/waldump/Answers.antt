use Rattle.cmd_waldump.proofs.FormLemmas.{of_list, of_dump}
use Rattle.cmd_waldump.proofs.asked.waldump.Goals as goal

pub returns-in-Managers-clause-carries : goal.returns-in-Managers-clause-carries
returns-in-Managers-clause-carries g c err_tells err =
    of_list _ g.F.Tree.tells c.in-Managers.is (c.show_managers.ensures.carries err_tells err _ _)

pub returns-in-Dump-clause-carries : goal.returns-in-Dump-clause-carries
returns-in-Dump-clause-carries g c err_tells err =
    of_dump _ g.F.Tree.tells (g.F.Tree.contents c.args.tree.now) c.in-Dump.is (c.show_log.ensures.carries err_tells err)

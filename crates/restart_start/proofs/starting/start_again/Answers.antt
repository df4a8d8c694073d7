use Rattle.std.proofs.Common.{IfOk, subst}
use Rattle.rmgr_hooks.specs.Custom.{handed_in}
use Rattle.wal_records.specs.Cursor.{Knows}
use Rattle.without_file.specs.Without.{without_file}
use Rattle.restart_start.specs.Beginning.{Begins}
use Rattle.restart_start.proofs.StartLemmas.{own-deep, own-is}
use Rattle.restart_start.proofs.starting.start_again.Goals as goal

pub begin_without-requires-clause-deep : goal.begin_without-requires-clause-deep
begin_without-requires-clause-deep g c = own-deep c.args.root.now c.in_ok-mark.mark c.in_ok-mark.ensures.is

pub returns-clause-exact : goal.returns-clause-exact
returns-clause-exact g c told =
    subst (λ mark. Begins (handed_in g.M.Manager c.args.custom) (without_file (g.F.Tree.contents c.args.tree.now) mark) c.args.root.now c.begin_without.result)
    (own-is c.args.root.now c.in_ok-mark.mark c.in_ok-mark.ensures.is) (c.begin_without.ensures.exact told)

pub returns-clause-knows : goal.returns-clause-knows
returns-clause-knows g c told =
    subst (λ mark. IfOk c.begin_without.result (λ begun. Knows begun.checked.cursor (without_file (g.F.Tree.contents c.begin_without.new.tree) mark)))
    (own-is c.args.root.now c.in_ok-mark.mark c.in_ok-mark.ensures.is) (c.begin_without.ensures.knows told)

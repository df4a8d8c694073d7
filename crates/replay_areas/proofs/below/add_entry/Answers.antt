use Rattle.std.proofs.Common.{sym, subst}
use Rattle.replay_list.specs.Text.{IsHeld}
use Rattle.replay_list.proofs.WriteLemmas.{held_more}
use Rattle.replay_areas.proofs.below.add_entry.Goals as goal

pub returns-clause-held : goal.returns-clause-held
returns-clause-held c fits held =
    subst (IsHeld c.args.root.now) (sym c.in_ok-push.ensures.items)
    (held_more c.args.root.now c.args.listed.now.items c.in_ok-one.one held (c.in_ok-one.ensures.text fits) c.in_ok-one.ensures.size)

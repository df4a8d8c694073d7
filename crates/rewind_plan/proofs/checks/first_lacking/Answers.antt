use Rattle.std.proofs.Common.{ap, sym, ◌∙◌}
use Rattle.rewind_plan.specs.Between.{between}
use Rattle.rewind_plan.specs.Room.{first_lacking}
use Rattle.rewind_plan.proofs.RoomLemmas.{drop_none, none_lack}
use Rattle.rewind_plan.proofs.checks.first_lacking.Goals as goal

pub returns-clause-room : goal.returns-clause-room
returns-clause-room c none =
    let w = between c.args.clusters.now in
    none_lack w c.args.pairs.now
    (sym c.loop-pair.invariant ∙ ap (first_lacking w) (drop_none c.args.pairs.now c.loop-pair.pair-index c.loop-pair-test.false))

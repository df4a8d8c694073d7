use Rattle.rewind_plan.specs.Between.{between}
use Rattle.rewind_plan.proofs.RoomLemmas.{room_at}
use Rattle.rewind_plan.proofs.steps.put_removals.Goals as goal

pub put_removal-requires : goal.put_removal-requires
put_removal-requires c =
    record { room = room_at (between c.args.clusters.now) c.args.pairs.now c.loop-pair.pair-index c.pair-item.result c.loop-pair-test.true c.pair-item.is c.requires.room }

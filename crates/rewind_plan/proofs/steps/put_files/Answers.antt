use Rattle.std.proofs.Common.{◌-◌, ◌<◌, length, arith}
use Rattle.rewind_plan.specs.Between.{between}
use Rattle.rewind_plan.proofs.RoomLemmas.{room_at}
use Rattle.rewind_plan.proofs.steps.put_files.Goals as goal

pub put_file-requires : goal.put_file-requires
put_file-requires c =
    let inside : c.loop-at.at - 1 < length c.args.pairs.now = omega (arith, c.loop-at.auto.at, c.loop-at-test.true) in
    record { room = room_at (between c.args.clusters.now) c.args.pairs.now (c.loop-at.at - 1) c.index-pairs-at.result inside c.index-pairs-at.is c.requires.room }

use Rattle.std.proofs.Common.{◌<◌, arith}
use Rattle.block_layouts.proofs.FreezeLemmas.{HasPlans-next}
use Rattle.block_layouts.proofs.freeze.FreezePlansIterator.next.Goals as goal

pub new-places-requires : goal.new-places-requires
new-places-requires c =
    let list = c.self.inside in
    let some : 0 < list.left = omega arith in
    let has = HasPlans-next list.left list.bytes.now (record { plan = list.plan; places = list.places }) some c.self.invariant in
    omega (arith, has.places, c.place_count-count.ensures.value)

pub overflow_add-self-2 : goal.overflow_add-self-2
overflow_add-self-2 c =
    let list = c.self.inside in
    let some : 0 < list.left = omega arith in
    let has = HasPlans-next list.left list.bytes.now (record { plan = list.plan; places = list.places }) some c.self.invariant in
    omega (arith, has.places, c.place_count-count.ensures.value, c.self.told)

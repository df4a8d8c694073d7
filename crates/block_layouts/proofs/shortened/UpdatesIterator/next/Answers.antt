use Rattle.std.proofs.Common.{◌<◌, ◌∙◌, arith}
use Rattle.block_layouts.proofs.ShortenedLemmas.{HasUpdates-next}
use Rattle.block_layouts.proofs.shortened.UpdatesIterator.next.Goals as goal

pub u16_at-requires : goal.u16_at-requires
u16_at-requires c =
    let list = c.self.inside in
    let some : 0 < list.left = omega arith in
    let has = HasUpdates-next list.left list.bytes.now (record { place = list.place; list = list.list }) some c.self.invariant in
    omega (arith, has.list)

pub overflow_add-self-inside : goal.overflow_add-self-inside
overflow_add-self-inside c =
    let list = c.self.inside in
    let some : 0 < list.left = omega arith in
    let has = HasUpdates-next list.left list.bytes.now (record { place = list.place; list = list.list }) some c.self.invariant in
    omega (arith, has.list, c.self.told)

pub new-gone-requires : goal.new-gone-requires
new-gone-requires c =
    let list = c.self.inside in
    let some : 0 < list.left = omega arith in
    let has = HasUpdates-next list.left list.bytes.now (record { place = list.place; list = list.list }) some c.self.invariant in
    let many = c.from-count.ensures ∙ c.u16_at.ensures in
    record { room = omega (arith, has.list, many) }

pub u16_at-place-requires : goal.u16_at-place-requires
u16_at-place-requires c =
    let list = c.self.inside in
    let some : 0 < list.left = omega arith in
    let has = HasUpdates-next list.left list.bytes.now (record { place = list.place; list = list.list }) some c.self.invariant in
    omega (arith, has.place)

pub overflow_add-self-3 : goal.overflow_add-self-3
overflow_add-self-3 c =
    let list = c.self.inside in
    let some : 0 < list.left = omega arith in
    let has = HasUpdates-next list.left list.bytes.now (record { place = list.place; list = list.list }) some c.self.invariant in
    let many = c.from-count.ensures ∙ c.u16_at.ensures in
    omega (arith, has.list, many, c.self.told)

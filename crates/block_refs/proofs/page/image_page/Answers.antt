use Rattle.std.proofs.Common.{sym, arith}
use Rattle.block_refs.proofs.PlaceLemmas.{image_within, image_whole, hole_within, page_size}
use Rattle.block_refs.proofs.page.image_page.Goals as goal

pub bytes_at-requires : goal.bytes_at-requires
bytes_at-requires c =
    let within = image_within c.args.rec.now.body c.args.parts.now c.args.id c.in-Some.placed c.requires.parts (sym c.in-Some.ensures.value) in
    omega (arith, c.image_size-size.ensures.value)

pub fill-requires-clause-whole : goal.fill-requires-clause-whole
fill-requires-clause-whole c =
    let whole = image_whole c.args.rec.now.body c.args.parts.now c.args.id c.in-Some.placed c.in-Some-image.image c.requires.parts (sym c.in-Some.ensures.value) c.in-Some-image.is in
    omega (arith, c.image_size-size.ensures.value, c.bytes_at.ensures.size)

pub fill-requires-clause-within : goal.fill-requires-clause-within
fill-requires-clause-within c =
    hole_within c.args.rec.now.body c.args.parts.now c.args.id c.in-Some.placed c.in-Some-image.image c.requires.parts (sym c.in-Some.ensures.value) c.in-Some-image.is

pub returns-clause-size : goal.returns-clause-size
returns-clause-size c = page_size c.args.rec.now.body c.args.parts.now c.args.id c.requires.parts

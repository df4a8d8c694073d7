use Rattle.std.proofs.Common.{◌<◌, length, ◌∙◌, arith}
use Rattle.file_walk.proofs.PlaceLemmas.{text_below}
use Rattle.file_walk.proofs.place.Place.text_of.Goals as goal

pub returns : goal.returns
returns c =
    let some : 0 < length c.args.self.now.own.parts = omega (arith, c.len.ensures.value) in
    c.in_ok-format.ensures.ok ∙ text_below c.args.self.now.own c.args.name.now c.requires.relative some

use Rattle.std.proofs.Common.{◌≡◌, ◌+◌, take, drop, replicate}
use Rattle.std.proofs.lemmas.List.{take_rest}
use Rattle.layout.specs.Splice.{splice}
use Rattle.block_refs.proofs.PlaceLemmas.{pieces_fill}
use Rattle.block_refs.proofs.page.fill.Goals as goal

pub returns : goal.returns
returns c =
    let image = c.args.image in
    let front : c.put.new.into ≡ splice c.args.into.now 0 (take image.hole_at c.args.stored.now) = cc (c.put.ensures, c.from-front.ensures) in
    let hole : c.clear.new.into ≡ splice c.put.new.into image.hole_at (replicate image.hole 0) = cc (c.clear.ensures, c.from-front.ensures, c.from-2.ensures) in
    let all = take_rest c.args.stored.now c.from-front.result in
    let back : c.put-2.new.into ≡ splice c.clear.new.into (image.hole_at + image.hole) (drop image.hole_at c.args.stored.now)
    = cc (c.put-2.ensures, c.from-front.ensures, c.from.ensures, all) in
    pieces_fill image c.args.stored.now c.args.into.now c.put.new.into c.clear.new.into c.put-2.new.into c.requires.within c.requires.whole front hole back

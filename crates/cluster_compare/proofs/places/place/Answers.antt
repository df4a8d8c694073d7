use Rattle.std.proofs.Common.{◌<◌, length, ap, sym, ◌∙◌, add-one, arith}
use Rattle.cluster_tree.specs.PathValue.{below}
use Rattle.cluster_tree.proofs.PartLemmas.{part_admitted, part_at, part_kept}
use Rattle.cluster_compare.proofs.PlaceLemmas.{place_more, place_room}
use Rattle.cluster_compare.proofs.places.place.Goals as goal

pub below-requires : goal.below-requires
below-requires c =
    let inside : c.loop-at.at < length c.args.path.now.parts = omega (arith, c.len-at-end.ensures.value) in
    record {
      room = part_admitted (length c.loop-at.place.parts) c.in-Some.part.now
          (place_room c.args.root.now c.loop-at.place c.args.path.now.parts c.loop-at.at c.loop-at.invariant inside c.requires.room)
          (part_at c.args.path.now.parts c.loop-at.at c.in-Some.part.now (sym c.in-Some.ensures) c.len-at-end.ensures.proper);
    }

pub loop-at-preserved : goal.loop-at-preserved
loop-at-preserved c =
    rw add-one
    (c.in_ok-place-2.ensures
    ∙ ap (below c.loop-at.place) (part_kept c.in-Some.part.now (part_at c.args.path.now.parts c.loop-at.at c.in-Some.part.now (sym c.in-Some.ensures) c.len-at-end.ensures.proper))
    ∙ place_more c.args.root.now c.loop-at.place c.args.path.now.parts c.loop-at.at c.in-Some.part.now c.in-Some.ensures c.loop-at.invariant)

use Rattle.std.proofs.Common.{length, ap, sym, ◌∙◌, arith}
use Rattle.cluster_tree.specs.PathValue.{below}
use Rattle.cluster_tree.proofs.PartLemmas.{part_admitted, part_at, part_kept}
use Rattle.cmd_resume.proofs.WayLemmas.{way_more, way_none, way_room, way_whole}
use Rattle.cmd_resume.proofs.ways.way_from.Goals as goal

pub loop-at-init : goal.loop-at-init
loop-at-init c = c.in_ok-way.ensures ∙ way_none c.args.root.now c.args.path.now c.len-at.result c.len-at.ensures.value

pub below-requires : goal.below-requires
below-requires c = record {
  room = part_admitted (length c.loop-at.way.parts) c.in-Some.part.now
      (way_room c.args.root.now c.args.path.now c.loop-at.way c.loop-at.at c.loop-at.invariant (omega (arith, c.len-at.ensures.value)) (omega (arith, c.len-at-end.ensures.value)) (omega (arith, c.len-at-end.ensures.value, c.len-at-end.ensures.deepest)))
      (part_at c.args.path.now.parts c.loop-at.at c.in-Some.part.now (sym c.in-Some.ensures) c.len-at-end.ensures.proper);
}

pub loop-at-preserved : goal.loop-at-preserved
loop-at-preserved c =
    c.in_ok-way-2.ensures
    ∙ ap (below c.loop-at.way) (part_kept c.in-Some.part.now (part_at c.args.path.now.parts c.loop-at.at c.in-Some.part.now (sym c.in-Some.ensures) c.len-at-end.ensures.proper))
    ∙ way_more c.args.root.now c.args.path.now c.loop-at.way c.loop-at.at c.in-Some.part.now c.loop-at.invariant (omega (arith, c.len-at.ensures.value)) c.in-Some.ensures

pub returns : goal.returns
returns c = way_whole c.args.root.now c.args.path.now c.loop-at.way c.loop-at.at c.loop-at.invariant (omega (arith, c.len-at-end.ensures.value))

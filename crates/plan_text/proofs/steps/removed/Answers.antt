use Rattle.std.proofs.Common.{length, sym, ap, ◌∙◌, option_map, string_bytes, arith}
use Rattle.cluster_tree.specs.Paths.{checked}
use Rattle.plan_text.proofs.OwnWayLemmas.{step_way_room}
use Rattle.plan_text.proofs.steps.removed.Goals as goal

pub below-requires : goal.below-requires
below-requires c = record {
  room = ap (checked (length c.args.root.now.parts)) c.deref.ensures
      ∙ step_way_room c.len.result (length c.args.root.now.parts) c.args.path.now (string_bytes c.in-Some.way) (sym c.in_ok-way.ensures ∙ ap (option_map string_bytes) c.in-Some.is) (omega (arith, c.len.ensures.value));
}

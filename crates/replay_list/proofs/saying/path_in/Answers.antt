use Rattle.std.proofs.Common.{length, sym, ap, ◌∙◌, option_map, string_bytes, arith}
use Rattle.cluster_tree.specs.Paths.{checked}
use Rattle.mark_lines.proofs.PathLemmas.{way_room}
use Rattle.replay_list.proofs.saying.path_in.Goals as goal

pub below-requires : goal.below-requires
below-requires c = record {
  room = ap (checked (length c.args.root.now.parts)) c.deref.ensures
      ∙ way_room c.len.result (length c.args.root.now.parts) c.args.word.now (string_bytes c.in-Some.way) (sym c.in_ok-way.ensures.value ∙ ap (option_map string_bytes) c.in-Some.is) (omega (arith, c.len.ensures.value));
}

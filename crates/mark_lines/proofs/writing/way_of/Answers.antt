use Rattle.std.proofs.Common.{ap, ◌∙◌, drop, arith}
use Rattle.std.proofs.lemmas.Slice.{between_to_end}
use Rattle.std.specs.List.{join_with_byte}
use Rattle.mark_lines.proofs.writing.way_of.Goals as goal

pub returns : goal.returns
returns c = record {
  value = c.loop-at.invariant ∙ ap (join_with_byte 47) (between_to_end c.args.path.now.parts c.len-first.result c.loop-at.at (omega (arith, c.len-at-end.ensures.value)))
      ∙ ap (λ n. join_with_byte 47 (drop n c.args.path.now.parts)) c.len-first.ensures.value;
}

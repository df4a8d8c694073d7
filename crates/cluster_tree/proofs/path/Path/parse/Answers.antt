use Rattle.std.proofs.Common.{◌++◌, ◌∙◌, ap, map, string_bytes, [], refl}
use Rattle.cluster_tree.specs.PathValue.{kept_parts}
use Rattle.cluster_tree.proofs.PartLemmas.{joined_parts}
use Rattle.cluster_tree.proofs.path.Path.parse.Goals as goal

pub invariant_of-result : goal.invariant_of-result
invariant_of-result c = joined_parts c.add_parts.new.parts.items [] c.args.text.now (c.in_ok-add_parts.ensures ∙ ap (λ l. map string_bytes l ++ kept_parts c.args.text.now) c.new-parts.ensures.items) refl c.in_ok-check.ensures

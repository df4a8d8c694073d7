use Rattle.std.proofs.Common.{◌++◌, ◌∙◌, ap, map, length, string_bytes}
use Rattle.cluster_tree.specs.PathValue.{kept_parts}
use Rattle.cluster_tree.specs.Paths.{checked}
use Rattle.cluster_tree.proofs.PartLemmas.{joined_parts}
use Rattle.cluster_tree.proofs.path.Path.below.Goals as goal

pub invariant_of-result : goal.invariant_of-result
invariant_of-result c = joined_parts _ _ c.args.text.now
    (c.in_ok-add_parts.ensures ∙ ap (λ l. l ++ kept_parts c.args.text.now) (c.in_ok-parts.ensures ∙ ap (map string_bytes) c.deref.ensures.value))
    c.self.invariant.1 (ap (λ p. checked (length p.parts) c.args.text.now) c.self.view_is ∙ c.requires.room)

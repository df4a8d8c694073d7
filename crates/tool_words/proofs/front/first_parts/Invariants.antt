use Rattle.std.proofs.Common.{◌≡◌, map}
use Rattle.std.specs.List.{flat_map}
use Rattle.cluster_tree.specs.PathValue.{path_of, is_rooted, kept_parts}
use Rattle.tool_words.proofs.front.first_parts.Given as goal

abbrev pub invariant-loop-part : goal.invariant-loop-part
invariant-loop-part l = l.front ≡ path_of (is_rooted l.text) (flat_map kept_parts (map (λ x. x.now) l.yielded))

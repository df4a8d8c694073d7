use Rattle.std.proofs.lemmas.List.{take-map}
use Rattle.cluster_tree.proofs.path.first_parts.Goals as goal

pub returns : goal.returns
returns c = simp take-map c.copy_parts.ensures

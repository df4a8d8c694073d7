-- Whether two paths are the same. Own: "Paths".
use Rattle.std.specs.Prelude.{Bool}
use Rattle.std.specs.Ordering.{eq_by_cmp}
use Rattle.cluster_tree.specs.PathValue.{PathValue, path_cmp}

-- whether two paths are the same
unfoldable pub path_eq : PathValue → PathValue → Bool
path_eq = eq_by_cmp path_cmp

-- The marks of unfinished runs. Own: "Mark files".
use Rattle.std.specs.Prelude.{ℕ, Option, None, Some}
use Rattle.std.specs.Option.{option_map}
use Rattle.cluster_tree.specs.PathValue.{PathValue}
use Rattle.cluster_tree.specs.Contents.{Contents}
use Rattle.cluster_tree.specs.Marks.{MarkPaths, marks_of, first_mark, mark_at}
use Rattle.clusters.specs.declared.fault.ClusterFault.{ClusterFault}
use Rattle.clusters.specs.declared.fault.ClusterFault.TheVariants as fault

-- refused with the path of this mark, if there is one
abbrev pub with_mark : MarkPaths → Option ℕ → Option ClusterFault
with_mark marks None = None
with_mark marks (Some number) = option_map fault.Unfinished (mark_at marks number)

-- the first of the three marks that stands at the root: a file, a folder or a link
unfoldable pub unfinished : Contents → PathValue → Option ClusterFault
unfinished c root = with_mark (marks_of root) (first_mark c (marks_of root))

-- What a comparison of two clusters answers, and the order of what refuses it. Own: "What a comparison of clusters shows".
use Rattle.std.specs.Prelude.{ℕ, cond, List, map, Option, None, Some, option_map, unwrap_or, Result, Ok, Err}
use Rattle.cluster_tree.specs.Causes.{first_of, given, unless}
use Rattle.cluster_tree.specs.Contents.{Contents, entry_at, is_folder}
use Rattle.cluster_tree.specs.PathValue.{PathValue, below}
use Rattle.cluster_tree.specs.declared.file_fault.FileFault.TheVariants as file
use Rattle.clusters.specs.Marks.{unfinished}
use Rattle.clusters.specs.RootControl.{control_at}
use Rattle.clusters.specs.declared.fault.ClusterFault.{ClusterFault}
use Rattle.file_walk.specs.Pairs.{pairs_of}
use Rattle.file_walk.specs.Walk.{walk_of}
use Rattle.file_walk.specs.declared.fault.WalkFault.{WalkFault}
use Rattle.file_walk.specs.declared.pair.Pair.{Pair}
use Rattle.cluster_compare.specs.Same.{differ_at, unlogged_in}
use Rattle.cluster_compare.specs.declared.fault.CompareFault.{CompareFault}
use Rattle.cluster_compare.specs.declared.fault.CompareFault.TheVariants as fault
use Rattle.cluster_compare.specs.declared.compared.Compared.{Compared}
use Rattle.cluster_compare.specs.declared.compared.Compared.TheVariants.{Same, Differs}

-- what is read of a cluster, and what a walk tells, with their faults as those of a comparison
abbrev pub of_cluster : {A : Type 0} → Result A ClusterFault → Result A CompareFault
of_cluster (Ok v) = Ok v
of_cluster (Err e) = Err (fault.Cluster e)

abbrev pub of_walk : {A : Type 0} → Result A WalkFault → Result A CompareFault
of_walk (Ok v) = Ok v
of_walk (Err e) = Err (fault.Walk e)

-- the second root is no folder
abbrev pub folder_refusal : Contents → PathValue → Option CompareFault
folder_refusal c root = cond (is_folder (entry_at c root)) None (Some (fault.File (file.NotFolder root)))

-- how the two clusters differ at a path of both walks, if they do
abbrev pub pair_difference : Contents → (per_file : ℕ) → (first second : PathValue) → Pair → Option Compared
pair_difference c per_file first second pair =
    option_map (Differs pair.path) (differ_at (unlogged_in c first c second) per_file pair.path
    (entry_at c (below first pair.path.parts)) (entry_at c (below second pair.path.parts)))

-- the first difference in the order of the paths' texts
abbrev pub verdict : Contents → (per_file : ℕ) → (first second : PathValue) → List Pair → Compared
verdict c per_file first second pairs = unwrap_or (first_of (map (pair_difference c per_file first second) pairs)) Same

-- what both walks find, or what a walk below either root is refused for
abbrev pub from_walks : Contents → (per_file : ℕ) → (first second : PathValue) → Result Compared CompareFault
from_walks c per_file first second =
    given (of_walk (walk_of c first)) (λ found.
    given (of_walk (walk_of c second)) (λ there.
    Ok (verdict c per_file first second (pairs_of found there))))

-- Whether the clusters below two roots are the same, and else the least path at which they differ. First comes what refuses: a mark of the first
-- cluster, one of the second, the first one's control file, a second root that is no folder, and then what a walk below either finds.
unfoldable pub compared : Contents → (first second : PathValue) → Result Compared CompareFault
compared c first second =
    unless (option_map fault.Cluster (unfinished c first))
    (unless (option_map fault.Cluster (unfinished c second))
    (given (of_cluster (control_at c first)) (λ control.
    unless (folder_refusal c second) (from_walks c control.relseg first second))))

-- A run that isn't finished is refused, and what it leaves, for callers. Own: "Mark files", "A rewind that is begun anew".
use Rattle.std.specs.Prelude.{◌≡◌, ◌⊎◌, ℤ, [], ◌∷◌, None, Some, Err}
use Rattle.cluster_tree.specs.Causes.{IsAmong}
use Rattle.cluster_tree.specs.Contents.{Contents}
use Rattle.cluster_tree.specs.Marks.{MarkPaths, marks_of}
use Rattle.cluster_tree.specs.PathValue.{PathValue}
use Rattle.cluster_tree.specs.Tree.{bytes_at}
use Rattle.clusters.specs.Marks.{unfinished}
use Rattle.clusters.specs.declared.fault.ClusterFault.TheVariants as cluster
use Rattle.gated_marks.specs.Gates.{IsComplete}
use Rattle.marked_runs.specs.Moments.{IsMarked}
use Rattle.rewind_survey.specs.declared.fault.RewindFault.TheVariants as fault
use Rattle.rewind_writes.specs.Plan.{IsResumable, mark_gate, mark_head}
use Rattle.rewind_core.specs.Fits.{IsPlanFor, IsRewound}
use Rattle.rewind_core.specs.Over.{without_own}
use Rattle.rewind_core.specs.Planned.{Needing, planned_of}
use Rattle.rewind_core.specs.declared.outcome.Plan.{Plan}

-- one of these three marks stands there
abbrev pub IsMarkThere : MarkPaths → Contents → PathValue → Type 0
IsMarkThere marks c mark = IsAmong (marks.rewind ∷ marks.replay ∷ marks.reset ∷ []) mark × IsMarked mark c

-- where one does, a run is unfinished there, with the path of the first that does
abbrev pub MarkIsUnfinished : Type 0
MarkIsUnfinished = (c : Contents) (root mark : PathValue) → IsMarkThere (marks_of root) c mark →
    (first : PathValue) × IsMarkThere (marks_of root) c first × (unfinished c root ≡ Some (cluster.Unfinished first))

-- and a rewind of such a target is refused for it, whatever else is to be said of both clusters
abbrev pub MarkedTargetIsRefused : Type 0
MarkedTargetIsRefused = (c : Contents) (target source mark : PathValue) (now : ℤ) → IsMarkThere (marks_of target) c mark →
    (first : PathValue) × IsMarkThere (marks_of target) c first × (planned_of c target source now ≡ Err (fault.Cluster (cluster.Unfinished first)))

-- of a rewind's own mark with its path
abbrev pub UnfinishedRewindIsRefused : Type 0
UnfinishedRewindIsRefused = (c : Contents) (target source : PathValue) (now : ℤ) → IsMarked (marks_of target).rewind c →
    planned_of c target source now ≡ Err (fault.Cluster (cluster.Unfinished (marks_of target).rewind))

-- and of a source, where no run is unfinished in the target
abbrev pub MarkedSourceIsRefused : Type 0
MarkedSourceIsRefused = (c : Contents) (target source mark : PathValue) (now : ℤ) → unfinished c target ≡ None → IsMarkThere (marks_of source) c mark →
    (first : PathValue) × IsMarkThere (marks_of source) c first × (planned_of c target source now ≡ Err (fault.Cluster (cluster.Unfinished first)))

-- What a stop leaves of a rewind that began on contents which it was needed for: seen without its own mark these contents, so that a resume
-- begins it anew; or a mark that reads as complete; or the rewound tree.
abbrev pub EachStopIsTold : Type 0
EachStopIsTold = (c : Contents) (n : Needing) (plan : Plan) (i : Contents) → IsPlanFor c n plan → IsResumable c plan.text plan.writes i →
    (without_own i n.aim.between.target ≡ c) ⊎ (IsComplete mark_head mark_gate (bytes_at i plan.writes.mark) ⊎ IsRewound c n i)

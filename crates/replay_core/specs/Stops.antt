-- What a stop may leave of a replay. Own: "What a stop may leave", "Changes under a mark".
use Rattle.std.specs.Prelude.{Option, ◌≡◌, ◌⊎◌, cond, Result, Ok, Err}
use Rattle.cluster_tree.specs.Contents.{Contents}
use Rattle.cluster_tree.specs.Marks.{is_there, marks_of}
use Rattle.cluster_tree.specs.PathValue.{PathValue}
use Rattle.cluster_tree.specs.Run.{Moment}
use Rattle.clusters.specs.declared.fault.ClusterFault.TheVariants as cluster
use Rattle.marked_runs.specs.Moments.{IsMarked, IsUntouched, StandsSynced}
use Rattle.replay_start.specs.Faults.{told_by}
use Rattle.replay_start.specs.declared.fault.ReplayFault.{ReplayFault}
use Rattle.replay_core.specs.Replayed.{After, after_replay, mark_of}
use Rattle.rmgr_hooks.specs.Custom.{Extension}

-- all that a replay is meant to leave, where it isn't refused
abbrev pub IsDone : Result After ReplayFault → Contents → Type 0
IsDone meant c = (after : After) × (meant ≡ Ok after) × (c ≡ after.files)

-- from the mark on to its end: the mark stands, or all is done
abbrev pub IsMarkedOrDone : PathValue → Result After ReplayFault → Contents → Type 0
IsMarkedOrDone root meant c = IsMarked (mark_of root) c ⊎ IsDone meant c

-- of a replay that is meant so: as at its first moment, marked, or done
abbrev pub IsLeft : PathValue → Moment → Result After ReplayFault → Contents → Type 0
IsLeft root first meant c = IsUntouched first c ⊎ IsMarkedOrDone root meant c

-- what a stop at any moment of a replay may leave
abbrev pub IsLeftByReplay : Option Extension → PathValue → Moment → Contents → Type 0
IsLeftByReplay custom root first c = IsLeft root first (after_replay custom first.state.contents root) c

-- a stop now leaves what stands there, and nothing else
abbrev pub IsDurable : Moment → Type 0
IsDurable moment = StandsSynced moment.state.contents moment

-- the mark of an unfinished rewind where one stands, else that of a replay
abbrev pub first_standing : Contents → PathValue → PathValue
first_standing c root = cond (is_there c (marks_of root).rewind) (marks_of root).rewind (mark_of root)

-- a replay of what it left marked is refused with its mark, or with that of a rewind
abbrev pub MarkIsRefused : Type 0
MarkIsRefused = (custom : Option Extension) (root : PathValue) (c : Contents) → IsMarked (mark_of root) c → after_replay custom c root ≡ told_by (Err (cluster.Unfinished (first_standing c root)))

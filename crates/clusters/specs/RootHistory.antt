-- The history of a timeline in a cluster: PostgreSQL 16, src/backend/access/transam/timeline.c, readTimeLineHistory; src/bin/pg_rewind/pg_rewind.c, getTimelineHistory.
use Rattle.std.specs.Prelude.{ℕ, ◌==◌, if◌then◌else◌, List, [], ◌∷◌, Result, Ok, Err}
use Rattle.cluster_tree.specs.PathValue.{PathValue}
use Rattle.cluster_tree.specs.Contents.{Contents, entry_at}
use Rattle.cluster_tree.specs.Tree.{file_of}
use Rattle.cluster_tree.specs.declared.tree.TreeFault.{TreeFault}
use Rattle.wal_base.specs.Spans.{open_span}
use Rattle.wal_base.specs.declared.spans.Span.{Span}
use Rattle.timeline_history.specs.History.{history_of}
use Rattle.timeline_history.specs.declared.fault.HistoryFault.{HistoryFault}
use Rattle.timeline_history.specs.declared.fault.HistoryFault.TheVariants as history
use Rattle.clusters.specs.Roots.{history_path}
use Rattle.clusters.specs.declared.fault.ClusterFault.{ClusterFault}
use Rattle.clusters.specs.declared.fault.ClusterFault.TheVariants as fault

-- the refusals of the history of a timeline, with its root
abbrev pub with_root : PathValue → ℕ → Result (List Span) HistoryFault → Result (List Span) ClusterFault
with_root root tli (Ok spans) = Ok spans
with_root root tli (Err (history.BadLine n)) = Err (fault.BadLine root tli n)
with_root root tli (Err (history.NotRising n)) = Err (fault.NotRising root tli n)
with_root root tli (Err history.OutOfMemory) = Err fault.OutOfMemory

-- what a history of these bytes says, where there is one
abbrev pub history_in : PathValue → ℕ → Result (List ℕ) TreeFault → Result (List Span) ClusterFault
history_in root tli (Ok bytes) = with_root root tli (history_of tli bytes)
history_in root tli (Err _) = Err (fault.HistoryMissing root tli)

-- the history of a timeline, or why there is none; the first timeline has no file
unfoldable pub history_at : Contents → PathValue → ℕ → Result (List Span) ClusterFault
history_at c root tli =
    if tli == 1 then Ok (open_span 1 record { 0 = 0 } ∷ []) else history_in root tli (file_of (entry_at c (history_path root tli)))

-- What two clusters are, before a rewind: PostgreSQL 16, src/bin/pg_rewind/pg_rewind.c, main; manual, reference page of pg_rewind.
use Rattle.std.specs.Prelude.{◌≡◌, ◌⊎◌, ◌==◌, ℕ, nat_le, if◌then◌else◌, List, Option, None, Some, Result, Ok, Err, MatchResult, option_map}
use Rattle.cluster_tree.specs.PathValue.{PathValue}
use Rattle.cluster_tree.specs.Contents.{Contents}
use Rattle.cluster_tree.specs.Causes.{first_of, unless, given}
use Rattle.wal_base.specs.Segment.{bytes_of}
use Rattle.wal_base.specs.SizeOfBytes.{size_of_bytes}
use Rattle.wal_base.specs.declared.lsn.Lsn.{Lsn}
use Rattle.wal_base.specs.declared.spans.Span.{Span}
use Rattle.control_file.specs.declared.control.Control.{Control}
use Rattle.control_file.specs.declared.field.Field.TheVariants as field
use Rattle.control_file.specs.Reading.{timeline_of}
use Rattle.timeline_history.specs.Ancestor.{divergence_of}
use Rattle.timeline_history.specs.declared.ancestor.Ancestor.{Ancestor}
use Rattle.timeline_history.specs.declared.ancestor.Ancestor.TheVariants.{Common, NoCommonAncestor}
use Rattle.timeline_history.specs.declared.ancestor.Divergence.{Divergence}
use Rattle.wal_pages.specs.declared.log_path.LogPath.{LogPath}
use Rattle.clusters.specs.Marks.{unfinished}
use Rattle.clusters.specs.RootControl.{control_at}
use Rattle.clusters.specs.RootHistory.{history_at}
use Rattle.clusters.specs.RootLog.{log_at}
use Rattle.clusters.specs.declared.fault.ClusterFault.TheVariants as cluster
use Rattle.wal_records.specs.Further.{Pages, pages_of}
use Rattle.wal_records.specs.Log.{log_of}
use Rattle.wal_records.specs.Reading.{LogRecord}
use Rattle.log_walk.specs.Back.{common_checkpoint}
use Rattle.log_walk.specs.First.{end_of_target}
use Rattle.log_walk.specs.Needed.{needed, read_refusal}
use Rattle.log_walk.specs.declared.checkpoint.CommonCheckpoint.{CommonCheckpoint}
use Rattle.rewind_survey.specs.Faults.{IsFree, of_walk, told_by, walked}
use Rattle.rewind_survey.specs.Fitness.{pair_points}
use Rattle.rewind_survey.specs.Marks.{IsTouchedBy}
use Rattle.rewind_survey.specs.declared.outcome.Parted.{Parted as PartedTold}
use Rattle.rewind_survey.specs.declared.fault.RewindFault.{RewindFault}
use Rattle.rewind_survey.specs.declared.fault.RewindFault.TheVariants as fault
use Rattle.rewind_survey.specs.declared.outcome.Surveyed.{Surveyed}
use Rattle.rewind_survey.specs.declared.outcome.Surveyed.TheVariants as surveyed
use Rattle.rewind_survey.specs.declared.outcome.Told.{Told}

-- a rewind that is needed: what is told of it, the redo of the common checkpoint, and the records of the target's log from there on
pub record Parting : Type 0 where
  pub told : Told
  pub redo : ℕ
  pub records : List LogRecord

-- what two clusters are
pub data Survey : Type 0 where
  OneTimeline : Survey
  AtFork : Divergence → Survey
  Parted : Parting → Survey

-- what is told of a rewind from a common checkpoint
abbrev pub told_of : Divergence → CommonCheckpoint → Told
told_of fork found = record { fork = fork; checkpoint = found.start; tli = found.checkpoint.tli }

-- The target's log is read from the checkpoint's redo up to the end.
unfoldable pub read_from : Pages → ℕ → Divergence → ℕ → CommonCheckpoint → Result Survey RewindFault
read_from pages size fork end found =
    unless (option_map of_walk (read_refusal end (log_of pages size found.checkpoint.redo)))
    (Ok (Parted record { told = told_of fork found; redo = found.checkpoint.redo; records = needed end (log_of pages size found.checkpoint.redo) }))

-- before that, the walk back to the common checkpoint
unfoldable pub walked_back : Pages → ℕ → Divergence → ℕ → Result Survey RewindFault
walked_back pages size fork end =
    given (walked (common_checkpoint pages size fork.at.0)) (read_from pages size fork end)

-- before that, the target's end: where it isn't above the fork, nothing is to be done
abbrev pub past_fork : Pages → ℕ → Divergence → Lsn → Result Survey RewindFault
past_fork pages size fork end = if nat_le end.0 fork.at.0 then Ok (AtFork fork) else walked_back pages size fork end.0

unfoldable pub parted : Pages → ℕ → Control → Divergence → Result Survey RewindFault
parted pages size t fork = given (walked (end_of_target pages size t)) (past_fork pages size fork)

-- where the target's log lies, by its history and the size of its segments; whatever system wrote it
abbrev pub target_log : PathValue → Control → List Span → Option LogPath
target_log target t spans = option_map (log_at target None spans) (size_of_bytes t.walSegSize)

-- in that log; a control file that was read has the size of a segment
abbrev pub in_log : Contents → PathValue → Control → Divergence → Option LogPath → Result Survey RewindFault
in_log c target t fork (Some log) = parted (pages_of log c) (bytes_of log.size) t fork
in_log c target t fork None = Err (fault.Cluster (cluster.Shape target field.WalSegSize t.walSegSize))

-- the fork of two histories, if they have one
abbrev pub fork_in : Ancestor → Result Divergence RewindFault
fork_in (Common fork) = Ok fork
fork_in NoCommonAncestor = Err fault.NoCommonAncestor

-- before that, both histories, and their fork
unfoldable pub from_histories : Contents → PathValue → PathValue → Control → Control → Result Survey RewindFault
from_histories c target source t s =
    given (told_by (history_at c target (timeline_of t))) (λ a.
    given (told_by (history_at c source (timeline_of s))) (λ b.
    given (fork_in (divergence_of a b)) (λ fork.
    in_log c target t fork (target_log target t a))))

-- before that, what both control files must meet; on one timeline nothing is to be done
unfoldable pub from_controls : Contents → PathValue → PathValue → Control → Control → Result Survey RewindFault
from_controls c target source t s =
    unless (first_of (pair_points target source t s)) (
    if timeline_of t == timeline_of s then Ok OneTimeline else from_histories c target source t s)

-- The first point that refuses decides: first of all the marks of unfinished runs and both control files.
abbrev pub survey_of : Contents → PathValue → PathValue → Result Survey RewindFault
survey_of c target source =
    unless (option_map fault.Cluster (unfinished c target)) (
    unless (option_map fault.Cluster (unfinished c source)) (
    given (told_by (control_at c target)) (λ t.
    given (told_by (control_at c source)) (λ s.
    from_controls c target source t s))))

-- where they parted is told, the redo, and just the blocks that the records touch
pub record HoldsParted (part : Parting) (found : PartedTold) : Type 0 where
  pub told : found.told ≡ part.told
  pub redo : found.redo.0 ≡ part.redo
  pub touched : IsTouchedBy part.records found.touched

-- what was surveyed is what the clusters are
abbrev pub Fits : Survey → Surveyed → Type 0
Fits OneTimeline surveyed.SameTimeline = Unit {0}
Fits OneTimeline (surveyed.EndsAtFork at) = ⊥
Fits OneTimeline (surveyed.Parted found) = ⊥
Fits (AtFork fork) surveyed.SameTimeline = ⊥
Fits (AtFork fork) (surveyed.EndsAtFork at) = at ≡ fork
Fits (AtFork fork) (surveyed.Parted found) = ⊥
Fits (Parted part) surveyed.SameTimeline = ⊥
Fits (Parted part) (surveyed.EndsAtFork at) = ⊥
Fits (Parted part) (surveyed.Parted found) = HoldsParted part found

-- an answer that isn't refused fits what was found out
pub record FitsFound (meant : Result Survey RewindFault) (v : Surveyed) : Type 0 where
  pub survey : Survey
  pub found : meant ≡ Ok survey
  pub fits : Fits survey v

-- the answer is the one that is meant, or a fault of the device, or want of memory
abbrev pub Surveys : Result Survey RewindFault → Result Surveyed RewindFault → Type 0
Surveys meant result = MatchResult result (FitsFound meant) (λ e. IsFree e ⊎ (meant ≡ Err e))

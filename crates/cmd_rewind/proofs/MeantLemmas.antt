-- Each refusal of a rewind comes while the command looks.
use Rattle.std.proofs.Common.{ℕ, ℤ, ◌+◌, ◌%◌, Bool, true, false, List, [], ◌∷◌, length, map, inl, inr, refl, Option, None, Some, is_some, option_map, Result, Ok, Err}
use Rattle.std.specs.Prelude.{if◌then◌else◌, ◌||◌, ◌&&◌, ◌==◌, not, nat_le, nat_lt}
use Rattle.cluster_tree.specs.Causes.{first_of, given, unless}
use Rattle.cluster_tree.specs.Contents.{Contents, Entry, FileEntry, FolderEntry, LinkEntry, entry_at}
use Rattle.cluster_tree.specs.PathValue.{PathValue, front}
use Rattle.wal_base.specs.Segment.{bytes_of}
use Rattle.wal_base.specs.SizeOfBytes.{size_of_bytes}
use Rattle.wal_base.specs.declared.lsn.Lsn.{Lsn}
use Rattle.wal_base.specs.declared.seg_size.SegSize.{SegSize}
use Rattle.clusters.specs.Marks.{unfinished}
use Rattle.clusters.specs.RootControl.{control_at}
use Rattle.clusters.specs.RootHistory.{history_at}
use Rattle.clusters.specs.declared.fault.ClusterFault.{ClusterFault}
use Rattle.clusters.specs.declared.fault.ClusterFault.TheVariants as cluster
use Rattle.control_file.specs.Reading.{timeline_of}
use Rattle.control_file.specs.declared.control.Control.{Control}
use Rattle.control_file.specs.declared.field.Field.TheVariants as field
use Rattle.timeline_history.specs.Ancestor.{divergence_of}
use Rattle.timeline_history.specs.declared.ancestor.Ancestor.{Ancestor}
use Rattle.timeline_history.specs.declared.ancestor.Ancestor.TheVariants.{Common, NoCommonAncestor}
use Rattle.timeline_history.specs.declared.ancestor.Divergence.{Divergence}
use Rattle.wal_pages.specs.declared.log_path.LogPath.{LogPath}
use Rattle.wal_records.specs.Further.{Pages, pages_of}
use Rattle.wal_records.specs.Log.{log_of}
use Rattle.log_walk.specs.Back.{common_checkpoint}
use Rattle.log_walk.specs.First.{end_of_target}
use Rattle.log_walk.specs.Needed.{read_refusal}
use Rattle.log_walk.specs.declared.checkpoint.CommonCheckpoint.{CommonCheckpoint}
use Rattle.log_walk.specs.declared.fault.LogWalkFault.{LogWalkFault}
use Rattle.log_walk.specs.declared.fault.LogWalkFault.TheVariants as walk
use Rattle.file_walk.specs.Pairs.{pairs_of}
use Rattle.file_walk.specs.Relations.{relation_of}
use Rattle.file_walk.specs.Walk.{entry_flaw, flaw_at, found_below, root_flaw, size_flaw, walk_of}
use Rattle.file_walk.specs.declared.fault.WalkFault.{WalkFault}
use Rattle.file_walk.specs.declared.fault.WalkFault.TheVariants as flaw
use Rattle.file_walk.specs.declared.pair.Pair.{Pair}
use Rattle.rewind_plan.specs.Checks.{first_difference}
use Rattle.rewind_plan.specs.Room.{first_lacking}
use Rattle.rewind_survey.specs.Faults.{of_walk, told_by, walked}
use Rattle.rewind_survey.specs.Fitness.{pair_points, other_sizes, systems_differ, no_hints, not_clean}
use Rattle.rewind_survey.specs.Survey.{AtFork, OneTimeline, Parted, Parting, Survey, fork_in, from_controls, from_histories, in_log, parted, past_fork, read_from, survey_of, target_log, walked_back}
use Rattle.rewind_survey.specs.declared.fault.RewindFault.{RewindFault}
use Rattle.rewind_survey.specs.declared.fault.RewindFault.TheVariants as fault
use Rattle.rewind_core.specs.Faults.{seen, of_walk as walk_fault}
use Rattle.rewind_core.specs.Planned.{Aim, aim_of, from_pairs, from_parting, from_size, from_survey, from_walks, pairs_refusal, planned_of}
use Rattle.run_acts.specs.Causes.{IsOfLook}
use Rattle.cluster_causes.specs.Rewind.{rewind_cause}
use Rattle.cluster_causes.proofs.CauseLemmas.{cluster_looks}

-- a refusal comes while the command looks
abbrev pub IsLook : RewindFault → Type 0
IsLook f = IsOfLook (rewind_cause f)

-- if there is one
abbrev pub MayLook : Option RewindFault → Type 0
MayLook None = Unit {0}
MayLook (Some f) = IsLook f

-- what was found out, or a refusal while the command looks
abbrev pub Looked : {A : Type 0} → Result A RewindFault → Type 0
Looked (Ok v) = Unit {0}
Looked (Err f) = IsLook f

pub looked-unless : {A : Type 0} (o : Option RewindFault) (r : Result A RewindFault) → MayLook o → Looked r → Looked (unless o r)
looked-unless None r looks rest = rest
looked-unless (Some f) r looks rest = looks

pub looked-given : {A B : Type 0} (r : Result A RewindFault) (k : A → Result B RewindFault) → Looked r → ((v : A) → Looked (k v)) → Looked (given r k)
looked-given (Ok v) k looks rest = rest v
looked-given (Err f) k looks rest = looks

-- ---- clusters and walks over a log

pub told-looks : {A : Type 0} (r : Result A ClusterFault) → Looked (told_by r)
told-looks (Ok v) = tt
told-looks (Err f) = cluster_looks f

pub marks-look : (o : Option ClusterFault) → MayLook (option_map fault.Cluster o)
marks-look None = tt
marks-look (Some f) = cluster_looks f

of_walk-looks : (f : LogWalkFault) → IsLook (of_walk f)
of_walk-looks (walk.LogEnds at why) = inr (inr refl)
of_walk-looks (walk.BadParts at n) = inr (inr refl)
of_walk-looks (walk.Compressed at n) = inr (inr refl)
of_walk-looks (walk.NoCommonCheckpoint at) = inr (inr refl)
of_walk-looks (walk.UnknownSpecial at n k) = inr (inr refl)
of_walk-looks (walk.EndNotRecord end found) = inr (inr refl)
of_walk-looks walk.ReadFault = inl refl
of_walk-looks walk.OutOfMemory = inr (inl refl)

walked-looks : {A : Type 0} (r : Result A LogWalkFault) → Looked (walked r)
walked-looks (Ok v) = tt
walked-looks (Err f) = of_walk-looks f

reads-look : (o : Option LogWalkFault) → MayLook (option_map of_walk o)
reads-look None = tt
reads-look (Some f) = of_walk-looks f

-- ---- what two control files must meet

may-if : (b : Bool) (f : RewindFault) → IsLook f → MayLook (if b then None else Some f)
may-if true f looks = tt
may-if false f looks = looks

sizes-look : (source : PathValue) (t s : Control) → MayLook (other_sizes source t s)
unfolding other_sizes
sizes-look source t s = by (s.relseg == t.relseg)
  where
    by : (b : Bool) → MayLook (if b then (if s.walSegSize == t.walSegSize then None else Some (fault.Cluster (cluster.Shape source field.WalSegSize s.walSegSize))) else Some (fault.Cluster (cluster.Shape source field.Relseg s.relseg)))
    by true = may-if (s.walSegSize == t.walSegSize) _ (inr (inr refl))
    by false = inr (inr refl)

systems-look : (t s : Control) → MayLook (systems_differ t s)
unfolding systems_differ
systems-look t s = may-if (t.sysid == s.sysid) _ (inr (inr refl))

hints-look : (target : PathValue) (t : Control) → MayLook (no_hints target t)
unfolding no_hints
hints-look target t = may-if (not (t.walLogHints == 0) || (t.checksumVersion == 1)) _ (inr (inr refl))

clean-looks : (root : PathValue) (c : Control) → MayLook (not_clean root c)
unfolding not_clean
clean-looks root c = may-if ((c.state == 1) || (c.state == 2)) _ (inr (inr refl))

points-look : (o : Option RewindFault) (points : List (Option RewindFault)) → MayLook o → MayLook (first_of points) → MayLook (first_of (o ∷ points))
unfolding first_of
points-look None points looks rest = rest
points-look (Some f) points looks rest = looks

no-points : MayLook (first_of [])
unfolding first_of
no-points = tt

pair-looks : (target source : PathValue) (t s : Control) → MayLook (first_of (pair_points target source t s))
pair-looks target source t s =
    points-look (other_sizes source t s) _ (sizes-look source t s)
    (points-look (systems_differ t s) _ (systems-look t s)
    (points-look (no_hints target t) _ (hints-look target t)
    (points-look (not_clean target t) _ (clean-looks target t)
    (points-look (not_clean source s) _ (clean-looks source s) no-points))))

-- ---- the stages of what is found out, each from the next one

module _ (pages : Pages) (size : ℕ) (fork : Divergence) where
  read-looks : (end : ℕ) (found : CommonCheckpoint) → Looked (read_from pages size fork end found)
  unfolding read_from
  read-looks end found = looked-unless (option_map of_walk (read_refusal end (log_of pages size found.checkpoint.redo))) _ (reads-look _) tt

  back-looks : (end : ℕ) → Looked (walked_back pages size fork end)
  unfolding walked_back
  back-looks end = looked-given (walked (common_checkpoint pages size fork.at.0)) (read_from pages size fork end) (walked-looks _) (read-looks end)

  past-looks : (end : Lsn) → Looked (past_fork pages size fork end)
  past-looks end = by (nat_le end.0 fork.at.0)
    where
      by : (b : Bool) → Looked (if b then Ok (AtFork fork) else walked_back pages size fork end.0)
      by true = tt
      by false = back-looks end.0

  parted-looks : (t : Control) → Looked (parted pages size t fork)
  unfolding parted
  parted-looks t = looked-given (walked (end_of_target pages size t)) (past_fork pages size fork) (walked-looks _) past-looks

log-looks : (c : Contents) (target : PathValue) (t : Control) (fork : Divergence) (o : Option LogPath) → Looked (in_log c target t fork o)
log-looks c target t fork (Some log) = parted-looks (pages_of log c) (bytes_of log.size) fork t
log-looks c target t fork None = inr (inr refl)

fork-looks : (a : Ancestor) → Looked (fork_in a)
fork-looks (Common fork) = tt
fork-looks NoCommonAncestor = inr (inr refl)

histories-look : (c : Contents) (target source : PathValue) (t s : Control) → Looked (from_histories c target source t s)
unfolding from_histories
histories-look c target source t s =
    looked-given (told_by (history_at c target (timeline_of t))) _ (told-looks _) (λ a.
    looked-given (told_by (history_at c source (timeline_of s))) _ (told-looks _) (λ b.
    looked-given (fork_in (divergence_of a b)) _ (fork-looks (divergence_of a b)) (λ fork.
    log-looks c target t fork (target_log target t a))))

controls-look : (c : Contents) (target source : PathValue) (t s : Control) → Looked (from_controls c target source t s)
unfolding from_controls
controls-look c target source t s = looked-unless (first_of (pair_points target source t s)) _ (pair-looks target source t s) (by (timeline_of t == timeline_of s))
  where
    by : (b : Bool) → Looked (if b then Ok OneTimeline else from_histories c target source t s)
    by true = tt
    by false = histories-look c target source t s

survey-looks : (c : Contents) (target source : PathValue) → Looked (survey_of c target source)
survey-looks c target source =
    looked-unless (option_map fault.Cluster (unfinished c target)) _ (marks-look (unfinished c target))
    (looked-unless (option_map fault.Cluster (unfinished c source)) _ (marks-look (unfinished c source))
    (looked-given (told_by (control_at c target)) _ (told-looks _) (λ t.
    looked-given (told_by (control_at c source)) _ (told-looks _) (λ s.
    controls-look c target source t s))))

-- ---- the walks below both roots

-- a walk's refusal, as one of the rewind
abbrev IsWalkLook : WalkFault → Type 0
IsWalkLook f = IsLook (walk_fault f)

abbrev MayWalkLook : Option WalkFault → Type 0
MayWalkLook None = Unit {0}
MayWalkLook (Some f) = IsWalkLook f

abbrev WalkLooked : {A : Type 0} → Result A WalkFault → Type 0
WalkLooked (Ok v) = Unit {0}
WalkLooked (Err f) = IsWalkLook f

walk-unless : {A : Type 0} (o : Option WalkFault) (r : Result A WalkFault) → MayWalkLook o → WalkLooked r → WalkLooked (unless o r)
walk-unless None r looks rest = rest
walk-unless (Some f) r looks rest = looks

seen-looks : {A : Type 0} (r : Result A WalkFault) → WalkLooked r → Looked (seen r)
seen-looks (Ok v) looks = tt
seen-looks (Err f) looks = looks

root-looks : (root : PathValue) (o : Option Entry) → MayWalkLook (root_flaw root o)
root-looks root None = inr (inr refl)
root-looks root (Some (FolderEntry true)) = inr (inr refl)
root-looks root (Some (FolderEntry false)) = tt
root-looks root (Some (FileEntry bytes)) = inr (inr refl)
root-looks root (Some LinkEntry) = inr (inr refl)

size-looks : (own : PathValue) (n : ℕ) → MayWalkLook (size_flaw own n)
size-looks own n = by (is_some (relation_of own) && not (n % 8192 == 0))
  where
    by : (b : Bool) → MayWalkLook (if b then Some (flaw.OddSize own n) else None)
    by true = inr (inr refl)
    by false = tt

entry-looks : (own : PathValue) (entry : Entry) → MayWalkLook (entry_flaw own entry)
entry-looks own (FolderEntry true) = inr (inr refl)
entry-looks own (FolderEntry false) = tt
entry-looks own (FileEntry bytes) = size-looks own (length bytes)
entry-looks own LinkEntry = inr (inr refl)

at-looks : (depth : ℕ) (found : PathValue × Entry) → MayWalkLook (flaw_at depth found)
at-looks depth found = by (nat_lt 64 (depth + length found.0.parts))
  where
    by : (b : Bool) → MayWalkLook (if b then Some (flaw.TooDeep (front 64 found.0)) else entry_flaw found.0 found.1)
    by true = inr (inr refl)
    by false = entry-looks found.0 found.1

flaws-look : (depth : ℕ) (founds : List (PathValue × Entry)) → MayWalkLook (first_of (map (flaw_at depth) founds))
unfolding first_of
flaws-look depth [] = tt
flaws-look depth (found ∷ founds) = either (flaw_at depth found) (at-looks depth found) (flaws-look depth founds)
  where
    either : (o : Option WalkFault) → MayWalkLook o → MayWalkLook (first_of (map (flaw_at depth) founds)) → MayWalkLook (first_of (o ∷ map (flaw_at depth) founds))
    either None looks rest = rest
    either (Some f) looks rest = looks

walk-looks : (c : Contents) (root : PathValue) → WalkLooked (walk_of c root)
unfolding walk_of
walk-looks c root =
    walk-unless (root_flaw root (entry_at c root)) _ (root-looks root (entry_at c root))
    (walk-unless (first_of (map (flaw_at (length root.parts)) (found_below c root))) _ (flaws-look (length root.parts) (found_below c root)) tt)

-- ---- what is to be done

lacking-looks : (o : Option PathValue) → MayLook (option_map fault.TooDeep o)
lacking-looks None = tt
lacking-looks (Some path) = inr (inr refl)

differing-looks : (o : Option PathValue) → MayLook (option_map fault.KindsDiffer o)
differing-looks None = tt
differing-looks (Some path) = inr (inr refl)

from_pairs-looks : (aim : Aim) (pairs : List Pair) → Looked (from_pairs aim pairs)
from_pairs-looks aim pairs =
    looked-unless (pairs_refusal aim.between pairs) _
    (points-look (option_map fault.TooDeep (first_lacking aim.between pairs)) _ (lacking-looks (first_lacking aim.between pairs))
    (points-look (option_map fault.KindsDiffer (first_difference pairs)) _ (differing-looks (first_difference pairs)) no-points)) tt

from_walks-looks : (c : Contents) (aim : Aim) → Looked (from_walks c aim)
unfolding from_walks
from_walks-looks c aim =
    looked-given (seen (walk_of c aim.between.target)) _ (seen-looks _ (walk-looks c aim.between.target)) (λ ts.
    looked-given (seen (walk_of c aim.between.source)) _ (seen-looks _ (walk-looks c aim.between.source)) (λ ss.
    from_pairs-looks aim (pairs_of ts ss)))

from_size-looks : (c : Contents) (target source : PathValue) (part : Parting) (t s : Control) (o : Option SegSize) (now : ℤ) → Looked (from_size c target source part t s o now)
from_size-looks c target source part t s (Some size) now = from_walks-looks c (aim_of target source part t s size now)
from_size-looks c target source part t s None now = inr (inr refl)

from_parting-looks : (c : Contents) (target source : PathValue) (now : ℤ) (part : Parting) → Looked (from_parting c target source now part)
unfolding from_parting
from_parting-looks c target source now part =
    looked-given (told_by (control_at c target)) _ (told-looks _) (λ t.
    looked-given (told_by (control_at c source)) _ (told-looks _) (λ s.
    from_size-looks c target source part t s (size_of_bytes t.walSegSize) now))

from_survey-looks : (c : Contents) (target source : PathValue) (now : ℤ) (survey : Survey) → Looked (from_survey c target source now survey)
from_survey-looks c target source now OneTimeline = tt
from_survey-looks c target source now (AtFork fork) = tt
from_survey-looks c target source now (Parted part) = from_parting-looks c target source now part

pub planned-looks : (c : Contents) (target source : PathValue) (now : ℤ) → Looked (planned_of c target source now)
unfolding planned_of
planned-looks c target source now = looked-given (survey_of c target source) (from_survey c target source now) (survey-looks c target source) (from_survey-looks c target source now)

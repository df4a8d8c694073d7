-- Faults of a walk as faults of a rewind.
use Rattle.std.proofs.Common.{◌≡◌, ◌⊎◌, inl, inr, Result, Err, refl, ap}
use Rattle.cluster_tree.specs.PathValue.{PathValue}
use Rattle.cluster_tree.specs.declared.file_fault.FileFault.TheVariants as file
use Rattle.file_walk.specs.Faults as walks
use Rattle.file_walk.specs.Faults.{IsRowOf}
use Rattle.file_walk.specs.declared.fault.WalkFault.{WalkFault}
use Rattle.file_walk.specs.declared.fault.WalkFault.TheVariants as walk
use Rattle.rewind_survey.specs.Faults.{IsFree}
use Rattle.clusters.specs.declared.fault.ClusterFault.TheVariants as cluster
use Rattle.rewind_survey.specs.declared.fault.RewindFault.TheVariants as fault
use Rattle.rewind_core.specs.Faults.{of_walk, seen}

free_by : (e : WalkFault) → walks.IsFree e → IsFree (of_walk e)
free_by e (inl read) = inl (ap of_walk read)
free_by e (inr memory) = inr (ap of_walk memory)

-- what a walk doesn't tell
pub seen-err : {A : Type 0} (meant : Result A WalkFault) (e : WalkFault) → walks.IsFree e ⊎ (meant ≡ Err e) → IsFree (of_walk e) ⊎ (seen meant ≡ Err (of_walk e))
seen-err meant e (inl free) = inl (free_by e free)
seen-err meant e (inr is) = inr (ap seen is)

-- one fault of a rewind is that of one of a walk
pub read-by : (e : WalkFault) → of_walk e ≡ fault.Cluster cluster.ReadFault → e ≡ walk.File file.ReadFault
read-by (walk.Link path) h = absurd (cc h)
read-by (walk.NameNotText path) h = absurd (cc h)
read-by (walk.TooDeep path) h = absurd (cc h)
read-by (walk.OddSize path size) h = absurd (cc h)
read-by (walk.File file.ReadFault) h = refl
read-by (walk.File file.WriteFault) h = absurd (cc h)
read-by (walk.File (file.Link path)) h = absurd (cc h)
read-by (walk.File (file.NotFolder path)) h = absurd (cc h)
read-by (walk.File (file.IsFolder path)) h = absurd (cc h)
read-by (walk.File (file.NameNotText path)) h = absurd (cc h)
read-by (walk.File (file.TooDeep path)) h = absurd (cc h)
read-by (walk.File (file.Changed path)) h = absurd (cc h)
read-by (walk.File file.OutOfMemory) h = absurd (cc h)

pub changed-by : (root : PathValue) (e : WalkFault) (p : PathValue) → IsRowOf root e → of_walk e ≡ fault.Cluster (cluster.Changed p) → e ≡ walk.File (file.Changed p)
changed-by root (walk.Link path) p row h = absurd (cc h)
changed-by root (walk.NameNotText path) p row h = absurd (cc h)
changed-by root (walk.TooDeep path) p row h = absurd (cc h)
changed-by root (walk.OddSize path size) p row h = absurd (cc h)
changed-by root (walk.File file.ReadFault) p row h = absurd (cc h)
changed-by root (walk.File file.WriteFault) p row h = absurd row
changed-by root (walk.File (file.Link path)) p row h = absurd row
changed-by root (walk.File (file.NotFolder path)) p row h = absurd (cc h)
changed-by root (walk.File (file.IsFolder path)) p row h = absurd row
changed-by root (walk.File (file.NameNotText path)) p row h = absurd row
changed-by root (walk.File (file.TooDeep path)) p row h = absurd row
changed-by root (walk.File (file.Changed path)) p row h = cc h
changed-by root (walk.File file.OutOfMemory) p row h = absurd (cc h)

pub written-by : (root : PathValue) (e : WalkFault) → IsRowOf root e → of_walk e ≡ fault.WriteFault → ⊥
written-by root (walk.Link path) row h = absurd (cc h)
written-by root (walk.NameNotText path) row h = absurd (cc h)
written-by root (walk.TooDeep path) row h = absurd (cc h)
written-by root (walk.OddSize path size) row h = absurd (cc h)
written-by root (walk.File file.ReadFault) row h = absurd (cc h)
written-by root (walk.File file.WriteFault) row h = row
written-by root (walk.File (file.Link path)) row h = absurd row
written-by root (walk.File (file.NotFolder path)) row h = absurd (cc h)
written-by root (walk.File (file.IsFolder path)) row h = absurd row
written-by root (walk.File (file.NameNotText path)) row h = absurd row
written-by root (walk.File (file.TooDeep path)) row h = absurd row
written-by root (walk.File (file.Changed path)) row h = absurd (cc h)
written-by root (walk.File file.OutOfMemory) row h = absurd (cc h)

pub ruleset fault_steps = (seen-err, read-by, changed-by, written-by)

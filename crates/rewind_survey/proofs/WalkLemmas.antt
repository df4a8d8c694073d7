-- Faults of a walk over a log as faults of a rewind.
use Rattle.std.proofs.Common.{◌≡◌, ◌⊎◌, inl, inr, Option, Some, Result, Err, option_map, refl, ap}
use Rattle.cluster_tree.specs.PathValue.{PathValue}
use Rattle.clusters.specs.declared.fault.ClusterFault.TheVariants as cluster
use Rattle.log_walk.specs.Faults.{IsFree}
use Rattle.log_walk.specs.declared.fault.LogWalkFault.{LogWalkFault}
use Rattle.log_walk.specs.declared.fault.LogWalkFault.TheVariants as walk
use Rattle.rewind_survey.specs.Faults.{of_walk, walked}
use Rattle.rewind_survey.specs.Faults as faults
use Rattle.rewind_survey.specs.declared.fault.RewindFault.TheVariants as fault

free_by : (e : LogWalkFault) → IsFree e → faults.IsFree (of_walk e)
free_by e (inl read) = inl (ap of_walk read)
free_by e (inr memory) = inr (ap of_walk memory)

-- a log that refuses
pub unread-by : (o : Option LogWalkFault) (e : LogWalkFault) → IsFree e ⊎ (o ≡ Some e) → faults.IsFree (of_walk e) ⊎ (option_map of_walk o ≡ Some (of_walk e))
unread-by o e (inl free) = inl (free_by e free)
unread-by o e (inr is) = inr (ap (option_map of_walk) is)

-- and what a walk doesn't say
pub walked-err : {A : Type 0} (meant : Result A LogWalkFault) (e : LogWalkFault) → IsFree e ⊎ (meant ≡ Err e) → faults.IsFree (of_walk e) ⊎ (walked meant ≡ Err (of_walk e))
walked-err meant e (inl free) = inl (free_by e free)
walked-err meant e (inr is) = inr (ap walked is)

-- one fault of a rewind is that of one of a walk
pub read-walk : (e : LogWalkFault) → of_walk e ≡ fault.Cluster cluster.ReadFault → e ≡ walk.ReadFault
read-walk (walk.LogEnds at why) h = absurd (cc h)
read-walk (walk.BadParts at n) h = absurd (cc h)
read-walk (walk.Compressed at n) h = absurd (cc h)
read-walk (walk.NoCommonCheckpoint at) h = absurd (cc h)
read-walk (walk.UnknownSpecial at n k) h = absurd (cc h)
read-walk (walk.EndNotRecord end found) h = absurd (cc h)
read-walk walk.ReadFault h = refl
read-walk walk.OutOfMemory h = absurd (cc h)

-- and none is a change
pub unchanged-walk : (e : LogWalkFault) (p : PathValue) → of_walk e ≡ fault.Cluster (cluster.Changed p) → ⊥
unchanged-walk (walk.LogEnds at why) p h = cc h
unchanged-walk (walk.BadParts at n) p h = cc h
unchanged-walk (walk.Compressed at n) p h = cc h
unchanged-walk (walk.NoCommonCheckpoint at) p h = cc h
unchanged-walk (walk.UnknownSpecial at n k) p h = cc h
unchanged-walk (walk.EndNotRecord end found) p h = cc h
unchanged-walk walk.ReadFault p h = cc h
unchanged-walk walk.OutOfMemory p h = cc h

-- nor of a changing call
pub unwritten-walk : (e : LogWalkFault) → of_walk e ≡ fault.WriteFault → ⊥
unwritten-walk (walk.LogEnds at why) h = cc h
unwritten-walk (walk.BadParts at n) h = cc h
unwritten-walk (walk.Compressed at n) h = cc h
unwritten-walk (walk.NoCommonCheckpoint at) h = cc h
unwritten-walk (walk.UnknownSpecial at n k) h = cc h
unwritten-walk (walk.EndNotRecord end found) h = cc h
unwritten-walk walk.ReadFault h = cc h
unwritten-walk walk.OutOfMemory h = cc h

pub ruleset walk_steps = (unread-by, walked-err, read-walk, unchanged-walk, unwritten-walk)

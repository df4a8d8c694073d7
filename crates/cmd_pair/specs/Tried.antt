-- What pair leaves in its folder. Own: "A pair from a number", "A rewound target and a whole copy", "Clusters that grew from one state".
use Rattle.std.specs.Prelude.{None, ◌≡◌, ◌++◌, ◌⊎◌, ℕ, Bool, IsTrue, List, Ok}
use Rattle.cluster_compare.specs.Compared.{compared}
use Rattle.cluster_compare.specs.Same.{IsSameCluster}
use Rattle.cluster_compare.specs.declared.compared.Compared.TheVariants.{Same}
use Rattle.cluster_tree.specs.Contents.{Contents}
use Rattle.cluster_tree.specs.PathValue.{PathValue}
use Rattle.clusters.specs.Faults.{IsFree as IsFreeOfCluster}
use Rattle.replay_start.specs.declared.fault.ReplayFault.{ReplayFault}
use Rattle.replay_start.specs.declared.fault.ReplayFault.TheVariants as replay
use Rattle.rewind_survey.specs.declared.fault.RewindFault.{RewindFault}
use Rattle.rewind_survey.specs.declared.fault.RewindFault.TheVariants as rewind
use Rattle.replay_core.specs.Replayed.{After, after_replay}
use Rattle.pair_maker.specs.Pair.{StaysBeside}
use Rattle.pair_laws.specs.Ends.{IsTried}
use Rattle.pair_laws.specs.Stands.{HasPair, copy_of, target_of}
use Rattle.commands.specs.declared.pair.PairWords.{PairWords}
use Rattle.run_acts.specs.declared.cause.Cause.{Cause}
use Rattle.run_acts.specs.declared.cause.Cause.TheVariants as cause
use Rattle.cmd_pair.specs.Pair.{pair_line}

-- the replay of a cluster ends, and so
pub record Ends (c : Contents) (root : PathValue) : Type 0 where
  pub after : After
  pub ends : after_replay None c root ≡ Ok after

-- of a pair that stands the target was rewound, at the moment at which its copy was made, and replayed; and then its copy was
pub record IsReplayedPair (root : PathValue) (seed blocks : ℕ) (c c' : Contents) : Type 0 where
  pub rewound : Contents
  pub target : After
  pub copy : After
  pub tried : IsTried root seed blocks c rewound target copy
  pub left : c' ≡ copy.files

-- A pair was made, and tried so. What both clusters are then is the same cluster, and a comparison finds that.
pub record IsTriedPair (root : PathValue) (seed blocks : ℕ) (c' : Contents) : Type 0 where
  pub made : Contents
  pub stands : HasPair root seed blocks made
  pub replayed : IsReplayedPair root seed blocks made c'
  pub same : IsSameCluster 131072 c' (copy_of root) c' (target_of root)
  pub compares : compared c' (copy_of root) (target_of root) ≡ Ok Same

-- so it is where pair is done, all beside the three clusters is as it was, and standard output goes on by the line
pub record LeavesPair (words : PairWords) (tells : Bool) (c c' : Contents) (out out' : List ℕ) : Type 0 where
  pub tried : IsTriedPair words.root words.seed words.blocks c'
  pub beside : StaysBeside words.root c c'
  pub told : IsTrue tells → out' ≡ out ++ pair_line words.seed words.blocks

-- a rewind, and a replay, that a device broke off, or want of memory
abbrev pub IsFreeRewind : RewindFault → Type 0
IsFreeRewind (rewind.Cluster e) = IsFreeOfCluster e
IsFreeRewind rewind.WriteFault = Unit {0}
IsFreeRewind _ = ⊥

abbrev pub IsFreeReplay : ReplayFault → Type 0
IsFreeReplay (replay.Cluster e) = IsFreeOfCluster e
IsFreeReplay replay.WriteFault = Unit {0}
IsFreeReplay _ = ⊥

-- what may come once the first change was made: a fault of a device, want of memory, or what the tree contradicted
abbrev pub IsOfTrial : Cause → Type 0
IsOfTrial e = (e ≡ cause.ReadFault) ⊎ (e ≡ cause.WriteFault) ⊎ (e ≡ cause.OutOfMemory) ⊎ ((path : PathValue) × (e ≡ cause.Changed path))

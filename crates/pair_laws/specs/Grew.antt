-- A pair is what two clusters are to be for a rewind: they grew from one state, so that the rewound target follows its source. Own: "A pair from a
-- number", "Clusters that grew from one state".
use Rattle.std.specs.Prelude.{None, ℕ, pos}
use Rattle.cluster_laws.specs.Replays.{BothEnd}
use Rattle.cluster_tree.specs.Contents.{Contents}
use Rattle.cluster_tree.specs.PathValue.{PathValue}
use Rattle.rewind_core.specs.Fits.{IsRewound}
use Rattle.rewind_core.specs.Planned.{Needing}
use Rattle.rewound_laws.specs.Copy.{IsWholeCopy}
use Rattle.rewound_laws.specs.Grew.{GrewFromOneState}
use Rattle.pair_maker.specs.Logs.{made_at}
use Rattle.pair_laws.specs.Life.{base_of}
use Rattle.pair_laws.specs.Stands.{HasCopy, HasPair, target_of}
use Rattle.pair_laws.specs.Start.{copy_start}
use Rattle.pair_laws.specs.Survey.{pair_needing}

-- the rewind of a pair, at the moment at which its copy was made
abbrev pub pair_rewind : PathValue → (seed blocks : ℕ) → Contents → Needing
pair_rewind root seed blocks c = pair_needing root seed blocks c (pos made_at)

-- The copy of a pair is a whole copy of its source; and target and source grew from one state, in which each block of their relation is empty. The
-- copy may stand at another root, in other contents, as one that is replayed behind a rewind does.
pub record IsGrown (root : PathValue) (seed blocks : ℕ) (c d : Contents) (other : PathValue) : Type 0 where
  pub copied : IsWholeCopy c (pair_rewind root seed blocks c) d other
  pub grew : GrewFromOneState None (base_of blocks) c (pair_rewind root seed blocks c) d other (copy_start other seed blocks)

abbrev pub PairsGrewFromOneState : Type 0
PairsGrewFromOneState = (root other : PathValue) (seed blocks : ℕ) (c d : Contents) → HasPair root seed blocks c → HasCopy root other seed blocks d → IsGrown root seed blocks c d other

-- So once the target of a pair is rewound, replay of the source's log ends below the copy and below the target, and leaves the same cluster.
abbrev pub PairsFollow : Type 0
PairsFollow = (root other : PathValue) (seed blocks : ℕ) (c c' d : Contents) → HasPair root seed blocks c → HasCopy root other seed blocks d
    → IsRewound c (pair_rewind root seed blocks c) c' → BothEnd None d other c' (target_of root) (copy_start other seed blocks)

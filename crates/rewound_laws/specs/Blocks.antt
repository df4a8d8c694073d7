-- The blocks of a rewound target and of a whole copy of its source, before either replays the source's log: PostgreSQL 16, src/bin/pg_rewind/filemap.c
-- and pg_rewind.c. Own: "Clusters that grew from one state", "The law of one block".
use Rattle.std.specs.Prelude.{◌≡◌, ◌⊎◌, ℕ, ℤ, ◌<◌, ◌≤◌, true, false, List, length, Option, Ok, is_some}
use Rattle.rmgr_hooks.specs.Custom.{Extension}
use Rattle.block_refs.specs.declared.names.BlockName.{BlockName}
use Rattle.cluster_laws.specs.Kinds.{HasKinds}
use Rattle.cluster_laws.specs.Converging.{IsBased}
use Rattle.cluster_tree.specs.Contents.{Contents}
use Rattle.cluster_tree.specs.PathValue.{PathValue}
use Rattle.replay_core.specs.Replayed.{first_world}
use Rattle.replay_laws.specs.Held.{IsMainBlock}
use Rattle.replay_start.specs.Checked.{Start}
use Rattle.rewind_core.specs.Fits.{IsRewound}
use Rattle.rewind_core.specs.Planned.{Needing, Needs, planned_of}
use Rattle.storage_laws.specs.States.{block_in}
use Rattle.rewound_laws.specs.Copy.{IsWholeCopy}
use Rattle.rewound_laws.specs.Grew.{GrewFromOneState}

-- In a rewound target a block of a main fork is the source's; or else its own that was there, and that isn't wanted of the source.
abbrev pub RewoundBlocks : Type 0
RewoundBlocks = (c c' : Contents) (n : Needing) (name : BlockName) → 0 < n.aim.between.per_file → IsRewound c n c' → IsMainBlock name
    → (block_in n.aim.between.target n.aim.between.per_file name c' ≡ block_in n.aim.between.source n.aim.between.per_file name c)
    ⊎ ((is_some (block_in n.aim.between.target n.aim.between.per_file name c) ≡ true) × (n.aim.between.wanted name.rel name.block ≡ false)
    × (block_in n.aim.between.target n.aim.between.per_file name c' ≡ block_in n.aim.between.target n.aim.between.per_file name c))

-- Both clusters, under the mark of a replay and before the first record, fit the base as the convergence law asks it; and the control file that
-- both have says how many blocks a file may have as the rewind took it.
pub record AreReady (custom : Option Extension) (base : BlockName → Option (List ℕ)) (n : Needing) (c' d : Contents) (other : PathValue) (s : Start) : Type 0 where
  pub relseg : s.control.relseg ≡ n.aim.between.per_file
  pub copy : IsBased custom base s.label.start.0 s.records other s.control.relseg (first_world d other s)
  pub rewound : IsBased custom base s.label.start.0 s.records n.aim.between.target s.control.relseg (first_world c' n.aim.between.target s)

-- where both clusters grew from one state
abbrev pub BlocksFit : Type 0
BlocksFit = (custom : Option Extension) (base : BlockName → Option (List ℕ)) (c c' d : Contents) (target source other : PathValue) (now : ℤ) (n : Needing) (s : Start)
    → planned_of c target source now ≡ Ok (Needs n) → IsRewound c n c' → IsWholeCopy c n d other
    → GrewFromOneState custom base c n d other s → AreReady custom base n c' d other s

-- the entries of a whole copy are of the kinds that servers leave where the source's are
abbrev pub CopyHasKinds : Type 0
CopyHasKinds = (c d : Contents) (n : Needing) (other : PathValue) → IsWholeCopy c n d other → HasKinds n.aim.between.source c → length other.parts ≤ 61 → HasKinds other d

-- A rewound target that follows its source: PostgreSQL 16 manual, reference page of pg_rewind, "How It Works". Own: "A rewound target and a whole copy",
-- "Clusters that grew from one state".
use Rattle.std.specs.Prelude.{◌≡◌, ℕ, ℤ, List, Option, Ok}
use Rattle.rmgr_hooks.specs.Custom.{Extension, IsSound}
use Rattle.block_refs.specs.declared.names.BlockName.{BlockName}
use Rattle.cluster_laws.specs.Replays.{BothEnd}
use Rattle.cluster_tree.specs.Contents.{Contents}
use Rattle.cluster_tree.specs.PathValue.{PathValue}
use Rattle.replay_start.specs.Checked.{Start}
use Rattle.rewind_core.specs.Fits.{IsRewound}
use Rattle.rewind_core.specs.Planned.{Needing, Needs, planned_of}
use Rattle.rewound_laws.specs.Copy.{IsWholeCopy}
use Rattle.rewound_laws.specs.Grew.{GrewFromOneState}

-- A target follows its source: where the two grew from one state, which a whole copy of the source and its log tell of, replay of that log from
-- the common checkpoint ends below the target as below the copy, and leaves the same cluster. The base and the copy are any.
abbrev pub Follows : Option Extension → Contents → PathValue → Needing → Contents → Type 0
Follows custom c target n c' = (base : BlockName → Option (List ℕ)) (d : Contents) (other : PathValue) (s : Start)
    → IsWholeCopy c n d other → GrewFromOneState custom base c n d other s → BothEnd custom d other c' target s

-- so does a rewound one
abbrev pub RewoundConverges : Type 0
RewoundConverges = (custom : Option Extension) → IsSound custom → (c c' : Contents) (target source : PathValue) (now : ℤ) (n : Needing)
    → planned_of c target source now ≡ Ok (Needs n) → IsRewound c n c' → Follows custom c target n c'

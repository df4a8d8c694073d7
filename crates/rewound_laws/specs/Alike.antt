-- A rewound target beside a whole copy of its source. Own: "A rewound target and a whole copy", "Alike clusters".
use Rattle.std.specs.Prelude.{◌≡◌, ◌⊎◌, ◌≤◌, ℕ, ℤ, true, false, max, List, length, Some, Ok}
use Rattle.alike_clusters.specs.Clusters.{AlikeClusters, is_bounded}
use Rattle.block_refs.specs.declared.names.RelName.{RelName}
use Rattle.cluster_tree.specs.Contents.{Contents, FileEntry, entry_at}
use Rattle.cluster_tree.specs.PathValue.{PathValue, below, path_of}
use Rattle.file_edits.specs.Alike.{IsShallow}
use Rattle.file_walk.specs.Relations.{relation_of}
use Rattle.rewind_core.specs.Fits.{IsRewound}
use Rattle.rewind_core.specs.Planned.{Needing, Needs, planned_of}
use Rattle.rewind_plan.specs.Planned.{Between}
use Rattle.rewound_laws.specs.Copy.{IsWholeCopy}

-- no file of a main fork below a root has more blocks than it may have
abbrev pub AreBounded : (per_file : ℕ) → Contents → PathValue → Type 0
AreBounded per_file c root = (parts : List (List ℕ)) (at : RelName × ℕ) (bytes : List ℕ) → relation_of (path_of false parts) ≡ Some at
    → entry_at c (below root parts) ≡ Some (FileEntry bytes) → is_bounded per_file at.1 (length bytes) ≡ true

-- a copy's root has no more parts than the longer of both roots, or no path below it has more than a path may have
abbrev pub IsNoDeeper : Contents → PathValue → Between → Type 0
IsNoDeeper d other w = (length other.parts ≤ max (length w.target.parts) (length w.source.parts)) ⊎ IsShallow d other

-- Both roots, the target's and the copy's, have room for the paths of a cluster's files, and the source's files are as servers leave them.
pub record IsRoomy (c : Contents) (w : Between) (d : Contents) (other : PathValue) : Type 0 where
  pub room : length w.target.parts ≤ 61
  pub other_room : length other.parts ≤ 61
  pub deep : IsNoDeeper d other w
  pub bounded : AreBounded w.per_file c w.source

-- So a whole copy and the rewound target are alike but for the pages of their relations.
abbrev pub RewoundIsAlike : Type 0
RewoundIsAlike = (c c' d : Contents) (target source other : PathValue) (now : ℤ) (n : Needing) → planned_of c target source now ≡ Ok (Needs n)
    → IsRewound c n c' → IsWholeCopy c n d other → IsRoomy c n.aim.between d other → AlikeClusters n.aim.between.per_file d other c' target

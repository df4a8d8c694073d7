-- A whole copy of a rewind's source: PostgreSQL 16 manual, reference page of pg_rewind. Own: "A rewound target and a whole copy".
use Rattle.std.specs.Prelude.{◌≡◌, ℕ, List}
use Rattle.cluster_tree.specs.Contents.{Contents, entry_at}
use Rattle.cluster_tree.specs.PathValue.{PathValue, below}
use Rattle.rewind_core.specs.Planned.{Needing}
use Rattle.rewind_plan.specs.PlanOf.{rewinding}
use Rattle.rewound_tree.specs.Rewound.{whole_copy}

-- Below this root stands the source without what is excluded, with the label and the control file that a rewind writes. It may stand
-- in other contents, at any root.
abbrev pub IsWholeCopy : Contents → Needing → Contents → PathValue → Type 0
IsWholeCopy c n d other = (parts : List (List ℕ)) → entry_at d (below other parts) ≡ whole_copy (rewinding c n.aim.between n.aim.control n.aim.label) parts

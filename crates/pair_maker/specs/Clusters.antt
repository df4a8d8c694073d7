-- The clusters of a pair and the copy of the source, entry by entry: PostgreSQL 16 manual, section "Database File Layout". Own: "A pair from a number".
use Rattle.std.specs.Prelude.{ℕ, pos, false, ◌∷◌, ◌++◌, List, [], codes, map}
use Rattle.backup_label.specs.Text.{label_text}
use Rattle.cluster_tree.specs.Contents.{Entry, FileEntry, FolderEntry}
use Rattle.cluster_tree.specs.PathValue.{kept_parts}
use Rattle.control_file.specs.Writing.{control_bytes}
use Rattle.control_file.specs.declared.control.Control.{Control}
use Rattle.reset_plan.specs.NewSegment.{checkpoint_record}
use Rattle.rewound_tree.specs.RewoundControl.{rewound_control}
use Rattle.pair_maker.specs.Files.{control_of, history_bytes, pair_label, relation_bytes, segment_bytes, version_bytes}
use Rattle.pair_maker.specs.Logs.{common_checkpoint, made_at, records_of}
use Rattle.pair_maker.specs.declared.side.Side.{Side}
use Rattle.pair_maker.specs.declared.side.Side.TheVariants.{Target, Source}

-- an entry below a root
pub record Named : Type 0 where
  pub parts : List (List ℕ)
  pub entry : Entry

abbrev pub folder : List ℕ → Named
folder text = record { parts = kept_parts text; entry = FolderEntry false }

abbrev pub file : List ℕ → List ℕ → Named
file text bytes = record { parts = kept_parts text; entry = FileEntry bytes }

-- the root itself, and the folders below it
abbrev pub folder_entries : List Named
folder_entries = folder (codes "") ∷ folder (codes "base") ∷ folder (codes "base/5") ∷ folder (codes "global") ∷ folder (codes "pg_wal") ∷ []

abbrev pub version_entries : List Named
version_entries = file (codes "PG_VERSION") version_bytes ∷ file (codes "base/5/PG_VERSION") version_bytes ∷ []

-- what each of the three has
abbrev pub common_entries : Side → (seed blocks : ℕ) → List Named
common_entries side seed blocks = folder_entries ++ (version_entries ++ file (codes "base/5/16384") (relation_bytes side seed blocks) ∷ [])

-- the first segment of timeline 1; and the history of timeline 2 with its first segment
abbrev pub first_log : List ℕ → Named
first_log bytes = file (codes "pg_wal/000000010000000000000001") bytes

abbrev pub second_log : List ℕ → List Named
second_log bytes = file (codes "pg_wal/00000002.history") history_bytes ∷ file (codes "pg_wal/000000020000000000000001") bytes ∷ []

abbrev pub control_entry : Control → Named
control_entry control = file (codes "global/pg_control") (control_bytes control)

-- the target
abbrev pub target_entries : (seed blocks : ℕ) → List Named
target_entries seed blocks =
    common_entries Target seed blocks
    ++ (first_log (segment_bytes Target (records_of Target seed blocks)) ∷ control_entry (control_of Target seed blocks) ∷ [])

-- what the source and its copy have alike: of the log of timeline 1 what both clusters have, and the log of timeline 2
abbrev pub shared_entries : (seed blocks : ℕ) → List Named
shared_entries seed blocks =
    common_entries Source seed blocks
    ++ (first_log (segment_bytes Target (checkpoint_record common_checkpoint ∷ [])) ∷ second_log (segment_bytes Source (records_of Source seed blocks)))

-- the source
abbrev pub source_entries : (seed blocks : ℕ) → List Named
source_entries seed blocks = shared_entries seed blocks ++ control_entry (control_of Source seed blocks) ∷ []

-- a whole copy of the source, with the control file and the label that a rewind leaves
abbrev pub copy_entries : (seed blocks : ℕ) → List Named
copy_entries seed blocks =
    shared_entries seed blocks
    ++ (control_entry (rewound_control (control_of Source seed blocks) (pos made_at)) ∷ file (codes "backup_label") (label_text pair_label) ∷ [])

-- entries below a folder of this name
abbrev pub below_name : List ℕ → List Named → List Named
below_name name entries = map (λ n. record { parts = name ∷ n.parts; entry = n.entry }) entries

-- all that is made: the target at t, the source at s, and its copy at c
unfoldable pub pair_entries : (seed blocks : ℕ) → List Named
pair_entries seed blocks =
    below_name (codes "t") (target_entries seed blocks) ++ (below_name (codes "s") (source_entries seed blocks) ++ below_name (codes "c") (copy_entries seed blocks))

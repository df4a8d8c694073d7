-- What the replay of a pair's copy begins from: PostgreSQL 16, src/backend/access/transam/xlogrecovery.c, InitWalRecovery. Own: "A pair from a number".
use Rattle.std.specs.Prelude.{None, Some, ◌≡◌, ℕ, pos, ◌≤◌, List, [], ◌∷◌, Ok}
use Rattle.backup_label.specs.Text.{places_of}
use Rattle.cluster_tree.specs.Contents.{Contents}
use Rattle.cluster_tree.specs.PathValue.{PathValue}
use Rattle.clusters.specs.RootLog.{log_at}
use Rattle.control_file.specs.declared.control.Control.{Control}
use Rattle.replay_start.specs.Checked.{Start, start_of}
use Rattle.rewound_tree.specs.RewoundControl.{rewound_control}
use Rattle.wal_base.specs.Spans.{ended, open_span}
use Rattle.wal_base.specs.declared.spans.Span.{Span}
use Rattle.wal_pages.specs.declared.log_path.LogPath.{LogPath}
use Rattle.pair_maker.specs.Files.{control_of, pair_label}
use Rattle.pair_maker.specs.Logs.{made_at, megabyte, system}
use Rattle.pair_maker.specs.declared.side.Side.TheVariants.{Source}
use Rattle.pair_laws.specs.Life.{side_records}
use Rattle.pair_laws.specs.Stands.{CopyStands}

-- the copy's control file: the source's, in archive recovery
abbrev pub copy_control : (seed blocks : ℕ) → Control
copy_control seed blocks = rewound_control (control_of Source seed blocks) (pos made_at)

-- timeline 1 up to where the common checkpoint ends, and timeline 2 from there on
abbrev pub copy_spans : List Span
copy_spans = ended (record { 0 = 0x10_00A0 }) (open_span 1 (record { 0 = 0 })) ∷ open_span 2 (record { 0 = 0x10_00A0 }) ∷ []

abbrev pub copy_log : PathValue → LogPath
copy_log other = log_at other (Some system) copy_spans megabyte

-- the source's whole log, from the common checkpoint on
abbrev pub copy_start : PathValue → (seed blocks : ℕ) → Start
copy_start other seed blocks = record {
  control = copy_control seed blocks;
  label = places_of pair_label;
  log = copy_log other;
  records = side_records Source seed blocks;
}

-- the copy of a pair, wherever it stands, passes every check before a replay
abbrev pub CopyStarts : Type 0
CopyStarts = (other : PathValue) (seed blocks : ℕ) (d : Contents) → blocks ≤ 4096 → CopyStands other seed blocks d → start_of None d other ≡ Ok (copy_start other seed blocks)

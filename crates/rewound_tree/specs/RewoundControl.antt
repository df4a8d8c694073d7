-- The control file that a rewind leaves: PostgreSQL 16, src/bin/pg_rewind/pg_rewind.c, perform_rewind, ControlFile_new; src/include/catalog/pg_control.h,
-- DBState. Own: "The control file of a rewind".
use Rattle.std.specs.Prelude.{ℕ, ℤ, ◌==◌, max, if◌then◌else◌}
use Rattle.control_file.specs.Reading.{timeline_of}
use Rattle.control_file.specs.declared.control.Control.{Control}

-- A cluster that was shut down is consistent from its last checkpoint on. One that was shut down in recovery (2) has replayed log past its own:
-- it is consistent from its minimum recovery point on, where that is greater.
abbrev pub consistent_at : Control → ℕ
consistent_at control = if control.state == 2 then max control.checkPoint control.minRecoveryPoint else control.checkPoint

-- on the timeline of its checkpoint, or of one that it has followed since
abbrev pub consistent_on : Control → ℕ
consistent_on control = if control.state == 2 then timeline_of control else control.cp.tli

-- the source's: in archive recovery (5), at this time, and not consistent before the source was
abbrev pub rewound_control : Control → ℤ → Control
rewound_control source now = record source {
  state = 5;
  time = now;
  minRecoveryPoint = consistent_at source;
  minRecoveryPointTli = consistent_on source;
}

-- What the whole log must meet, before anything is changed: PostgreSQL 16, src/backend/access/transam/xlogrecovery.c, InitWalRecovery (the
-- record of the label's checkpoint) and CheckRecoveryConsistency. Own: "The log is read before it is replayed".
use Rattle.std.specs.Prelude.{ℕ, ◌==◌, ◌&&◌, nat_lt, Bool, false, if◌then◌else◌, List, [], ◌∷◌, Option, None, Some, option_map}
use Rattle.std.specs.List.{list_any}
use Rattle.std.specs.Option.{option_map_or}
use Rattle.cluster_tree.specs.PathValue.{PathValue}
use Rattle.cluster_tree.specs.Causes.{first_of}
use Rattle.backup_label.specs.declared.reading.LabelPlaces.{LabelPlaces}
use Rattle.block_refs.specs.Outcomes.{record_parts}
use Rattle.control_file.specs.declared.control.Control.{Control}
use Rattle.replay_control.specs.Said.{checkpoint_said}
use Rattle.replay_profile.specs.Profile.{first_outside, parts_or_none}
use Rattle.wal_records.specs.Log.{end_after}
use Rattle.wal_records.specs.Reading.{LogRecord}
use Rattle.replay_start.specs.Faults.{of_profile}
use Rattle.replay_start.specs.declared.fault.ReplayFault.{ReplayFault}
use Rattle.replay_start.specs.declared.fault.ReplayFault.TheVariants as fault
use Rattle.rmgr_hooks.specs.Custom.{Extension}

-- a record is that of the label's checkpoint: it stands at its place, and is a checkpoint from whose redo the log is read
abbrev pub is_labelled : LabelPlaces → LogRecord → Bool
is_labelled label r =
    r.start == label.checkpoint.0 && option_map_or (λ cp. cp.redo == label.start.0) (checkpoint_said r (parts_or_none (record_parts r))) false

-- the log ends below the position that the cluster needs to be consistent
abbrev pub ends_too_soon : (least end : ℕ) → Option ReplayFault
ends_too_soon least end = if nat_lt end least then Some (fault.EndsTooSoon (record { 0 = end }) (record { 0 = least })) else None

-- no record is that of the label's checkpoint
abbrev pub unlabelled : PathValue → Bool → Option ReplayFault
unlabelled root found = if found then None else Some (fault.BadLabel root 2)

-- what refuses a log of these records: the first that isn't taken, then its end, then that the label's checkpoint is missing
unfoldable pub log_refusal : Option Extension → PathValue → Control → LabelPlaces → List LogRecord → Option ReplayFault
log_refusal custom root control label records =
    first_of (option_map of_profile (first_outside custom records) ∷ ends_too_soon control.minRecoveryPoint (end_after label.start.0 records)
    ∷ unlabelled root (list_any (is_labelled label) records) ∷ [])

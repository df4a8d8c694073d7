-- What a replay leaves: PostgreSQL 16, src/backend/access/transam/xlogrecovery.c, PerformWalRecovery; xlogutils.c, XLogCheckInvalidPages.
-- Own: "A replay, in order".
use Rattle.std.specs.Prelude.{ℕ, List, [], ◌∷◌, ◌++◌, length, codes, Option, option_map, Result, Ok}
use Rattle.block_refs.specs.declared.names.BlockName.{BlockName}
use Rattle.cluster_tree.specs.Causes.{given, unless}
use Rattle.cluster_tree.specs.Change.{Change, Removes, Writes, all_changed}
use Rattle.cluster_tree.specs.Contents.{Contents}
use Rattle.cluster_tree.specs.Marks.{marks_of}
use Rattle.cluster_tree.specs.PathValue.{PathValue, below}
use Rattle.clusters.specs.Roots.{path_in}
use Rattle.control_file.specs.Reading.{timeline_of}
use Rattle.control_file.specs.Writing.{control_bytes}
use Rattle.control_file.specs.declared.control.Control.{Control}
use Rattle.marked_runs.specs.Runs.{begun, ended}
use Rattle.wal_records.specs.Log.{end_after}
use Rattle.block_replay.specs.World.{least_name}
use Rattle.replay_control.specs.Following.{control_left}
use Rattle.replay_start.specs.Checked.{Start, start_of}
use Rattle.replay_start.specs.declared.fault.ReplayFault.{ReplayFault}
use Rattle.replay_start.specs.declared.fault.ReplayFault.TheVariants as fault
use Rattle.replay_world.specs.Records.{records_after}
use Rattle.replay_world.specs.World.{World}
use Rattle.replay_core.specs.Faults.{recorded}
use Rattle.rmgr_hooks.specs.Custom.{Extension}

-- the mark, with a text of one line
abbrev pub mark_of : PathValue → PathValue
mark_of root = (marks_of root).replay

abbrev pub mark_text : List ℕ
mark_text = codes "pg_walreplay 1\n"

-- what is changed before the first record
abbrev pub beginning : PathValue → List Change
beginning root = begun (mark_of root) mark_text

abbrev pub control_path : PathValue → PathValue
control_path root = path_in root (codes "global/pg_control")

abbrev pub label_path : PathValue → PathValue
label_path root = below root (codes "backup_label" ∷ [])

-- and behind the last one: the control file is written, and the label removed
abbrev pub closing_files : PathValue → Control → List Change
closing_files root control = Writes (control_path root) 0 (control_bytes control) ∷ Removes (label_path root) ∷ []

-- .. and then the mark
abbrev pub closing : PathValue → Control → List Change
closing root control = closing_files root control ++ ended (mark_of root)

-- what is left, and what is told of it
pub record After : Type 0 where
  pub files : Contents
  pub records : ℕ
  pub end : ℕ
  pub tli : ℕ

-- a block that is changed, and that wasn't there to the end of the log
abbrev pub missing_page : List BlockName → Option ReplayFault
missing_page skipped = option_map fault.MissingPage (least_name skipped)

-- the end of the log that is replayed
abbrev pub end_of : Start → ℕ
end_of s = end_after s.label.start.0 s.records

-- what is left and told behind records of this count, which end here and left this world
abbrev pub closed : PathValue → (tli count end : ℕ) → World → After
closed root tli count end w = record {
  files = all_changed w.files (closing root (control_left tli end w.control));
  records = count;
  end = end;
  tli = tli;
}

abbrev pub closed_or : PathValue → (tli count end : ℕ) → World → Result After ReplayFault
closed_or root tli count end w = unless (missing_page w.skipped) (Ok (closed root tli count end w))

-- all records are replayed into a world, and then it is closed
abbrev pub replayed_into : Option Extension → PathValue → Start → World → Result After ReplayFault
replayed_into custom root s w =
    given (recorded (records_after custom root s.control.relseg s.records w)) (closed_or root (timeline_of s.control) (length s.records) (end_of s))

-- the cluster under the mark, before the first record
abbrev pub first_world : Contents → PathValue → Start → World
first_world c root s = record { files = all_changed c (beginning root); control = s.control; skipped = [] }

-- what a replay leaves of a cluster, or why it ends: every check comes before its first change
unfoldable pub after_replay : Option Extension → Contents → PathValue → Result After ReplayFault
after_replay custom c root = given (start_of custom c root) (λ s. replayed_into custom root s (first_world c root s))

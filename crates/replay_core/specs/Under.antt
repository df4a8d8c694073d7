-- A replay under a mark that its caller laid, and that stays: what it begins from, what it leaves, and where its changes go.
-- Own: "A replay, in order", "Changes under a mark".
use Rattle.std.specs.Prelude.{ℕ, Bool, true, false, ◌≡◌, ◌||◌, [], length, Option, Result, Ok}
use Rattle.cluster_tree.specs.Causes.{given, unless}
use Rattle.cluster_tree.specs.Change.{all_changed}
use Rattle.cluster_tree.specs.Contents.{Contents, entry_at, is_file}
use Rattle.cluster_tree.specs.PathOrder.{path_eq}
use Rattle.cluster_tree.specs.PathValue.{PathValue}
use Rattle.control_file.specs.Reading.{timeline_of}
use Rattle.file_effects.specs.Own.{is_replayed}
use Rattle.replay_control.specs.Following.{control_left}
use Rattle.replay_start.specs.Checked.{IsStart, Start, start_of}
use Rattle.replay_start.specs.declared.checked.Checked.{Checked}
use Rattle.replay_start.specs.declared.fault.ReplayFault.{ReplayFault}
use Rattle.replay_world.specs.Records.{records_after}
use Rattle.replay_world.specs.World.{World}
use Rattle.wal_records.specs.Cursor.{Knows}
use Rattle.replay_core.specs.Faults.{recorded}
use Rattle.replay_core.specs.Replayed.{After, closing_files, control_path, end_of, label_path, missing_page}
use Rattle.replay_core.specs.Within.{LogStays}
use Rattle.rmgr_hooks.specs.Custom.{Extension}

-- ---- what it begins from

-- This start was checked, in contents that had no mark yet; these still have the log of those, and the files that are changed at the end.
pub record WasStart (custom : Option Extension) (root : PathValue) (checked : Checked) (start : Start) (c : Contents) : Type 0 where
  pub before : Contents
  pub passed : start_of custom before root ≡ Ok start
  pub is : IsStart start checked
  pub knows : Knows checked.cursor before
  pub log : LogStays root before c
  pub control : is_file (entry_at c (control_path root)) ≡ true
  pub label : is_file (entry_at c (label_path root)) ≡ true

-- .. as some start was
abbrev pub WasChecked : Option Extension → PathValue → Checked → Contents → Type 0
WasChecked custom root checked c = (start : Start) × WasStart custom root checked start c

-- ---- what it leaves

-- what is left and told behind records of this count, which end here and left this world
abbrev pub left_under : PathValue → (tli count end : ℕ) → World → After
left_under root tli count end w = record {
  files = all_changed w.files (closing_files root (control_left tli end w.control));
  records = count;
  end = end;
  tli = tli;
}

abbrev pub left_under_or : PathValue → (tli count end : ℕ) → World → Result After ReplayFault
left_under_or root tli count end w = unless (missing_page w.skipped) (Ok (left_under root tli count end w))

-- these files, before the first record
abbrev pub world_under : Start → Contents → World
world_under s c = record { files = c; control = s.control; skipped = [] }

-- what a replay of these files leaves, with this start, or why it ends: what `after_replay` says of them but for the mark, and with no check
abbrev pub replayed_under : Option Extension → PathValue → Start → Contents → Result After ReplayFault
replayed_under custom root s c =
    given (recorded (records_after custom root s.control.relseg s.records (world_under s c))) (left_under_or root (timeline_of s.control) (length s.records) (end_of s))

-- ---- where its changes go

-- the paths that a replay changes but for its mark: those of records, the control file and the label
abbrev pub is_changed_by_replay : PathValue → PathValue → Bool
is_changed_by_replay root path = is_replayed root path || (path_eq path (control_path root) || path_eq path (label_path root))

-- every other path has the entry that it had
abbrev pub SameBesideReplay : PathValue → (old new : Contents) → Type 0
SameBesideReplay root old new = (path : PathValue) → is_changed_by_replay root path ≡ false → entry_at new path ≡ entry_at old path

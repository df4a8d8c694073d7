-- What a reset answers over every tree, and what it leaves at each path. Own: "A reset of the log".
use Rattle.std.specs.Prelude.{◌≡◌, ◌≢◌, ℤ, true, false, codes, None, Some, Result, Ok, MatchResult}
use Rattle.std.specs.List.{list_any}
use Rattle.cluster_tree.specs.PathValue.{PathValue}
use Rattle.cluster_tree.specs.PathOrder.{path_eq}
use Rattle.cluster_tree.specs.Contents.{Contents, FileEntry, entry_at}
use Rattle.cluster_tree.specs.Folders.{names_in}
use Rattle.cluster_tree.specs.Marks.{marks_of}
use Rattle.clusters.specs.RootControl.{control_at}
use Rattle.clusters.specs.Roots.{path_in, wal_folder}
use Rattle.control_file.specs.Writing.{control_bytes}
use Rattle.control_file.specs.declared.control.Control.{Control}
use Rattle.wal_base.specs.Segment.{name_of}
use Rattle.wal_base.specs.declared.segment.Segment.{Segment}
use Rattle.reset_numbers.specs.Behind.{new_segment}
use Rattle.reset_numbers.specs.declared.options.ResetOptions.{ResetOptions}
use Rattle.reset_plan.specs.NewSegment.{segment_bytes}
use Rattle.reset_plan.specs.Prepared.{IsOfNames}
use Rattle.reset_plan.specs.Reset.{Reset, control_after, gone_in, in_folder, reset_of}
use Rattle.reset_plan.specs.declared.fault.ResetFault.{ResetFault}
use Rattle.reset_plan.specs.declared.fault.ResetFault.TheVariants as fault

-- ---- over every tree

-- Its answer is the control file of a reset that follows of some control file and of some names; a change fails only in carrying such a reset out. Where
-- the tree tells, it is the one that is meant.
abbrev pub Forms : (Tells : Type 0) → Contents → PathValue → ResetOptions → ℤ → Result Control ResetFault → Type 0
Forms Tells c root options now result =
    MatchResult result
    (λ control. (reset : Reset) × IsOfNames root options now reset × (control ≡ reset.control) × (Tells → reset_of c root options now ≡ Ok reset))
    (λ e. e ≡ fault.WriteFault → (reset : Reset) × IsOfNames root options now reset × (Tells → reset_of c root options now ≡ Ok reset))

-- ---- path by path

abbrev pub control_path : PathValue → PathValue
control_path root = path_in root (codes "global/pg_control")

abbrev pub new_path : PathValue → Segment → PathValue
new_path root segment = in_folder (wal_folder root) (name_of segment)

-- this path is one of those that go
abbrev pub Goes : Contents → PathValue → PathValue → Type 0
Goes c root path = list_any (path_eq path) (gone_in c (wal_folder root) (names_in c (wal_folder root))) ≡ true

abbrev pub Stays : Contents → PathValue → PathValue → Type 0
Stays c root path = list_any (path_eq path) (gone_in c (wal_folder root) (names_in c (wal_folder root))) ≡ false

-- The old contents, the new ones, and the control file that is answered: the control file says that, the new segment holds its record and zeros, what goes
-- is gone unless the new segment has its name, no mark stands, and everything else is as it was.
pub record LogIsReset (c d : Contents) (root : PathValue) (options : ResetOptions) (now : ℤ) (control : Control) : Type 0 where
  pub old : Control
  pub segment : Segment
  pub was : control_at c root ≡ Ok old
  pub behind : new_segment options old (names_in c (wal_folder root)) ≡ Some segment
  pub is : control ≡ control_after options now segment old
  pub says : entry_at d (control_path root) ≡ Some (FileEntry (control_bytes control))
  pub log : entry_at d (new_path root segment) ≡ Some (FileEntry (segment_bytes control segment))
  pub gone : (path : PathValue) → Goes c root path → path ≢ new_path root segment → entry_at d path ≡ None
  pub unmarked : entry_at d (marks_of root).reset ≡ None
  pub others : (path : PathValue) → Stays c root path → path ≢ control_path root → path ≢ new_path root segment → entry_at d path ≡ entry_at c path

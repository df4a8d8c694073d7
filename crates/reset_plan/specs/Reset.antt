-- What a reset of the log does: PostgreSQL 16 manual, reference page of pg_resetwal; src/bin/pg_resetwal/pg_resetwal.c. Own: "A reset of the log".
use Rattle.std.specs.Prelude.{◌==◌, ℕ, ℤ, ◌+◌, ◌||◌, if◌then◌else◌, List, [], ◌∷◌, ◌++◌, map, filter, codes, is_some, Option, None, Some, Result, Ok, Err, option_map}
use Rattle.archive_names.specs.Cleanup.{is_segment}
use Rattle.cluster_tree.specs.PathValue.{PathValue, below}
use Rattle.cluster_tree.specs.Causes.{first_of, given, unless}
use Rattle.cluster_tree.specs.Change.{Change, MakesFile, Removes, Writes}
use Rattle.cluster_tree.specs.Contents.{Contents, Entry, FolderEntry, FileEntry, LinkEntry, entry_at, is_folder}
use Rattle.cluster_tree.specs.Folders.{list_refusal, names_in}
use Rattle.cluster_tree.specs.Marks.{marks_of}
use Rattle.clusters.specs.Marks.{unfinished}
use Rattle.clusters.specs.RootControl.{control_at}
use Rattle.clusters.specs.Roots.{path_in, wal_folder}
use Rattle.control_file.specs.Writing.{control_bytes}
use Rattle.control_file.specs.declared.control.Control.{Control}
use Rattle.marked_runs.specs.Runs.{marked}
use Rattle.wal_base.specs.Segment.{bytes_of, name_of, start_of}
use Rattle.wal_base.specs.declared.segment.Segment.{Segment}
use Rattle.reset_numbers.specs.Behind.{new_segment}
use Rattle.reset_numbers.specs.Names.{is_status}
use Rattle.reset_numbers.specs.NewControl.{new_control}
use Rattle.reset_plan.specs.NewSegment.{segment_bytes}
use Rattle.reset_plan.specs.ResetFaults.{folder_fault, told_by}
use Rattle.reset_plan.specs.declared.fault.ResetFault.{ResetFault}
use Rattle.reset_plan.specs.declared.fault.ResetFault.TheVariants as fault
use Rattle.reset_numbers.specs.declared.options.ResetOptions.{ResetOptions}

-- what a reset leaves in the control file, and the changes that it makes, in order
pub record Reset : Type 0 where
  pub control : Control
  pub changes : List Change

-- ---- the new segment

-- where its record stands: behind the header of a segment's first page
abbrev pub checkpoint_place : Segment → ℕ
checkpoint_place segment = (start_of segment).0 + 40

unfoldable pub control_after : ResetOptions → ℤ → Segment → Control → Control
control_after options now segment old = new_control options now (checkpoint_place segment) (bytes_of segment.size) old

-- ---- what is removed

abbrev pub in_folder : PathValue → List ℕ → PathValue
in_folder folder name = below folder (name ∷ [])

abbrev pub status_folder : PathValue → PathValue
status_folder wal = in_folder wal (codes "archive_status")

-- where there is no such folder, there are no names
abbrev pub names_at : Contents → PathValue → List (List ℕ)
names_at c folder = if is_folder (entry_at c folder) then names_in c folder else []

-- the files of segments in pg_wal with these names, finished or not, and what archive_status in it says of them by those, in the names' order
abbrev pub gone_of : PathValue → List (List ℕ) → List (List ℕ) → List PathValue
gone_of wal names statuses = map (in_folder wal) (filter is_segment names) ++ map (in_folder (status_folder wal)) (filter is_status statuses)

unfoldable pub gone_in : Contents → PathValue → List (List ℕ) → List PathValue
gone_in c wal names = gone_of wal names (names_at c (status_folder wal))

-- ---- why a reset is refused

-- pg_wal isn't a folder, or its names aren't known
abbrev pub wal_refusal : Contents → PathValue → Option ResetFault
wal_refusal c wal = option_map (folder_fault wal) (list_refusal (entry_at c wal))

-- the cluster wasn't shut down, and no force is used (-f)
unfoldable pub not_clean : PathValue → Control → Option (Unit {0}) → Option ResetFault
not_clean root old force = if (old.state == 1) || is_some force then None else Some (fault.NotClean root old.state)

-- archive_status is there and isn't a folder, or its names aren't known
abbrev pub status_fault : PathValue → Option Entry → Option ResetFault
status_fault folder None = None
status_fault folder (Some entry) = option_map (folder_fault folder) (list_refusal (Some entry))

abbrev pub status_refusal : Contents → PathValue → Option ResetFault
status_refusal c wal = status_fault (status_folder wal) (entry_at c (status_folder wal))

-- what is to be removed is no file
abbrev pub entry_refusal : PathValue → Option Entry → Option ResetFault
entry_refusal path None = None
entry_refusal path (Some (FolderEntry _)) = Some (fault.KindsDiffer path)
entry_refusal path (Some (FileEntry _)) = None
entry_refusal path (Some LinkEntry) = Some (fault.Link path)

abbrev pub kind_refusal : Contents → PathValue → Option ResetFault
kind_refusal c path = entry_refusal path (entry_at c path)

-- why the files that go can't be removed, if so
unfoldable pub gone_refusal : Contents → PathValue → List (List ℕ) → Option ResetFault
gone_refusal c wal names = first_of (status_refusal c wal ∷ map (kind_refusal c) (gone_in c wal names))

-- ---- what a reset does

-- the removals, and the new segment
abbrev pub files_after : PathValue → List PathValue → Control → Segment → List Change
files_after wal gone control segment =
    map Removes gone ++ MakesFile (in_folder wal (name_of segment)) ∷ Writes (in_folder wal (name_of segment)) 0 (segment_bytes control segment) ∷ []

-- the control file, and these, under the mark
unfoldable pub changes_of : PathValue → List PathValue → Control → Segment → List Change
changes_of root gone control segment =
    marked (marks_of root).reset (codes "pg_resetwal 1\n")
    (Writes (path_in root (codes "global/pg_control")) 0 (control_bytes control) ∷ files_after (wal_folder root) gone control segment)

-- the changes, unless something stands in their way
abbrev pub changed_to : Contents → PathValue → ResetOptions → Control → Control → Segment → Result Reset ResetFault
changed_to c root options old control segment =
    let names = names_in c (wal_folder root) in
    unless (not_clean root old options.force) (
    unless (gone_refusal c (wal_folder root) names) (
    Ok record { control = control; changes = changes_of root (gone_in c (wal_folder root) names) control segment }))

-- a dry run (-n) changes nothing, and asks no more
unfoldable pub reset_to : Contents → PathValue → ResetOptions → Control → Control → Segment → Result Reset ResetFault
reset_to c root options old control segment =
    if is_some options.dry then Ok record { control = control; changes = [] } else changed_to c root options old control segment

-- the new segment, where there can be one
abbrev pub segment_found : PathValue → Option Segment → Result Segment ResetFault
segment_found wal None = Err (fault.BadSegment wal)
segment_found wal (Some segment) = Ok segment

-- a reset of a cluster with this control file
unfoldable pub reset_known : Contents → PathValue → ResetOptions → ℤ → Control → Result Reset ResetFault
reset_known c root options now old =
    unless (wal_refusal c (wal_folder root)) (
    given (segment_found (wal_folder root) (new_segment options old (names_in c (wal_folder root)))) (λ segment.
    reset_to c root options old (control_after options now segment old) segment))

-- the first point that refuses decides
abbrev pub reset_of : Contents → PathValue → ResetOptions → ℤ → Result Reset ResetFault
reset_of c root options now =
    unless (option_map fault.Cluster (unfinished c root)) (
    given (told_by (control_at c root)) (λ old.
    reset_known c root options now old))

-- what the control file then says
abbrev pub control_told : Result Reset ResetFault → Result Control ResetFault
control_told (Ok reset) = Ok reset.control
control_told (Err e) = Err e

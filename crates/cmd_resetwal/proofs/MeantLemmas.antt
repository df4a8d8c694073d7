-- What a reset that is meant is made of, and that each refusal of one comes while the command looks.
use Rattle.std.proofs.Common.{◌≡◌, ℕ, ℤ, Bool, true, false, List, [], ◌∷◌, is_some, inl, inr, refl, sym, ap, map, Option, None, Some, option_map, Result, Ok, Err}
use Rattle.std.specs.Prelude.{if◌then◌else◌, ◌||◌, ◌==◌}
use Rattle.cluster_tree.specs.Causes.{first_of, given, unless}
use Rattle.cluster_tree.specs.Contents.{Contents, Entry, FolderEntry, FileEntry, LinkEntry, entry_at}
use Rattle.cluster_tree.specs.Folders.{list_refusal, names_in}
use Rattle.cluster_tree.specs.Marks.{MarkPaths, first_mark, mark_at, marks_of}
use Rattle.cluster_tree.specs.PathValue.{PathValue}
use Rattle.cluster_tree.specs.declared.tree.TreeFault.{TreeFault}
use Rattle.cluster_tree.specs.declared.tree.TreeFault.TheVariants as tree
use Rattle.clusters.specs.Marks.{unfinished, with_mark}
use Rattle.clusters.specs.RootControl.{control_at}
use Rattle.clusters.specs.Roots.{wal_folder}
use Rattle.clusters.specs.declared.fault.ClusterFault.{ClusterFault}
use Rattle.clusters.specs.declared.fault.ClusterFault.TheVariants as cluster
use Rattle.control_file.specs.declared.control.Control.{Control}
use Rattle.wal_base.specs.declared.segment.Segment.{Segment}
use Rattle.reset_numbers.specs.Behind.{new_segment}
use Rattle.reset_numbers.specs.declared.options.ResetOptions.{ResetOptions}
use Rattle.reset_plan.specs.Prepared.{IsOfNames, reset_with}
use Rattle.reset_plan.specs.Reset.{Reset, changes_of, control_after, entry_refusal, gone_in, gone_of, gone_refusal, kind_refusal, names_at, not_clean, reset_known, reset_of, reset_to, segment_found, status_fault, status_folder, status_refusal, wal_refusal}
use Rattle.reset_plan.specs.ResetFaults.{folder_fault, told_by}
use Rattle.reset_plan.specs.declared.fault.ResetFault.{ResetFault}
use Rattle.reset_plan.specs.declared.fault.ResetFault.TheVariants as fault
use Rattle.run_acts.specs.Causes.{IsOfLook}
use Rattle.cluster_causes.proofs.CauseLemmas.{cluster_looks}
use Rattle.cmd_resetwal.specs.Resetwal.{reset_cause}

-- a refusal comes while the command looks
abbrev Looks : ResetFault → Type 0
Looks f = IsOfLook (reset_cause f)

-- if there is one
abbrev MayLook : Option ResetFault → Type 0
MayLook None = Unit {0}
MayLook (Some f) = Looks f

folder-looks : (folder : PathValue) (f : TreeFault) → Looks (folder_fault folder f)
folder-looks folder tree.Link = inr (inr refl)
folder-looks folder tree.NameNotText = inr (inr refl)
folder-looks folder tree.Failed = inl refl
folder-looks folder tree.OutOfMemory = inr (inl refl)
folder-looks folder tree.Absent = inr (inr refl)
folder-looks folder tree.NotFolder = inr (inr refl)
folder-looks folder tree.IsFolder = inr (inr refl)
folder-looks folder tree.Exists = inr (inr refl)
folder-looks folder tree.NotEmpty = inr (inr refl)
folder-looks folder tree.PastEnd = inr (inr refl)

folders-look : (folder : PathValue) (o : Option TreeFault) → MayLook (option_map (folder_fault folder) o)
folders-look folder None = tt
folders-look folder (Some f) = folder-looks folder f

mark-looks : (o : Option PathValue) → MayLook (option_map fault.Cluster (option_map cluster.Unfinished o))
mark-looks None = tt
mark-looks (Some path) = inr (inr refl)

marks-look : (marks : MarkPaths) (o : Option ℕ) → MayLook (option_map fault.Cluster (with_mark marks o))
marks-look marks None = tt
marks-look marks (Some number) = mark-looks (mark_at marks number)

unfinished-looks : (c : Contents) (root : PathValue) → MayLook (option_map fault.Cluster (unfinished c root))
unfolding unfinished
unfinished-looks c root = marks-look (marks_of root) (first_mark c (marks_of root))

status-looks : (folder : PathValue) (o : Option Entry) → MayLook (status_fault folder o)
status-looks folder None = tt
status-looks folder (Some entry) = folders-look folder (list_refusal (Some entry))

entry-looks : (path : PathValue) (o : Option Entry) → MayLook (entry_refusal path o)
entry-looks path None = tt
entry-looks path (Some (FolderEntry bad)) = inr (inr refl)
entry-looks path (Some (FileEntry bytes)) = tt
entry-looks path (Some LinkEntry) = inr (inr refl)

kinds-look : (c : Contents) (paths : List PathValue) → MayLook (first_of (map (kind_refusal c) paths))
unfolding first_of
kinds-look c [] = tt
kinds-look c (path ∷ paths) = either (entry_refusal path (entry_at c path)) (entry-looks path (entry_at c path)) (kinds-look c paths)
  where
    either : (o : Option ResetFault) → MayLook o → MayLook (first_of (map (kind_refusal c) paths)) → MayLook (first_of (o ∷ map (kind_refusal c) paths))
    either None h rest = rest
    either (Some f) h rest = h

gone-looks : (c : Contents) (wal : PathValue) (names : List (List ℕ)) → MayLook (gone_refusal c wal names)
unfolding gone_refusal first_of
gone-looks c wal names = either (status_refusal c wal) (status-looks (status_folder wal) (entry_at c (status_folder wal))) (kinds-look c (gone_in c wal names))
  where
    either : (o : Option ResetFault) → MayLook o → MayLook (first_of (map (kind_refusal c) (gone_in c wal names))) → MayLook (first_of (o ∷ map (kind_refusal c) (gone_in c wal names)))
    either None h rest = rest
    either (Some f) h rest = h

clean-looks : (root : PathValue) (old : Control) (force : Option (Unit {0})) → MayLook (not_clean root old force)
unfolding not_clean
clean-looks root old force = by ((old.state == 1) || is_some force)
  where
    by : (b : Bool) → MayLook (if b then None else Some (fault.NotClean root old.state))
    by true = tt
    by false = inr (inr refl)

-- ---- a reset that is meant

-- it is of some names, or refused while the command looks
abbrev pub Meant : PathValue → ResetOptions → ℤ → Result Reset ResetFault → Type 0
Meant root options now (Ok reset) = IsOfNames root options now reset
Meant root options now (Err f) = Looks f

module _ (root : PathValue) (options : ResetOptions) (now : ℤ) where
  meant-unless : (o : Option ResetFault) (r : Result Reset ResetFault) → MayLook o → Meant root options now r → Meant root options now (unless o r)
  meant-unless None r looks made = made
  meant-unless (Some f) r looks made = looks

  -- a dry run, or the changes
  meant-to : (c : Contents) (old : Control) (segment : Segment) → new_segment options old (names_in c (wal_folder root)) ≡ Some segment → Meant root options now (reset_to c root options old (control_after options now segment old) segment)
  unfolding reset_to gone_in
  meant-to c old segment behind = by (is_some options.dry) refl
    where
      control : Control
      control = control_after options now segment old

      names : List (List ℕ)
      names = names_in c (wal_folder root)

      gone : List PathValue
      gone = gone_of (wal_folder root) names (names_at c (status_folder (wal_folder root)))

      made : Reset
      made = record { control = control; changes = changes_of root gone control segment }

      with_dry : (dry : Bool) → is_some options.dry ≡ dry → (if dry then record { control = control; changes = [] } else made) ≡ reset_with root options control gone segment
      with_dry dry is = sym (ap (λ (b : Bool). if b then record { control = control; changes = [] } else made) is)

      named : (reset : Reset) → reset ≡ reset_with root options control gone segment → IsOfNames root options now reset
      named reset is = record { old = old; names = names; statuses = names_at c (status_folder (wal_folder root)); segment = segment; behind = behind; is = is }

      by : (dry : Bool) → is_some options.dry ≡ dry → Meant root options now (if dry then Ok (record { control = control; changes = [] }) else unless (not_clean root old options.force) (unless (gone_refusal c (wal_folder root) names) (Ok made)))
      by true is = named (record { control = control; changes = [] }) (with_dry true is)
      by false is =
          meant-unless (not_clean root old options.force) _ (clean-looks root old options.force)
          (meant-unless (gone_refusal c (wal_folder root) names) _ (gone-looks c (wal_folder root) names) (named made (with_dry false is)))

  meant-found : (c : Contents) (old : Control) (o : Option Segment) → new_segment options old (names_in c (wal_folder root)) ≡ o
      → Meant root options now (given (segment_found (wal_folder root) o) (λ segment. reset_to c root options old (control_after options now segment old) segment))
  meant-found c old None is = inr (inr refl)
  meant-found c old (Some segment) is = meant-to c old segment is

  meant-known : (c : Contents) (old : Control) → Meant root options now (reset_known c root options now old)
  unfolding reset_known
  meant-known c old =
      meant-unless (wal_refusal c (wal_folder root)) _ (folders-look (wal_folder root) (list_refusal (entry_at c (wal_folder root))))
      (meant-found c old (new_segment options old (names_in c (wal_folder root))) refl)

  meant-at : (c : Contents) (r : Result Control ClusterFault) → Meant root options now (given (told_by r) (λ old. reset_known c root options now old))
  meant-at c (Ok old) = meant-known c old
  meant-at c (Err f) = cluster_looks f

pub meant : (c : Contents) (root : PathValue) (options : ResetOptions) (now : ℤ) → Meant root options now (reset_of c root options now)
meant c root options now = meant-unless root options now (option_map fault.Cluster (unfinished c root)) _ (unfinished-looks c root) (meant-at root options now c (control_at c root))

-- The files of a folder that go, by the names in it. Own: "A reset of the log".
use Rattle.std.specs.Prelude.{◌≡◌, ◌⊎◌, ℕ, Bool, true, List, [], ◌∷◌, ◌++◌, filter, map, Option, None, Some, Result, Ok, Err, MatchResult, is_some}
use Rattle.std.specs.List.{list_all}
use Rattle.archive_names.specs.Cleanup.{is_segment}
use Rattle.cluster_tree.specs.PathValue.{PathValue}
use Rattle.cluster_tree.specs.Causes.{first_of}
use Rattle.cluster_tree.specs.Contents.{Contents, entry_at}
use Rattle.reset_numbers.specs.Names.{is_status}
use Rattle.reset_plan.specs.Reset.{in_folder, kind_refusal}
use Rattle.reset_plan.specs.ResetFaults.{IsFree, folder_fault}
use Rattle.cluster_tree.specs.declared.tree.TreeFault.{TreeFault}
use Rattle.cluster_tree.specs.declared.tree.TreeFault.TheVariants as tree_fault
use Rattle.reset_plan.specs.declared.fault.ResetFault.{ResetFault}
use Rattle.reset_plan.specs.declared.removals.Area.{Area}
use Rattle.reset_plan.specs.declared.removals.Area.TheVariants as area

-- whether a name in such a folder goes
abbrev pub goes : Area → List ℕ → Bool
goes area.Segments name = is_segment name
goes area.Statuses name = is_status name

-- the paths of those that go
abbrev pub going : Area → PathValue → List (List ℕ) → List PathValue
going a folder names = map (in_folder folder) (filter (goes a) names)

-- and of one name, if it does
abbrev pub going_one : Area → PathValue → List ℕ → List PathValue
going_one a folder name = going a folder (name ∷ [])

-- why one of these paths isn't removed, the first that isn't
abbrev pub kinds_refusal : Contents → List PathValue → Option ResetFault
kinds_refusal c paths = first_of (map (kind_refusal c) paths)

-- something stands at each of these names
abbrev pub Stand : Contents → PathValue → List (List ℕ) → Type 0
Stand c folder names = list_all (λ name. is_some (entry_at c (in_folder folder name))) names ≡ true

-- a test is passed where nothing is refused, and else refused so, or with an answer that is free
abbrev pub Looks : {A : Type 0} → Option ResetFault → Result A ResetFault → Type 0
Looks refusal result = MatchResult result (λ _. refusal ≡ None) (λ e. IsFree e ⊎ (refusal ≡ Some e))

-- what is known of a folder that may be missing, where its names can't be listed
abbrev pub unlisted : PathValue → TreeFault → Result (List (List ℕ)) ResetFault
unlisted folder tree_fault.Absent = Ok []
unlisted folder tree_fault.Link = Err (folder_fault folder tree_fault.Link)
unlisted folder tree_fault.NameNotText = Err (folder_fault folder tree_fault.NameNotText)
unlisted folder tree_fault.Failed = Err (folder_fault folder tree_fault.Failed)
unlisted folder tree_fault.OutOfMemory = Err (folder_fault folder tree_fault.OutOfMemory)
unlisted folder tree_fault.NotFolder = Err (folder_fault folder tree_fault.NotFolder)
unlisted folder tree_fault.IsFolder = Err (folder_fault folder tree_fault.IsFolder)
unlisted folder tree_fault.Exists = Err (folder_fault folder tree_fault.Exists)
unlisted folder tree_fault.NotEmpty = Err (folder_fault folder tree_fault.NotEmpty)
unlisted folder tree_fault.PastEnd = Err (folder_fault folder tree_fault.PastEnd)

-- why the files that go of two folders can't be removed, if so
abbrev pub both_refusal : Contents → PathValue → List (List ℕ) → PathValue → List (List ℕ) → Option ResetFault
both_refusal c wal names folder statuses = kinds_refusal c (going area.Segments wal names ++ going area.Statuses folder statuses)

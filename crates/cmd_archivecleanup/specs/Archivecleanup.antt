-- What pg_archivecleanup does: PostgreSQL 16 manual, reference page of pg_archivecleanup; src/bin/pg_archivecleanup/pg_archivecleanup.c, CleanupPriorWALFiles. Own:
-- "The names of an archive", "What a clean-up looks at".
use Rattle.std.specs.Prelude.{◌≡◌, ◌⊎◌, ℕ, ◌++◌, Bool, true, false, if◌then◌else◌, List, [], ◌∷◌, map, codes, Option, None, Some, unwrap_or}
use Rattle.std.specs.FinMap.{remove}
use Rattle.std.specs.List.{flat_map}
use Rattle.archive_names.specs.Cleanup.{removed_by_cleanup}
use Rattle.cluster_tree.specs.PathValue.{PathValue, below, path_text}
use Rattle.cluster_tree.specs.Contents.{Contents, Entry, FolderEntry, FileEntry, LinkEntry, entry_at, is_file}
use Rattle.cluster_tree.specs.Folders.{list_refusal, names_in}
use Rattle.cluster_tree.specs.declared.tree.ChangeCall.TheVariants.{Remove}
use Rattle.cluster_tree.specs.declared.tree.TreeFault.{TreeFault}
use Rattle.cluster_tree.specs.declared.tree.TreeFault.TheVariants as tree_fault
use Rattle.commands.specs.declared.archivecleanup.ArchivecleanupWords.{ArchivecleanupWords}
use Rattle.acts.specs.Acts.{Act, Print, Report, Do}
use Rattle.run_acts.specs.Answers.{Answer, refused, does}
use Rattle.run_acts.specs.Causes.{IsOfLook}
use Rattle.run_acts.specs.declared.cause.Cause.{Cause}
use Rattle.run_acts.specs.declared.cause.Cause.TheVariants as cause
use Rattle.run_acts.specs.declared.cause.PathCause.TheVariants as paths
use Rattle.run_acts.specs.declared.cause.RewindCause.TheVariants as kinds
use Rattle.cmd_archivecleanup.specs.declared.plan.Removal.{Removal}

-- why the names of the archive aren't known
abbrev pub folder_cause : PathValue → TreeFault → Cause
folder_cause folder tree_fault.Link = cause.Paths (paths.Link folder)
folder_cause folder tree_fault.NameNotText = cause.Paths (paths.NameNotText folder)
folder_cause folder tree_fault.Failed = cause.ReadFault
folder_cause folder tree_fault.OutOfMemory = cause.OutOfMemory
folder_cause folder tree_fault.Absent = cause.Paths (paths.NotFolder folder)
folder_cause folder tree_fault.NotFolder = cause.Paths (paths.NotFolder folder)
folder_cause folder tree_fault.IsFolder = cause.Paths (paths.NotFolder folder)
folder_cause folder tree_fault.Exists = cause.Paths (paths.NotFolder folder)
folder_cause folder tree_fault.NotEmpty = cause.Paths (paths.NotFolder folder)
folder_cause folder tree_fault.PastEnd = cause.Paths (paths.NotFolder folder)

-- the path of a name in the archive
abbrev pub in_folder : PathValue → List ℕ → PathValue
in_folder folder name = below folder (name ∷ [])

-- the names of those that go, of the names in the archive
abbrev pub going : List (List ℕ) → ArchivecleanupWords → List (List ℕ)
going names words = unwrap_or (removed_by_cleanup names words.kept words.extension) []

-- the names of those that go, in ascending order
unfoldable pub gone : Contents → ArchivecleanupWords → List (List ℕ)
gone c words = going (names_in c words.folder) words

-- why what stands at the path of one that is to go isn't removed, if so: only files are
abbrev pub entry_refusal : PathValue → Option Entry → Option Cause
entry_refusal path None = None
entry_refusal path (Some (FolderEntry _)) = Some (cause.Rewind (kinds.KindsDiffer path))
entry_refusal path (Some (FileEntry _)) = None
entry_refusal path (Some LinkEntry) = Some (cause.Paths (paths.Link path))

abbrev pub or_else : Option Cause → Option Cause → Option Cause
or_else (Some e) next = Some e
or_else None next = next

-- why one of these isn't removed, the first that isn't
abbrev pub unremoved : Contents → PathValue → List (List ℕ) → Option Cause
unremoved c folder [] = None
unremoved c folder (name ∷ names) = or_else (entry_refusal (in_folder folder name) (entry_at c (in_folder folder name))) (unremoved c folder names)

-- the line that tells of a removal
abbrev pub removing_line : PathValue → List ℕ
removing_line path = codes "pg_archivecleanup: removing file \"" ++ (path_text path ++ codes "\"\n")

-- the removal of a file, with -d behind its line
abbrev pub removal : Bool → PathValue → List ℕ → Removal
removal debug folder name = record { path = in_folder folder name; line = if debug then Some (removing_line (in_folder folder name)) else None }

abbrev pub telling : Option (List ℕ) → List Act → List Act
telling None acts = acts
telling (Some line) acts = Report line ∷ acts

-- files are removed one after another
abbrev pub removals : Contents → List Removal → List Act
removals c [] = []
removals c (r ∷ rs) = telling r.line (Do (Remove r.path ∷ []) (remove c r.path) ∷ removals (remove c r.path) rs)

-- the path of one that goes, as a line
abbrev pub path_line : PathValue → List ℕ → List ℕ
path_line folder name = path_text (in_folder folder name) ++ codes "\n"

-- a text on standard output, unless it is empty
abbrev pub printed : List ℕ → List Act
printed [] = []
printed (byte ∷ bytes) = Print (byte ∷ bytes) ∷ []

-- a refusal, or else what is done
abbrev pub refused_or : Option Cause → List Act → Answer
refused_or (Some e) acts = refused e
refused_or None acts = does acts

-- what is done about the archive, where its names are known: a dry run prints the paths of the files that go, and looks at none of them
abbrev pub known_answer : Contents → ArchivecleanupWords → Bool → Answer
known_answer c words true = does (printed (flat_map (path_line words.folder) (gone c words)))
known_answer c words false = refused_or (unremoved c words.folder (gone c words)) (removals c (map (removal words.debug words.folder) (gone c words)))

abbrev pub listed_answer : Contents → ArchivecleanupWords → Option TreeFault → Answer
listed_answer c words (Some f) = refused (folder_cause words.folder f)
listed_answer c words None = known_answer c words words.dry_run

-- what is done about the archive
abbrev pub archivecleanup_answer : Contents → ArchivecleanupWords → Answer
archivecleanup_answer c words = listed_answer c words (list_refusal (entry_at c words.folder))

-- what is done about names that were listed: a dry run prints the paths of those that go, and else their files are removed, those of these contents
abbrev pub named_answer : Contents → ArchivecleanupWords → List (List ℕ) → Bool → Answer
named_answer c words names true = does (printed (flat_map (path_line words.folder) (going names words)))
named_answer c words names false = does (removals c (map (removal words.debug words.folder) (going names words)))

-- some names were listed, and this is done about them
pub record IsOfNames (words : ArchivecleanupWords) (answer : Answer) : Type 0 where
  pub names : List (List ℕ)
  pub contents : Contents
  pub is : answer ≡ named_answer contents words names words.dry_run

-- over every tree: what is done about some names, by the words alone; or a refusal while it looks
abbrev pub IsArchivecleanup : ArchivecleanupWords → Answer → Type 0
IsArchivecleanup words answer = IsOfNames words answer ⊎ ((e : Cause) × IsOfLook e × (answer ≡ refused e))

-- these are files, each still when those before it are removed
abbrev pub AreFiles : Contents → List Removal → Type 0
AreFiles c [] = Unit {0}
AreFiles c (r ∷ rs) = (is_file (entry_at c r.path) ≡ true) × AreFiles (remove c r.path) rs

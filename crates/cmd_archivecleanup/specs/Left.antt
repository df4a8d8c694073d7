-- What a stop at any moment of a clean-up may leave. Own: "What a stop may leave".
use Rattle.std.specs.Prelude.{◌≡◌, ◌⊎◌, ◌||◌, true, if◌then◌else◌, is_some, List, [], map, None}
use Rattle.std.specs.List.{list_any}
use Rattle.cluster_tree.specs.Contents.{Contents, entry_at}
use Rattle.cluster_tree.specs.PathOrder.{path_eq}
use Rattle.cluster_tree.specs.PathValue.{PathValue}
use Rattle.cluster_tree.specs.Run.{Moment}
use Rattle.commands.specs.declared.archivecleanup.ArchivecleanupWords.{ArchivecleanupWords}
use Rattle.marked_runs.specs.Moments.{IsUntouched}
use Rattle.cmd_archivecleanup.specs.Archivecleanup.{archivecleanup_answer, gone, in_folder}

-- the paths of the files that are to go: none in a dry run, or where the clean-up is refused
abbrev pub leaving : Contents → ArchivecleanupWords → List PathValue
leaving c words = if words.dry_run || is_some (archivecleanup_answer c words).refusal then [] else map (in_folder words.folder) (gone c words)

-- contents less some of these files: each other path holds what it held
abbrev pub IsLess : List PathValue → Contents → Contents → Type 0
IsLess paths old c = (path : PathValue) → (entry_at c path ≡ entry_at old path) ⊎ ((list_any (path_eq path) paths ≡ true) × (entry_at c path ≡ None))

-- what a stop at any moment of a clean-up may leave: what it might have left before, less some of the files that go
abbrev pub IsLeftByCleanup : ArchivecleanupWords → Moment → Contents → Type 0
IsLeftByCleanup words first c = (before : Contents) × IsUntouched first before × IsLess (leaving first.state.contents words) before c

-- What a stop leaves while the mark and the copies are laid. Own: "What a stop may leave", "The shadows of a replay".
use Rattle.std.specs.Prelude.{◌≡◌, ◌⊎◌, true, List, Err}
use Rattle.cluster_tree.specs.Contents.{Contents, entry_at, is_file}
use Rattle.cluster_tree.specs.PathValue.{PathValue}
use Rattle.cluster_tree.specs.Tree.{bytes_at}
use Rattle.cluster_tree.specs.declared.file_fault.FileFault.{FileFault}
use Rattle.file_edits.specs.Answers.{IsFree}
use Rattle.file_edits.specs.Clearing.{tree_removed}
use Rattle.replay_list.specs.declared.listed.Listed.{Listed}
use Rattle.stored_replay.specs.Shadows.{shadow_folder}
use Rattle.replay_copies.specs.Laid.{IsLaid, IsShut, SameElsewhere, mark_of}

-- as before but for mark and copies, and the mark holds no whole list, or all is laid
pub record IsBeginLeft (root : PathValue) (listed : List Listed) (old new : Contents) : Type 0 where
  pub elsewhere : SameElsewhere root old new
  pub told : IsShut (bytes_at new (mark_of root)) ⊎ IsLaid root listed old new

-- what is refused: a free answer, or the folder of copies can't be removed
abbrev pub IsKept : PathValue → Contents → FileFault → Type 0
IsKept root c e = IsFree e ⊎ (tree_removed (shadow_folder root) c ≡ Err e)

-- a file stands at the mark
abbrev pub HasFile : PathValue → Contents → Type 0
HasFile root c = is_file (entry_at c (mark_of root)) ≡ true

-- a refusal leaves it; a fault of the device, or want of memory, may come before the mark or behind it
abbrev pub LeavesFile : PathValue → Contents → FileFault → Type 0
LeavesFile root c e = IsFree e ⊎ HasFile root c

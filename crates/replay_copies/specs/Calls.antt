-- Which changing calls come while the mark and the copies are laid or removed. Own: "Edits of files say where they go".
use Rattle.std.specs.Prelude.{Bool, true, List, Option, None, Some}
use Rattle.cluster_tree.specs.Laws.{changed_path}
use Rattle.cluster_tree.specs.PathValue.{PathValue}
use Rattle.cluster_tree.specs.declared.tree.ChangeCall.{ChangeCall}
use Rattle.file_edits.specs.Own.{GoesBy}
use Rattle.replay_copies.specs.Laid.{is_laid_at}

abbrev pub at_or_none : (PathValue → Bool) → Option PathValue → Bool
at_or_none own None = true
at_or_none own (Some path) = own path

-- a sync, or a change at one of these paths
abbrev pub is_own_or_sync : (PathValue → Bool) → ChangeCall → Bool
is_own_or_sync own call = at_or_none own (changed_path call)

-- each call that came is a sync, or at the mark or at or below the folder of copies
abbrev pub LaysOnly : PathValue → (old new : List ChangeCall) → Type 0
LaysOnly root old new = GoesBy (is_own_or_sync (is_laid_at root)) old new

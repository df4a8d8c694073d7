-- Why a rewind is refused for what was found on both sides: PostgreSQL 16, src/bin/pg_rewind/filemap.c, decide_file_action, for kinds
-- that differ. Own: "The plan of a rewind".
use Rattle.std.specs.Prelude.{◌+◌, Bool, true, false, not, cond, ◌&&◌, nat_lt, List, [], ◌∷◌, length, Option, None, Some, is_some}
use Rattle.cluster_tree.specs.PathValue.{PathValue}
use Rattle.file_walk.specs.declared.action.Action.{Action}
use Rattle.file_walk.specs.declared.action.Action.TheVariants as action
use Rattle.file_walk.specs.declared.entry.EntryKind.{EntryKind}
use Rattle.file_walk.specs.declared.pair.Pair.{Pair}
use Rattle.rewind_plan.specs.Planned.{action_of}

-- the path of the first pair that is so
abbrev pub first_path : (Pair → Bool) → List Pair → Option PathValue
first_path is_so [] = None
first_path is_so (pair ∷ pairs) = cond (is_so pair) (Some pair.path) (first_path is_so pairs)

abbrev pub is_difference : Action → Bool
is_difference action.Nothing = false
is_difference action.MakeFolder = false
is_difference action.Copy = false
is_difference action.Tail = false
is_difference action.Cut = false
is_difference action.Remove = false
is_difference action.KindsDiffer = true

-- the least path with a file on one side and a folder on the other
abbrev pub first_difference : List Pair → Option PathValue
first_difference pairs = first_path (λ pair. is_difference (action_of pair)) pairs

-- whether an action makes what the target, which has this there, hasn't
abbrev pub makes_anew : Action → Option EntryKind → Bool
makes_anew action.Nothing target = false
makes_anew action.MakeFolder target = true
makes_anew action.Copy target = not (is_some target)
makes_anew action.Tail target = false
makes_anew action.Cut target = false
makes_anew action.Remove target = false
makes_anew action.KindsDiffer target = false

-- whether a path is made that has more than 64 parts, those of the target's root included
abbrev pub is_too_deep : PathValue → Pair → Bool
is_too_deep root pair = makes_anew (action_of pair) pair.target && nat_lt 64 (length root.parts + length pair.path.parts)

-- the least such path
abbrev pub first_too_deep : PathValue → List Pair → Option PathValue
first_too_deep root pairs = first_path (is_too_deep root) pairs

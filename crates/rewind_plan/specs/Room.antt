-- What the steps of a plan name has room below both roots: a path has at most 64 parts. Own: "A path too deep is told unasked".
use Rattle.std.specs.Prelude.{◌≡◌, ◌+◌, ◌≤◌, Bool, true, false, ◌&&◌, ◌||◌, nat_lt, List, [], ◌∷◌, length, Option, is_some}
use Rattle.cluster_tree.specs.PathValue.{PathValue}
use Rattle.file_walk.specs.declared.action.Action.{Action}
use Rattle.file_walk.specs.declared.action.Action.TheVariants as action
use Rattle.file_walk.specs.declared.pair.Pair.{Pair}
use Rattle.rewind_plan.specs.Checks.{first_path}
use Rattle.rewind_plan.specs.Planned.{Between, action_of}

-- a folder or a whole file, where nothing may have been
abbrev pub makes : Action → Bool
makes action.Nothing = false
makes action.MakeFolder = true
makes action.Copy = true
makes action.Tail = false
makes action.Cut = false
makes action.Remove = false
makes action.KindsDiffer = false

-- the paths that the steps of a pair name have at most 64 parts
pub record HasRoom (w : Between) (pair : Pair) : Type 0 where
  pub target : is_some pair.target || makes (action_of pair) ≡ true → length w.target.parts + length pair.path.parts ≤ 64
  pub source : is_some pair.source ≡ true → length w.source.parts + length pair.path.parts ≤ 64

abbrev pub AllHaveRoom : Between → List Pair → Type 0
AllHaveRoom w [] = Unit {0}
AllHaveRoom w (pair ∷ pairs) = HasRoom w pair × AllHaveRoom w pairs

-- a pair that has no such room
abbrev pub is_past : PathValue → Pair → Bool
is_past root pair = nat_lt 64 (length root.parts + length pair.path.parts)

abbrev pub lacks_room : Between → Pair → Bool
lacks_room w pair = ((is_some pair.target || makes (action_of pair)) && is_past w.target pair) || (is_some pair.source && is_past w.source pair)

-- the least such path
abbrev pub first_lacking : Between → List Pair → Option PathValue
first_lacking w pairs = first_path (lacks_room w) pairs

-- Where the changing calls of a function go. Own: "Edits of files say where they go".
use Rattle.std.specs.Prelude.{◌≡◌, Bool, true, false, List, [], ◌∷◌, ◌++◌, Option, None, Some}
use Rattle.cluster_tree.specs.PathValue.{PathValue}
use Rattle.cluster_tree.specs.Laws.{changed_path}
use Rattle.cluster_tree.specs.declared.tree.ChangeCall.{ChangeCall}

abbrev pub is_on : (PathValue → Bool) → Option PathValue → Bool
is_on own None = false
is_on own (Some path) = own path

-- whether a changing call is at a path of its function's own; a sync is at none
abbrev pub is_own : (PathValue → Bool) → ChangeCall → Bool
is_own own call = is_on own (changed_path call)

-- the list went on by calls that each pass a test, or by none
pub data GoesBy (may : ChangeCall → Bool) (old : List ChangeCall) : List ChangeCall → Type 0 where
  Same : GoesBy may old old
  More : {mid new : List ChangeCall} (call : ChangeCall) → GoesBy may old mid → may call ≡ true → new ≡ mid ++ call ∷ [] → GoesBy may old new

-- the list went on by calls at own paths, or by none
abbrev pub GoesOn : (PathValue → Bool) → List ChangeCall → List ChangeCall → Type 0
GoesOn own = GoesBy (is_own own)

-- the changing calls that came are each at an own path, and none is a sync: so a list that went on by such calls before still does
abbrev pub OnOwn : {F : Type 0} → (F → List ChangeCall) → (PathValue → Bool) → F → F → Type 0
OnOwn calls own old new = (first : List ChangeCall) → GoesOn own first (calls old) → GoesOn own first (calls new)

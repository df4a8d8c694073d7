-- The changes of a rewind path by path: on each path there is one group. Own: "A rewind that is resumed".
use Rattle.std.specs.Prelude.{◌≡◌, ℕ, ◌+◌, ◌<◌, ◌==◌, Bool, true, false, not, cond, ◌&&◌, ◌||◌, nat_le, nat_lt, List, [], ◌∷◌, length}
use Rattle.std.specs.List.{list_all, list_any}
use Rattle.cluster_tree.specs.PathValue.{PathValue}
use Rattle.cluster_tree.specs.PathOrder.{path_eq}
use Rattle.rewind_writes.specs.declared.plan.FileBytes.{FileBytes}
use Rattle.rewind_writes.specs.declared.step.Step.{Step}
use Rattle.rewind_writes.specs.declared.step.Step.TheVariants.{Folder, Whole, Cut, Range, Remove}

-- What is done at a path: nothing, a folder is made, a file is copied whole, a file is cut and ranges are copied into it, an entry is
-- removed, the label is put there, the control file is written.
pub data Group : Type 0 where
  Untouched : Group
  Made : Group
  Copied : Group
  Mixed : Group
  Gone : Group
  Labelled : Group
  Controlled : Group

-- the path that a step changes
abbrev pub target_of : Step → PathValue
target_of (Folder path) = path
target_of (Whole from to size) = to
target_of (Cut path size) = path
target_of (Range from to at size) = to
target_of (Remove path) = path

-- what a step does there
abbrev pub group_of : Step → Group
group_of (Folder path) = Made
group_of (Whole from to size) = Copied
group_of (Cut path size) = Mixed
group_of (Range from to at size) = Mixed
group_of (Remove path) = Gone

-- what the steps do at a path
abbrev pub group_at : PathValue → List Step → Group
group_at path [] = Untouched
group_at path (step ∷ steps) = cond (path_eq path (target_of step)) (group_of step) (group_at path steps)

-- and what the label and the control file do there
abbrev pub group_in : List Step → (label control : FileBytes) → PathValue → Group
group_in steps label control path = cond (path_eq path label.path) Labelled (cond (path_eq path control.path) Controlled (group_at path steps))

-- a range of a file
abbrev pub is_range : Step → Bool
is_range (Folder path) = false
is_range (Whole from to size) = false
is_range (Cut path size) = false
is_range (Range from to at size) = true
is_range (Remove path) = false

-- a step that stands behind another one on its path is a range, and the other a cut or a range
abbrev pub IsBehind : Step → Step → Type 0
IsBehind step later = path_eq (target_of step) (target_of later) ≡ true → (group_of step ≡ Mixed) × (is_range later ≡ true)

-- so it is of all of these
abbrev pub AllBehind : Step → List Step → Type 0
AllBehind step [] = Unit {0}
AllBehind step (later ∷ steps) = IsBehind step later × AllBehind step steps

-- on each path one folder is made, one file is copied whole, one file is cut at most once and then ranges, or one entry is removed
abbrev pub AreGrouped : List Step → Type 0
AreGrouped [] = Unit {0}
AreGrouped (step ∷ steps) = AllBehind step steps × AreGrouped steps

-- a range has at least one byte, and what is removed is neither the root nor the current folder
abbrev pub IsProper : Step → Type 0
IsProper (Folder path) = Unit {0}
IsProper (Whole from to size) = Unit {0}
IsProper (Cut path size) = Unit {0}
IsProper (Range from to at size) = 0 < size
IsProper (Remove path) = length path.parts == 0 ≡ false

-- so it is of each step
abbrev pub AllAreProper : List Step → Type 0
AllAreProper [] = Unit {0}
AllAreProper (step ∷ steps) = IsProper step × AllAreProper steps

-- a step doesn't cut off the byte at an offset of a path
abbrev pub is_left : PathValue → ℕ → Step → Bool
is_left path k (Folder p) = true
is_left path k (Whole from to size) = true
is_left path k (Cut p size) = not (path_eq path p) || nat_lt k size
is_left path k (Range from to at size) = true
is_left path k (Remove p) = true

-- no step does
abbrev pub stays : List Step → PathValue → ℕ → Bool
stays steps path k = list_all (is_left path k) steps

-- a step writes it
abbrev pub is_put : PathValue → ℕ → Step → Bool
is_put path k (Folder p) = false
is_put path k (Whole from to size) = false
is_put path k (Cut p size) = false
is_put path k (Range from to at size) = path_eq path to && (nat_le at k && nat_lt k (at + size))
is_put path k (Remove p) = false

-- some step does
abbrev pub is_written : List Step → PathValue → ℕ → Bool
is_written steps path k = list_any (is_put path k) steps

-- an entry is removed
abbrev pub is_gone : Group → Bool
is_gone Untouched = false
is_gone Made = false
is_gone Copied = false
is_gone Mixed = false
is_gone Gone = true
is_gone Labelled = false
is_gone Controlled = false

-- an entry may be made
abbrev pub is_made : Group → Bool
is_made Untouched = false
is_made Made = true
is_made Copied = true
is_made Mixed = false
is_made Gone = false
is_made Labelled = true
is_made Controlled = false

-- the label may come behind it: nothing is done, or an entry is removed
abbrev pub is_free : Group → Bool
is_free Untouched = true
is_free Made = false
is_free Copied = false
is_free Mixed = false
is_free Gone = true
is_free Labelled = false
is_free Controlled = false

-- What a walk has still to look at, by the texts of the paths from the root on. Own: "The order of a walk".
use Rattle.std.specs.Prelude.{◌≡◌, ℕ, ◌≤◌, true, false, nat_lt, List, [], ◌∷◌, length, if◌then◌else◌}
use Rattle.std.specs.BTreeMap.{insert_entry}
use Rattle.std.specs.List.{list_all}
use Rattle.std.specs.Cmp.Lexicographic.{slice_cmp}
use Rattle.std.specs.Ordering.{nat_cmp}
use Rattle.cluster_tree.specs.PathValue.{below, front, is_part, path_text}
use Rattle.file_walk.specs.declared.place.Place.{Place}
use Rattle.file_walk.specs.declared.waiting.Waiting.{Waiting}
use Rattle.file_walk.specs.declared.waiting.Waiting.TheVariants.{At, TooDeep}

-- a path from the root on, and the same with the parts of the root
abbrev pub IsPlace : Place → Type 0
IsPlace place = (place.own.absolute ≡ false) × (length place.own.parts ≤ length place.full.parts)

abbrev pub AreSound : Waiting → Type 0
AreSound (At place) = IsPlace place
AreSound (TooDeep path) = Unit {0}

abbrev pub AreProper : Waiting → Type 0
AreProper (At place) = list_all is_part place.own.parts ≡ true
AreProper (TooDeep path) = Unit {0}

-- it waits at the text of its path, which is of proper parts
abbrev pub IsSoundAt : List ℕ → Waiting → Type 0
IsSoundAt text (At place) = IsPlace place × (list_all is_part place.own.parts ≡ true) × (text ≡ path_text place.own)
IsSoundAt text (TooDeep path) = Unit {0}

abbrev pub AllSound : List (List ℕ × Waiting) → Type 0
AllSound [] = Unit {0}
AllSound (e ∷ entries) = IsSoundAt e.0 e.1 × AllSound entries

-- what has this name in a folder
abbrev pub child_place : Place → List ℕ → Place
child_place folder name = record { own = below folder.own (name ∷ []); full = below folder.full (name ∷ []) }

-- what waits for a name in a folder
abbrev pub waiting_at : Place → List ℕ → Waiting
waiting_at folder name =
    if nat_lt (length folder.full.parts) 64 then At (child_place folder name) else TooDeep (front 64 (below folder.own (name ∷ [])))

abbrev pub text_at : Place → List ℕ → List ℕ
text_at folder name = path_text (below folder.own (name ∷ []))

-- what waits, with the names of a folder
abbrev pub put_name : Place → List (List ℕ × Waiting) → List ℕ → List (List ℕ × Waiting)
put_name folder entries name = insert_entry (slice_cmp nat_cmp) entries (text_at folder name) (waiting_at folder name)

unfoldable pub put_names : Place → List (List ℕ × Waiting) → List (List ℕ) → List (List ℕ × Waiting)
put_names folder entries [] = entries
put_names folder entries (name ∷ names) = put_names folder (put_name folder entries name) names

-- What is done at paths, and the jobs of items by kind.
use Rattle.std.proofs.Common.{◌≡◌, Bool, true, false, ◌&&◌, List, [], ◌∷◌, ◌++◌}
use Rattle.std.specs.List.{list_any}
use Rattle.cluster_tree.specs.PathValue.{PathValue}
use Rattle.cluster_tree.specs.PathOrder.{path_eq}
use Rattle.cluster_tree.specs.Change.{Change, MakesFolder, Removes}
use Rattle.rewind_plan.proofs.Jobs.{Job}

-- what is done at a path
pub data Doing : Type 0 where
  Makes : Doing
  Fills : (changes : List Change) → Doing
  Clears : Doing
  Leaves : Doing

pub record Item : Type 0 where
  pub path : PathValue
  pub doing : Doing

-- ---- the jobs of items, by kind

abbrev pub folder_job : PathValue → Job
folder_job path = record { path = path; changes = MakesFolder path ∷ [] }

abbrev pub removal_job : PathValue → Job
removal_job path = record { path = path; changes = Removes path ∷ [] }

abbrev pub folder_of : PathValue → Doing → List Job
folder_of path Makes = folder_job path ∷ []
folder_of path (Fills changes) = []
folder_of path Clears = []
folder_of path Leaves = []

abbrev pub file_of : PathValue → Doing → List Job
file_of path Makes = []
file_of path (Fills changes) = record { path = path; changes = changes } ∷ []
file_of path Clears = []
file_of path Leaves = []

abbrev pub removal_of : PathValue → Doing → List Job
removal_of path Makes = []
removal_of path (Fills changes) = []
removal_of path Clears = removal_job path ∷ []
removal_of path Leaves = []

abbrev pub folders : List Item → List Job
folders [] = []
folders (x ∷ xs) = folder_of x.path x.doing ++ folders xs

abbrev pub files : List Item → List Job
files [] = []
files (x ∷ xs) = file_of x.path x.doing ++ files xs

-- in descending order
abbrev pub removals : List Item → List Job
removals [] = []
removals (x ∷ xs) = removals xs ++ removal_of x.path x.doing

-- ---- tests of items at a path

abbrev pub is_making : Doing → Bool
is_making Makes = true
is_making (Fills changes) = false
is_making Clears = false
is_making Leaves = false

abbrev pub is_clearing : Doing → Bool
is_clearing Makes = false
is_clearing (Fills changes) = false
is_clearing Clears = true
is_clearing Leaves = false

abbrev pub here : PathValue → Item → Bool
here q x = path_eq q x.path

abbrev pub makes_at : PathValue → List Item → Bool
makes_at q items = list_any (λ x. path_eq q x.path && is_making x.doing) items

abbrev pub clears_at : PathValue → List Item → Bool
clears_at q items = list_any (λ x. path_eq q x.path && is_clearing x.doing) items

-- each path once
abbrev pub Apart : List Item → Type 0
Apart [] = Unit {0}
Apart (x ∷ xs) = (list_any (here x.path) xs ≡ false) × Apart xs

-- The steps of a plan are the changes of items, one for each pair.
use Rattle.std.proofs.Common.{◌≡◌, List, [], ◌∷◌, ◌++◌, refl, sym, ap, ◌∙◌, append_assoc}
use Rattle.std.proofs.lemmas.List.{append-nil}
use Rattle.cluster_tree.specs.PathValue.{PathValue}
use Rattle.cluster_tree.specs.Contents.{Contents}
use Rattle.cluster_tree.specs.Change.{Change}
use Rattle.file_walk.specs.declared.action.Action.{Action}
use Rattle.file_walk.specs.declared.action.Action.TheVariants as action
use Rattle.file_walk.specs.declared.pair.Pair.{Pair}
use Rattle.rewind_writes.specs.Steps.{changes_of, steps_changes}
use Rattle.rewind_writes.specs.declared.step.Step.{Step}
use Rattle.rewind_plan.proofs.Jobs.{changes_in}
use Rattle.rewind_plan.specs.Planned.{Between, action_of, all_file_steps, file_steps, folder_step, folder_steps, in_target, removal_step, removal_steps, steps_of}
use Rattle.rewind_plan.proofs.JobLemmas.{changes-both}
use Rattle.rewind_plan.proofs.Items.{Clears, Doing, Fills, Item, Leaves, Makes, file_of, files, folder_of, folders, removal_of, removals}
use Rattle.rewind_plan.proofs.ItemLemmas.{all_jobs}

-- what a file's changes do, or nothing where there are none
abbrev pub filling : List Change → Doing
filling [] = Leaves
filling (change ∷ changes) = Fills (change ∷ changes)

abbrev pub doing_by : Contents → Between → Pair → Action → Doing
doing_by c w pair action.Nothing = filling (steps_changes c (file_steps w pair action.Nothing))
doing_by c w pair action.MakeFolder = Makes
doing_by c w pair action.Copy = filling (steps_changes c (file_steps w pair action.Copy))
doing_by c w pair action.Tail = filling (steps_changes c (file_steps w pair action.Tail))
doing_by c w pair action.Cut = filling (steps_changes c (file_steps w pair action.Cut))
doing_by c w pair action.Remove = Clears
doing_by c w pair action.KindsDiffer = Leaves

abbrev pub item_of : Contents → Between → Pair → Item
item_of c w pair = record { path = in_target w pair; doing = doing_by c w pair (action_of pair) }

abbrev pub items_of : Contents → Between → List Pair → List Item
items_of c w [] = []
items_of c w (pair ∷ pairs) = item_of c w pair ∷ items_of c w pairs

pub steps-both : (c : Contents) (xs ys : List Step) → steps_changes c (xs ++ ys) ≡ steps_changes c xs ++ steps_changes c ys
steps-both c [] ys = refl
steps-both c (x ∷ xs) ys = ap (λ l. changes_of c x ++ l) (steps-both c xs ys) ∙ sym (append_assoc (changes_of c x) (steps_changes c xs) (steps_changes c ys))

-- ---- kind by kind

filled_changes : (path : PathValue) (xs : List Change) → changes_in (file_of path (filling xs)) ≡ xs
filled_changes path [] = refl
filled_changes path (x ∷ xs) = append-nil (x ∷ xs)

no_folder : (path : PathValue) (xs : List Change) → folder_of path (filling xs) ≡ []
no_folder path [] = refl
no_folder path (x ∷ xs) = refl

no_removal : (path : PathValue) (xs : List Change) → removal_of path (filling xs) ≡ []
no_removal path [] = refl
no_removal path (x ∷ xs) = refl

folder_is : (c : Contents) (w : Between) (pair : Pair) (a : Action) → changes_in (folder_of (in_target w pair) (doing_by c w pair a)) ≡ steps_changes c (folder_step w pair a)
folder_is c w pair action.Nothing = ap changes_in (no_folder (in_target w pair) (steps_changes c (file_steps w pair action.Nothing)))
folder_is c w pair action.MakeFolder = refl
folder_is c w pair action.Copy = ap changes_in (no_folder (in_target w pair) (steps_changes c (file_steps w pair action.Copy)))
folder_is c w pair action.Tail = ap changes_in (no_folder (in_target w pair) (steps_changes c (file_steps w pair action.Tail)))
folder_is c w pair action.Cut = ap changes_in (no_folder (in_target w pair) (steps_changes c (file_steps w pair action.Cut)))
folder_is c w pair action.Remove = refl
folder_is c w pair action.KindsDiffer = refl

file_is : (c : Contents) (w : Between) (pair : Pair) (a : Action) → changes_in (file_of (in_target w pair) (doing_by c w pair a)) ≡ steps_changes c (file_steps w pair a)
file_is c w pair action.Nothing = filled_changes (in_target w pair) (steps_changes c (file_steps w pair action.Nothing))
file_is c w pair action.MakeFolder = refl
file_is c w pair action.Copy = filled_changes (in_target w pair) (steps_changes c (file_steps w pair action.Copy))
file_is c w pair action.Tail = filled_changes (in_target w pair) (steps_changes c (file_steps w pair action.Tail))
file_is c w pair action.Cut = filled_changes (in_target w pair) (steps_changes c (file_steps w pair action.Cut))
file_is c w pair action.Remove = refl
file_is c w pair action.KindsDiffer = refl

removal_is : (c : Contents) (w : Between) (pair : Pair) (a : Action) → changes_in (removal_of (in_target w pair) (doing_by c w pair a)) ≡ steps_changes c (removal_step w pair a)
removal_is c w pair action.Nothing = ap changes_in (no_removal (in_target w pair) (steps_changes c (file_steps w pair action.Nothing)))
removal_is c w pair action.MakeFolder = refl
removal_is c w pair action.Copy = ap changes_in (no_removal (in_target w pair) (steps_changes c (file_steps w pair action.Copy)))
removal_is c w pair action.Tail = ap changes_in (no_removal (in_target w pair) (steps_changes c (file_steps w pair action.Tail)))
removal_is c w pair action.Cut = ap changes_in (no_removal (in_target w pair) (steps_changes c (file_steps w pair action.Cut)))
removal_is c w pair action.Remove = refl
removal_is c w pair action.KindsDiffer = refl

both_are : {X : Type 0} (a b d e : List X) → a ≡ b → d ≡ e → a ++ d ≡ b ++ e
both_are a b d e one other = ap (λ x. x ++ d) one ∙ ap (λ x. b ++ x) other

folders_are : (c : Contents) (w : Between) (pairs : List Pair) → changes_in (folders (items_of c w pairs)) ≡ steps_changes c (folder_steps w pairs)
folders_are c w [] = refl
folders_are c w (pair ∷ pairs) =
    changes-both (folder_of (in_target w pair) (doing_by c w pair (action_of pair))) (folders (items_of c w pairs))
    ∙ both_are _ _ _ _ (folder_is c w pair (action_of pair)) (folders_are c w pairs)
    ∙ sym (steps-both c (folder_step w pair (action_of pair)) (folder_steps w pairs))

files_are : (c : Contents) (w : Between) (pairs : List Pair) → changes_in (files (items_of c w pairs)) ≡ steps_changes c (all_file_steps w pairs)
files_are c w [] = refl
files_are c w (pair ∷ pairs) =
    changes-both (file_of (in_target w pair) (doing_by c w pair (action_of pair))) (files (items_of c w pairs))
    ∙ both_are _ _ _ _ (file_is c w pair (action_of pair)) (files_are c w pairs)
    ∙ sym (steps-both c (file_steps w pair (action_of pair)) (all_file_steps w pairs))

removals_are : (c : Contents) (w : Between) (pairs : List Pair) → changes_in (removals (items_of c w pairs)) ≡ steps_changes c (removal_steps w pairs)
removals_are c w [] = refl
removals_are c w (pair ∷ pairs) =
    changes-both (removals (items_of c w pairs)) (removal_of (in_target w pair) (doing_by c w pair (action_of pair)))
    ∙ both_are _ _ _ _ (removals_are c w pairs) (removal_is c w pair (action_of pair))
    ∙ sym (steps-both c (removal_steps w pairs) (removal_step w pair (action_of pair)))

-- the changes of all steps are those of the items
pub steps-are : (c : Contents) (w : Between) (pairs : List Pair) → changes_in (all_jobs (items_of c w pairs)) ≡ steps_changes c (steps_of w pairs)
steps-are c w pairs =
    let items = items_of c w pairs in
    changes-both (folders items) (files items ++ removals items)
    ∙ both_are _ _ _ _ (folders_are c w pairs)
    (changes-both (files items) (removals items) ∙ both_are _ _ _ _ (files_are c w pairs) (removals_are c w pairs) ∙ sym (steps-both c (all_file_steps w pairs) (removal_steps w pairs)))
    ∙ sym (steps-both c (folder_steps w pairs) (all_file_steps w pairs ++ removal_steps w pairs))

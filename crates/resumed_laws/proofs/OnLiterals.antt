-- The definitions on small examples: groups, steps done again, bytes on their way.
use Rattle.std.proofs.Common.{◌≡◌, ℕ, ◌<◌, ◌&&◌, Bool, true, false, cond, nat_lt, List, [], ◌∷◌, is_some, refl, ap, ◌∙◌, arith}
use Rattle.std.specs.Prelude.{nat_le}
use Rattle.std.specs.FinMap.{insert, remove}
use Rattle.cluster_tree.specs.Change.{Cuts, MakesFile, MakesFolder, Removes, Writes, all_changed}
use Rattle.cluster_tree.specs.Contents.{Contents, FileEntry, FolderEntry, entry_at, is_file, is_folder}
use Rattle.cluster_tree.specs.PathValue.{PathValue, path_of}
use Rattle.cluster_tree.specs.PathOrder.{path_eq}
use Rattle.cluster_tree.proofs.ContentsLemmas.{entry-put, entry-removed}
use Rattle.rewind_writes.specs.declared.plan.FileBytes.{FileBytes}
use Rattle.rewind_writes.specs.declared.step.Step.{Step}
use Rattle.rewind_writes.specs.declared.step.Step.TheVariants.{Folder, Cut, Range, Remove}
use Rattle.resumed_laws.specs.Between.{AreMixed}
use Rattle.resumed_laws.specs.Groups.{Made, Mixed, Untouched, AreGrouped, group_at, is_written, stays}
use Rattle.resumed_laws.specs.Resumed.{resumed_closing, resumed_of}

-- the paths /a, /b and /c
abbrev a : PathValue
a = path_of true ((97 ∷ []) ∷ [])

abbrev b : PathValue
b = path_of true ((98 ∷ []) ∷ [])

abbrev c : PathValue
c = path_of true ((99 ∷ []) ∷ [])

-- a folder is made, and a file cut to ten bytes, of which three from the second on are copied
abbrev steps : List Step
steps = Folder b ∷ Cut a 10 ∷ Range c a 2 3 ∷ []

groups_on_literals : (group_at a steps ≡ Mixed) × (group_at b steps ≡ Made) × (group_at c steps ≡ Untouched)
unfolding path_eq
groups_on_literals = (refl, refl, refl)

written_on_literals : (is_written steps a 1 ≡ false) × (is_written steps a 2 ≡ true) × (is_written steps a 4 ≡ true) × (is_written steps a 5 ≡ false) × (is_written steps b 3 ≡ false)
unfolding path_eq
written_on_literals = (refl, refl, refl, refl, refl)

stays_on_literals : (stays steps a 9 ≡ true) × (stays steps a 10 ≡ false) × (stays steps b 10 ≡ true)
unfolding path_eq
stays_on_literals = (refl, refl, refl)

-- these are in groups, a removal behind a folder and a cut behind a range aren't
grouped_on_literals : AreGrouped (Cut a 10 ∷ Range c a 2 3 ∷ Range c a 8 2 ∷ [])
grouped_on_literals = ((λ e. (refl, refl), (λ e. (refl, refl), tt)), ((λ e. (refl, refl), tt), (tt, tt)))

folder-goes_on_literals : AreGrouped (Folder a ∷ Remove a ∷ []) → ⊥
unfolding path_eq
folder-goes_on_literals grouped = cc (grouped.0.0 refl).0

range-cut_on_literals : AreGrouped (Range c a 2 3 ∷ Cut a 10 ∷ []) → ⊥
unfolding path_eq
range-cut_on_literals grouped = cc (grouped.0.0 refl).1

-- a folder that is there isn't made again, and what is there is removed
folder_on_literals : (d : Contents) → resumed_of (insert d a (FolderEntry false)) (Folder a) ≡ []
folder_on_literals d = ap (λ o. cond (is_folder o) [] (MakesFolder a ∷ [])) (entry-put d a (FolderEntry false))

remove_on_literals : (d : Contents) → resumed_of (insert d a (FileEntry (1 ∷ []))) (Remove a) ≡ Removes a ∷ []
remove_on_literals d = ap (λ o. cond (is_some o) (Removes a ∷ []) []) (entry-put d a (FileEntry (1 ∷ [])))

gone_on_literals : (d : Contents) → resumed_of (remove d a) (Remove a) ≡ []
gone_on_literals d = ap (λ o. cond (is_some o) (Removes a ∷ []) []) (entry-removed d a)

-- a file at the label's path that goes first: the label is made, and not emptied
label_on_literals : (d : Contents) (label control : FileBytes) → label.path ≡ a
    → resumed_closing (all_changed (insert d a (FileEntry (1 ∷ []))) (Removes a ∷ [])) label control ≡ MakesFile label.path ∷ Writes label.path 0 label.bytes.items ∷ Writes control.path 0 control.bytes.items ∷ []
label_on_literals d label control is =
    ap (λ o. cond (is_file o) (Cuts label.path 0) (MakesFile label.path) ∷ Writes label.path 0 label.bytes.items ∷ Writes control.path 0 control.bytes.items ∷ [])
    (ap (entry_at (remove (insert d a (FileEntry (1 ∷ []))) a)) is ∙ entry-removed (insert d a (FileEntry (1 ∷ []))) a)

-- of four bytes, cut to three, with a range on the second: one that is lost, changed outside of the range or new isn't on its way
abbrev first_three : ℕ → Bool
first_three k = nat_lt k 3

abbrev second_byte : ℕ → Bool
second_byte k = nat_le 1 k && nat_lt k 2

lost_on_literals : AreMixed first_three second_byte (1 ∷ 2 ∷ 3 ∷ 4 ∷ []) (1 ∷ 2 ∷ []) → ⊥
lost_on_literals mixed = let none : 2 < 2 = mixed.there 2 (omega arith) refl in omega (arith, none)

changed_on_literals : AreMixed first_three second_byte (1 ∷ 2 ∷ 3 ∷ 4 ∷ []) (5 ∷ 2 ∷ 3 ∷ []) → ⊥
changed_on_literals mixed = cc (mixed.kept 0 (omega arith) refl refl)

new_on_literals : AreMixed first_three second_byte (1 ∷ 2 ∷ 3 ∷ 4 ∷ []) (1 ∷ 2 ∷ 3 ∷ 4 ∷ 5 ∷ []) → ⊥
new_on_literals mixed = let none : 4 < 4 = mixed.none_new 4 (omega arith) refl in omega (arith, none)

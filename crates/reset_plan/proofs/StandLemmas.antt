-- The names of a listing stand in its folder.
use Rattle.std.proofs.Common.{◌≡◌, ℕ, Bool, true, false, ◌&&◌, ◌||◌, if◌then◌else◌, List, [], ◌∷◌, bytes_eq, Option, None, Some, is_some, refl, sym, ap, ◌∙◌, true≢false}
use Rattle.std.proofs.lemmas.Cmp.{nat_list_cmp_total}
use Rattle.std.proofs.lemmas.Map.Text.{is_eq-slice_cmp}
use Rattle.std.specs.Cmp.Lexicographic.{slice_cmp}
use Rattle.std.specs.FinMap.{get}
use Rattle.std.specs.List.{list_all, list_any}
use Rattle.std.specs.Ordering.{is_eq, nat_cmp, ordering_reverse}
use Rattle.std.specs.declared.cmp.Ordering.{Ordering}
use Rattle.std.specs.declared.cmp.Ordering.TheVariants.{Less, Equal, Greater}
use Rattle.cluster_tree.specs.PathValue.{PathValue}
use Rattle.cluster_tree.specs.Contents.{Contents, Entry, entry_at, is_folder, or_root}
use Rattle.cluster_tree.specs.Folders.{names_in}
use Rattle.cluster_tree.proofs.NamesLemmas.{names_listing}
use Rattle.reset_plan.specs.Reset.{in_folder, names_at}

own_order : (o : Ordering) → o ≡ ordering_reverse o → is_eq o ≡ true
own_order Less e = absurd (cc e)
own_order Equal e = refl
own_order Greater e = absurd (cc e)

pub own-bytes : (x : List ℕ) → bytes_eq x x ≡ true
own-bytes x = sym (is_eq-slice_cmp x x) ∙ own_order (slice_cmp nat_cmp x x) (nat_list_cmp_total.antisymm x x)

pub or_true : (b : Bool) → (b || true) ≡ true
or_true true = refl
or_true false = refl

pub rooted : (parts : List (List ℕ)) (o : Option Entry) → is_some o ≡ true → is_some (or_root parts o) ≡ true
rooted parts None e = absurd (true≢false (sym e))
rooted parts (Some entry) e = refl

-- all names that are there, as a test
all_stand : (c : Contents) (folder : PathValue) (xs : List (List ℕ)) → ((x : List ℕ) → list_any (bytes_eq x) xs ≡ true → is_some (entry_at c (in_folder folder x)) ≡ true) → list_all (λ name. is_some (entry_at c (in_folder folder name))) xs ≡ true
all_stand c folder [] there = refl
all_stand c folder (x ∷ xs) there =
    ap (λ b. b && list_all (λ name. is_some (entry_at c (in_folder folder name))) xs) (there x (ap (λ b. b || list_any (bytes_eq x) xs) (own-bytes x)))
    ∙ all_stand c folder xs (λ y among. there y (ap (λ b. bytes_eq y x || b) among ∙ or_true (bytes_eq y x)))

pub listed-stand : (c : Contents) (folder : PathValue) → list_all (λ name. is_some (entry_at c (in_folder folder name))) (names_in c folder) ≡ true
listed-stand c folder = all_stand c folder (names_in c folder) (λ x among. rooted (in_folder folder x).parts (get c (in_folder folder x)) (sym ((names_listing c folder).members x) ∙ among))

pub listed-stand_at : (c : Contents) (folder : PathValue) → list_all (λ name. is_some (entry_at c (in_folder folder name))) (names_at c folder) ≡ true
listed-stand_at c folder =
    elim (is_folder (entry_at c folder)) as (λ (b : Bool). list_all (λ name. is_some (entry_at c (in_folder folder name))) (if b then names_in c folder else []) ≡ true) [
      | true ↦ listed-stand c folder
      | false ↦ refl
    ]

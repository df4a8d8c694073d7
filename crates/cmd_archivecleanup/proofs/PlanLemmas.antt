-- The names of a listing, one by one, and the removals of those that go.
use Rattle.std.proofs.Common.{◌≡◌, ◌≢◌, ◌∙◌, ◌⊎◌, inl, inr, ℕ, suc, ◌+◌, ◌≤◌, ◌&&◌, ◌||◌, Bool, true, false, cond, List, [], ◌∷◌, ◌++◌, length, take, drop, map, filter, bytes_eq, is_some, Option, None, Some, option_map, unwrap_or, slice_get, refl, sym, ap, subst, append-nil, true≢false, arith}
use Rattle.std.proofs.Math.ListN.{drop_of_length-le}
use Rattle.std.proofs.Math.Seq.{drop-cons}
use Rattle.std.proofs.lemmas.Cmp.{nat_list_cmp_total}
use Rattle.std.proofs.lemmas.Grind.{flat_map-append}
use Rattle.std.proofs.lemmas.List.{append_cancel_left, map-append, take_more}
use Rattle.std.proofs.lemmas.List.Kept.{IsStrictlySortedBy-filter}
use Rattle.std.proofs.lemmas.Map.Text.{is_eq-slice_cmp}
use Rattle.std.proofs.lemmas.Option.{slice_get_within, get_or_from_slice_get}
use Rattle.std.specs.Cmp.Lexicographic.{slice_cmp}
use Rattle.std.specs.FinMap.{get, remove}
use Rattle.std.specs.List.{AllByRecursion, flat_map, list_all, list_any}
use Rattle.std.specs.List.Sorted.{IsStrictlySortedBy}
use Rattle.std.specs.Ordering.{is_eq, nat_cmp, ordering_reverse}
use Rattle.std.specs.declared.cmp.Ordering.{Ordering}
use Rattle.std.specs.declared.cmp.Ordering.TheVariants.{Less, Equal, Greater}
use Rattle.archive_names.specs.Cleanup.{goes, kept_of}
use Rattle.cluster_tree.specs.PathValue.{PathValue}
use Rattle.cluster_tree.specs.Contents.{Contents, Entry, FolderEntry, FileEntry, LinkEntry, entry_at, is_file, or_root}
use Rattle.cluster_tree.specs.Folders.{names_in}
use Rattle.cluster_tree.proofs.ContentsLemmas.{entry-removed_other}
use Rattle.cluster_tree.proofs.NamesLemmas.{names_listing}
use Rattle.commands.specs.declared.archivecleanup.ArchivecleanupWords.{ArchivecleanupWords}
use Rattle.run_acts.specs.Causes.{IsFree}
use Rattle.run_acts.specs.declared.cause.Cause.{Cause}
use Rattle.cmd_archivecleanup.specs.Archivecleanup.{AreFiles, entry_refusal, gone, in_folder, or_else, removal, unremoved}
use Rattle.cmd_archivecleanup.specs.declared.plan.Removal.{Removal}
use Rattle.cmd_archivecleanup.proofs.PartLemmas.{both_true}

-- ---- one name more

one_more : (xs : List (List ℕ)) (i : ℕ) (x : List ℕ) → slice_get xs i ≡ Some x → take (i + 1) xs ≡ take i xs ++ x ∷ []
one_more xs i x at = take_more xs i x (slice_get_within xs i x at) ∙ ap (λ y. take i xs ++ y ∷ []) (get_or_from_slice_get xs i x x at)

step : (n : ℕ) → suc n ≡ n + 1
step n = omega arith

one_less : (xs : List (List ℕ)) (i : ℕ) (x : List ℕ) → slice_get xs i ≡ Some x → drop i xs ≡ x ∷ drop (i + 1) xs
one_less xs i x at =
    drop-cons xs i x (slice_get_within xs i x at)
    ∙ ap (λ y. y ∷ drop (suc i) xs) (get_or_from_slice_get xs i x x at)
    ∙ ap (λ n. x ∷ drop n xs) (step i)

pub line_more : (f : List ℕ → List ℕ) (xs : List (List ℕ)) (i : ℕ) (x text more : List ℕ) → slice_get xs i ≡ Some x → text ≡ flat_map f (take i xs) → more ≡ text ++ f x → more ≡ flat_map f (take (i + 1) xs)
line_more f xs i x text more at is grew =
    grew ∙ ap (λ l. l ++ f x) is ∙ ap (λ l. flat_map f (take i xs) ++ l) (sym (append-nil (f x)))
    ∙ sym (flat_map-append f (take i xs) (x ∷ [])) ∙ ap (flat_map f) (sym (one_more xs i x at))

pub item_more : {A : Type 0} (f : List ℕ → A) (xs : List (List ℕ)) (i : ℕ) (x : List ℕ) (some more : List A) → slice_get xs i ≡ Some x → some ≡ map f (take i xs) → more ≡ some ++ f x ∷ [] → more ≡ map f (take (i + 1) xs)
item_more f xs i x some more at is grew =
    grew ∙ ap (λ l. l ++ f x ∷ []) is ∙ sym (map-append f (take i xs) (x ∷ [])) ∙ ap (map f) (sym (one_more xs i x at))

-- what the rest gives, all names do
pub unremoved_more : (c : Contents) (folder : PathValue) (xs : List (List ℕ)) (i : ℕ) (x : List ℕ) → slice_get xs i ≡ Some x → unremoved c folder xs ≡ unremoved c folder (drop i xs)
    → entry_refusal (in_folder folder x) (entry_at c (in_folder folder x)) ≡ None → unremoved c folder xs ≡ unremoved c folder (drop (i + 1) xs)
unremoved_more c folder xs i x at is none =
    is ∙ ap (unremoved c folder) (one_less xs i x at) ∙ ap (λ o. or_else o (unremoved c folder (drop (i + 1) xs))) none

pub unremoved_here : (c : Contents) (folder : PathValue) (xs : List (List ℕ)) (i : ℕ) (x : List ℕ) (e : Cause) → slice_get xs i ≡ Some x → unremoved c folder xs ≡ unremoved c folder (drop i xs)
    → entry_refusal (in_folder folder x) (entry_at c (in_folder folder x)) ≡ Some e → unremoved c folder xs ≡ Some e
unremoved_here c folder xs i x e at is some =
    is ∙ ap (unremoved c folder) (one_less xs i x at) ∙ ap (λ o. or_else o (unremoved c folder (drop (i + 1) xs))) some

-- and so after reads
pub unremoved_on : (c d : Contents) (folder : PathValue) (xs : List (List ℕ)) (i : ℕ) (x : List ℕ) → d ≡ c → slice_get xs i ≡ Some x → unremoved c folder xs ≡ unremoved c folder (drop i xs)
    → entry_refusal (in_folder folder x) (entry_at d (in_folder folder x)) ≡ None → unremoved c folder xs ≡ unremoved c folder (drop (i + 1) xs)
unremoved_on c d folder xs i x same at is none = unremoved_more c folder xs i x at is (ap (λ y. entry_refusal (in_folder folder x) (entry_at y (in_folder folder x))) (sym same) ∙ none)

pub refused_here : (c d : Contents) (folder : PathValue) (xs : List (List ℕ)) (i : ℕ) (x : List ℕ) (e : Cause) → d ≡ c → slice_get xs i ≡ Some x → unremoved c folder xs ≡ unremoved c folder (drop i xs)
    → IsFree e ⊎ (entry_refusal (in_folder folder x) (entry_at d (in_folder folder x)) ≡ Some e) → IsFree e ⊎ (unremoved c folder xs ≡ Some e)
refused_here c d folder xs i x e same at is (inl free) = inl free
refused_here c d folder xs i x e same at is (inr some) = inr (unremoved_here c folder xs i x e at is (ap (λ y. entry_refusal (in_folder folder x) (entry_at y (in_folder folder x))) (sym same) ∙ some))

pub none_left : (c : Contents) (folder : PathValue) (xs : List (List ℕ)) (i : ℕ) → unremoved c folder xs ≡ unremoved c folder (drop i xs) → length xs ≤ i → unremoved c folder xs ≡ None
none_left c folder xs i is all = is ∙ ap (unremoved c folder) (drop_of_length-le xs all)

-- ---- the names that go are there, and in order

not_less_self : (x : List ℕ) → slice_cmp nat_cmp x x ≡ Less → ⊥
not_less_self x h = let e : Less ≡ Greater = sym h ∙ nat_list_cmp_total.antisymm x x ∙ ap ordering_reverse h in cc e

own_order : (o : Ordering) → o ≡ ordering_reverse o → is_eq o ≡ true
own_order Less e = absurd (cc e)
own_order Equal e = refl
own_order Greater e = absurd (cc e)

own_bytes : (x : List ℕ) → bytes_eq x x ≡ true
own_bytes x = sym (is_eq-slice_cmp x x) ∙ own_order (slice_cmp nat_cmp x x) (nat_list_cmp_total.antisymm x x)

or_true : (b : Bool) → (b || true) ≡ true
or_true true = refl
or_true false = refl

rooted : (parts : List (List ℕ)) (o : Option Entry) → is_some o ≡ true → is_some (or_root parts o) ≡ true
rooted parts None e = absurd (true≢false (sym e))
rooted parts (Some entry) e = refl

abbrev stands : Contents → PathValue → List ℕ → Bool
stands c folder name = is_some (entry_at c (in_folder folder name))

all_stand : (c : Contents) (folder : PathValue) (q : List ℕ → Bool) (xs : List (List ℕ)) → ((x : List ℕ) → list_any (bytes_eq x) xs ≡ true → stands c folder x ≡ true) → list_all (stands c folder) (filter q xs) ≡ true
all_stand c folder q [] there = refl
all_stand c folder q (x ∷ xs) there =
    let rest = all_stand c folder q xs (λ y among. there y (ap (λ b. bytes_eq y x || b) among ∙ or_true (bytes_eq y x))) in
    elim (q x) as (λ b. list_all (stands c folder) (cond b (x ∷ filter q xs) (filter q xs)) ≡ true) [
      | true ↦ ap (λ b. b && list_all (stands c folder) (filter q xs)) (there x (ap (λ b. b || list_any (bytes_eq x) xs) (own_bytes x))) ∙ rest
      | false ↦ rest
    ]

listed_stand : (c : Contents) (folder : PathValue) (q : List ℕ → Bool) → list_all (stands c folder) (filter q (names_in c folder)) ≡ true
listed_stand c folder q =
    all_stand c folder q (names_in c folder) (λ x among. rooted (in_folder folder x).parts (get c (in_folder folder x)) (sym ((names_listing c folder).members x) ∙ among))

of_kept : (c : Contents) (folder : PathValue) (extension o : Option (List ℕ)) → list_all (stands c folder) (unwrap_or (option_map (λ first. filter (goes extension first) (names_in c folder)) o) []) ≡ true
of_kept c folder extension None = refl
of_kept c folder extension (Some first) = listed_stand c folder (goes extension first)

pub gone_stand : (c : Contents) (words : ArchivecleanupWords) → list_all (λ name. is_some (entry_at c (in_folder words.folder name))) (gone c words) ≡ true
unfolding gone
gone_stand c words = of_kept c words.folder words.extension (kept_of words.extension words.kept)

sorted_none : IsStrictlySortedBy (slice_cmp nat_cmp) []
unfolding IsStrictlySortedBy
sorted_none = tt

sorted_kept : (c : Contents) (folder : PathValue) (extension o : Option (List ℕ)) → IsStrictlySortedBy (slice_cmp nat_cmp) (unwrap_or (option_map (λ first. filter (goes extension first) (names_in c folder)) o) [])
sorted_kept c folder extension None = sorted_none
sorted_kept c folder extension (Some first) = IsStrictlySortedBy-filter (slice_cmp nat_cmp) (goes extension first) (names_in c folder) (names_listing c folder).ascending

pub gone_sorted : (c : Contents) (words : ArchivecleanupWords) → IsStrictlySortedBy (slice_cmp nat_cmp) (gone c words)
unfolding gone
gone_sorted c words = sorted_kept c words.folder words.extension (kept_of words.extension words.kept)

-- ---- so they are files, each still when those before it are removed

abbrev files : Contents → PathValue → List (List ℕ) → Bool
files c folder names = list_all (λ name. is_file (entry_at c (in_folder folder name))) names

file_here : (path : PathValue) (o : Option Entry) → is_some o ≡ true → entry_refusal path o ≡ None → is_file o ≡ true
file_here path None some none = absurd (true≢false (sym some))
file_here path (Some (FolderEntry bad)) some none = absurd (cc none)
file_here path (Some (FileEntry bytes)) some none = refl
file_here path (Some LinkEntry) some none = absurd (cc none)

both_none : (o rest : Option Cause) → or_else o rest ≡ None → (o ≡ None) × (rest ≡ None)
both_none None rest e = (refl, e)
both_none (Some e) rest h = absurd (cc h)

all_files : (c : Contents) (folder : PathValue) (xs : List (List ℕ)) → list_all (stands c folder) xs ≡ true → unremoved c folder xs ≡ None → files c folder xs ≡ true
all_files c folder [] there none = refl
all_files c folder (x ∷ xs) there none =
    let two = both_true _ _ there in
    let nones = both_none _ _ none in
    ap (λ b. b && files c folder xs) (file_here (in_folder folder x) (entry_at c (in_folder folder x)) two.0 nones.0) ∙ all_files c folder xs two.1 nones.1

one_name : (x y : List ℕ) → x ∷ [] ≡ y ∷ [] → x ≡ y
one_name x y e = cc

apart : (folder : PathValue) (x y : List ℕ) → slice_cmp nat_cmp x y ≡ Less → in_folder folder y ≢ in_folder folder x
apart folder x y less = λ same.
    let e : y ≡ x = one_name y x (append_cancel_left folder.parts (y ∷ []) (x ∷ []) (ap (λ (p : PathValue). p.parts) same)) in
    not_less_self x (ap (slice_cmp nat_cmp x) (sym e) ∙ less)

still_files : (c : Contents) (folder : PathValue) (x : List ℕ) (ys : List (List ℕ)) → AllByRecursion (λ y. slice_cmp nat_cmp x y ≡ Less) ys → files c folder ys ≡ true → files (remove c (in_folder folder x)) folder ys ≡ true
still_files c folder x [] less all = refl
still_files c folder x (y ∷ ys) less all =
    let two = both_true _ _ all in
    let here : is_file (entry_at (remove c (in_folder folder x)) (in_folder folder y)) ≡ true = ap is_file (entry-removed_other c (in_folder folder x) (in_folder folder y) (apart folder x y less.0)) ∙ two.0 in
    ap (λ b. b && files (remove c (in_folder folder x)) folder ys) here ∙ still_files c folder x ys less.1 two.1

sorted_first : (x : List ℕ) (xs : List (List ℕ)) → IsStrictlySortedBy (slice_cmp nat_cmp) (x ∷ xs) → AllByRecursion (λ y. slice_cmp nat_cmp x y ≡ Less) xs × IsStrictlySortedBy (slice_cmp nat_cmp) xs
unfolding IsStrictlySortedBy
sorted_first x xs sorted = sorted

in_turn : (c : Contents) (debug : Bool) (folder : PathValue) (xs : List (List ℕ)) → IsStrictlySortedBy (slice_cmp nat_cmp) xs → files c folder xs ≡ true → AreFiles c (map (removal debug folder) xs)
in_turn c debug folder [] sorted all = tt
in_turn c debug folder (x ∷ xs) sorted all =
    let two = both_true _ _ all in
    let order = sorted_first x xs sorted in
    (two.0, in_turn (remove c (in_folder folder x)) debug folder xs order.1 (still_files c folder x xs order.0 two.1))

pub gone_files : (c : Contents) (words : ArchivecleanupWords) → unremoved c words.folder (gone c words) ≡ None → AreFiles c (map (removal words.debug words.folder) (gone c words))
gone_files c words none = in_turn c words.debug words.folder (gone c words) (gone_sorted c words) (all_files c words.folder (gone c words) (gone_stand c words) none)

-- the same of the names that were found
pub found_stand : (c d : Contents) (words : ArchivecleanupWords) (names : List (List ℕ)) → d ≡ c → names ≡ gone c words → list_all (λ name. is_some (entry_at d (in_folder words.folder name))) names ≡ true
found_stand c d words names same is =
    ap (λ x. list_all (λ name. is_some (entry_at x (in_folder words.folder name))) names) same
    ∙ ap (list_all (λ name. is_some (entry_at c (in_folder words.folder name)))) is ∙ gone_stand c words

pub found_files : (c d : Contents) (words : ArchivecleanupWords) (names : List (List ℕ)) (items : List Removal) → d ≡ c → names ≡ gone c words → unremoved d words.folder names ≡ None → items ≡ map (removal words.debug words.folder) names → AreFiles c items
found_files c d words names items same is none made =
    subst (AreFiles c) (sym (made ∙ ap (map (removal words.debug words.folder)) is))
    (gone_files c words (ap (unremoved c words.folder) (sym is) ∙ ap (λ x. unremoved x words.folder names) (sym same) ∙ none))

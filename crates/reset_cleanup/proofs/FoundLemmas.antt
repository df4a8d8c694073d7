-- What a reset that isn't refused has found.
use Rattle.std.proofs.Common.{◌≡◌, ◌≢◌, ℕ, Bool, true, false, ◌||◌, cond, if◌then◌else◌, List, [], ◌∷◌, ◌++◌, length, map, filter, bytes_eq, Option, None, Some, is_some, Result, Ok, Err, refl, sym, ap, ◌∙◌, arith, true≢false, codes}
use Rattle.std.proofs.lemmas.Cmp.{nat_list_cmp_total}
use Rattle.std.proofs.lemmas.List.{append_cancel_left, length-append}
use Rattle.std.proofs.lemmas.List.Kept.{IsStrictlySortedBy-filter}
use Rattle.std.specs.Cmp.Lexicographic.{slice_cmp}
use Rattle.std.specs.FinMap.{get}
use Rattle.std.specs.List.{AllByRecursion, list_any}
use Rattle.std.specs.List.Sorted.{IsStrictlySortedBy}
use Rattle.std.specs.Ordering.{nat_cmp, ordering_reverse}
use Rattle.std.specs.declared.cmp.Ordering.TheVariants.{Less, Greater}
use Rattle.cluster_tree.specs.PathValue.{PathValue}
use Rattle.cluster_tree.specs.Causes.{first_of, given, unless}
use Rattle.cluster_tree.specs.Contents.{Contents, Entry, FolderEntry, FileEntry, LinkEntry, entry_at, is_file, is_folder}
use Rattle.cluster_tree.specs.Folders.{names_in}
use Rattle.cluster_tree.proofs.NamesLemmas.{names_listing}
use Rattle.reset_plan.specs.Reset.{entry_refusal, in_folder, kind_refusal, names_at, status_folder}
use Rattle.reset_plan.proofs.StandLemmas.{or_true, own-bytes, rooted}
use Rattle.reset_cleanup.proofs.GoneLemmas.{AreApart, AreFiles}

-- ---- an answer that isn't refused

pub unless-ok : {A E : Type 0} (o : Option E) (answer : Result A E) (v : A) → unless o answer ≡ Ok v → (o ≡ None) × (answer ≡ Ok v)
unless-ok None answer v e = (refl, e)
unless-ok (Some f) answer v e = absurd (cc e)

pub record Given {A B E : Type 0} (r : Result A E) (f : A → Result B E) (v : B) : Type 0 where
  pub read : A
  pub is : r ≡ Ok read
  pub next : f read ≡ Ok v

pub given-ok : {A B E : Type 0} (r : Result A E) (f : A → Result B E) (v : B) → given r f ≡ Ok v → Given r f v
given-ok (Ok x) f v e = record { read = x; is = refl; next = e }
given-ok (Err g) f v e = absurd (cc e)

pub first_of-head : {E : Type 0} (o : Option E) (points : List (Option E)) → first_of (o ∷ points) ≡ None → (o ≡ None) × (first_of points ≡ None)
unfolding first_of
first_of-head None points e = (refl, e)
first_of-head (Some f) points e = absurd (cc e)

-- ---- names of a listing are apart, and stand there

not_less_self : (x : List ℕ) → slice_cmp nat_cmp x x ≡ Less → ⊥
not_less_self x h = let e : Less ≡ Greater = sym h ∙ nat_list_cmp_total.antisymm x x ∙ ap ordering_reverse h in cc e

one_name : (x y : List ℕ) → x ∷ [] ≡ y ∷ [] → x ≡ y
one_name x y e = cc

other_path : (folder : PathValue) (x y : List ℕ) → slice_cmp nat_cmp x y ≡ Less → in_folder folder y ≢ in_folder folder x
other_path folder x y less = λ same.
    let e : y ≡ x = one_name y x (append_cancel_left folder.parts (y ∷ []) (x ∷ []) (ap (λ (p : PathValue). p.parts) same)) in
    not_less_self x (ap (slice_cmp nat_cmp x) (sym e) ∙ less)

all_other : (folder : PathValue) (x : List ℕ) (ys : List (List ℕ)) → AllByRecursion (λ y. slice_cmp nat_cmp x y ≡ Less) ys → AllByRecursion (λ p. p ≢ in_folder folder x) (map (in_folder folder) ys)
all_other folder x [] less = tt
all_other folder x (y ∷ ys) less = (other_path folder x y less.0, all_other folder x ys less.1)

sorted_first : (x : List ℕ) (xs : List (List ℕ)) → IsStrictlySortedBy (slice_cmp nat_cmp) (x ∷ xs) → AllByRecursion (λ y. slice_cmp nat_cmp x y ≡ Less) xs × IsStrictlySortedBy (slice_cmp nat_cmp) xs
unfolding IsStrictlySortedBy
sorted_first x xs sorted = sorted

pub names-apart : (folder : PathValue) (xs : List (List ℕ)) → IsStrictlySortedBy (slice_cmp nat_cmp) xs → AreApart (map (in_folder folder) xs)
names-apart folder [] sorted = tt
names-apart folder (x ∷ xs) sorted = let two = sorted_first x xs sorted in (all_other folder x xs two.0, names-apart folder xs two.1)

deeper : (wal : PathValue) (n m : List ℕ) → in_folder (status_folder wal) m ≢ in_folder wal n
deeper wal n m = λ e.
    let long : length ((wal.parts ++ codes "archive_status" ∷ []) ++ m ∷ []) ≡ length (wal.parts ++ n ∷ []) = ap (λ (p : PathValue). length p.parts) e in
    absurd (omega (arith, long, length-append (wal.parts ++ codes "archive_status" ∷ []) (m ∷ []), length-append wal.parts (codes "archive_status" ∷ []), length-append wal.parts (n ∷ [])))

all_deeper : (wal : PathValue) (n : List ℕ) (ms : List (List ℕ)) → AllByRecursion (λ p. p ≢ in_folder wal n) (map (in_folder (status_folder wal)) ms)
all_deeper wal n [] = tt
all_deeper wal n (m ∷ ms) = (deeper wal n m, all_deeper wal n ms)

both : {A : Type 0} (P : A → Type 0) (xs ys : List A) → AllByRecursion P xs → AllByRecursion P ys → AllByRecursion P (xs ++ ys)
both P [] ys a b = b
both P (x ∷ xs) ys a b = (a.0, both P xs ys a.1 b)

pub both-apart : (wal : PathValue) (ns ms : List (List ℕ)) → AreApart (map (in_folder wal) ns) → AreApart (map (in_folder (status_folder wal)) ms) → AreApart (map (in_folder wal) ns ++ map (in_folder (status_folder wal)) ms)
both-apart wal [] ms a b = b
both-apart wal (n ∷ ns) ms a b =
    (both (λ p. p ≢ in_folder wal n) (map (in_folder wal) ns) (map (in_folder (status_folder wal)) ms) a.0 (all_deeper wal n ms), both-apart wal ns ms a.1 b)

sorted_none : IsStrictlySortedBy (slice_cmp nat_cmp) []
unfolding IsStrictlySortedBy
sorted_none = tt

pub sorted-kept : (c : Contents) (folder : PathValue) (q : List ℕ → Bool) → IsStrictlySortedBy (slice_cmp nat_cmp) (filter q (names_in c folder))
sorted-kept c folder q = IsStrictlySortedBy-filter (slice_cmp nat_cmp) q (names_in c folder) (names_listing c folder).ascending

pub sorted-kept_at : (c : Contents) (folder : PathValue) (q : List ℕ → Bool) → IsStrictlySortedBy (slice_cmp nat_cmp) (filter q (names_at c folder))
sorted-kept_at c folder q =
    elim (is_folder (entry_at c folder)) as (λ (b : Bool). IsStrictlySortedBy (slice_cmp nat_cmp) (filter q (if b then names_in c folder else []))) [
      | true ↦ sorted-kept c folder q
      | false ↦ sorted_none
    ]

-- whatever is kept of names that stand there stands there
stand_kept : (c : Contents) (folder : PathValue) (q : List ℕ → Bool) (xs : List (List ℕ)) → ((x : List ℕ) → list_any (bytes_eq x) xs ≡ true → is_some (entry_at c (in_folder folder x)) ≡ true)
    → AllByRecursion (λ p. is_some (entry_at c p) ≡ true) (map (in_folder folder) (filter q xs))
stand_kept c folder q [] there = tt
stand_kept c folder q (x ∷ xs) there =
    let rest = stand_kept c folder q xs (λ y among. there y (ap (λ b. bytes_eq y x || b) among ∙ or_true (bytes_eq y x))) in
    elim (q x) as (λ b. AllByRecursion (λ p. is_some (entry_at c p) ≡ true) (map (in_folder folder) (cond b (x ∷ filter q xs) (filter q xs)))) [
      | true ↦ (there x (ap (λ b. b || list_any (bytes_eq x) xs) (own-bytes x)), rest)
      | false ↦ rest
    ]

pub stand-kept : (c : Contents) (folder : PathValue) (q : List ℕ → Bool) → AllByRecursion (λ p. is_some (entry_at c p) ≡ true) (map (in_folder folder) (filter q (names_in c folder)))
stand-kept c folder q =
    stand_kept c folder q (names_in c folder) (λ x among. rooted (in_folder folder x).parts (get c (in_folder folder x)) (sym ((names_listing c folder).members x) ∙ among))

pub stand-kept_at : (c : Contents) (folder : PathValue) (q : List ℕ → Bool) → AllByRecursion (λ p. is_some (entry_at c p) ≡ true) (map (in_folder folder) (filter q (names_at c folder)))
stand-kept_at c folder q =
    elim (is_folder (entry_at c folder)) as (λ (b : Bool). AllByRecursion (λ p. is_some (entry_at c p) ≡ true) (map (in_folder folder) (filter q (if b then names_in c folder else [])))) [
      | true ↦ stand-kept c folder q
      | false ↦ tt
    ]

-- and where none is of another kind, they are files
file_here : (path : PathValue) (o : Option Entry) → is_some o ≡ true → entry_refusal path o ≡ None → is_file o ≡ true
file_here path None some none = absurd (true≢false (sym some))
file_here path (Some (FolderEntry bad)) some none = absurd (cc none)
file_here path (Some (FileEntry bytes)) some none = refl
file_here path (Some LinkEntry) some none = absurd (cc none)

pub are-files : (c : Contents) (paths : List PathValue) → AllByRecursion (λ p. is_some (entry_at c p) ≡ true) paths → first_of (map (kind_refusal c) paths) ≡ None → AreFiles c paths
are-files c [] there none = tt
are-files c (p ∷ paths) there none =
    let two = first_of-head (kind_refusal c p) (map (kind_refusal c) paths) none in
    (file_here p (entry_at c p) there.0 two.0, are-files c paths there.1 two.1)

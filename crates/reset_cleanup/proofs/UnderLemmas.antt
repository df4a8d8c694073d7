-- Paths below the folder of a log, and beside it.
use Rattle.std.proofs.Common.{◌≡◌, ◌≢◌, ℕ, Bool, true, false, ◌&&◌, List, [], ◌∷◌, ◌++◌, length, get_or, map, refl, sym, ap, ◌∙◌, arith, true≢false, append_assoc, codes}
use Rattle.std.proofs.lemmas.List.{append_cancel_left, length-append}
use Rattle.std.specs.List.{AllByRecursion}
use Rattle.cluster_tree.specs.PathValue.{PathValue, below}
use Rattle.cluster_tree.specs.Contents.{parent}
use Rattle.cluster_tree.proofs.FolderLemmas.{lies_in-below}
use Rattle.cluster_tree.proofs.OrderLemmas.{path_eq-same}
use Rattle.clusters.specs.Roots.{path_in, wal_folder}
use Rattle.reset_plan.specs.Reset.{in_folder, status_folder}

-- a path below a folder, which it isn't itself
pub record IsUnder (folder path : PathValue) : Type 0 where
  pub first : List ℕ
  pub rest : List (List ℕ)
  pub is : path ≡ below folder (first ∷ rest)

abbrev pub control_path : PathValue → PathValue
control_path root = below root (codes "global" ∷ codes "pg_control" ∷ [])

pub control_path-is : (root : PathValue) → path_in root (codes "global/pg_control") ≡ control_path root
unfolding path_in
control_path-is root = refl

parts_of : (x y : PathValue) → x ≡ y → x.parts ≡ y.parts
parts_of x y e = ap (λ (p : PathValue). p.parts) e

pub under-folder : (folder path : PathValue) → IsUnder folder path → path ≢ folder
under-folder folder path u = λ e.
    let same : folder.parts ++ u.first ∷ u.rest ≡ folder.parts = parts_of _ _ (sym u.is ∙ e) in
    let long : length (folder.parts ++ u.first ∷ u.rest) ≡ length folder.parts = ap length same in
    absurd (omega (arith, long, length-append folder.parts (u.first ∷ u.rest)))

-- of a name in the root itself
pub under-beside : (root path : PathValue) (name : List ℕ) → IsUnder (wal_folder root) path → path ≢ below root (name ∷ [])
under-beside root path name u = λ e.
    let wal = codes "pg_wal" in
    let same : (root.parts ++ wal ∷ []) ++ u.first ∷ u.rest ≡ root.parts ++ name ∷ [] = parts_of _ _ (sym u.is ∙ e) in
    let long : length ((root.parts ++ wal ∷ []) ++ u.first ∷ u.rest) ≡ length (root.parts ++ name ∷ []) = ap length same in
    absurd (omega (arith, long, length-append (root.parts ++ wal ∷ []) (u.first ∷ u.rest), length-append root.parts (wal ∷ []), length-append root.parts (name ∷ [])))

first_letters : (a b : List ℕ) (xs ys : List (List ℕ)) → a ∷ xs ≡ b ∷ ys → get_or a 0 0 ≡ get_or b 0 0
first_letters a b xs ys e = let same : a ≡ b = cc e in ap (λ l. get_or l 0 0) same

pub under-control : (root path : PathValue) → IsUnder (wal_folder root) path → path ≢ control_path root
under-control root path u = λ e.
    let same : (root.parts ++ codes "pg_wal" ∷ []) ++ u.first ∷ u.rest ≡ root.parts ++ codes "global" ∷ codes "pg_control" ∷ [] = parts_of _ _ (sym u.is ∙ e) in
    let rest : codes "pg_wal" ∷ u.first ∷ u.rest ≡ codes "global" ∷ codes "pg_control" ∷ [] =
    append_cancel_left root.parts (codes "pg_wal" ∷ u.first ∷ u.rest) (codes "global" ∷ codes "pg_control" ∷ []) (sym (append_assoc root.parts (codes "pg_wal" ∷ []) (u.first ∷ u.rest)) ∙ same) in
    let letters : 112 ≡ 103 = first_letters (codes "pg_wal") (codes "global") (u.first ∷ u.rest) (codes "pg_control" ∷ []) rest in
    absurd (omega (arith, letters))

pub beside-control : (root : PathValue) (name : List ℕ) → below root (name ∷ []) ≢ control_path root
beside-control root name = λ e.
    let same : root.parts ++ name ∷ [] ≡ root.parts ++ codes "global" ∷ codes "pg_control" ∷ [] = parts_of _ _ e in
    let long : length (root.parts ++ name ∷ []) ≡ length (root.parts ++ codes "global" ∷ codes "pg_control" ∷ []) = ap length same in
    absurd (omega (arith, long, length-append root.parts (name ∷ []), length-append root.parts (codes "global" ∷ codes "pg_control" ∷ [])))

fourth_letters : (a b : List ℕ) → a ∷ [] ≡ b ∷ [] → get_or a 3 0 ≡ get_or b 3 0
fourth_letters a b e = let same : a ≡ b = cc e in ap (λ l. get_or l 3 0) same

pub wal-mark : (root : PathValue) → wal_folder root ≢ below root (codes "pg_resetwal.unfinished" ∷ [])
wal-mark root = λ e.
    let same : codes "pg_wal" ∷ [] ≡ codes "pg_resetwal.unfinished" ∷ [] = append_cancel_left root.parts (codes "pg_wal" ∷ []) (codes "pg_resetwal.unfinished" ∷ []) (parts_of _ _ e) in
    let letters : 119 ≡ 114 = fourth_letters (codes "pg_wal") (codes "pg_resetwal.unfinished") same in
    absurd (omega (arith, letters))

second_true : (a b : Bool) → (a && b) ≡ true → b ≡ true
second_true true b e = e
second_true false b e = absurd (true≢false (sym e))

pub parent-below : (folder : PathValue) (name : List ℕ) → parent (below folder (name ∷ [])) ≡ folder
parent-below folder name = sym (path_eq-same folder (parent (below folder (name ∷ []))) (second_true _ _ (lies_in-below folder name)))

-- the paths of names in a folder
pub under-names : (wal : PathValue) (names : List (List ℕ)) → AllByRecursion (IsUnder wal) (map (in_folder wal) names)
under-names wal [] = tt
under-names wal (name ∷ names) = (record { first = name; rest = []; is = refl }, under-names wal names)

pub under-statuses : (wal : PathValue) (names : List (List ℕ)) → AllByRecursion (IsUnder wal) (map (in_folder (status_folder wal)) names)
under-statuses wal [] = tt
under-statuses wal (name ∷ names) = (record { first = codes "archive_status"; rest = name ∷ []; is = ap (λ l. record wal { parts = l }) (append_assoc wal.parts (codes "archive_status" ∷ []) (name ∷ [])) }, under-statuses wal names)

pub all-both : {A : Type 0} (P : A → Type 0) (xs ys : List A) → AllByRecursion P xs → AllByRecursion P ys → AllByRecursion P (xs ++ ys)
all-both P [] ys a b = b
all-both P (x ∷ xs) ys a b = (a.0, all-both P xs ys a.1 b)

pub all-map : {A : Type 0} (P Q : A → Type 0) (f : (x : A) → P x → Q x) (xs : List A) → AllByRecursion P xs → AllByRecursion Q xs
all-map P Q f [] all = tt
all-map P Q f (x ∷ xs) all = (f x all.0, all-map P Q f xs all.1)

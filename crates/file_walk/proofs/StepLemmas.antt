-- What waits for the names of a folder, by the paths from the root on.
use Rattle.std.proofs.Common.{◌≡◌, ℕ, ◌+◌, Bool, cond, nat_lt, List, [], ◌∷◌, ◌++◌, length, map, refl, ap, ap₂, ◌∙◌, append_assoc, arith}
use Rattle.std.proofs.lemmas.Bool.Decides.{nat_tests}
use Rattle.std.proofs.lemmas.List.{length-append}
use Rattle.std.specs.BTreeMap.{insert_entry}
use Rattle.cluster_tree.specs.Contents.{Entry}
use Rattle.cluster_tree.specs.PathValue.{PathValue, below, front, path_of, path_text}
use Rattle.file_walk.specs.declared.place.Place.{Place}
use Rattle.file_walk.specs.declared.waiting.Waiting.{Waiting}
use Rattle.file_walk.specs.declared.waiting.Waiting.TheVariants.{At, TooDeep}
use Rattle.file_walk.specs.Waiting.{put_name, put_names, waiting_at}
use Rattle.file_walk.proofs.QueueLemmas.{text_cmp, put_all}

-- a path from a root on, as a place
abbrev pub place_of : (root own : PathValue) → Place
place_of root own = record { own = own; full = below root own.parts }

-- what waits at it
abbrev pub waiting_of : (root own : PathValue) → Waiting
waiting_of root own = cond (nat_lt (length root.parts + length own.parts) 65) (At (place_of root own)) (TooDeep (front 64 own))

-- what waits, with these paths
abbrev pub put_paths : (root : PathValue) → List (List ℕ × Waiting) → List PathValue → List (List ℕ × Waiting)
put_paths root entries [] = entries
put_paths root entries (own ∷ owns) = put_paths root (insert_entry text_cmp entries (path_text own) (waiting_of root own)) owns

one_deeper : (n m : ℕ) → m ≡ n + 1 → nat_lt n 64 ≡ nat_lt m 65
one_deeper n m e = by (nat_lt n 64) refl
  where
    by : (b : Bool) → nat_lt n 64 ≡ b → b ≡ nat_lt m 65
    by b is = grind (arith, nat_tests)

same_place : (root own : PathValue) (name : List ℕ) → below (below root own.parts) (name ∷ []) ≡ below root (own.parts ++ name ∷ [])
same_place root own name = ap (path_of root.absolute) (append_assoc root.parts own.parts (name ∷ []))

-- a name in the folder at a path is what waits at its own path
pub waits_as : (root own : PathValue) (name : List ℕ) → waiting_at (place_of root own) name ≡ waiting_of root (below own (name ∷ []))
waits_as root own name =
    let size : length (root.parts ++ own.parts) ≡ length root.parts + length own.parts = length-append root.parts own.parts in
    let more : length (own.parts ++ name ∷ []) ≡ length own.parts + 1 = length-append own.parts (name ∷ []) in
    ap₂ (λ b (p : PathValue). cond b (At (record { own = below own (name ∷ []); full = p })) (TooDeep (front 64 (below own (name ∷ [])))))
    (one_deeper (length (root.parts ++ own.parts)) (length root.parts + length (own.parts ++ name ∷ [])) (omega arith)) (same_place root own name)

pub names_put : (root own : PathValue) (names : List (List ℕ)) (entries : List (List ℕ × Waiting)) → put_names (place_of root own) entries names ≡ put_paths root entries (map (λ (n : List ℕ). below own (n ∷ [])) names)
unfolding put_names
names_put root own [] entries = refl
names_put root own (name ∷ names) entries =
    names_put root own names (put_name (place_of root own) entries name)
    ∙ ap (λ (w : Waiting). put_paths root (insert_entry text_cmp entries (path_text (below own (name ∷ []))) w) (map (λ (n : List ℕ). below own (n ∷ [])) names)) (waits_as root own name)

-- the same of what was found there
pub found_put : (root : PathValue) (xs : List (PathValue × Entry)) (entries : List (List ℕ × Waiting))
    → put_all {X = PathValue × Entry} {V = Waiting} (λ x. path_text x.0) (λ x. waiting_of root x.0) entries xs ≡ put_paths root entries (map (λ (x : PathValue × Entry). x.0) xs)
found_put root [] entries = refl
found_put root (x ∷ xs) entries = found_put root xs (insert_entry text_cmp entries (path_text x.0) (waiting_of root x.0))

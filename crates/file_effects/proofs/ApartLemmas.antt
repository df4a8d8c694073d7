-- Which paths replay leaves alone: the control file, and what stands at other entries of a root.
use Rattle.std.proofs.Common.{◌≡◌, ℕ, zero, suc, ◌+◌, ◌-◌, ◌<◌, ◌≤◌, Bool, true, false, not, ◌||◌, ◌&&◌, ◌⊎◌, ⊎_elim, inl, inr, nat_lt, List, [], ◌∷◌, ◌++◌, length, take, get_or, codes, bytes_eq, refl, ap, sym, ◌∙◌, subst, true≢false, append_assoc, arith, rules}
use Rattle.std.proofs.lemmas.List.{get_or-append-add, get_or-take, get_or_past, length-append, length-take}
use Rattle.std.proofs.lemmas.Bool.{and_parts}
use Rattle.std.proofs.Math.Seq.{get_or-append_seam, take-length}
use Rattle.std.specs.Cmp.Lexicographic.{bytes_decides}
use Rattle.cluster_tree.specs.Apart.{is_held}
use Rattle.cluster_tree.specs.Folders.{last_part, lies_in}
use Rattle.cluster_tree.specs.Marks.{marks_of}
use Rattle.cluster_tree.specs.PathOrder.{path_eq}
use Rattle.cluster_tree.specs.PathValue.{PathValue, Holds, below, front}
use Rattle.cluster_tree.proofs.HoldLemmas.{held-holds, holds-held}
use Rattle.cluster_tree.proofs.OrderLemmas.{path_eq-own, path_eq-same, same_path}
use Rattle.cluster_tree.proofs.RootLemmas.{holds-below}
use Rattle.wal_base.specs.Decimal.{decimal_number}
use Rattle.file_edits.specs.Edits.{folders_between, leads, on_way}
use Rattle.relation_files.specs.Reading.{file_named, is_of_number}
use Rattle.storage_replay.specs.Files.{is_file_in}
use Rattle.file_effects.specs.Own.{control_file_of, is_apart, is_at, is_replayed}

pub differ : (a b : List ℕ) → bytes_eq a b ≡ false → a ≡ b → ⊥
differ a b other same = true≢false (sym ((bytes_decides a b).1 same) ∙ other)

-- the part behind the root's

long_alike : (root : List (List ℕ)) (a b : List ℕ) → length (root ++ a ∷ []) ≡ length (root ++ b ∷ [])
long_alike root a b = length-append root (a ∷ []) ∙ sym (length-append root (b ∷ []))

pub one-top : (root path : PathValue) (a b : List ℕ) → is_at root a path ≡ true → is_at root b path ≡ true → a ≡ b
one-top root path a b one other =
    let fronts : root.parts ++ a ∷ [] ≡ root.parts ++ b ∷ [] =
    sym (held-holds (below root (a ∷ [])) path one).prefix ∙ ap (λ n. take n path.parts) (long_alike root.parts a b) ∙ (held-holds (below root (b ∷ [])) path other).prefix in
    sym (get_or-append_seam root.parts a [] []) ∙ ap (λ l. get_or l (length root.parts) []) fronts ∙ get_or-append_seam root.parts b [] []

taken : (n : ℕ) (xs : List (List ℕ)) (x : List ℕ) → take n xs ≡ xs ++ x ∷ [] → ⊥
taken n xs x e = omega (arith, ap length e, length-take n xs, length-append xs (x ∷ []))

not-root : (root : PathValue) (name : List ℕ) → is_at root name root ≡ true → ⊥
not-root root name e = taken (length (root.parts ++ name ∷ [])) root.parts name (held-holds (below root (name ∷ [])) root e).prefix

at-global : (root : PathValue) → is_at root (codes "global") (control_file_of root) ≡ true
at-global root =
    holds-held (below root (codes "global" ∷ [])) (control_file_of root)
    (subst (Holds (below root (codes "global" ∷ []))) (same_path _ _ refl (append_assoc root.parts (codes "global" ∷ []) (codes "pg_control" ∷ []))) (holds-below (below root (codes "global" ∷ [])) (codes "pg_control" ∷ [])))

-- the control file is at global alone
pub apart-control : (root q : PathValue) (name : List ℕ) → bytes_eq name (codes "global") ≡ false → is_at root name q ≡ true → path_eq q (control_file_of root) ≡ true → ⊥
apart-control root q name other at e =
    differ name (codes "global") other
    (one-top root (control_file_of root) name (codes "global") (subst (λ p. is_at root name p ≡ true) (path_eq-same q (control_file_of root) e) at) (at-global root))

-- and there it is neither on the way to other files, nor a relation's

less_of : (i m : ℕ) → nat_lt i m ≡ true → i < m
less_of i m e = grind (arith, rules, e)

not_less : (i m : ℕ) → nat_lt i m ≡ false → m ≤ i
not_less i m e = grind (arith, rules, e)

past : (m i : ℕ) (xs : List (List ℕ)) → nat_lt i m ≡ false → length (take m xs) ≤ i
past m i xs e = omega (arith, not_less i m e, length-take m xs)

front_part : (m i : ℕ) (xs : List (List ℕ)) → (get_or (take m xs) i [] ≡ get_or xs i []) ⊎ (get_or (take m xs) i [] ≡ [])
front_part m i xs =
    elim (nat_lt i m) as (λ b. nat_lt i m ≡ b → (get_or (take m xs) i [] ≡ get_or xs i []) ⊎ (get_or (take m xs) i [] ≡ [])) [
      | true ↦ λ less. inl (get_or-take m xs i [] (less_of i m less))
      | false ↦ λ more. inr (get_or_past (take m xs) i [] (past m i xs more))
    ]
    refl

way_part : (k n i : ℕ) (path q : PathValue) → leads k n path q ≡ true → (get_or q.parts i [] ≡ get_or path.parts i []) ⊎ (get_or q.parts i [] ≡ [])
unfolding leads
way_part zero n i path q e = inl (ap (λ (p : PathValue). get_or p.parts i []) (path_eq-same q path e))
way_part (suc k) n i path q e =
    elim (path_eq q (front n path)) as (λ b. path_eq q (front n path) ≡ b → (b || leads k (n + 1) path q) ≡ true → (get_or q.parts i [] ≡ get_or path.parts i []) ⊎ (get_or q.parts i [] ≡ [])) [
      | true ↦ λ is _. subst (λ (p : PathValue). (get_or p.parts i [] ≡ get_or path.parts i []) ⊎ (get_or p.parts i [] ≡ [])) (sym (path_eq-same q (front n path) is)) (front_part n i path.parts)
      | false ↦ λ _ more. way_part k (n + 1) i path q more
    ]
    refl e

control_part : (root : PathValue) → get_or (control_file_of root).parts (length root.parts + 1) [] ≡ codes "pg_control"
control_part root = get_or-append-add root.parts (codes "global" ∷ codes "pg_control" ∷ []) 1 []

-- where the part behind global is another one, or none
pub way-control : (root path q : PathValue) (part : List ℕ) → get_or path.parts (length root.parts + 1) [] ≡ part → bytes_eq (codes "pg_control") part ≡ false
    → on_way root path q ≡ true → path_eq q (control_file_of root) ≡ true → ⊥
way-control root path q part is other on e =
    let part_of : get_or q.parts (length root.parts + 1) [] ≡ codes "pg_control" = ap (λ (p : PathValue). get_or p.parts (length root.parts + 1) []) (path_eq-same q (control_file_of root) e) ∙ control_part root in
    ⊎_elim
    (λ same. differ (codes "pg_control") part other (sym part_of ∙ same ∙ is))
    (λ none. differ (codes "pg_control") [] refl (sym part_of ∙ none))
    (way_part (folders_between root path) (length root.parts + 1) (length root.parts + 1) path q on)

no_relation : (relation : ℕ) → is_of_number relation (codes "pg_control") ≡ false
unfolding file_named decimal_number
no_relation relation = refl

last-control : (root : PathValue) → last_part (control_file_of root) ≡ codes "pg_control"
last-control root =
    let at : length (control_file_of root).parts - 1 ≡ length root.parts + 1 = omega (arith, length-append root.parts (codes "global" ∷ codes "pg_control" ∷ [])) in
    ap (λ n. get_or (control_file_of root).parts n []) at ∙ control_part root

pub file-control : (root folder q : PathValue) (relation : ℕ) → is_file_in folder relation q ≡ true → path_eq q (control_file_of root) ≡ true → ⊥
file-control root folder q relation at e =
    let named : is_of_number relation (last_part q) ≡ true = (and_parts (lies_in folder q) (is_of_number relation (last_part q)) at).1 in
    true≢false (sym named ∙ ap (λ p. is_of_number relation (last_part p)) (path_eq-same q (control_file_of root) e) ∙ ap (is_of_number relation) (last-control root) ∙ no_relation relation)

-- what isn't replayed

pub control-not-replayed : (root : PathValue) → is_replayed root (control_file_of root) ≡ false
control-not-replayed root =
    ap (λ b. not b && (is_at root (codes "base") (control_file_of root) || is_at root (codes "global") (control_file_of root) || is_at root (codes "pg_xact") (control_file_of root) || is_at root (codes "pg_multixact") (control_file_of root)))
    (path_eq-own (control_file_of root))

never : (a b c d x : Bool) → (a ≡ true → ⊥) → (b ≡ true → ⊥) → (c ≡ true → ⊥) → (d ≡ true → ⊥) → (x && (a || b || c || d)) ≡ false
never true b c d x p q r s = absurd (p refl)
never false true c d x p q r s = absurd (q refl)
never false false true d x p q r s = absurd (r refl)
never false false false true x p q r s = absurd (s refl)
never false false false false true p q r s = refl
never false false false false false p q r s = refl

pub root-not-replayed : (root : PathValue) → is_replayed root root ≡ false
root-not-replayed root =
    never (is_at root (codes "base") root) (is_at root (codes "global") root) (is_at root (codes "pg_xact") root) (is_at root (codes "pg_multixact") root) (not (path_eq root (control_file_of root)))
    (not-root root (codes "base")) (not-root root (codes "global")) (not-root root (codes "pg_xact")) (not-root root (codes "pg_multixact"))

all_no : (a b c d : Bool) → not (a || b || c || d) ≡ true → (a ≡ false) × (b ≡ false) × (c ≡ false) × (d ≡ false)
all_no true b c d e = absurd (true≢false (sym e))
all_no false true c d e = absurd (true≢false (sym e))
all_no false false true d e = absurd (true≢false (sym e))
all_no false false false true e = absurd (true≢false (sym e))
all_no false false false false e = (refl, refl, refl, refl)

pub others-not-replayed : (root : PathValue) (name : List ℕ) (path : PathValue) → is_apart name ≡ true → is_at root name path ≡ true → is_replayed root path ≡ false
others-not-replayed root name path apart at =
    let other = all_no (bytes_eq name (codes "base")) (bytes_eq name (codes "global")) (bytes_eq name (codes "pg_xact")) (bytes_eq name (codes "pg_multixact")) apart in
    never (is_at root (codes "base") path) (is_at root (codes "global") path) (is_at root (codes "pg_xact") path) (is_at root (codes "pg_multixact") path) (not (path_eq path (control_file_of root)))
    (λ at_it. differ name (codes "base") other.0 (one-top root path name (codes "base") at at_it))
    (λ at_it. differ name (codes "global") other.1 (one-top root path name (codes "global") at at_it))
    (λ at_it. differ name (codes "pg_xact") other.2 (one-top root path name (codes "pg_xact") at at_it))
    (λ at_it. differ name (codes "pg_multixact") other.3 (one-top root path name (codes "pg_multixact") at at_it))

-- an entry of the root is at itself
own_at : (root : PathValue) (name : List ℕ) → is_at root name (below root (name ∷ [])) ≡ true
own_at root name = holds-held (below root (name ∷ [])) (below root (name ∷ [])) (record { mark = refl; prefix = take-length (root.parts ++ name ∷ []) })

pub entry-not-replayed : (root : PathValue) (name : List ℕ) → is_apart name ≡ true → is_replayed root (below root (name ∷ [])) ≡ false
entry-not-replayed root name apart = others-not-replayed root name (below root (name ∷ [])) apart (own_at root name)

-- the log, the mark of a replay, and the label
pub log-not-replayed : (root path : PathValue) → is_held (below root (codes "pg_wal" ∷ [])) path ≡ true → is_replayed root path ≡ false
log-not-replayed root path = others-not-replayed root (codes "pg_wal") path refl

pub mark-not-replayed : (root : PathValue) → is_replayed root (marks_of root).replay ≡ false
mark-not-replayed root = entry-not-replayed root (codes "pg_walreplay.unfinished") refl

pub label-not-replayed : (root : PathValue) → is_replayed root (below root (codes "backup_label" ∷ [])) ≡ false
label-not-replayed root = entry-not-replayed root (codes "backup_label") refl

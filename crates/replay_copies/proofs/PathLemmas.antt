-- Paths of the mark and of copies.
use Rattle.std.proofs.Common.{◌≡◌, ◌≢◌, ◌⊎◌, ℕ, ◌+◌, ◌<◌, ◌^◌, ◌||◌, Bool, true, false, List, [], ◌∷◌, ◌++◌, length, codes, decimal, Option, Some, refl, ap, sym, ◌∙◌, subst, inl, inr, ⊎_elim, append_assoc, lit≤, arith}
use Rattle.std.proofs.lemmas.List.{append-nil, append_cancel_left, length-append, length-take}
use Rattle.cluster_tree.specs.Apart.{is_held}
use Rattle.cluster_tree.specs.PathOrder.{path_eq}
use Rattle.cluster_tree.specs.PathValue.{Holds, PathValue, below, front}
use Rattle.cluster_tree.proofs.HoldLemmas.{held-holds, holds-held}
use Rattle.cluster_tree.proofs.OrderLemmas.{path_eq-same, same_path}
use Rattle.cluster_tree.proofs.RootLemmas.{holds-below}
use Rattle.file_edits.specs.Edits.{folders_between, leads, on_way}
use Rattle.file_edits.proofs.WayLemmas.{front-held}
use Rattle.stored_replay.specs.Shadows.{shadow_at, shadow_folder}
use Rattle.wal_base.proofs.DecimalLemmas.{decimal_written}

abbrev shadow_name : List ℕ
shadow_name = codes "pg_walreplay.shadow"

-- a copy lies in the folder of copies
pub copy-below : (root : PathValue) (n : ℕ) → shadow_at root n ≡ below (shadow_folder root) (decimal n ∷ [])
copy-below root n = same_path _ _ refl (sym (append_assoc root.parts (shadow_name ∷ []) (decimal n ∷ [])))

pub copy-held : (root : PathValue) (n : ℕ) → Holds (shadow_folder root) (shadow_at root n)
copy-held root n = subst (Holds (shadow_folder root)) (sym (copy-below root n)) (holds-below (shadow_folder root) (decimal n ∷ []))

pub copy-is_held : (root : PathValue) (n : ℕ) → is_held (shadow_folder root) (shadow_at root n) ≡ true
copy-is_held root n = holds-held (shadow_folder root) (shadow_at root n) (copy-held root n)

pub folder-is_held : (root : PathValue) → is_held (shadow_folder root) (shadow_folder root) ≡ true
folder-is_held root = holds-held (shadow_folder root) (shadow_folder root) (subst (Holds (shadow_folder root)) (same_path _ _ refl (append-nil (shadow_folder root).parts)) (holds-below (shadow_folder root) []))

pub folder-size : (root : PathValue) → length (shadow_folder root).parts ≡ length root.parts + 1
folder-size root = length-append root.parts (shadow_name ∷ [])

pub copy-size : (root : PathValue) (n : ℕ) → length (shadow_at root n).parts ≡ length root.parts + 2
copy-size root n = length-append root.parts (shadow_name ∷ decimal n ∷ [])

pub copy-deeper : (root : PathValue) (n : ℕ) → length (shadow_folder root).parts < length (shadow_at root n).parts
copy-deeper root n = omega (arith, folder-size root, copy-size root n)

pub copy-off_folder : (root : PathValue) (n : ℕ) → shadow_at root n ≢ shadow_folder root
copy-off_folder root n same = omega (arith, folder-size root, copy-size root n, ap (λ (p : PathValue). length p.parts) same)

-- copies of two numbers are two
same-name : (xs : List (List ℕ)) (s a b : List ℕ) → xs ++ s ∷ a ∷ [] ≡ xs ++ s ∷ b ∷ [] → a ≡ b
same-name xs s a b same = let rest : s ∷ a ∷ [] ≡ s ∷ b ∷ [] = append_cancel_left xs _ _ same in cc

some-same : (a b : ℕ) (o : Option ℕ) → o ≡ Some a → o ≡ Some b → a ≡ b
some-same a b o one other = cc

pub copies-apart : (root : PathValue) (j k : ℕ) → j < 2 ^ 64 → k < 2 ^ 64 → shadow_at root j ≡ shadow_at root k → j ≡ k
copies-apart root j k small little same =
    let names : decimal j ≡ decimal k = same-name root.parts shadow_name (decimal j) (decimal k) (ap (λ (p : PathValue). p.parts) same) in
    some-same j k _ (decimal_written (2 ^ 64) j (decimal j) (lit≤ tt) small refl) (decimal_written (2 ^ 64) k (decimal j) (lit≤ tt) little names)

-- ---- what is on the way to a copy

leads-none : (n m : ℕ) (path q : PathValue) → n ≡ 0 → leads n m path q ≡ path_eq q path
unfolding leads
leads-none n m path q none = ap (λ k. leads k m path q) none

leads-one : (n m : ℕ) (path q : PathValue) → n ≡ 1 → leads n m path q ≡ (path_eq q (front m path) || path_eq q path)
unfolding leads
leads-one n m path q one = ap (λ k. leads k m path q) one

pub copy-in_folder : (root : PathValue) (n : ℕ) (q : PathValue) → path_eq q (shadow_at root n) ≡ true → is_held (shadow_folder root) q ≡ true
copy-in_folder root n q at = ap (is_held (shadow_folder root)) (path_eq-same q (shadow_at root n) at) ∙ copy-is_held root n

pub way-in_folder : (root : PathValue) (n : ℕ) (q : PathValue) → on_way (shadow_folder root) (shadow_at root n) q ≡ true → is_held (shadow_folder root) q ≡ true
way-in_folder root n q on =
    let none : folders_between (shadow_folder root) (shadow_at root n) ≡ 0 = omega (arith, folder-size root, copy-size root n) in
    copy-in_folder root n q (sym (leads-none _ _ (shadow_at root n) q none) ∙ on)

either : (a b : Bool) → (a || b) ≡ true → (a ≡ true) ⊎ (b ≡ true)
either true b e = inl refl
either false b e = inr e

pub folder-front : (root : PathValue) (n : ℕ) → front (length root.parts + 1) (shadow_at root n) ≡ shadow_folder root
folder-front root n = ap (λ k. front k (shadow_at root n)) (sym (folder-size root)) ∙ front-held (shadow_folder root) (shadow_at root n) (copy-held root n)

pub way-to_folder : (root : PathValue) (n : ℕ) (q : PathValue) → on_way root (shadow_at root n) q ≡ true → is_held (shadow_folder root) q ≡ true
way-to_folder root n q on =
    let one : folders_between root (shadow_at root n) ≡ 1 = omega (arith, copy-size root n) in
    ⊎_elim
    (λ e. ap (is_held (shadow_folder root)) (path_eq-same q _ e ∙ folder-front root n) ∙ folder-is_held root)
    (copy-in_folder root n q)
    (either (path_eq q (front (length root.parts + 1) (shadow_at root n))) (path_eq q (shadow_at root n)) (sym (leads-one _ _ (shadow_at root n) q one) ∙ on))

pub copy-of_root : (root : PathValue) (n : ℕ) → Holds root (shadow_at root n)
copy-of_root root n = holds-below root (shadow_name ∷ decimal n ∷ [])

-- ---- the root isn't in the folder

pub not_true : (b : Bool) → (b ≡ true → ⊥) → b ≡ false
not_true true never = absurd (never refl)
not_true false never = refl

pub root-off : (root : PathValue) → is_held (shadow_folder root) root ≡ false
root-off root = not_true _ (λ e.
    let held = held-holds (shadow_folder root) root e in
    omega (arith, folder-size root, ap length held.prefix, length-take (length (shadow_folder root).parts) root.parts))

-- The files of a folder that go, name by name.
use Rattle.std.proofs.Common.{◌≡◌, ◌⊎◌, inl, inr, ℕ, zero, suc, ◌+◌, ◌≤◌, ◌&&◌, Bool, true, false, cond, List, [], ◌∷◌, ◌++◌, length, take, drop, filter, map, slice_get, Option, None, Some, refl, sym, ap, ◌∙◌, true≢false, append_assoc}
use Rattle.std.proofs.lemmas.List.{take-append-drop, take_more, take_all}
use Rattle.std.proofs.lemmas.Option.{slice_get_within, get_or_from_slice_get}
use Rattle.std.specs.List.{list_all}
use Rattle.cluster_tree.specs.PathValue.{PathValue}
use Rattle.cluster_tree.specs.Causes.{first_of}
use Rattle.cluster_tree.specs.Contents.{Contents}
use Rattle.reset_plan.specs.Removals.{going, going_one, goes, kinds_refusal}
use Rattle.reset_plan.specs.Reset.{in_folder, kind_refusal}
use Rattle.reset_plan.specs.ResetFaults.{IsFree}
use Rattle.reset_plan.specs.declared.fault.ResetFault.{ResetFault}
use Rattle.reset_plan.specs.declared.removals.Area.{Area}

-- ---- one name

pub going_none : (a : Area) (folder : PathValue) (name : List ℕ) → goes a name ≡ false → going_one a folder name ≡ []
going_none a folder name is = ap (λ b. map (in_folder folder) (cond b (name ∷ []) [])) is

pub going_some : (a : Area) (folder : PathValue) (name : List ℕ) → goes a name ≡ true → going_one a folder name ≡ in_folder folder name ∷ []
going_some a folder name is = ap (λ b. map (in_folder folder) (cond b (name ∷ []) [])) is

pub kinds_none : (c : Contents) (paths : List PathValue) → paths ≡ [] → kinds_refusal c paths ≡ None
unfolding first_of
kinds_none c paths is = ap (kinds_refusal c) is

one_point : (o : Option ResetFault) → first_of (o ∷ []) ≡ o
unfolding first_of
one_point None = refl
one_point (Some e) = refl

pub kinds_one : (c : Contents) (paths : List PathValue) (path : PathValue) → paths ≡ path ∷ [] → kinds_refusal c paths ≡ kind_refusal c path
kinds_one c paths path is = ap (kinds_refusal c) is ∙ one_point (kind_refusal c path)

pub ruleset going_steps = (going_none, going_some, kinds_none, kinds_one)

-- ---- names one after another

pub going-both : (a : Area) (folder : PathValue) (xs ys : List (List ℕ)) → going a folder (xs ++ ys) ≡ going a folder xs ++ going a folder ys
going-both a folder [] ys = refl
going-both a folder (x ∷ xs) ys =
    let rest = going-both a folder xs ys in
    elim (goes a x) as (λ b. map (in_folder folder) (cond b (x ∷ filter (goes a) (xs ++ ys)) (filter (goes a) (xs ++ ys))) ≡ map (in_folder folder) (cond b (x ∷ filter (goes a) xs) (filter (goes a) xs)) ++ going a folder ys) [
      | true ↦ ap (λ l. in_folder folder x ∷ l) rest
      | false ↦ rest
    ]

pub kinds-on : (c : Contents) (xs ys : List PathValue) → kinds_refusal c xs ≡ None → kinds_refusal c (xs ++ ys) ≡ kinds_refusal c ys
unfolding first_of
kinds-on c [] ys none = refl
kinds-on c (x ∷ xs) ys none =
    (elim (kind_refusal c x) as (λ (o : Option ResetFault). first_of (o ∷ map (kind_refusal c) xs) ≡ None → first_of (o ∷ map (kind_refusal c) (xs ++ ys)) ≡ kinds_refusal c ys) [
      | None ↦ λ e. kinds-on c xs ys e
      | Some f ↦ λ e. absurd (cc e)
    ]) none

pub kinds-stop : (c : Contents) (xs ys : List PathValue) (f : ResetFault) → kinds_refusal c xs ≡ Some f → kinds_refusal c (xs ++ ys) ≡ Some f
unfolding first_of
kinds-stop c [] ys f some = absurd (cc some)
kinds-stop c (x ∷ xs) ys f some =
    (elim (kind_refusal c x) as (λ (o : Option ResetFault). first_of (o ∷ map (kind_refusal c) xs) ≡ Some f → first_of (o ∷ map (kind_refusal c) (xs ++ ys)) ≡ Some f) [
      | None ↦ λ e. kinds-stop c xs ys f e
      | Some g ↦ λ e. e
    ]) some

one_more : (xs : List (List ℕ)) (i : ℕ) (x : List ℕ) → slice_get xs i ≡ Some x → take (i + 1) xs ≡ take i xs ++ x ∷ []
one_more xs i x at = take_more xs i x (slice_get_within xs i x at) ∙ ap (λ y. take i xs ++ y ∷ []) (get_or_from_slice_get xs i x x at)

pub going-more : (a : Area) (folder : PathValue) (xs : List (List ℕ)) (i : ℕ) (x : List ℕ) → slice_get xs i ≡ Some x → going a folder (take (i + 1) xs) ≡ going a folder (take i xs) ++ going_one a folder x
going-more a folder xs i x at = ap (going a folder) (one_more xs i x at) ∙ going-both a folder (take i xs) (x ∷ [])

-- what is added so far, and with a name more
pub added-more : (a : Area) (folder : PathValue) (xs : List (List ℕ)) (i : ℕ) (x : List ℕ) (first some more : List PathValue) → slice_get xs i ≡ Some x → some ≡ first ++ going a folder (take i xs) → more ≡ some ++ going_one a folder x → more ≡ first ++ going a folder (take (i + 1) xs)
added-more a folder xs i x first some more at is grew =
    grew ∙ ap (λ l. l ++ going_one a folder x) is ∙ append_assoc first (going a folder (take i xs)) (going_one a folder x) ∙ ap (λ l. first ++ l) (sym (going-more a folder xs i x at))

pub none-more : (c d : Contents) (a : Area) (folder : PathValue) (xs : List (List ℕ)) (i : ℕ) (x : List ℕ) → d ≡ c → slice_get xs i ≡ Some x → kinds_refusal c (going a folder (take i xs)) ≡ None → kinds_refusal d (going_one a folder x) ≡ None → kinds_refusal c (going a folder (take (i + 1) xs)) ≡ None
none-more c d a folder xs i x same at none one =
    ap (kinds_refusal c) (going-more a folder xs i x at) ∙ kinds-on c (going a folder (take i xs)) (going_one a folder x) none ∙ ap (λ y. kinds_refusal y (going_one a folder x)) (sym same) ∙ one

pub refused-here : (c d : Contents) (a : Area) (folder : PathValue) (xs : List (List ℕ)) (i : ℕ) (x : List ℕ) (f : ResetFault) → d ≡ c → slice_get xs i ≡ Some x → kinds_refusal c (going a folder (take i xs)) ≡ None → IsFree f ⊎ (kinds_refusal d (going_one a folder x) ≡ Some f) → IsFree f ⊎ (kinds_refusal c (going a folder xs) ≡ Some f)
refused-here c d a folder xs i x f same at none (inl free) = inl free
refused-here c d a folder xs i x f same at none (inr some) = inr (
    ap (λ l. kinds_refusal c (going a folder l)) (sym (take-append-drop (i + 1) xs))
    ∙ ap (kinds_refusal c) (going-both a folder (take (i + 1) xs) (drop (i + 1) xs))
    ∙ kinds-stop c (going a folder (take (i + 1) xs)) (going a folder (drop (i + 1) xs)) f (
    ap (kinds_refusal c) (going-more a folder xs i x at) ∙ kinds-on c (going a folder (take i xs)) (going_one a folder x) none ∙ ap (λ y. kinds_refusal y (going_one a folder x)) (sym same) ∙ some))

pub all-taken : (xs : List (List ℕ)) (i : ℕ) → length xs ≤ i → take i xs ≡ xs
all-taken xs i l = take_all i xs l

both_true : (a b : Bool) → (a && b) ≡ true → (a ≡ true) × (b ≡ true)
both_true true b e = (refl, e)
both_true false b e = absurd (true≢false (sym e))

same_name : (x y : List ℕ) → Some x ≡ Some y → x ≡ y
same_name x y e = cc

pub all-at : (p : List ℕ → Bool) (xs : List (List ℕ)) (i : ℕ) (x : List ℕ) → slice_get xs i ≡ Some x → list_all p xs ≡ true → p x ≡ true
all-at p [] i x at all = absurd (cc at)
all-at p (y ∷ ys) zero x at all = ap p (sym (same_name y x at)) ∙ (both_true _ _ all).0
all-at p (y ∷ ys) (suc i) x at all = all-at p ys i x at (both_true _ _ all).1

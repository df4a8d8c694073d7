-- Calls are joined part by part, and the first of them are a part of them.
use Rattle.std.proofs.Common.{◌≡◌, ◌≤◌, ℕ, ◌+◌, ◌==◌, ◌&&◌, Bool, true, false, cond, List, [], ◌∷◌, ◌++◌, refl, ap, sym, ◌∙◌, subst, inl, inr, true≢false, arith}
use Rattle.std.proofs.lemmas.Bool.{eqb-true}
use Rattle.std.proofs.lemmas.List.{append-nil}
use Rattle.cluster_tree.specs.PathValue.{PathValue}
use Rattle.cluster_tree.specs.PathOrder.{path_eq}
use Rattle.cluster_tree.proofs.OrderLemmas.{path_eq-same}
use Rattle.cluster_tree.specs.Joined.{joined_onto, joined_writes}
use Rattle.cluster_tree.specs.Change.{IsFrontOf, IsPart}
use Rattle.cluster_tree.specs.declared.tree.ChangeCall.{ChangeCall}
use Rattle.cluster_tree.specs.declared.tree.ChangeCall.TheVariants.{Write, Cut, MakeFile, MakeFolder, Remove, Sync}
use Rattle.cluster_tree.proofs.JoinedLemmas.{joined-twice}

both_true : (a b : Bool) → (a && b) ≡ true → (a ≡ true) × (b ≡ true)
both_true true b e = (refl, e)
both_true false b e = absurd (true≢false (sym e))

-- to join a call before calls that are joined already
onto_joined : (call : ChangeCall) (xs ys : List ChangeCall) → joined_writes (joined_onto call xs ++ ys) ≡ joined_onto call (joined_writes (xs ++ ys))
onto_joined (Write path at n) [] ys = refl
onto_joined (Write path at n) (Write next from m ∷ xs) ys =
    let all = joined_writes (xs ++ ys) in
    elim (path_eq path next && (from == at + n)) as (λ b. (path_eq path next && (from == at + n)) ≡ b → joined_writes (cond b (Write path at (n + m) ∷ xs) (Write path at n ∷ Write next from m ∷ xs) ++ ys) ≡ joined_onto (Write path at n) (joined_onto (Write next from m) all)) [
      | true ↦ λ e. let two = both_true _ _ e in sym (
          ap (λ q. joined_onto (Write path at n) (joined_onto (Write q from m) all)) (sym (path_eq-same path next two.0))
          ∙ ap (λ k. joined_onto (Write path at n) (joined_onto (Write path k m) all)) (eqb-true from (at + n) two.1)
          ∙ joined-twice path at n m all)
      | false ↦ λ e. refl
    ] refl
onto_joined (Write path at n) (Cut next size ∷ xs) ys = refl
onto_joined (Write path at n) (MakeFile next ∷ xs) ys = refl
onto_joined (Write path at n) (MakeFolder next ∷ xs) ys = refl
onto_joined (Write path at n) (Remove next ∷ xs) ys = refl
onto_joined (Write path at n) (Sync ∷ xs) ys = refl
onto_joined (Cut path size) xs ys = refl
onto_joined (MakeFile path) xs ys = refl
onto_joined (MakeFolder path) xs ys = refl
onto_joined (Remove path) xs ys = refl
onto_joined Sync xs ys = refl

joined-first : (xs ys : List ChangeCall) → joined_writes (joined_writes xs ++ ys) ≡ joined_writes (xs ++ ys)
joined-first [] ys = refl
joined-first (x ∷ xs) ys = onto_joined x (joined_writes xs) ys ∙ ap (joined_onto x) (joined-first xs ys)

joined-again : (ys : List ChangeCall) → joined_writes (joined_writes ys) ≡ joined_writes ys
joined-again ys = ap joined_writes (sym (append-nil (joined_writes ys))) ∙ joined-first ys [] ∙ ap joined_writes (append-nil ys)

joined-last : (xs ys : List ChangeCall) → joined_writes (xs ++ joined_writes ys) ≡ joined_writes (xs ++ ys)
joined-last [] ys = joined-again ys
joined-last (x ∷ xs) ys = ap (joined_onto x) (joined-last xs ys)

pub joined-by_parts : (xs ys : List ChangeCall) → joined_writes (xs ++ ys) ≡ joined_writes (joined_writes xs ++ joined_writes ys)
joined-by_parts xs ys = sym (joined-first xs (joined_writes ys) ∙ joined-last xs ys)

-- a call is a part of itself with whatever is joined to it
part_alone : (call : ChangeCall) (ys : List ChangeCall) → IsPart (joined_onto call []) (joined_onto call ys)
part_alone (Write path at n) [] = inl refl
part_alone (Write path at n) (Write next from m ∷ ys) =
    elim (path_eq path next && (from == at + n)) as (λ b. IsPart (Write path at n ∷ []) (cond b (Write path at (n + m) ∷ ys) (Write path at n ∷ Write next from m ∷ ys))) [
      | true ↦ inr (refl, refl, omega arith)
      | false ↦ inl refl
    ]
part_alone (Write path at n) (Cut next size ∷ ys) = inl refl
part_alone (Write path at n) (MakeFile next ∷ ys) = inl refl
part_alone (Write path at n) (MakeFolder next ∷ ys) = inl refl
part_alone (Write path at n) (Remove next ∷ ys) = inl refl
part_alone (Write path at n) (Sync ∷ ys) = inl refl
part_alone (Cut path size) ys = inl refl
part_alone (MakeFile path) ys = inl refl
part_alone (MakeFolder path) ys = inl refl
part_alone (Remove path) ys = inl refl
part_alone Sync ys = inl refl

-- another call in the place of the first of both
part_head : (x y : ChangeCall) (xs ys : List ChangeCall) → IsPart (x ∷ xs) (x ∷ ys) → IsPart (y ∷ xs) (y ∷ ys)
part_head x y [] ys p = inl refl
part_head x y (z ∷ xs) ys p = (refl, p.1)

-- a call joined before two lists that begin alike
part_same : (call x : ChangeCall) (xs ys : List ChangeCall) → IsPart (x ∷ xs) (x ∷ ys) → IsPart (joined_onto call (x ∷ xs)) (joined_onto call (x ∷ ys))
part_same (Write path at n) (Write next from m) xs ys p =
    elim (path_eq path next && (from == at + n)) as (λ b. IsPart (cond b (Write path at (n + m) ∷ xs) (Write path at n ∷ Write next from m ∷ xs)) (cond b (Write path at (n + m) ∷ ys) (Write path at n ∷ Write next from m ∷ ys))) [
      | true ↦ part_head (Write next from m) (Write path at (n + m)) xs ys p
      | false ↦ (refl, p)
    ]
part_same (Write path at n) (Cut next size) xs ys p = (refl, p)
part_same (Write path at n) (MakeFile next) xs ys p = (refl, p)
part_same (Write path at n) (MakeFolder next) xs ys p = (refl, p)
part_same (Write path at n) (Remove next) xs ys p = (refl, p)
part_same (Write path at n) Sync xs ys p = (refl, p)
part_same (Cut path size) x xs ys p = (refl, p)
part_same (MakeFile path) x xs ys p = (refl, p)
part_same (MakeFolder path) x xs ys p = (refl, p)
part_same (Remove path) x xs ys p = (refl, p)
part_same Sync x xs ys p = (refl, p)

-- a call joined before a write and before a longer one
part_grown : (call : ChangeCall) (path : PathValue) (at n m : ℕ) (ys : List ChangeCall) → n ≤ m → IsPart (joined_onto call (Write path at n ∷ [])) (joined_onto call (Write path at m ∷ ys))
part_grown (Write path at k) next from n m ys l =
    elim (path_eq path next && (from == at + k)) as (λ b. IsPart (cond b (Write path at (k + n) ∷ []) (Write path at k ∷ Write next from n ∷ [])) (cond b (Write path at (k + m) ∷ ys) (Write path at k ∷ Write next from m ∷ ys))) [
      | true ↦ inr (refl, refl, omega (arith, l))
      | false ↦ (refl, inr (refl, refl, l))
    ]
part_grown (Cut path size) next from n m ys l = (refl, inr (refl, refl, l))
part_grown (MakeFile path) next from n m ys l = (refl, inr (refl, refl, l))
part_grown (MakeFolder path) next from n m ys l = (refl, inr (refl, refl, l))
part_grown (Remove path) next from n m ys l = (refl, inr (refl, refl, l))
part_grown Sync next from n m ys l = (refl, inr (refl, refl, l))

part_front : (call x y : ChangeCall) (ys : List ChangeCall) → IsFrontOf x y → IsPart (joined_onto call (x ∷ [])) (joined_onto call (y ∷ ys))
part_front call (Write path at n) (Write next from m) ys f =
    subst (λ q. IsPart (joined_onto call (Write path at n ∷ [])) (joined_onto call (Write q from m ∷ ys))) f.0
    (subst (λ k. IsPart (joined_onto call (Write path at n ∷ [])) (joined_onto call (Write path k m ∷ ys))) f.1 (part_grown call path at n m ys f.2))
part_front call (Write path at n) (Cut next size) ys f = absurd f
part_front call (Write path at n) (MakeFile next) ys f = absurd f
part_front call (Write path at n) (MakeFolder next) ys f = absurd f
part_front call (Write path at n) (Remove next) ys f = absurd f
part_front call (Write path at n) Sync ys f = absurd f
part_front call (Cut path size) y ys f = absurd f
part_front call (MakeFile path) y ys f = absurd f
part_front call (MakeFolder path) y ys f = absurd f
part_front call (Remove path) y ys f = absurd f
part_front call Sync y ys f = absurd f

part_onto : (call : ChangeCall) (xs ys : List ChangeCall) → IsPart xs ys → IsPart (joined_onto call xs) (joined_onto call ys)
part_onto call [] ys p = part_alone call ys
part_onto call (x ∷ []) [] p = absurd p
part_onto call (x ∷ z ∷ xs) [] p = absurd p
part_onto call (x ∷ []) (y ∷ ys) (inl e) = subst (λ v. IsPart (joined_onto call (x ∷ [])) (joined_onto call (v ∷ ys))) e (part_same call x [] ys (inl refl))
part_onto call (x ∷ []) (y ∷ ys) (inr f) = part_front call x y ys f
part_onto call (x ∷ z ∷ xs) (y ∷ ys) p = subst (λ v. IsPart (joined_onto call (x ∷ z ∷ xs)) (joined_onto call (v ∷ ys))) p.0 (part_same call x (z ∷ xs) ys (refl, p.1))

first-part : (made rest : List ChangeCall) → IsPart (joined_writes made) (joined_writes (made ++ rest))
first-part [] rest = tt
first-part (call ∷ made) rest = part_onto call (joined_writes made) (joined_writes (made ++ rest)) (first-part made rest)

pub first_are-part : (made rest all : List ChangeCall) → joined_writes (made ++ rest) ≡ all → IsPart (joined_writes made) all
first_are-part made rest all e = subst (λ v. IsPart (joined_writes made) v) e (first-part made rest)

-- Calls that a plan may make, however their writes are cut and joined.
use Rattle.std.proofs.Common.{◌≡◌, ℕ, ◌+◌, ◌<◌, ◌≤◌, ◌==◌, ◌&&◌, Bool, true, false, cond, List, [], ◌∷◌, ◌++◌, ⊎_elim, refl, sym, subst, arith, eqb-true}
use Rattle.cluster_tree.specs.Contents.{Contents}
use Rattle.cluster_tree.specs.Joined.{joined_onto, joined_writes}
use Rattle.cluster_tree.specs.PathValue.{PathValue}
use Rattle.cluster_tree.specs.PathOrder.{path_eq}
use Rattle.cluster_tree.specs.Stops.{IsImage}
use Rattle.cluster_tree.specs.declared.tree.ChangeCall.{ChangeCall}
use Rattle.cluster_tree.specs.declared.tree.ChangeCall.TheVariants.{Write, Cut, MakeFile, MakeFolder, Remove, Sync}
use Rattle.cluster_tree.proofs.Images.{Each, KeptBy}
use Rattle.cluster_tree.proofs.OrderLemmas.{path_eq-same}
use Rattle.rewind_writes.specs.declared.plan.FileBytes.{FileBytes}
use Rattle.rewind_writes.specs.declared.step.Step.{Step}
use Rattle.resumed_laws.specs.Groups.{Group, Untouched, Made, Copied, Mixed, Gone, Labelled, Controlled, group_in}
use Rattle.resumed_laws.proofs.ByteLemmas.{below-or_past}
use Rattle.resumed_laws.proofs.May.{May, MayWrite}

-- ---- lists

pub each-both : {A : Type 0} (P : A → Type 0) (xs ys : List A) → Each P xs → Each P ys → Each P (xs ++ ys)
each-both P [] ys one other = other
each-both P (x ∷ xs) ys one other = (one.0, each-both P xs ys one.1 other)

pub each-front : {A : Type 0} (P : A → Type 0) (xs ys : List A) → Each P (xs ++ ys) → Each P xs
each-front P [] ys all = tt
each-front P (x ∷ xs) ys all = (all.0, each-front P xs ys all.1)

pub both-true : (a b : Bool) → (a && b) ≡ true → (a ≡ true) × (b ≡ true)
both-true true b e = (refl, e)
both-true false b e = absurd (cc e)

-- ---- images

-- calls that keep what has Q leave it
pub image-keeps : (Q : Contents → Type 0) (c i : Contents) (calls : List ChangeCall) → Q c → Each (KeptBy Q) calls → IsImage c calls i → Q i
image-keeps Q c i [] q all image = subst Q (sym image) q
image-keeps Q c i (call ∷ calls) q all image = image-keeps Q image.0 i calls (all.0 c image.0 q image.1) all.1 image.2

pub each-kept : (P : ChangeCall → Type 0) (Q : Contents → Type 0) (calls : List ChangeCall) → ((call : ChangeCall) → P call → KeptBy Q call) → Each P calls → Each (KeptBy Q) calls
each-kept P Q [] keeps all = tt
each-kept P Q (call ∷ calls) keeps all = (keeps call all.0, each-kept P Q calls keeps all.1)

module _ (steps : List Step) (label control : FileBytes) where
  -- ---- a write as two

  split : (P : ℕ → Type 0) (at n m : ℕ) → ((k : ℕ) → at ≤ k → k < at + n → P k) → ((k : ℕ) → at + n ≤ k → k < at + n + m → P k) → (k : ℕ) → at ≤ k → k < at + (n + m) → P k
  split P at n m one other k le lt = ⊎_elim (λ (past : at + n ≤ k). other k past (omega (arith, lt))) (λ (near : k < at + n). one k le near) (below-or_past k (at + n))

  writes-join : (path : PathValue) (at n m : ℕ) (g : Group) → MayWrite steps control path at n g → MayWrite steps control path (at + n) m g → MayWrite steps control path at (n + m) g
  writes-join path at n m Untouched one other = one
  writes-join path at n m Made one other = one
  writes-join path at n m Copied one other = tt
  writes-join path at n m Mixed one other = split _ at n m one other
  writes-join path at n m Gone one other = one
  writes-join path at n m Labelled one other = tt
  writes-join path at n m Controlled one other = split _ at n m one other

  writes-part : (path : PathValue) (at n m : ℕ) (g : Group) → MayWrite steps control path at (n + m) g → MayWrite steps control path at n g × MayWrite steps control path (at + n) m g
  writes-part path at n m Untouched all = absurd all
  writes-part path at n m Made all = absurd all
  writes-part path at n m Copied all = (tt, tt)
  writes-part path at n m Mixed all = (λ k le lt. all k le (omega (arith, lt)), λ k le lt. all k (omega (arith, le)) (omega (arith, lt)))
  writes-part path at n m Gone all = absurd all
  writes-part path at n m Labelled all = (tt, tt)
  writes-part path at n m Controlled all = (λ k le lt. all k le (omega (arith, lt)), λ k le lt. all k (omega (arith, le)) (omega (arith, lt)))

  -- ---- calls, joined

  touching : (path next : PathValue) (at n from : ℕ) → (path_eq path next && (from == at + n)) ≡ true → (next ≡ path) × (from ≡ at + n)
  touching path next at n from e = let two = both-true (path_eq path next) (from == at + n) e in (sym (path_eq-same path next two.0), eqb-true from (at + n) two.1)

  join-writes : (path next : PathValue) (at n from m : ℕ) (calls : List ChangeCall) (b : Bool) → (path_eq path next && (from == at + n)) ≡ b → Each (May steps label control) (Write path at n ∷ Write next from m ∷ calls)
      → Each (May steps label control) (cond b (Write path at (n + m) ∷ calls) (Write path at n ∷ Write next from m ∷ calls))
  join-writes path next at n from m calls false e all = all
  join-writes path next at n from m calls true e all =
      let two = touching path next at n from e in
      let other : MayWrite steps control path (at + n) m (group_in steps label control path)
      = subst (λ p. MayWrite steps control p (at + n) m (group_in steps label control p)) two.0 (subst (λ j. MayWrite steps control next j m (group_in steps label control next)) two.1 all.1.0) in
      (writes-join path at n m (group_in steps label control path) all.0 other, all.1.1)

  onto-may : (call : ChangeCall) (calls : List ChangeCall) → Each (May steps label control) (call ∷ calls) → Each (May steps label control) (joined_onto call calls)
  onto-may (Write path at n) [] all = all
  onto-may (Write path at n) (Write next from m ∷ calls) all = join-writes path next at n from m calls (path_eq path next && (from == at + n)) refl all
  onto-may (Write path at n) (Cut next size ∷ calls) all = all
  onto-may (Write path at n) (MakeFile next ∷ calls) all = all
  onto-may (Write path at n) (MakeFolder next ∷ calls) all = all
  onto-may (Write path at n) (Remove next ∷ calls) all = all
  onto-may (Write path at n) (Sync ∷ calls) all = all
  onto-may (Cut path size) calls all = all
  onto-may (MakeFile path) calls all = all
  onto-may (MakeFolder path) calls all = all
  onto-may (Remove path) calls all = all
  onto-may Sync calls all = all

  joined-may : (calls : List ChangeCall) → Each (May steps label control) calls → Each (May steps label control) (joined_writes calls)
  joined-may [] all = tt
  joined-may (call ∷ calls) all = onto-may call (joined_writes calls) (all.0, joined-may calls all.1)

  part-writes : (path next : PathValue) (at n from m : ℕ) (calls : List ChangeCall) (b : Bool) → (path_eq path next && (from == at + n)) ≡ b
      → Each (May steps label control) (cond b (Write path at (n + m) ∷ calls) (Write path at n ∷ Write next from m ∷ calls)) → Each (May steps label control) (Write path at n ∷ Write next from m ∷ calls)
  part-writes path next at n from m calls false e all = all
  part-writes path next at n from m calls true e all =
      let two = touching path next at n from e in
      let both = writes-part path at n m (group_in steps label control path) all.0 in
      let other : MayWrite steps control next from m (group_in steps label control next)
      = subst (λ j. MayWrite steps control next j m (group_in steps label control next)) (sym two.1) (subst (λ p. MayWrite steps control p (at + n) m (group_in steps label control p)) (sym two.0) both.1) in
      (both.0, (other, all.1))

  may-onto : (call : ChangeCall) (calls : List ChangeCall) → Each (May steps label control) (joined_onto call calls) → Each (May steps label control) (call ∷ calls)
  may-onto (Write path at n) [] all = all
  may-onto (Write path at n) (Write next from m ∷ calls) all = part-writes path next at n from m calls (path_eq path next && (from == at + n)) refl all
  may-onto (Write path at n) (Cut next size ∷ calls) all = all
  may-onto (Write path at n) (MakeFile next ∷ calls) all = all
  may-onto (Write path at n) (MakeFolder next ∷ calls) all = all
  may-onto (Write path at n) (Remove next ∷ calls) all = all
  may-onto (Write path at n) (Sync ∷ calls) all = all
  may-onto (Cut path size) calls all = all
  may-onto (MakeFile path) calls all = all
  may-onto (MakeFolder path) calls all = all
  may-onto (Remove path) calls all = all
  may-onto Sync calls all = all

  may-joined : (calls : List ChangeCall) → Each (May steps label control) (joined_writes calls) → Each (May steps label control) calls
  may-joined [] all = tt
  may-joined (call ∷ calls) all = let two = may-onto call (joined_writes calls) all in (two.0, may-joined calls two.1)

  -- so the first of calls that join to such ones are such
  pub made-may : (made rest all : List ChangeCall) → joined_writes (made ++ rest) ≡ joined_writes all → Each (May steps label control) all → Each (May steps label control) made
  made-may made rest all joins may = each-front (May steps label control) made rest (may-joined (made ++ rest) (subst (Each (May steps label control)) (sym joins) (joined-may all may)))

-- How calls are joined.
use Rattle.std.proofs.Common.{◌≡◌, ℕ, ◌+◌, ◌==◌, ◌&&◌, Bool, true, false, cond, List, [], ◌∷◌, ◌++◌, refl, ap, sym, ◌∙◌, add_assoc, eq-eqb}
use Rattle.cluster_tree.specs.PathValue.{PathValue}
use Rattle.cluster_tree.specs.PathOrder.{path_eq}
use Rattle.cluster_tree.proofs.OrderLemmas.{path_eq-own}
use Rattle.cluster_tree.specs.Joined.{joined_onto, joined_writes}
use Rattle.cluster_tree.specs.declared.tree.ChangeCall.{ChangeCall}
use Rattle.cluster_tree.specs.declared.tree.ChangeCall.TheVariants.{Write, Cut, MakeFile, MakeFolder, Remove, Sync}

same_number : (k : ℕ) → (k == k) ≡ true
same_number k = eq-eqb k k refl

joined-own : (path : PathValue) (at n m : ℕ) (calls : List ChangeCall) → joined_onto (Write path at n) (Write path (at + n) m ∷ calls) ≡ Write path at (n + m) ∷ calls
joined-own path at n m calls = ap (λ b. cond b (Write path at (n + m) ∷ calls) (Write path at n ∷ Write path (at + n) m ∷ calls)) (ap (λ b. b && (at + n == at + n)) (path_eq-own path) ∙ same_number (at + n))

by_test : (b : Bool) (path next : PathValue) (at n m from k : ℕ) (calls : List ChangeCall)
    → joined_onto (Write path at n) (cond b (Write path (at + n) (m + k) ∷ calls) (Write path (at + n) m ∷ Write next from k ∷ calls)) ≡ cond b (Write path at ((n + m) + k) ∷ calls) (Write path at (n + m) ∷ Write next from k ∷ calls)
by_test true path next at n m from k calls = joined-own path at n (m + k) calls ∙ ap (λ l. Write path at l ∷ calls) (sym (add_assoc n m k))
by_test false path next at n m from k calls = joined-own path at n m _

-- two writes, one after the other, before calls that are joined
pub joined-twice : (path : PathValue) (at n m : ℕ) (calls : List ChangeCall) → joined_onto (Write path at n) (joined_onto (Write path (at + n) m) calls) ≡ joined_onto (Write path at (n + m)) calls
joined-twice path at n m [] = joined-own path at n m []
joined-twice path at n m (Write next from k ∷ calls) =
    by_test (path_eq path next && (from == (at + n) + m)) path next at n m from k calls
    ∙ ap (λ l. cond (path_eq path next && (from == l)) (Write path at ((n + m) + k) ∷ calls) (Write path at (n + m) ∷ Write next from k ∷ calls)) (add_assoc at n m)
joined-twice path at n m (Cut next size ∷ calls) = joined-own path at n m _
joined-twice path at n m (MakeFile next ∷ calls) = joined-own path at n m _
joined-twice path at n m (MakeFolder next ∷ calls) = joined-own path at n m _
joined-twice path at n m (Remove next ∷ calls) = joined-own path at n m _
joined-twice path at n m (Sync ∷ calls) = joined-own path at n m _

-- a write that is cut in two
pub joined_writes-cut : (calls more : List ChangeCall) (path : PathValue) (at n m : ℕ) → joined_writes (calls ++ Write path at n ∷ Write path (at + n) m ∷ more) ≡ joined_writes (calls ++ Write path at (n + m) ∷ more)
joined_writes-cut [] more path at n m = joined-twice path at n m (joined_writes more)
joined_writes-cut (call ∷ calls) more path at n m = ap (joined_onto call) (joined_writes-cut calls more path at n m)

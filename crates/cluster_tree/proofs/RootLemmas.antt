-- What lies below a root.
use Rattle.std.proofs.Common.{◌≡◌, ℕ, ◌≤◌, ◌⊎◌, true, false, nat_lt, subst, rules, List, ◌++◌, length, take, drop, Some, refl, ap, sym, ◌∙◌, inl, inr, ⊎_elim, arith}
use Rattle.std.proofs.lemmas.Grind.{common_steps}
use Rattle.cluster_tree.specs.PathValue.{PathValue, below, Holds}
use Rattle.cluster_tree.proofs.OrderLemmas.{same_path}
use Rattle.cluster_tree.specs.Contents.{Contents}
use Rattle.cluster_tree.specs.Step.{Step}
use Rattle.cluster_tree.specs.Below.{tree_below, SameTree}
use Rattle.cluster_tree.specs.Laws.{changed_path}
use Rattle.cluster_tree.specs.declared.tree.ChangeCall.{ChangeCall}
use Rattle.cluster_tree.proofs.StepLemmas.{step-elsewhere}

front : (parts more : List (List ℕ)) → take (length parts) (parts ++ more) ≡ parts
front parts more = grind (arith, common_steps)

rejoined : (front parts : List (List ℕ)) → take (length front) parts ≡ front → front ++ drop (length front) parts ≡ parts
rejoined front parts prefix = grind (arith, common_steps, prefix)

pub holds-below : (root : PathValue) (parts : List (List ℕ)) → Holds root (below root parts)
holds-below root parts = record { mark = refl; prefix = front root.parts parts }

pub held-below : (root path : PathValue) → Holds root path → path ≡ below root (drop (length root.parts) path.parts)
held-below root path held = same_path _ _ (sym held.mark) (sym (rejoined root.parts path.parts held.prefix))

less_of : (n m : ℕ) → nat_lt n m ≡ true → n ≤ m
less_of n m e = grind (arith, rules, e)

not_less : (n m : ℕ) → nat_lt n m ≡ false → m ≤ n
not_less n m e = grind (arith, rules, e)

within : (m : ℕ) (other more : List (List ℕ)) → length other ≤ m → take (length other) (take m (other ++ more)) ≡ other
within m other more l = grind (arith, common_steps)

front_of : (n : ℕ) (other more : List (List ℕ)) → n ≤ length other → take n (other ++ more) ≡ take n other
front_of n other more l = grind (arith, common_steps)

shorter : (root other more : List (List ℕ)) → take (length root) (other ++ more) ≡ root → (take (length root) other ≡ root) ⊎ (take (length other) root ≡ other)
shorter root other more prefix = elim (nat_lt (length other) (length root)) as (λ b. nat_lt (length other) (length root) ≡ b → (take (length root) other ≡ root) ⊎ (take (length other) root ≡ other)) [
  | true ↦ λ less. inr (ap (take (length other)) (sym prefix) ∙ within (length root) other more (less_of _ _ less))
  | false ↦ λ more_or_same. inl (sym (front_of (length root) other more (not_less _ _ more_or_same)) ∙ prefix)
] refl

pub roots-apart : (root other : PathValue) (parts : List (List ℕ)) → (Holds root other → ⊥) → (Holds other root → ⊥) → Holds root (below other parts) → ⊥
roots-apart root other parts one two held = ⊎_elim
    (λ prefix. one (record { mark = held.mark; prefix = prefix }))
    (λ prefix. two (record { mark = sym held.mark; prefix = prefix }))
    (shorter root.parts other.parts parts held.prefix)

pub step-outside : (ch : ChangeCall) (c d : Contents) (root path : PathValue) → Step ch c d → changed_path ch ≡ Some path → (Holds root path → ⊥) → SameTree (tree_below c root) (tree_below d root)
step-outside ch c d root path step changed apart parts = sym (step-elsewhere ch c d (below root parts) step (λ e. let is : below root parts ≡ path = cc (e, changed) in apart (subst (Holds root) is (holds-below root parts))))

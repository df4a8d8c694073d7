-- When two paths are the same.
use Rattle.std.proofs.Common.{◌≡◌, ℕ, ◌+◌, ◌≤◌, ◌↔◌, Bool, true, false, cond, nat_lt, Ok, Err, IsErrOf, refl, ap, sym, ◌∙◌, true≢false, codes, arith, rules}
use Rattle.cluster_tree.specs.PathValue.{PathValue}
use Rattle.cluster_tree.specs.Paths.{checked, Refuses}
use Rattle.cluster_tree.specs.declared.path_fault.PathFault.{PathFault}
use Rattle.cluster_tree.specs.declared.path_fault.PathFault.TheVariants.{TooDeep, OutOfMemory}
use Rattle.cluster_tree.specs.PathOrder.{path_eq}
use Rattle.cluster_tree.proofs.OrderLemmas.{path_eq-own, path_eq-other}

-- a test that is true just where two paths are equal is whether they are
pub path_eq-decided : (p q : PathValue) (b : Bool) → (b ≡ true → p ≡ q) → (p ≡ q → b ≡ true) → b ≡ path_eq p q
path_eq-decided p q true same own = sym (ap (path_eq p) (sym (same refl)) ∙ path_eq-own p)
path_eq-decided p q false same own = sym (path_eq-other p q (λ e. true≢false (sym (own e))))

deep_or_not : (A B : Type 0) (n : ℕ) (b : Bool) (fault : PathFault) → nat_lt 64 (n + 1) ≡ b → Refuses {A = A} (cond b (Err TooDeep) (Ok tt)) (Err fault)
    → IsErrOf {T = B} (Err fault) TooDeep ↔ (64 ≤ n)
deep_or_not A B n true fault e refused = (λ _. grind (arith, rules, e), λ _. cc)
deep_or_not A B n false fault e refused = (λ is. absurd (let wrong : TooDeep ≡ OutOfMemory = cc in cc), λ deep. absurd (grind (arith, rules, e, deep)))

-- one part more is refused as too deep just where 64 are there
pub too_deep-exactly : (A B : Type 0) (n : ℕ) (fault : PathFault) → Refuses {A = A} (checked n (codes "pg_rewind.unfinished")) (Err fault) → IsErrOf {T = B} (Err fault) TooDeep ↔ (64 ≤ n)
too_deep-exactly A B n fault refused = deep_or_not A B n (nat_lt 64 (n + 1)) fault refl refused

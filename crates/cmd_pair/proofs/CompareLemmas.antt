-- What the comparison of a pair that was tried answers.
use Rattle.std.proofs.Common.{◌≡◌, ◌∙◌, ◌⊎◌, Result, Ok, Err, inl, inr, sym, ap₂}
use Rattle.cluster_compare.specs.Compared.{compared}
use Rattle.cluster_compare.specs.Faults.{IsFree}
use Rattle.cluster_compare.specs.declared.compared.Compared.{Compared}
use Rattle.cluster_compare.specs.declared.compared.Compared.TheVariants.{Same}
use Rattle.cluster_compare.specs.declared.fault.CompareFault.{CompareFault}
use Rattle.cluster_tree.specs.Contents.{Contents}
use Rattle.cluster_tree.specs.PathValue.{PathValue}
use Rattle.pair_laws.specs.Stands.{copy_of, target_of}

verdict_same : (a b : Compared) → ◌≡◌ {A = Result Compared CompareFault} (Ok a) (Ok b) → a ≡ b
verdict_same a b is = cc is

module _ (c : Contents) (root first second : PathValue) (at_first : first ≡ copy_of root) (at_second : second ≡ target_of root) (same : compared c (copy_of root) (target_of root) ≡ Ok Same) where
  is_same : compared c first second ≡ Ok Same
  is_same = ap₂ (λ x y. compared c x y) at_first at_second ∙ same

  pub no-difference : (v : Compared) → compared c first second ≡ Ok v → v ≡ Same
  no-difference v is = verdict_same v Same (sym is ∙ is_same)

  pub compare-free : (e : CompareFault) → IsFree e ⊎ (compared c first second ≡ Err e) → IsFree e
  compare-free e (inl free) = free
  compare-free e (inr is) = absurd (cc (sym is_same ∙ is))

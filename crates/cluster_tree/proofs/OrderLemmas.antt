-- The order of paths is total, and only equal paths tie. Own: "Paths".
use Rattle.std.proofs.Common.{◌≡◌, ◌≢◌, Bool, true, false, refl, subst}
use Rattle.std.specs.declared.cmp.Ordering.{Ordering}
use Rattle.std.specs.declared.cmp.Ordering.TheVariants.{Less, Equal, Greater}
use Rattle.std.specs.Ordering.{bool_cmp, ordering_then}
use Rattle.std.specs.Cmp.{IsTotalOrder, then_total, on_total, bool_cmp_total, Equal-is, eq_by_cmp_equiv}
use Rattle.std.specs.Cmp.Lexicographic.{lists_total, nat_list_cmp_total}
use Rattle.std.specs.FinMap.{IsAntisymmetric, slice_cmp-IsAntisymmetric, nat_cmp-IsAntisymmetric}
use Rattle.cluster_tree.specs.PathValue.{PathValue, path_cmp, path_text}
use Rattle.cluster_tree.specs.PathOrder.{path_eq}

pub path_cmp_total : IsTotalOrder path_cmp
path_cmp_total = then_total (on_total path_text nat_list_cmp_total) (then_total (on_total (λ p. p.parts) (lists_total nat_list_cmp_total)) (on_total (λ p. p.absolute) bool_cmp_total))

-- a tie of two orders, one after the other, is a tie of both
both_tie : (r s : Ordering) → ordering_then r s ≡ Equal → (r ≡ Equal) × (s ≡ Equal)
both_tie Less s e = (e, absurd (subst (λ o. elim o as (λ _. Type 0) [ Less ↦ Unit {0} | Equal ↦ ⊥ | Greater ↦ ⊥ ]) e tt))
both_tie Equal s e = (refl, e)
both_tie Greater s e = (e, absurd (subst (λ o. elim o as (λ _. Type 0) [ Less ↦ ⊥ | Equal ↦ ⊥ | Greater ↦ Unit {0} ]) e tt))

bool_tie : (a b : Bool) → bool_cmp a b ≡ Equal → a ≡ b
bool_tie true true e = refl
bool_tie true false e = absurd (subst (λ o. elim o as (λ _. Type 0) [ Less ↦ ⊥ | Equal ↦ ⊥ | Greater ↦ Unit {0} ]) e tt)
bool_tie false true e = absurd (subst (λ o. elim o as (λ _. Type 0) [ Less ↦ Unit {0} | Equal ↦ ⊥ | Greater ↦ ⊥ ]) e tt)
bool_tie false false e = refl

pub path_cmp-IsAntisymmetric : IsAntisymmetric path_cmp
path_cmp-IsAntisymmetric x y e =
    let rest = (both_tie _ _ e).1 in
    let two = both_tie _ _ rest in
    let parts : x.parts ≡ y.parts = slice_cmp-IsAntisymmetric (slice_cmp-IsAntisymmetric nat_cmp-IsAntisymmetric) _ _ two.0 in
    let mark : x.absolute ≡ y.absolute = bool_tie _ _ two.1 in
    λ i. record { absolute = mark i; parts = parts i }

pub path_eq-same : (x y : PathValue) → path_eq x y ≡ true → x ≡ y
unfolding path_eq
path_eq-same x y e = path_cmp-IsAntisymmetric x y ((Equal-is _).0 e)

pub path_eq-own : (x : PathValue) → path_eq x x ≡ true
unfolding path_eq
path_eq-own x = (eq_by_cmp_equiv path_cmp_total).refl x

pub path_eq-other : (x y : PathValue) → x ≢ y → path_eq x y ≡ false
path_eq-other x y n = elim (path_eq x y) as (λ b. path_eq x y ≡ b → b ≡ false) [ true ↦ λ e. absurd (n (path_eq-same x y e)) | false ↦ λ e. refl ] refl

pub same_path : (p q : PathValue) → p.absolute ≡ q.absolute → p.parts ≡ q.parts → p ≡ q
same_path p q mark parts = λ i. record { absolute = mark i; parts = parts i }

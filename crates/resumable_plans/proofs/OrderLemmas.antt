-- Lists of steps that are in groups, one after another.
use Rattle.std.proofs.Common.{◌≡◌, Bool, true, false, cond, List, [], ◌∷◌, ◌++◌, refl, sym, ap, ◌∙◌, true≢false}
use Rattle.cluster_tree.specs.PathValue.{PathValue}
use Rattle.cluster_tree.specs.PathOrder.{path_eq}
use Rattle.cluster_tree.proofs.Images.{Each}
use Rattle.cluster_tree.proofs.OrderLemmas.{path_eq-same}
use Rattle.rewind_writes.specs.declared.step.Step.{Step}
use Rattle.resumed_laws.specs.Groups.{Group, Untouched, AllAreProper, AllBehind, AreGrouped, group_at, group_of, target_of}
use Rattle.resumed_laws.proofs.MayLemmas.{each-both}

-- the steps of one list may stand behind those of another
abbrev pub Cross : List Step → List Step → Type 0
Cross xs ys = Each (λ x. AllBehind x ys) xs

-- all on this path
abbrev pub AllOn : PathValue → List Step → Type 0
AllOn p xs = Each (λ x. target_of x ≡ p) xs

pub behind-both : (x : Step) (ys zs : List Step) → AllBehind x ys → AllBehind x zs → AllBehind x (ys ++ zs)
behind-both x [] zs one other = other
behind-both x (y ∷ ys) zs one other = (one.0, behind-both x ys zs one.1 other)

pub grouped-both : (xs ys : List Step) → AreGrouped xs → AreGrouped ys → Cross xs ys → AreGrouped (xs ++ ys)
grouped-both [] ys one other cross = other
grouped-both (x ∷ xs) ys one other cross = (behind-both x xs ys one.0 cross.0, grouped-both xs ys one.1 other cross.1)

pub cross-left : (xs ys zs : List Step) → Cross xs zs → Cross ys zs → Cross (xs ++ ys) zs
cross-left xs ys zs one other = each-both (λ x. AllBehind x zs) xs ys one other

pub cross-right : (xs ys zs : List Step) → Cross xs ys → Cross xs zs → Cross xs (ys ++ zs)
cross-right [] ys zs one other = tt
cross-right (x ∷ xs) ys zs one other = (behind-both x ys zs one.0 other.0, cross-right xs ys zs one.1 other.1)

pub cross-none : (xs : List Step) → Cross xs []
cross-none [] = tt
cross-none (x ∷ xs) = (tt, cross-none xs)

-- steps on paths that differ
behind-apart : (x : Step) (p q : PathValue) (ys : List Step) → target_of x ≡ p → AllOn q ys → path_eq p q ≡ false → AllBehind x ys
behind-apart x p q [] is on off = tt
behind-apart x p q (y ∷ ys) is on off =
    (λ same. absurd (true≢false (sym same ∙ ap (λ a. path_eq a (target_of y)) is ∙ ap (path_eq p) on.0 ∙ off)), behind-apart x p q ys is on.1 off)

pub cross-apart : (p q : PathValue) (xs ys : List Step) → AllOn p xs → AllOn q ys → path_eq p q ≡ false → Cross xs ys
cross-apart p q [] ys one other off = tt
cross-apart p q (x ∷ xs) ys one other off = (behind-apart x p q ys one.0 other off, cross-apart p q xs ys one.1 other off)

pub proper-both : (xs ys : List Step) → AllAreProper xs → AllAreProper ys → AllAreProper (xs ++ ys)
proper-both [] ys one other = other
proper-both (x ∷ xs) ys one other = (one.0, proper-both xs ys one.1 other)

-- what holds of the groups of all steps on a path holds of the path's
pub group-has : (P : Group → Type 0) (p : PathValue) (xs : List Step) → P Untouched → Each (λ x. target_of x ≡ p → P (group_of x)) xs → P (group_at p xs)
group-has P p [] none each = none
group-has P p (x ∷ xs) none each = by (path_eq p (target_of x)) refl (group-has P p xs none each.1)
  where
    by : (b : Bool) → path_eq p (target_of x) ≡ b → P (group_at p xs) → P (cond b (group_of x) (group_at p xs))
    by true e rest = each.0 (sym (path_eq-same p (target_of x) e))
    by false e rest = rest

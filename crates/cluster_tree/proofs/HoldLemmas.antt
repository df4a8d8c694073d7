-- The test whether a root holds a path says that it does.
use Rattle.std.proofs.Common.{◌≡◌, ◌↔◌, Bool, true, false, ◌&&◌, ◌||◌, length, take, bytes_eq, IsTrue, refl, sym, ◌∙◌, ap, subst, true≢false}
use Rattle.std.specs.Cmp.Lexicographic.{pointwise, pointwise_decides, bytes_decides}
use Rattle.cluster_tree.specs.PathValue.{PathValue, Holds}
use Rattle.cluster_tree.specs.Apart.{AreApart, agree, is_held, overlap}

agree-same : (a b : Bool) → agree a b ≡ true → a ≡ b
agree-same true true e = refl
agree-same true false e = absurd (true≢false (sym e))
agree-same false true e = absurd (true≢false (sym e))
agree-same false false e = refl

agree-own : (a : Bool) → agree a a ≡ true
agree-own true = refl
agree-own false = refl

both : (a b : Bool) → a && b ≡ true → (a ≡ true) × (b ≡ true)
both true b e = (refl, e)
both false b e = absurd (true≢false (sym e))

pub held-holds : (root path : PathValue) → is_held root path ≡ true → Holds root path
held-holds root path e =
    let two = both (agree root.absolute path.absolute) _ e in
    record { mark = agree-same _ _ two.0; prefix = sym ((pointwise_decides bytes_decides _ _).0 two.1) }

pub holds-held : (root path : PathValue) → Holds root path → is_held root path ≡ true
holds-held root path h =
    let marks : agree root.absolute path.absolute ≡ true = subst (λ b. agree root.absolute b ≡ true) h.mark (agree-own root.absolute) in
    let parts : pointwise bytes_eq root.parts (take (length root.parts) path.parts) ≡ true = (pointwise_decides bytes_decides _ _).1 (sym h.prefix) in
    ap (λ b. b && pointwise bytes_eq root.parts (take (length root.parts) path.parts)) marks ∙ parts

same_test : (b c : Bool) → (b ≡ true → c ≡ true) → (c ≡ true → b ≡ true) → b ≡ c
same_test true true f g = refl
same_test true false f g = sym (f refl)
same_test false true f g = g refl
same_test false false f g = refl

-- a test that tells whether the root holds the path is this one
pub is_held-test : (root path : PathValue) (b : Bool) → IsTrue b ↔ Holds root path → b ≡ is_held root path
is_held-test root path b is = same_test b (is_held root path) (λ e. holds-held root path (is.0 e)) (λ e. is.1 (held-holds root path e))

neither : (a b : Bool) → a || b ≡ false → (a ≡ false) × (b ≡ false)
neither true b e = absurd (true≢false e)
neither false b e = (refl, e)

-- roots that don't overlap are apart
pub overlap-apart : (target source : PathValue) → overlap target source ≡ false → AreApart target source
unfolding overlap
overlap-apart target source e =
    let two = neither (is_held target source) (is_held source target) e in
    (λ h. true≢false (sym (holds-held target source h) ∙ two.0), λ h. true≢false (sym (holds-held source target h) ∙ two.1))

pub ruleset hold_steps = (overlap-apart)

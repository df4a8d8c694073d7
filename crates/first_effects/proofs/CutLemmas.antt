-- Cuts of relations, and what a cut more takes away.
use Rattle.std.proofs.Common.{◌≡◌, refl, ◌∙◌, ap, ◌==◌, ◌&&◌, ◌||◌, ℕ, Bool, true, false, cond, Option, None, Some, arith}
use Rattle.std.specs.Prelude.{nat_le}
use Rattle.std.proofs.lemmas.Bool.{and_parts, eqb-true}
use Rattle.std.proofs.lemmas.Bool.Decides.{nat_tests}
use Rattle.std.specs.BTreeMap.{is_at}
use Rattle.std.specs.Ordering.{nat_cmp, ordering_then}
use Rattle.block_refs.specs.declared.names.RelName.{RelName}
use Rattle.replay_profile.specs.Names.{is_rel}
use Rattle.first_effects.specs.Taken.{is_behind, lower, rel_cmp}
use Rattle.first_effects.proofs.NameLemmas.{nat_at, then_eq}

and_same : (x x' y y' : Bool) → x ≡ x' → y ≡ y' → (x && y) ≡ (x' && y')
and_same x x' y y' e f = ap (λ b. b && y) e ∙ ap (λ b. x' && b) f

-- relations are compared as equal where they are one
rel_at : (k q : RelName) → is_at (rel_cmp k) q ≡ is_rel k q
rel_at k q =
    then_eq (nat_cmp k.space q.space) (ordering_then (nat_cmp k.database q.database) (nat_cmp k.relation q.relation))
    ∙ and_same _ _ _ _ (nat_at k.space q.space)
    (then_eq (nat_cmp k.database q.database) (nat_cmp k.relation q.relation)
    ∙ and_same _ _ _ _ (nat_at k.database q.database) (nat_at k.relation q.relation))

rel_of : ℕ → ℕ → ℕ → RelName
rel_of s d r = record { space = s; database = d; relation = r }

same_rel : (k q : RelName) → is_rel k q ≡ true → k ≡ q
unfolding rel_of
same_rel k q h =
    let one = and_parts (k.space == q.space) (k.database == q.database && k.relation == q.relation) h in
    let two = and_parts (k.database == q.database) (k.relation == q.relation) one.1 in
    ap (λ s. rel_of s k.database k.relation) (eqb-true k.space q.space one.0)
    ∙ ap (λ d. rel_of q.space d k.relation) (eqb-true k.database q.database two.0)
    ∙ ap (λ r. rel_of q.space q.database r) (eqb-true k.relation q.relation two.1)

-- the lower one of two cuts takes what either takes
lower_takes : (old : Option ℕ) (from block : ℕ) → nat_le (lower old from) block ≡ (is_behind old block || nat_le from block)
lower_takes None from block = refl
lower_takes (Some cut) from block = grind (arith, nat_tests)

module _ (old new : RelName → Option ℕ) (rel : RelName) (from low : ℕ) (is_low : low ≡ lower (old rel) from) (put : (q : RelName) → new q ≡ cond (is_at (rel_cmp rel) q) (Some low) (old q)) where
  pub cut_more : (q : RelName) (block : ℕ) → is_behind (new q) block ≡ (is_behind (old q) block || (is_rel rel q && nat_le from block))
  cut_more q block = by_case (is_rel rel q) refl (put q ∙ ap (λ b. cond b (Some low) (old q)) (rel_at rel q))
    where
      or_false : (b : Bool) → b ≡ (b || false)
      or_false true = refl
      or_false false = refl

      by_case : (b : Bool) → is_rel rel q ≡ b → new q ≡ cond (is_rel rel q) (Some low) (old q) → is_behind (new q) block ≡ (is_behind (old q) block || (is_rel rel q && nat_le from block))
      by_case true e is =
          rw e
          (ap (λ o. is_behind o block) (is ∙ ap (λ b. cond b (Some low) (old q)) e) ∙ ap (λ n. nat_le n block) is_low ∙ lower_takes (old rel) from block
          ∙ ap (λ r. is_behind (old r) block || nat_le from block) (same_rel rel q e))
      by_case false e is = rw e (ap (λ o. is_behind o block) (is ∙ ap (λ b. cond b (Some low) (old q)) e) ∙ or_false (is_behind (old q) block))

-- Keys of a set, and what a change at one key leaves at each.
use Rattle.std.proofs.Common.{◌≡◌, refl, ◌∙◌, ap, ◌==◌, ◌&&◌, ◌||◌, ℕ, Bool, true, false, cond, List, Option, Some, arith}
use Rattle.std.proofs.lemmas.Bool.{and_parts, eqb-true}
use Rattle.std.proofs.lemmas.Bool.Decides.{nat_tests}
use Rattle.std.specs.BTreeMap.{is_at}
use Rattle.std.specs.Ordering.{is_eq, nat_cmp, ordering_then}
use Rattle.std.specs.declared.cmp.Ordering.{Ordering}
use Rattle.std.specs.declared.cmp.Ordering.TheVariants.{Less, Equal, Greater}
use Rattle.block_refs.specs.declared.names.RelName.{RelName}
use Rattle.touched_blocks.specs.Chunk.{is_set}
use Rattle.touched_blocks.specs.Named.{is_rel}
use Rattle.touched_blocks.specs.Set.{is_run, is_set_in, rel_cmp, run_cmp}
use Rattle.touched_blocks.specs.declared.marks.RunKey.{RunKey}

then_eq : (x y : Ordering) → is_eq (ordering_then x y) ≡ (is_eq x && is_eq y)
then_eq Less y = refl
then_eq Equal y = refl
then_eq Greater y = refl

nat_at : (a b : ℕ) → is_eq (nat_cmp a b) ≡ a == b
nat_at a b = grind (arith, nat_tests)

and_same : (x x' y y' : Bool) → x ≡ x' → y ≡ y' → (x && y) ≡ (x' && y')
and_same x x' y y' e f = ap (λ b. b && y) e ∙ ap (λ b. x' && b) f

-- keys are compared by their fields
pub rel_at : (k q : RelName) → is_at (rel_cmp k) q ≡ is_rel k q
rel_at k q =
    then_eq (nat_cmp k.space q.space) (ordering_then (nat_cmp k.database q.database) (nat_cmp k.relation q.relation))
    ∙ and_same _ _ _ _ (nat_at k.space q.space)
    (then_eq (nat_cmp k.database q.database) (nat_cmp k.relation q.relation)
    ∙ and_same _ _ _ _ (nat_at k.database q.database) (nat_at k.relation q.relation))

pub run_at : (k q : RunKey) → is_at (run_cmp k) q ≡ is_run k q
run_at k q = then_eq (rel_cmp k.rel q.rel) (nat_cmp k.run q.run) ∙ and_same _ _ _ _ (rel_at k.rel q.rel) (nat_at k.run q.run)

rel_of : ℕ → ℕ → ℕ → RelName
rel_of s d r = record { space = s; database = d; relation = r }

key_of : RelName → ℕ → RunKey
key_of rel run = record { rel = rel; run = run }

pub same_rel : (k q : RelName) → is_rel k q ≡ true → k ≡ q
unfolding rel_of
same_rel k q h =
    let one = and_parts (k.space == q.space) (k.database == q.database && k.relation == q.relation) h in
    let two = and_parts (k.database == q.database) (k.relation == q.relation) one.1 in
    ap (λ s. rel_of s k.database k.relation) (eqb-true k.space q.space one.0)
    ∙ ap (λ d. rel_of q.space d k.relation) (eqb-true k.database q.database two.0)
    ∙ ap (λ r. rel_of q.space q.database r) (eqb-true k.relation q.relation two.1)

pub same_run : (k q : RunKey) → is_run k q ≡ true → k ≡ q
unfolding key_of
same_run k q h =
    let two = and_parts (is_rel k.rel q.rel) (k.run == q.run) h in
    ap (λ rel. key_of rel k.run) (same_rel k.rel q.rel two.0) ∙ ap (λ run. key_of q.rel run) (eqb-true k.run q.run two.1)

-- A function of keys that is changed at one key: what holds of the new value there, and of the old ones elsewhere, holds at
-- each key.
changed_at : {K X : Type 0} (old new : K → Option X) (test : K → Bool) (w : Option X) (has : Option X → Bool) (more : Bool) (k q : K) (b : Bool)
    → new q ≡ cond b w (old q) → (b ≡ true → k ≡ q) → has w ≡ (has (old k) || more) → has (new q) ≡ (has (old q) || (b && more))
changed_at old new test w has more k q true e same h = ap has e ∙ h ∙ ap (λ x. has (old x) || more) (same refl)
changed_at old new test w has more k q false e same h = ap has e ∙ grind arith

-- a bit that is set in the chunk of a run
pub marked : (old new : RunKey → Option (List ℕ)) (key : RunKey) (bytes : List ℕ) (at : ℕ)
    → ((q : RunKey) → new q ≡ cond (is_at (run_cmp key) q) (Some bytes) (old q))
    → ((i : ℕ) → is_set bytes i ≡ (is_set_in (old key) i || at == i))
    → (q : RunKey) (i : ℕ) → is_set_in (new q) i ≡ (is_set_in (old q) i || (is_run key q && at == i))
marked old new key bytes at e h q i =
    changed_at old new (is_run key) (Some bytes) (λ o. is_set_in o i) (at == i) key q (is_run key q)
    (e q ∙ ap (λ b. cond b (Some bytes) (old q)) (run_at key q)) (same_run key q) (h i)

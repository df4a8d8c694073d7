-- How the waiting goes on: of a list in order, those wait that lie at the top or in one that is done.
use Rattle.std.proofs.Common.{◌≡◌, ℕ, Bool, true, false, cond, ◌||◌, List, [], ◌∷◌, ◌++◌, map, filter, refl, ap, ap₂, sym, ◌∙◌, append_assoc, true≢false}
use Rattle.std.specs.declared.cmp.Ordering.TheVariants.{Equal}
use Rattle.std.specs.List.{list_any}
use Rattle.file_walk.proofs.QueueLemmas.{text_cmp, entry, Ascends, put_all, put_part, waits, waits_more, IsClosed, first_waits}

either : (a b : Bool) → (a || b) ≡ false → (a ≡ false) × (b ≡ false)
either true b h = absurd (true≢false h)
either false b h = (refl, h)

module _ {X : Type 0} where
  pub filter_split : (test : X → Bool) (xs ys : List X) → filter test (xs ++ ys) ≡ filter test xs ++ filter test ys
  filter_split test [] ys = refl
  filter_split test (x ∷ xs) ys = by (filter_split test xs ys) (test x)
    where
      by : filter test (xs ++ ys) ≡ filter test xs ++ filter test ys → (b : Bool) → cond b (x ∷ filter test (xs ++ ys)) (filter test (xs ++ ys)) ≡ cond b (x ∷ filter test xs) (filter test xs) ++ filter test ys
      by rest true = ap (λ l. x ∷ l) rest
      by rest false = rest

  pub none_pass : (test : X → Bool) (xs : List X) → list_any test xs ≡ false → filter test xs ≡ []
  none_pass test [] h = refl
  none_pass test (x ∷ xs) h =
      let two = either (test x) (list_any test xs) h in
      ap (λ b. cond b (x ∷ filter test xs) (filter test xs)) two.0 ∙ none_pass test xs two.1

  pub same_pass : (p q : X → Bool) (xs : List X) → ((x : X) → p x ≡ q x) → filter p xs ≡ filter q xs
  same_pass p q [] h = refl
  same_pass p q (x ∷ xs) h = ap₂ (λ b (l : List X). cond b (x ∷ l) l) (h x) (same_pass p q xs h)

module _ {X V : Type 0} (key : X → List ℕ) (value : X → V) (top : X → Bool) (holds : X → X → Bool) where
  -- once the first of the others is done, what lies in it waits besides
  pub wait_on : (done : List X) (x : X) (xs : List X) → ((y : X) → text_cmp (key y) (key y) ≡ Equal) → Ascends key value xs → list_any (holds x) (done ++ x ∷ []) ≡ false
      → put_all key value (map (entry key value) (filter (waits top holds done) xs)) (filter (holds x) (done ++ x ∷ xs)) ≡ map (entry key value) (filter (waits top holds (done ++ x ∷ [])) xs)
  wait_on done x xs own up none =
      ap (put_all key value (map (entry key value) (filter (waits top holds done) xs)))
      (ap (filter (holds x)) (sym (append_assoc done (x ∷ []) xs))
      ∙ filter_split (holds x) (done ++ x ∷ []) xs
      ∙ ap (λ l. l ++ filter (holds x) xs) (none_pass (holds x) (done ++ x ∷ []) none))
      ∙ put_part key value (waits top holds done) (holds x) xs own up
      ∙ ap (map (entry key value)) (same_pass (λ y. waits top holds done y || holds x y) (waits top holds (done ++ x ∷ [])) xs (λ y. sym (waits_more top holds done x y)))

  -- the first that waits is the first of the others
  pub next_is : (done : List X) (x : X) (xs : List X) → IsClosed top holds done (x ∷ xs) → map (entry key value) (filter (waits top holds done) (x ∷ xs)) ≡ entry key value x ∷ map (entry key value) (filter (waits top holds done) xs)
  next_is done x xs closed = ap (map (entry key value)) (first_waits top holds done x xs closed)

  -- and where none waits, none is left
  pub none_left : (done others : List X) → IsClosed top holds done others → map (entry key value) (filter (waits top holds done) others) ≡ [] → others ≡ []
  none_left done [] closed h = refl
  none_left done (x ∷ xs) closed h = absurd (let wrong : entry key value x ∷ map (entry key value) (filter (waits top holds done) xs) ≡ [] = sym (next_is done x xs closed) ∙ h in cc)

-- ---- each lies at the top, or in one that stands before it

module _ {X : Type 0} (top : X → Bool) (holds : X → X → Bool) where
  -- where each that isn't at the top lies in one of a list, which stands before it
  pub closed_from : (done others : List X) → ((x : X) (before after : List X) → done ++ others ≡ before ++ x ∷ after → (top x || list_any (λ p. holds p x) before) ≡ true) → IsClosed top holds done others
  closed_from done [] h = tt
  closed_from done (x ∷ xs) h = (h x done xs refl, closed_from (done ++ x ∷ []) xs (λ y before after is. h y before after (sym (append_assoc done (x ∷ []) xs) ∙ is)))

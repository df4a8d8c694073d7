-- What waits, as a list in the order of texts: what is put into it stands where it would stand in the order of all.
use Rattle.std.proofs.Common.{◌≡◌, ℕ, Bool, true, false, cond, ◌||◌, List, [], ◌∷◌, ◌++◌, map, filter, refl, ap, ◌∙◌}
use Rattle.std.specs.declared.cmp.Ordering.{Ordering}
use Rattle.std.specs.declared.cmp.Ordering.TheVariants.{Less, Equal, Greater}
use Rattle.std.specs.BTreeMap.{insert_entry}
use Rattle.std.specs.Cmp.Lexicographic.{slice_cmp}
use Rattle.std.specs.List.{list_any}
use Rattle.std.specs.Ordering.{nat_cmp, match_ordering}
use Rattle.std.proofs.lemmas.List.Folds.{list_any-append}

abbrev pub text_cmp : List ℕ → List ℕ → Ordering
text_cmp = slice_cmp nat_cmp

-- a map's entries by the texts that its keys are: putting one in is the same for both
pub put_by_text : {S V : Type 0} (text_of : S → List ℕ) (cmp : S → S → Ordering) → ((s t : S) → cmp s t ≡ text_cmp (text_of s) (text_of t))
    → (entries : List (S × V)) (s : S) (v : V)
    → map (λ (e : S × V). (text_of e.0, e.1)) (insert_entry cmp entries s v) ≡ insert_entry text_cmp (map (λ (e : S × V). (text_of e.0, e.1)) entries) (text_of s) v
put_by_text text_of cmp same [] s v = refl
put_by_text {S} {V} text_of cmp same (e ∷ es) s v = by (cmp s e.0) (text_cmp (text_of s) (text_of e.0)) (same s e.0) (put_by_text text_of cmp same es s v)
  where
    told : List (S × V) → List (List ℕ × V)
    told entries = map (λ (e : S × V). (text_of e.0, e.1)) entries

    by : (a b : Ordering) → a ≡ b → told (insert_entry cmp es s v) ≡ insert_entry text_cmp (told es) (text_of s) v
        → told (match_ordering a ((s, v) ∷ e ∷ es) ((e.0, v) ∷ es) (e ∷ insert_entry cmp es s v))
        ≡ match_ordering b ((text_of s, v) ∷ told (e ∷ es)) ((text_of e.0, v) ∷ told es) ((text_of e.0, e.1) ∷ insert_entry text_cmp (told es) (text_of s) v)
    by Less b i more = ap (λ o. match_ordering o ((text_of s, v) ∷ told (e ∷ es)) ((text_of e.0, v) ∷ told es) ((text_of e.0, e.1) ∷ insert_entry text_cmp (told es) (text_of s) v)) i
    by Equal b i more = ap (λ o. match_ordering o ((text_of s, v) ∷ told (e ∷ es)) ((text_of e.0, v) ∷ told es) ((text_of e.0, e.1) ∷ insert_entry text_cmp (told es) (text_of s) v)) i
    by Greater b i more =
        ap (λ l. (text_of e.0, e.1) ∷ l) more
        ∙ ap (λ o. match_ordering o ((text_of s, v) ∷ told (e ∷ es)) ((text_of e.0, v) ∷ told es) ((text_of e.0, e.1) ∷ insert_entry text_cmp (told es) (text_of s) v)) i

-- ---- a part of a list that ascends, into which another part is put

module _ {X V : Type 0} (key : X → List ℕ) (value : X → V) where
  abbrev pub entry : X → List ℕ × V
  entry x = (key x, value x)

  -- each of these has a greater text
  abbrev pub AllAbove : X → List X → Type 0
  AllAbove x [] = Unit {0}
  AllAbove x (y ∷ ys) = (text_cmp (key y) (key x) ≡ Greater) × (text_cmp (key x) (key y) ≡ Less) × AllAbove x ys

  abbrev pub Ascends : List X → Type 0
  Ascends [] = Unit {0}
  Ascends (x ∷ xs) = AllAbove x xs × Ascends xs

  abbrev pub put : List (List ℕ × V) → X → List (List ℕ × V)
  put entries x = insert_entry text_cmp entries (key x) (value x)

  abbrev pub put_all : List (List ℕ × V) → List X → List (List ℕ × V)
  put_all entries [] = entries
  put_all entries (x ∷ xs) = put_all (put entries x) xs

  put_behind : (x y : X) (entries : List (List ℕ × V)) → text_cmp (key y) (key x) ≡ Greater → put (entry x ∷ entries) y ≡ entry x ∷ put entries y
  put_behind x y entries h = ap (λ o. match_ordering o (entry y ∷ entry x ∷ entries) ((key x, value y) ∷ entries) (entry x ∷ put entries y)) h

  all_behind : (x : X) (ys : List X) (entries : List (List ℕ × V)) → AllAbove x ys → put_all (entry x ∷ entries) ys ≡ entry x ∷ put_all entries ys
  all_behind x [] entries h = refl
  all_behind x (y ∷ ys) entries h = ap (λ l. put_all l ys) (put_behind x y entries h.0) ∙ all_behind x ys (put entries y) h.2

  above_part : (test : X → Bool) (x : X) (ys : List X) → AllAbove x ys → AllAbove x (filter test ys)
  above_part test x [] h = tt
  above_part test x (y ∷ ys) h = by (test y) (above_part test x ys h.2)
    where
      by : (b : Bool) → AllAbove x (filter test ys) → AllAbove x (cond b (y ∷ filter test ys) (filter test ys))
      by true more = (h.0, h.1, more)
      by false more = more

  put_first : (x : X) (ys : List X) → AllAbove x ys → put (map entry ys) x ≡ entry x ∷ map entry ys
  put_first x [] h = refl
  put_first x (y ∷ ys) h = ap (λ o. match_ordering o (entry x ∷ entry y ∷ map entry ys) ((key y, value x) ∷ map entry ys) (entry y ∷ put (map entry ys) x)) h.1

  put_again : (x : X) (entries : List (List ℕ × V)) → text_cmp (key x) (key x) ≡ Equal → put (entry x ∷ entries) x ≡ entry x ∷ entries
  put_again x entries h = ap (λ o. match_ordering o (entry x ∷ entry x ∷ entries) (entry x ∷ entries) (entry x ∷ put entries x)) h

  part_step : (first second : X → Bool) (x : X) (xs : List X) → text_cmp (key x) (key x) ≡ Equal → AllAbove x xs
      → put_all (map entry (filter first xs)) (filter second xs) ≡ map entry (filter (λ x. first x || second x) xs)
      → (a b : Bool) → put_all (map entry (cond a (x ∷ filter first xs) (filter first xs))) (cond b (x ∷ filter second xs) (filter second xs))
      ≡ map entry (cond (a || b) (x ∷ filter (λ x. first x || second x) xs) (filter (λ x. first x || second x) xs))
  part_step first second x xs own h rest = by
    where
      behind : put_all (entry x ∷ map entry (filter first xs)) (filter second xs) ≡ entry x ∷ map entry (filter (λ x. first x || second x) xs)
      behind = all_behind x (filter second xs) (map entry (filter first xs)) (above_part second x xs h) ∙ ap (λ l. entry x ∷ l) rest

      by : (a b : Bool) → put_all (map entry (cond a (x ∷ filter first xs) (filter first xs))) (cond b (x ∷ filter second xs) (filter second xs))
          ≡ map entry (cond (a || b) (x ∷ filter (λ x. first x || second x) xs) (filter (λ x. first x || second x) xs))
      by true true = ap (λ l. put_all l (filter second xs)) (put_again x (map entry (filter first xs)) own) ∙ behind
      by true false = behind
      by false true = ap (λ l. put_all l (filter second xs)) (put_first x (filter first xs) (above_part first x xs h)) ∙ behind
      by false false = rest

  -- what passes one test, with what passes the other put into it, is what passes either
  pub put_part : (first second : X → Bool) (xs : List X) → ((x : X) → text_cmp (key x) (key x) ≡ Equal) → Ascends xs
      → put_all (map entry (filter first xs)) (filter second xs) ≡ map entry (filter (λ x. first x || second x) xs)
  put_part first second [] own h = refl
  put_part first second (x ∷ xs) own h = part_step first second x xs (own x) h.0 (put_part first second xs own h.1) (first x) (second x)

-- ---- what waits when some are done: what lies at the top, or in one of them

module _ {X : Type 0} (top : X → Bool) (holds : X → X → Bool) where
  abbrev pub waits : List X → X → Bool
  waits done x = top x || list_any (λ p. holds p x) done

  -- each of the others lies at the top, or in one before it
  abbrev pub IsClosed : (done others : List X) → Type 0
  IsClosed done [] = Unit {0}
  IsClosed done (x ∷ xs) = (waits done x ≡ true) × IsClosed (done ++ x ∷ []) xs

  or_group : (a b d : Bool) → (a || (b || (d || false))) ≡ ((a || b) || d)
  or_group true b d = refl
  or_group false true d = refl
  or_group false false true = refl
  or_group false false false = refl

  -- so the first of the others waits, and none does where nothing is left
  pub first_waits : (done : List X) (x : X) (xs : List X) → IsClosed done (x ∷ xs) → filter (waits done) (x ∷ xs) ≡ x ∷ filter (waits done) xs
  first_waits done x xs h = ap (λ b. cond b (x ∷ filter (waits done) xs) (filter (waits done) xs)) h.0

  -- once it is done, what lies in it waits too
  pub waits_more : (done : List X) (x y : X) → waits (done ++ x ∷ []) y ≡ (waits done y || holds x y)
  waits_more done x y = ap (λ b. top y || b) (list_any-append (λ p. holds p y) done (x ∷ [])) ∙ or_group (top y) (list_any (λ p. holds p y) done) (holds x y)

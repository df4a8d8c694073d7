-- Texts that are cut at a byte.
use Rattle.std.proofs.Common.{◌≡◌, ℕ, zero, suc, ◌+◌, ◌-◌, ◌<◌, ◌≤◌, ◌==◌, Bool, true, false, not, cond, ◌&&◌, nat_lt, List, [], ◌∷◌, ◌++◌, length, take, drop, position, Option, None, Some, refl, ap, ap₂, sym, ◌∙◌, arith, true≢false, add-one}
use Rattle.std.specs.List.{list_all, position_or_len}
use Rattle.std.proofs.lemmas.Bool.Decides.{nat_tests}
use Rattle.std.proofs.lemmas.Grind.{common_steps}
use Rattle.relation_files.specs.Reading.{before, behind}

-- by the place of the byte

place : ℕ → List ℕ → ℕ
place b text = position_or_len (λ x. x == b) text

first : (n : ℕ) → nat_lt 0 (suc n) ≡ true
first n = grind (arith, nat_tests)

both_more : (a b : ℕ) → nat_lt a b ≡ nat_lt (1 + a) (suc b)
both_more a b = elim (nat_lt a b) as (λ t. nat_lt a b ≡ t → t ≡ nat_lt (1 + a) (suc b)) [ true ↦ λ e. grind (arith, nat_tests) | false ↦ λ e. grind (arith, nat_tests) ] refl

one_front : (x n : ℕ) (xs : List ℕ) → take (1 + n) (x ∷ xs) ≡ x ∷ take n xs
one_front x n xs = let e : 1 + n ≡ suc n = omega arith in ap (λ k. take k (x ∷ xs)) e

one_behind : (x n : ℕ) (xs : List ℕ) → drop (1 + n + 1) (x ∷ xs) ≡ drop (n + 1) xs
one_behind x n xs = let e : 1 + n + 1 ≡ suc (n + 1) = omega arith in ap (λ k. drop k (x ∷ xs)) e

by_place : (b : ℕ) (text : List ℕ) → (before b text ≡ take (place b text) text) × (behind b text ≡ cond (nat_lt (place b text) (length text)) (Some (drop (place b text + 1) text)) None)
unfolding place
by_place b [] = (refl, refl)
by_place b (x ∷ xs) = elim (x == b) as (λ t. (cond t [] (x ∷ before b xs) ≡ take (cond (not t) (1 + place b xs) 0) (x ∷ xs)) × (cond t (Some xs) (behind b xs) ≡ cond (nat_lt (cond (not t) (1 + place b xs) 0) (length (x ∷ xs))) (Some (drop (cond (not t) (1 + place b xs) 0 + 1) (x ∷ xs))) None)) [
  | true ↦ (refl, ap (λ t. cond t (Some xs) None) (sym (first (length xs))))
  | false ↦
      let rest = by_place b xs in
      (ap (λ t. x ∷ t) rest.0 ∙ sym (one_front x (place b xs) xs), rest.1 ∙ ap₂ (λ t (ys : List ℕ). cond t (Some ys) None) (both_more (place b xs) (length xs)) (sym (one_behind x (place b xs) xs)))
]

by_position : (text : List ℕ) (at : Option ℕ) (i n : ℕ) → cond (nat_lt i n) (Some i) None ≡ at → cond (nat_lt i n) (Some (drop (i + 1) text)) None ≡ elim at as (λ _. Option (List ℕ)) [ Some k ↦ Some (drop (k + 1) text) | None ↦ None ]
by_position text at i n is = elim (nat_lt i n) as (λ t. cond t (Some i) None ≡ at → cond t (Some (drop (i + 1) text)) None ≡ elim at as (λ _. Option (List ℕ)) [ Some k ↦ Some (drop (k + 1) text) | None ↦ None ]) [
  | true ↦ λ e. ap (λ o. elim o as (λ _. Option (List ℕ)) [ Some k ↦ Some (drop (k + 1) text) | None ↦ None ]) e
  | false ↦ λ e. ap (λ o. elim o as (λ _. Option (List ℕ)) [ Some k ↦ Some (drop (k + 1) text) | None ↦ None ]) e
] is

pub behind-found : (b : ℕ) (text : List ℕ) (at : ℕ) → position (λ x. x == b) text ≡ Some at → behind b text ≡ Some (drop (at + 1) text)
unfolding place
behind-found b text at is = (by_place b text).1 ∙ by_position text (Some at) (place b text) (length text) is

pub behind-none : (b : ℕ) (text : List ℕ) → position (λ x. x == b) text ≡ None → behind b text ≡ None
unfolding place
behind-none b text is = (by_place b text).1 ∙ by_position text None (place b text) (length text) is

found_at : (i n at : ℕ) → cond (nat_lt i n) (Some i) None ≡ Some at → i ≡ at
found_at i n at is = elim (nat_lt i n) as (λ t. cond t (Some i) None ≡ Some at → i ≡ at) [ true ↦ λ e. cc | false ↦ λ e. absurd cc ] is

none_at : (i n : ℕ) → cond (nat_lt i n) (Some i) None ≡ None → n ≤ i
none_at i n is = elim (nat_lt i n) as (λ t. nat_lt i n ≡ t → cond t (Some i) None ≡ None → n ≤ i) [ true ↦ λ e no. absurd cc | false ↦ λ e no. grind (arith, nat_tests) ] refl is

pub before-found : (b : ℕ) (text : List ℕ) (at : ℕ) → position (λ x. x == b) text ≡ Some at → before b text ≡ take at text
unfolding place
before-found b text at is = (by_place b text).0 ∙ ap (λ k. take k text) (found_at (place b text) (length text) at is)

pub before-none : (b : ℕ) (text : List ℕ) → position (λ x. x == b) text ≡ None → before b text ≡ text
unfolding place
before-none b text is = (by_place b text).0 ∙ (let l = none_at (place b text) (length text) is in grind (arith, common_steps))

pub ruleset cut_steps = (before-found, before-none, behind-none)

-- what a text is joined of

unfoldable pub joined : ℕ → List ℕ → Option (List ℕ) → List ℕ
joined b front None = front
joined b front (Some rest) = front ++ b ∷ rest

same_byte : (x b : ℕ) → (x == b) ≡ true → x ≡ b
same_byte x b e = grind (arith, nat_tests)

push : (b x : ℕ) (front : List ℕ) (rest : Option (List ℕ)) → joined b (x ∷ front) rest ≡ x ∷ joined b front rest
unfolding joined
push b x front None = refl
push b x front (Some rest) = refl

pub joined-is : (b : ℕ) (text : List ℕ) → joined b (before b text) (behind b text) ≡ text
unfolding joined
joined-is b [] = refl
joined-is b (x ∷ xs) = elim (x == b) as (λ t. (x == b) ≡ t → joined b (cond t [] (x ∷ before b xs)) (cond t (Some xs) (behind b xs)) ≡ x ∷ xs) [
  | true ↦ λ e. ap (λ y. y ∷ xs) (sym (same_byte x b e))
  | false ↦ λ e. push b x (before b xs) (behind b xs) ∙ ap (λ t. x ∷ t) (joined-is b xs)
] refl

-- a text without the byte

unfoldable pub without : ℕ → List ℕ → Bool
without b text = list_all (λ x. not (x == b)) text

pub and_parts : (a c : Bool) → (a && c) ≡ true → (a ≡ true) × (c ≡ true)
and_parts true c h = (refl, h)
and_parts false c h = absurd (true≢false (sym h))

other : (a : Bool) → not a ≡ true → a ≡ false
other true e = absurd cc
other false e = refl

pub before-joined : (b : ℕ) (front : List ℕ) (rest : Option (List ℕ)) → without b front ≡ true → (before b (joined b front rest) ≡ front) × (behind b (joined b front rest) ≡ rest)
unfolding joined without
before-joined b [] None free = (refl, refl)
before-joined b [] (Some rest) free = let own : (b == b) ≡ true = grind (arith, nat_tests) in (ap (λ t. cond t [] (b ∷ before b rest)) own, ap (λ t. cond t (Some rest) (behind b rest)) own)
before-joined b (x ∷ xs) rest free =
    let two = and_parts (not (x == b)) (without b xs) free in
    let no : (x == b) ≡ false = other (x == b) two.0 in
    let more = before-joined b xs rest two.1 in (
      ap (before b) (push b x xs rest) ∙ ap (λ t. cond t [] (x ∷ before b (joined b xs rest))) no ∙ ap (λ t. x ∷ t) more.0,
      ap (behind b) (push b x xs rest) ∙ ap (λ t. cond t (Some (joined b xs rest)) (behind b (joined b xs rest))) no ∙ more.1,
    )

-- Names that are added to a set one after another.
use Rattle.std.proofs.Common.{◌≡◌, refl, sym, ◌∙◌, ap, ◌||◌, ◌+◌, ℕ, Bool, true, false, List, [], ◌∷◌, ◌++◌, take, drop, Option, None, Some, Result, Ok, Err, OnErr, option_map, subst, is_some, zero, suc, add-one, append_assoc, append-nil}
use Rattle.std.proofs.lemmas.List.{take-append-drop}
use Rattle.std.proofs.lemmas.List.Concat.{flat_map-append}
use Rattle.std.proofs.lemmas.List.Folds.{list_any-append}
use Rattle.std.specs.List.{flat_map, list_any, slice_get}
use Rattle.touched_blocks.specs.Named.{covers, named_if_there}
use Rattle.touched_blocks.specs.Set.{Adds, AddsFirst, TouchedView, chunk_at, cut_at, has_in, is_among, is_all_of, is_cut_of, is_in_run}
use Rattle.touched_blocks.specs.declared.named.Named.{Named}

or_none : (a : Bool) → a ≡ (a || false)
or_none true = refl
or_none false = refl

or_more : (a b c : Bool) → ((a || b) || c) ≡ (a || (b || c))
or_more true b c = refl
or_more false b c = refl

-- nothing is added
pub adds_none : (t : TouchedView) → Adds [] t t
adds_none t = record {
  has = λ rel block. or_none (has_in t rel block);
  chunks = λ key. or_none (is_some (chunk_at t.chunks key));
  cuts = λ rel. or_none (is_some (cut_at t.cuts rel));
  databases = λ database. or_none (is_among t.databases database);
}

any_both : (test : Named → Bool) (names more : List Named) (a b c : Bool)
    → b ≡ (a || list_any test names) → c ≡ (b || list_any test more) → c ≡ (a || list_any test (names ++ more))
any_both test names more a b c e f =
    f ∙ ap (λ x. x || list_any test more) e ∙ or_more a (list_any test names) (list_any test more)
    ∙ ap (λ x. a || x) (sym (list_any-append test names more))

-- names, and then more
pub adds_then : (names more : List Named) (t u v : TouchedView) → Adds names t u → Adds more u v → Adds (names ++ more) t v
adds_then names more t u v one two = record {
  has = λ rel block. any_both (covers rel block) names more (has_in t rel block) (has_in u rel block) (has_in v rel block) (one.has rel block) (two.has rel block);
  chunks = λ key. any_both (is_in_run key) names more (is_some (chunk_at t.chunks key)) (is_some (chunk_at u.chunks key)) (is_some (chunk_at v.chunks key)) (one.chunks key) (two.chunks key);
  cuts = λ rel. any_both (is_cut_of rel) names more (is_some (cut_at t.cuts rel)) (is_some (cut_at u.cuts rel)) (is_some (cut_at v.cuts rel)) (one.cuts rel) (two.cuts rel);
  databases = λ database. any_both (is_all_of database) names more (is_among t.databases database) (is_among u.databases database) (is_among v.databases database) (one.databases database) (two.databases database);
}

-- one more of a list
next : {X : Type 0} (f : X → List Named) (xs : List X) (i : ℕ) → flat_map f (take (suc i) xs) ≡ flat_map f (take i xs) ++ named_if_there f (slice_get xs i)
next f [] zero = refl
next f [] (suc i) = refl
next f (x ∷ xs) zero = append-nil (f x)
next f (x ∷ xs) (suc i) = ap (λ ys. f x ++ ys) (next f xs i) ∙ sym (append_assoc (f x) (flat_map f (take i xs)) (named_if_there f (slice_get xs i)))

-- a list's names are added one after another: the next ones, and the first of all
pub adds_next : {X : Type 0} (f : X → List Named) (xs : List X) (i : ℕ) (t u v : TouchedView)
    → Adds (flat_map f (take i xs)) t u → Adds (named_if_there f (slice_get xs i)) u v → Adds (flat_map f (take (i + 1) xs)) t v
adds_next f xs i t u v one two =
    subst (λ names. Adds names t v) (sym (next f xs i) ∙ ap (λ n. flat_map f (take n xs)) (sym (add-one i)))
    (adds_then (flat_map f (take i xs)) (named_if_there f (slice_get xs i)) t u v one two)

pub adds_first : {X : Type 0} (f : X → List Named) (xs : List X) (i : ℕ) (t u : TouchedView) → Adds (flat_map f (take i xs)) t u → AddsFirst (flat_map f xs) t u
adds_first f xs i t u one = record {
  done = flat_map f (take i xs);
  rest = flat_map f (drop i xs);
  joins = sym (flat_map-append f (take i xs) (drop i xs)) ∙ ap (λ ys. flat_map f ys) (take-append-drop i xs);
  adds = one;
}

-- names, and then first ones of more
pub then_first : (names more : List Named) (t u v : TouchedView) → Adds names t u → AddsFirst more u v → AddsFirst (names ++ more) t v
then_first names more t u v one two = record {
  done = names ++ two.done;
  rest = two.rest;
  joins = append_assoc names two.done two.rest ∙ ap (λ ys. names ++ ys) two.joins;
  adds = adds_then names two.done t u v one two.adds;
}

-- none were added
pub first_none : (names : List Named) (t : TouchedView) → AddsFirst names t t
first_none names t = record { done = []; rest = names; joins = refl; adds = adds_none t }

pub on_err : {A E : Type 0} (r : Result A E) (P : Type 0) → P → OnErr r P
on_err (Ok a) P p = tt
on_err (Err e) P p = p

-- what a reference names, by its place
pub by_place : {X Y : Type 0} (f : Y → List Named) (g : X → Y) (o : Option X) → named_if_there f (option_map g o) ≡ named_if_there (λ x. f (g x)) o
by_place f g None = refl
by_place f g (Some x) = refl

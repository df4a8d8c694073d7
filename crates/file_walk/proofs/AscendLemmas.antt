-- What lies below a root ascends by the texts from the root on.
use Rattle.std.proofs.Common.{◌≡◌, ℕ, zero, suc, ◌<◌, Bool, true, false, T, cond, ◌&&◌, nat_lt, List, [], ◌∷◌, length, drop, map, filter, refl, ap, ap₂, sym, ◌∙◌, true≢false, arith}
use Rattle.std.proofs.lemmas.Bool.Decides.{nat_tests}
use Rattle.std.specs.declared.cmp.Ordering.{Ordering}
use Rattle.std.specs.declared.cmp.Ordering.TheVariants.{Less, Equal, Greater}
use Rattle.std.specs.Cmp.{tied_itself}
use Rattle.std.specs.Cmp.Lexicographic.{nat_list_cmp_total}
use Rattle.std.specs.FinMap.Entries.{below_all, is_sorted}
use Rattle.std.specs.List.{list_all}
use Rattle.std.specs.Ordering.{is_lt, ordering_reverse}
use Rattle.cluster_tree.specs.Contents.{Entry}
use Rattle.cluster_tree.specs.PathOrder.{path_eq}
use Rattle.cluster_tree.specs.PathValue.{PathValue, below, front, is_part, path_cmp, path_of, path_text}
use Rattle.file_walk.specs.declared.waiting.Waiting.{Waiting}
use Rattle.file_walk.specs.Walk.{from_root, lies_below}
use Rattle.file_walk.proofs.FoundLemmas.{back_below}
use Rattle.file_walk.proofs.OrderLemmas.{below_order, text_order}
use Rattle.file_walk.proofs.QueueLemmas.{text_cmp, AllAbove, Ascends}
use Rattle.file_walk.proofs.StepLemmas.{waiting_of}

both_of : (a b : Bool) → (a && b) ≡ true → (a ≡ true) × (b ≡ true)
both_of true b h = (refl, h)
both_of false b h = absurd (true≢false (sym h))

first : (a b : Bool) → T (a && b) → T a
first true b h = tt
first false b h = h

second : (a b : Bool) → T (a && b) → T b
second true b h = h
second false b h = absurd h

less : (o : Ordering) → T (is_lt o) → o ≡ Less
less Less h = refl
less Equal h = absurd h
less Greater h = absurd h

-- what has more parts than so many has a next one
next_part : (n : ℕ) (parts : List (List ℕ)) → n < length parts → (part : List ℕ) × ((rest : List (List ℕ)) × (drop n parts ≡ part ∷ rest))
next_part n [] h = absurd (omega arith)
next_part zero (x ∷ parts) h = (x, (parts, refl))
next_part (suc n) (x ∷ parts) h = next_part n parts (omega arith)

pub deeper : (root path : PathValue) → lies_below root path ≡ true → length root.parts < length path.parts
deeper root path h =
    let two = both_of (nat_lt (length root.parts) (length path.parts) && path_eq root (front (length root.parts) path)) (list_all is_part path.parts) h in
    let test : nat_lt (length root.parts) (length path.parts) ≡ true = (both_of (nat_lt (length root.parts) (length path.parts)) (path_eq root (front (length root.parts) path)) two.0).0 in
    grind (arith, nat_tests)

pub proper_below : (root path : PathValue) → lies_below root path ≡ true → list_all is_part path.parts ≡ true
proper_below root path h = (both_of (nat_lt (length root.parts) (length path.parts) && path_eq root (front (length root.parts) path)) (list_all is_part path.parts) h).1

-- of paths below a root the texts from there on are in the order of the whole ones
pub own_order : (root p q : PathValue) → lies_below root p ≡ true → lies_below root q ≡ true → text_cmp (path_text (from_root root p)) (path_text (from_root root q)) ≡ text_cmp (path_text p) (path_text q)
own_order root p q h k =
    let a = next_part (length root.parts) p.parts (deeper root p h) in
    let b = next_part (length root.parts) q.parts (deeper root q k) in
    ap₂ (λ x y. text_cmp (path_text (path_of false x)) (path_text (path_of false y))) a.1.1 b.1.1
    ∙ sym (below_order root a.0 b.0 a.1.0 b.1.0)
    ∙ ap₂ (λ x y. text_cmp (path_text (below root x)) (path_text (below root y))) (sym a.1.1) (sym b.1.1)
    ∙ ap₂ (λ x y. text_cmp (path_text x) (path_text y)) (sym (back_below root p h)) (sym (back_below root q k))

pub reversed : (x y : List ℕ) → text_cmp x y ≡ Less → text_cmp y x ≡ Greater
reversed x y h = nat_list_cmp_total.antisymm y x ∙ ap ordering_reverse h

pub itself : (x : List ℕ) → text_cmp x x ≡ Equal
itself x = tied_itself nat_list_cmp_total x

module _ (root : PathValue) where
  abbrev pub key : PathValue × Entry → List ℕ
  key x = path_text x.0

  abbrev pub value : PathValue × Entry → Waiting
  value x = waiting_of root x.0

  abbrev pub found : List (PathValue × Entry) → List (PathValue × Entry)
  found es = map (λ (e : PathValue × Entry). (from_root root e.0, e.1)) (filter (λ (e : PathValue × Entry). lies_below root e.0) es)

  abbrev pub found_by : Bool → PathValue × Entry → List (PathValue × Entry) → List (PathValue × Entry)
  found_by b e es = map (λ (e : PathValue × Entry). (from_root root e.0, e.1)) (cond b (e ∷ filter (λ (e : PathValue × Entry). lies_below root e.0) es) (filter (λ (e : PathValue × Entry). lies_below root e.0) es))

  above : (p : PathValue) (x : Entry) → lies_below root p ≡ true → (es : List (PathValue × Entry)) → T (below_all path_cmp p es) → AllAbove key value (from_root root p, x) (found es)
  above p x h [] up = tt
  above p x h (e ∷ es) up = by (above p x h es (second _ _ up)) (lies_below root e.0) refl
    where
      by : AllAbove key value (from_root root p, x) (found es) → (b : Bool) → lies_below root e.0 ≡ b → AllAbove key value (from_root root p, x) (found_by b e es)
      by rest false low = rest
      by rest true low =
          let lesser : text_cmp (path_text (from_root root p)) (path_text (from_root root e.0)) ≡ Less =
          own_order root p e.0 h low ∙ text_order p e.0 (proper_below root p h) (proper_below root e.0 low) (less (path_cmp p e.0) (first _ _ up)) in
          (reversed (path_text (from_root root p)) (path_text (from_root root e.0)) lesser, lesser, rest)

  pub found_ascends : (es : List (PathValue × Entry)) → T (is_sorted path_cmp es) → Ascends key value (found es)
  found_ascends [] h = tt
  found_ascends (e ∷ es) h = by (found_ascends es (second _ _ h)) (lies_below root e.0) refl
    where
      by : Ascends key value (found es) → (b : Bool) → lies_below root e.0 ≡ b → Ascends key value (found_by b e es)
      by rest false low = rest
      by rest true low = (above e.0 e.1 low es (first _ _ h), rest)

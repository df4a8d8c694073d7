-- Below a root, paths are in the order of their texts from the root on.
use Rattle.std.proofs.Common.{◌≡◌, ℕ, Bool, true, false, List, [], ◌∷◌, ◌++◌, refl, ap, ap₂, sym, ◌∙◌, append_assoc}
use Rattle.std.specs.declared.cmp.Ordering.{Ordering}
use Rattle.std.specs.declared.cmp.Ordering.TheVariants.{Less, Equal, Greater}
use Rattle.std.specs.Cmp.{tied_itself, nat_cmp_total}
use Rattle.std.specs.Cmp.Lexicographic.{slice_cmp}
use Rattle.std.specs.FinMap.{nat_cmp-IsAntisymmetric, slice_cmp-IsAntisymmetric}
use Rattle.std.specs.List.{join_with_byte, list_all}
use Rattle.std.specs.Ordering.{nat_cmp, bool_cmp, on, ordering_then, then_cmp}
use Rattle.cluster_tree.specs.PathValue.{PathValue, below, is_part, path_cmp, path_of, path_text, text_of}
use Rattle.cluster_tree.proofs.OrderLemmas.{path_cmp_total}
use Rattle.cluster_tree.proofs.PartLemmas.{told_by_text}

-- what stands before the text from a root on
pub words_of : Bool → List (List ℕ) → List ℕ
words_of true [] = 47 ∷ []
words_of true (part ∷ parts) = 47 ∷ (join_with_byte 47 (part ∷ parts) ++ 47 ∷ [])
words_of false [] = []
words_of false (part ∷ parts) = join_with_byte 47 (part ∷ parts) ++ 47 ∷ []

regroup : (a b c : List ℕ) → a ++ 47 ∷ ((b ++ 47 ∷ []) ++ c) ≡ ((a ++ 47 ∷ b) ++ 47 ∷ []) ++ c
regroup a b c = simp append_assoc

joined_on : (part : List ℕ) (parts : List (List ℕ)) (next : List ℕ) (rest : List (List ℕ))
    → join_with_byte 47 (part ∷ parts ++ next ∷ rest) ≡ (join_with_byte 47 (part ∷ parts) ++ 47 ∷ []) ++ join_with_byte 47 (next ∷ rest)
joined_on part [] next rest = sym (append_assoc part (47 ∷ []) (join_with_byte 47 (next ∷ rest)))
joined_on part (more ∷ parts) next rest = ap (λ l. part ++ 47 ∷ l) (joined_on more parts next rest) ∙ regroup part (join_with_byte 47 (more ∷ parts)) (join_with_byte 47 (next ∷ rest))

-- the text below a root is one front and the text from there on
text_on : (absolute : Bool) (parts : List (List ℕ)) (next : List ℕ) (rest : List (List ℕ)) → text_of absolute (parts ++ next ∷ rest) ≡ words_of absolute parts ++ text_of false (next ∷ rest)
unfolding words_of
text_on true [] next rest = refl
text_on true (part ∷ parts) next rest = ap (λ l. 47 ∷ l) (joined_on part parts next rest)
text_on false [] next rest = refl
text_on false (part ∷ parts) next rest = joined_on part parts next rest

same_front : (xs a b : List ℕ) → slice_cmp nat_cmp (xs ++ a) (xs ++ b) ≡ slice_cmp nat_cmp a b
same_front [] a b = refl
same_front (x ∷ xs) a b = ap (λ o. ordering_then o (slice_cmp nat_cmp (xs ++ a) (xs ++ b))) (tied_itself nat_cmp_total x) ∙ same_front xs a b

-- so paths below a root are in the order of their texts from there on
pub below_order : (root : PathValue) (p q : List ℕ) (ps qs : List (List ℕ)) → slice_cmp nat_cmp (path_text (below root (p ∷ ps))) (path_text (below root (q ∷ qs))) ≡ slice_cmp nat_cmp (path_text (path_of false (p ∷ ps))) (path_text (path_of false (q ∷ qs)))
below_order root p q ps qs =
    ap₂ (slice_cmp nat_cmp) (text_on root.absolute root.parts p ps) (text_on root.absolute root.parts q qs)
    ∙ same_front (words_of root.absolute root.parts) (text_of false (p ∷ ps)) (text_of false (q ∷ qs))

greater_then : (o r : Ordering) → o ≡ Greater → ordering_then o r ≡ Less → ⊥
greater_then Less r g l = absurd (let no_way : Less ≡ Greater = g in cc)
greater_then Equal r g l = absurd (let no_way : Equal ≡ Greater = g in cc)
greater_then Greater r g l = absurd (let no_way : Greater ≡ Less = l in cc)

not_itself : (p : PathValue) → path_cmp p p ≡ Less → ⊥
not_itself p h = let tie : path_cmp p p ≡ Equal = tied_itself path_cmp_total p in absurd (let no_way : Less ≡ Equal = sym h ∙ tie in cc)

rest_cmp : PathValue → PathValue → Ordering
rest_cmp = then_cmp (on (λ p. p.parts) (slice_cmp (slice_cmp nat_cmp))) (on (λ p. p.absolute) bool_cmp)

-- of paths of proper parts the lesser one has the lesser text
pub text_order : (p q : PathValue) → list_all is_part p.parts ≡ true → list_all is_part q.parts ≡ true → path_cmp p q ≡ Less → slice_cmp nat_cmp (path_text p) (path_text q) ≡ Less
unfolding rest_cmp
text_order p q h k less = by (slice_cmp nat_cmp (path_text p) (path_text q)) refl
  where
    by : (o : Ordering) → slice_cmp nat_cmp (path_text p) (path_text q) ≡ o → o ≡ Less
    by Less e = refl
    by Equal e =
        let same : p ≡ q = told_by_text p q h k (slice_cmp-IsAntisymmetric nat_cmp-IsAntisymmetric (path_text p) (path_text q) e) in
        absurd (not_itself q (ap (λ x. path_cmp x q) (sym same) ∙ less))
    by Greater e = absurd (greater_then (slice_cmp nat_cmp (path_text p) (path_text q)) (rest_cmp p q) e less)

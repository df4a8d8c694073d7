-- The parts of a path joined as a way.
use Rattle.std.proofs.Common.{◌≡◌, ℕ, ◌+◌, ◌<◌, ◌≤◌, List, [], ◌∷◌, ◌++◌, length, Some, slice_get, slice_range, refl, sym, ap, ◌∙◌, arith}
use Rattle.std.proofs.lemmas.List.Edits.{between_more, length-between}
use Rattle.std.proofs.lemmas.Option.{slice_get_within, get_or_from_slice_get}
use Rattle.std.specs.List.{join_with_byte}
use Rattle.cluster_tree.proofs.TextLemmas.{join_with_byte-more}

-- one part more
one_more : (parts : List (List ℕ)) (first at : ℕ) (part : List ℕ) → slice_get parts at ≡ Some part → first ≤ at
    → slice_range parts first (at + 1) ≡ slice_range parts first at ++ part ∷ []
one_more parts first at part is le =
    between_more parts first at part le (slice_get_within parts at part is)
    ∙ ap (λ x. slice_range parts first at ++ x ∷ []) (get_or_from_slice_get parts at part part is)

joined_more : (parts : List (List ℕ)) (part : List ℕ) → 0 < length parts → join_with_byte 47 (parts ++ part ∷ []) ≡ join_with_byte 47 parts ++ 47 ∷ part
joined_more [] part some = absurd (omega (arith, some))
joined_more (x ∷ parts) part some = join_with_byte-more 47 x parts part

joined_first : (parts : List (List ℕ)) (part : List ℕ) → length parts ≡ 0 → join_with_byte 47 (parts ++ part ∷ []) ≡ part
joined_first [] part none = refl
joined_first (x ∷ parts) part none = absurd (omega (arith, none))

empty_of : (parts : List (List ℕ)) → length parts ≡ 0 → parts ≡ []
empty_of [] none = refl
empty_of (x ∷ parts) none = absurd (omega (arith, none))

-- a part behind others, behind a slash
pub next_part : (old new : List ℕ) (parts : List (List ℕ)) (first at : ℕ) (part : List ℕ) → slice_get parts at ≡ Some part → first < at
    → old ≡ join_with_byte 47 (slice_range parts first at) → new ≡ old ++ 47 ∷ part → new ≡ join_with_byte 47 (slice_range parts first (at + 1))
next_part old new parts first at part is lt front added =
    let within = slice_get_within parts at part is in
    let some : 0 < length (slice_range parts first at) = omega (arith, length-between parts first at (omega arith)) in
    let more = ap (join_with_byte 47) (one_more parts first at part is (omega arith)) ∙ joined_more (slice_range parts first at) part some in
    added ∙ ap (λ x. x ++ 47 ∷ part) front ∙ sym more

-- and the first one
pub first_part : (old new : List ℕ) (parts : List (List ℕ)) (first at : ℕ) (part : List ℕ) → slice_get parts at ≡ Some part → first ≤ at → at ≤ first
    → old ≡ join_with_byte 47 (slice_range parts first at) → new ≡ old ++ part → new ≡ join_with_byte 47 (slice_range parts first (at + 1))
first_part old new parts first at part is le ge front added =
    let within = slice_get_within parts at part is in
    let none : length (slice_range parts first at) ≡ 0 = omega (arith, length-between parts first at (omega arith)) in
    let more = ap (join_with_byte 47) (one_more parts first at part is le) ∙ joined_first (slice_range parts first at) part none in
    added ∙ ap (λ x. x ++ part) (front ∙ ap (join_with_byte 47) (empty_of (slice_range parts first at) none)) ∙ sym more

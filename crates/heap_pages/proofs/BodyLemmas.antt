-- The bytes of an UPDATE's new tuple.
use Rattle.std.proofs.Common.{◌≡◌, ℕ, ◌+◌, ◌≤◌, List, ◌++◌, length, take, ◌∙◌, ap, arith}
use Rattle.std.proofs.lemmas.List.{length-append}
use Rattle.layout.specs.Splice.{splice}
use Rattle.layout.proofs.SpliceLemmas.{splice-splice}
use Rattle.heap_pages.proofs.NewTupleLemmas.{front_is}

pub four_lengths : (a b c d : List ℕ) → length (a ++ b ++ c ++ d) ≡ length a + length b + length c + length d
four_lengths a b c d = omega (arith, length-append (a ++ b ++ c) d, length-append (a ++ b) c, length-append a b)

pub four_fronts : (z a b c d : List ℕ) → length a + length b + length c + length d ≤ length z
    → take (length a + length b + length c + length d) (splice (splice (splice (splice z 0 a) (length a) b) (length a + length b) c) (length a + length b + length c) d) ≡ a ++ b ++ c ++ d
four_fronts z a b c d fits =
    let ab = length-append a b in
    let abc = length-append (a ++ b) c in
    let one = splice-splice z 0 a b (length a) (omega arith) (omega (arith, fits)) in
    let two = splice-splice z 0 (a ++ b) c (length a + length b) (omega (arith, ab)) (omega (arith, fits)) in
    let three = splice-splice z 0 (a ++ b ++ c) d (length a + length b + length c) (omega (arith, ab, abc)) (omega (arith, fits)) in
    ap (λ x. take (length a + length b + length c + length d) (splice (splice x (length a + length b) c) (length a + length b + length c) d)) one
    ∙ ap (λ x. take (length a + length b + length c + length d) (splice x (length a + length b + length c) d)) two
    ∙ ap (take (length a + length b + length c + length d)) three
    ∙ front_is z (a ++ b ++ c ++ d) (length a + length b + length c + length d) (four_lengths a b c d)

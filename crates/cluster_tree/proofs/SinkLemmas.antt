-- Texts that were added to a sink, whole or in part.
use Rattle.std.proofs.Common.{◌≡◌, ℕ, ◌+◌, ◌-◌, min, List, [], ◌++◌, length, take, ap, sym, ◌∙◌, subst, arith, append-nil, append_assoc}
use Rattle.std.proofs.lemmas.Grind.{common_steps}
use Rattle.std.proofs.Math.Seq.{take-append-add}
use Rattle.cluster_tree.specs.Sink.{AddsPart}

added : {A : Type 0} (old text : List A) → old ++ text ≡ old ++ take (length (old ++ text) - length old) text
added old text = grind (arith, common_steps)

-- the whole text is a part
pub whole-is_part : {A : Type 0} (text old new : List A) → new ≡ old ++ text → AddsPart text old new
whole-is_part {A = A} text old new is = let P : List A → Type 0 = λ l. l ≡ old ++ take (length l - length old) text in subst P (sym is) (added old text)

nothing : {A : Type 0} (old text : List A) → old ≡ old ++ take (length old - length old) text
nothing old text = grind (arith, common_steps)

-- so is nothing
pub none-is_part : {A : Type 0} (text old new : List A) → new ≡ old → AddsPart text old new
none-is_part {A = A} text old new is = let P : List A → Type 0 = λ l. l ≡ old ++ take (length l - length old) text in subst P (sym is) (nothing old text)

pub adds_none : {A : Type 0} (old : List A) → old ≡ old ++ []
adds_none old = sym (append-nil old)

take_again : {A : Type 0} (n : ℕ) (old text : List A) → old ++ take n text ≡ old ++ take (length (old ++ take n text) - length old) text
take_again n old text = grind (arith, common_steps)

-- some first bytes of a text are a part of it
pub taken-is_part : {A : Type 0} (n : ℕ) (text old new : List A) → new ≡ old ++ take n text → AddsPart text old new
taken-is_part {A = A} n text old new is = let P : List A → Type 0 = λ l. l ≡ old ++ take (length l - length old) text in subst P (sym is) (take_again n old text)

shorter : {A : Type 0} (n : ℕ) (first second : List A) → take n first ≡ take (min n (length first)) (first ++ second)
shorter n first second = grind (arith, common_steps)

-- a part of the first text is a part of both
pub part-of_first : {A : Type 0} (first second old new : List A) → AddsPart first old new → AddsPart (first ++ second) old new
part-of_first first second old new is =
    let n : ℕ = length new - length old in
    taken-is_part (min n (length first)) (first ++ second) old new (is ∙ ap (λ l. old ++ l) (shorter n first second))

longer : {A : Type 0} (n : ℕ) (first second : List A) → first ++ take n second ≡ take (length first + n) (first ++ second)
longer n first second = sym (take-append-add first second n)

-- a part of the second text behind the first
pub part-of_second : {A : Type 0} (first second old between new : List A) → between ≡ old ++ first → AddsPart second between new → AddsPart (first ++ second) old new
part-of_second first second old between new first_is is =
    let n : ℕ = length new - length between in
    taken-is_part (length first + n) (first ++ second) old new
    (is ∙ ap (λ l. l ++ take n second) first_is ∙ append_assoc old first (take n second) ∙ ap (λ l. old ++ l) (longer n first second))

extends_put : {A : Type 0} (old text : List A) → take (length old) (old ++ text) ≡ old
extends_put old text = grind (arith, common_steps)

-- what was added to leaves what stood there
pub begins_as : {A : Type 0} (text old new : List A) → new ≡ old ++ text → take (length old) new ≡ old
begins_as text old new is = ap (take (length old)) is ∙ extends_put old text

pub ruleset part_steps = (whole-is_part, none-is_part, adds_none, part-of_first, part-of_second, begins_as)

pub ruleset sink_steps = (whole-is_part, none-is_part, adds_none)

-- A file that is written in place: the bytes past its end are added, and then the others are laid over it.
use Rattle.std.proofs.Common.{◌≡◌, ◌<◌, ◌≤◌, ℕ, ◌+◌, ◌-◌, min, true, false, nat_lt, List, ◌++◌, length, take, drop, refl, ap, sym, ◌∙◌, append_assoc, arith, rules}
use Rattle.std.proofs.Math.Seq.{drop-append_seam}
use Rattle.std.proofs.lemmas.List.{append-nil, take_all, drop_all, take-append-le, take-append-drop, length-take-le}
use Rattle.layout.specs.Splice.{splice}

within : (old bytes : List ℕ) (at w : ℕ) → length bytes ≤ w → splice (old ++ drop w bytes) at (take w bytes) ≡ splice old at bytes
within old bytes at w l =
    ap (λ r. splice (old ++ r) at (take w bytes)) (drop_all w bytes l) ∙ ap (λ o. splice o at (take w bytes)) (append-nil old) ∙ ap (splice old at) (take_all w bytes l)

past : (old bytes : List ℕ) (at w : ℕ) → at ≤ length old → at + w ≡ length old → w ≤ length bytes → splice (old ++ drop w bytes) at (take w bytes) ≡ splice old at bytes
unfolding splice
past old bytes at w l e m =
    let more = drop w bytes in
    let size : at + length (take w bytes) ≡ length old = ap (λ k. at + k) (length-take-le w bytes m) ∙ e in
    ap (λ x. x ++ take w bytes ++ drop (at + length (take w bytes)) (old ++ more)) (take-append-le at old more l)
    ∙ ap (λ k. take at old ++ take w bytes ++ drop k (old ++ more)) size
    ∙ ap (λ x. take at old ++ take w bytes ++ x) (drop-append_seam old more)
    ∙ append_assoc (take at old) (take w bytes) more
    ∙ ap (λ x. take at old ++ x) (take-append-drop w bytes)
    ∙ sym (ap (λ x. take at old ++ bytes ++ x) (drop_all (at + length bytes) old (omega (arith, e, m))) ∙ append-nil (take at old ++ bytes))

not_less : (n k : ℕ) → nat_lt n k ≡ false → k ≤ n
not_less n k e = grind (arith, rules, e)

less : (n k : ℕ) → nat_lt n k ≡ true → n < k
less n k e = grind (arith, rules, e)

splice-in_place : (old bytes : List ℕ) (at w : ℕ) → at ≤ length old → w ≡ min (length bytes) (length old - at) → splice (old ++ drop w bytes) at (take w bytes) ≡ splice old at bytes
splice-in_place old bytes at w l e =
    elim (nat_lt w (length bytes)) as (λ b. nat_lt w (length bytes) ≡ b → splice (old ++ drop w bytes) at (take w bytes) ≡ splice old at bytes) [
      | true ↦ λ t. let m = less _ _ t in past old bytes at w l (omega (arith, l, e, m)) (omega (arith, m))
      | false ↦ λ f. within old bytes at w (not_less _ _ f)
    ] refl

-- the file as its slice leaves it
pub laid : (old bytes items into : List ℕ) (len at w : ℕ) → items ≡ old ++ drop w bytes → length items ≡ len → into ≡ splice items at (take w bytes) → length into ≡ len
    → w ≡ min (length bytes) (length old - at) → at ≤ length old → take len (into ++ drop (length into) items) ≡ splice old at bytes
laid old bytes items into len at w more size over same e l =
    ap (λ x. take len (into ++ x)) (drop_all (length into) items (omega (arith, size, same)))
    ∙ ap (take len) (append-nil into)
    ∙ take_all len into (omega (arith, same))
    ∙ over
    ∙ ap (λ x. splice x at (take w bytes)) more
    ∙ splice-in_place old bytes at w l e

-- The bytes of a text.
use Rattle.std.proofs.Common.{◌≡◌, ℕ, zero, suc, ◌+◌, ◌<◌, ◌/◌, Bool, true, false, cond, ltb, List, [], ◌∷◌, ◌++◌, refl, subst, arith}
use Rattle.std.proofs.lemmas.Bool.{and_parts}
use Rattle.std.proofs.lemmas.Bool.Decides.{nat_tests}
use Rattle.std.specs.Str.{IsUtf8}
use Rattle.hex.specs.Hex.{IsBytes}
use lib.Utf8.{encode, encodes, next, scalar, scalars}

none : IsBytes []
none i = omega arith

one_more : (b : ℕ) (bytes : List ℕ) → b < 256 → IsBytes bytes → IsBytes (b ∷ bytes)
one_more b bytes small h zero = small
one_more b bytes small h (suc i) = h i

joined : (xs ys : List ℕ) → IsBytes xs → IsBytes ys → IsBytes (xs ++ ys)
joined [] ys h k = k
joined (x ∷ xs) ys h k = one_more x (xs ++ ys) (h 0) (joined xs ys (λ i. h (suc i)) k)

chosen : (b : Bool) (xs ys : List ℕ) → (b ≡ true → IsBytes xs) → (b ≡ false → IsBytes ys) → IsBytes (cond b xs ys)
chosen true xs ys h k = h refl
chosen false xs ys h k = k refl

low : (c n : ℕ) → ltb c n ≡ true → c < n
low c n h = grind (arith, nat_tests)

char_bytes : (c : ℕ) → c < 1114112 → IsBytes (encode c)
unfolding encode
char_bytes c small =
    chosen (ltb c 128) (c ∷ []) _ (λ e. one_more c [] (omega (arith, low c 128 e)) none)
    (λ e. chosen (ltb c 2048) ((192 + c / 64) ∷ next c ∷ []) _
    (λ f. one_more (192 + c / 64) (next c ∷ []) (omega (arith, low c 2048 f)) (one_more (next c) [] (omega arith) none))
    (λ f. chosen (ltb c 65536) ((224 + c / 4096) ∷ next (c / 64) ∷ next c ∷ []) _
    (λ g. one_more (224 + c / 4096) (next (c / 64) ∷ next c ∷ []) (omega (arith, low c 65536 g)) (one_more (next (c / 64)) (next c ∷ []) (omega arith) (one_more (next c) [] (omega arith) none)))
    (λ g. one_more (240 + c / 262144) (next (c / 4096) ∷ next (c / 64) ∷ next c ∷ []) (omega (arith, small))
    (one_more (next (c / 4096)) (next (c / 64) ∷ next c ∷ []) (omega arith) (one_more (next (c / 64)) (next c ∷ []) (omega arith) (one_more (next c) [] (omega arith) none))))))

scalar_small : (c : ℕ) → scalar c ≡ true → c < 1114112
scalar_small c h = grind (arith, nat_tests)

chars_bytes : (cs : List ℕ) → scalars cs ≡ true → IsBytes (encodes cs)
chars_bytes [] h = none
chars_bytes (c ∷ cs) h = let e = and_parts (scalar c) (scalars cs) h in joined (encode c) (encodes cs) (char_bytes c (scalar_small c e.0)) (chars_bytes cs e.1)

pub utf8_bytes : (text : List ℕ) → IsUtf8 text → IsBytes text
utf8_bytes text h = let P = IsBytes in subst P h.1.1 (chars_bytes h.0 h.1.0)

-- Lists of texts, compared by `==` and joined.
use Rattle.std.proofs.Common.{◌≡◌, ℕ, ◌+◌, ◌<◌, true, List, [], ◌∷◌, ◌++◌, length, map, take, get_or, string_bytes, bytes_eq, refl, ap, sym, ◌∙◌, String, ◌&&◌, append_assoc, add-one}
use Rattle.std.proofs.Math.Seq.{take-suc}
use Rattle.std.proofs.lemmas.List.{map-append}
use Rattle.std.specs.List.{join_with_byte}
use Rattle.std.specs.Cmp.Lexicographic.{pointwise, pointwise_decides, bytes_decides}
use Rattle.std.specs.String.{string_eq}

texts_pointwise : {Z : Type 0} (xs ys : List (String Z)) → pointwise string_eq xs ys ≡ pointwise bytes_eq (map string_bytes xs) (map string_bytes ys)
texts_pointwise [] [] = refl
texts_pointwise [] (y ∷ ys) = refl
texts_pointwise (x ∷ xs) [] = refl
texts_pointwise (x ∷ xs) (y ∷ ys) = ap (λ b. bytes_eq (string_bytes x) (string_bytes y) && b) (texts_pointwise xs ys)

pub texts_same : {Z : Type 0} (xs ys : List (String Z)) → pointwise string_eq xs ys ≡ true → map string_bytes xs ≡ map string_bytes ys
texts_same xs ys e = (pointwise_decides bytes_decides _ _).0 (sym (texts_pointwise xs ys) ∙ e)

pub same_texts : {Z : Type 0} (xs ys : List (String Z)) → map string_bytes xs ≡ map string_bytes ys → pointwise string_eq xs ys ≡ true
same_texts xs ys e = texts_pointwise xs ys ∙ (pointwise_decides bytes_decides _ _).1 e

-- one part more is joined by one slash more
pub join_with_byte-more : (c : ℕ) (x : List ℕ) (xs : List (List ℕ)) (y : List ℕ) → join_with_byte c (x ∷ xs ++ y ∷ []) ≡ join_with_byte c (x ∷ xs) ++ c ∷ y
join_with_byte-more c x [] y = refl
join_with_byte-more c x (z ∷ xs) y = ap (λ l. x ++ c ∷ l) (join_with_byte-more c z xs y) ∙ sym (append_assoc x (c ∷ join_with_byte c (z ∷ xs)) (c ∷ y))

-- the first texts of a list, and the next one
pub joined-next : {Z : Type 0} (x : List ℕ) (xs : List (String Z)) (i : ℕ) (d : String Z) → i < length xs
    → join_with_byte 47 (x ∷ map string_bytes (take i xs)) ++ 47 ∷ string_bytes (get_or xs i d) ≡ join_with_byte 47 (x ∷ map string_bytes (take (i + 1) xs))
joined-next x xs i d l = sym (
    rw (add-one, take-suc xs i d l)
    (ap (λ ys. join_with_byte 47 (x ∷ ys)) (map-append string_bytes (take i xs) (get_or xs i d ∷ []))
    ∙ join_with_byte-more 47 x (map string_bytes (take i xs)) (string_bytes (get_or xs i d))))

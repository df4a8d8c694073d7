-- Lines and their words, cut again where they were joined.
use Rattle.std.proofs.Common.{◌≡◌, ℕ, map, drop, slice_range, sym, ◌<◌, ◌≤◌, ◌==◌, Bool, true, false, not, nat_lt, List, [], ◌∷◌, ◌++◌, length, Option, Some, Ok, refl, ap, ◌∙◌, arith, append_assoc}
use Rattle.std.proofs.lemmas.Bool.{and_parts}
use Rattle.std.proofs.lemmas.Bool.Decides.{nat_tests}
use Rattle.std.proofs.lemmas.List.Folds.{list_all-append}
use Rattle.std.proofs.lemmas.List.Splits.{length-slice_split, slice_split-cons_no, slice_split-cons_yes}
use Rattle.std.proofs.lemmas.List.{drop-map}
use Rattle.std.proofs.lemmas.Slice.{between_to_end}
use Rattle.std.specs.List.{join_with_byte, list_all, onto_first, slice_split}
use Rattle.wal_base.proofs.HexDigits.{and_both}
use Rattle.mark_lines.specs.Words.{line, words_of}
use Rattle.mark_lines.specs.Lines.{first_line, or_at, pieces_of, said_first}

-- no such byte
abbrev pub free : ℕ → ℕ → Bool
free c byte = not (byte == c)

-- neither a space nor a newline, which stand below all digits
abbrev pub is_plain : ℕ → Bool
is_plain byte = nat_lt 32 byte

abbrev pub are_plain : List (List ℕ) → Bool
are_plain words = list_all (list_all is_plain) words

pub not_true : (b : Bool) → not b ≡ true → b ≡ false
not_true true h = absurd cc
not_true false h = refl

pub cut_at : (c : ℕ) (xs ys : List ℕ) → list_all (free c) xs ≡ true → slice_split (λ b. b == c) (xs ++ c ∷ ys) ≡ xs ∷ slice_split (λ b. b == c) ys
cut_at c [] ys h = let same : (c == c) ≡ true = grind (arith, nat_tests) in slice_split-cons_yes (λ b. b == c) c ys same
cut_at c (x ∷ xs) ys h =
    let e = and_parts (free c x) (list_all (free c) xs) h in
    slice_split-cons_no (λ b. b == c) x (xs ++ c ∷ ys) (not_true (x == c) e.0) ∙ ap (onto_first x) (cut_at c xs ys e.1)

pub uncut : (c : ℕ) (xs : List ℕ) → list_all (free c) xs ≡ true → slice_split (λ b. b == c) xs ≡ xs ∷ []
uncut c [] h = refl
uncut c (x ∷ xs) h =
    let e = and_parts (free c x) (list_all (free c) xs) h in
    slice_split-cons_no (λ b. b == c) x xs (not_true (x == c) e.0) ∙ ap (onto_first x) (uncut c xs e.1)

free_of : (c x : ℕ) → c ≤ 32 → is_plain x ≡ true → free c x ≡ true
free_of c x low h = grind (arith, nat_tests)

all_free : (c : ℕ) (xs : List ℕ) → c ≤ 32 → list_all is_plain xs ≡ true → list_all (free c) xs ≡ true
all_free c [] low h = refl
all_free c (x ∷ xs) low h =
    let e = and_parts (is_plain x) (list_all is_plain xs) h in
    and_both (free c x) (list_all (free c) xs) (free_of c x low e.0) (all_free c xs low e.1)

-- the words of a line
pub words_back : (words : List (List ℕ)) → 0 < length words → are_plain words ≡ true → words_of (join_with_byte 32 words) ≡ words
words_back [] some h = absurd (omega (arith, some))
words_back (word ∷ []) some h = uncut 32 word (all_free 32 word (omega arith) (and_parts (list_all is_plain word) true h).0)
words_back (word ∷ next ∷ words) some h =
    let e = and_parts (list_all is_plain word) (are_plain (next ∷ words)) h in
    cut_at 32 word (join_with_byte 32 (next ∷ words)) (all_free 32 word (omega arith) e.0) ∙ ap (λ l. word ∷ l) (words_back (next ∷ words) (omega arith) e.1)

-- which has no newline
line_free : (words : List (List ℕ)) → are_plain words ≡ true → list_all (free 10) (join_with_byte 32 words) ≡ true
line_free [] h = refl
line_free (word ∷ []) h = all_free 10 word (omega arith) (and_parts (list_all is_plain word) true h).0
line_free (word ∷ next ∷ words) h =
    let e = and_parts (list_all is_plain word) (are_plain (next ∷ words)) h in
    list_all-append (free 10) word (32 ∷ join_with_byte 32 (next ∷ words))
    ∙ and_both (list_all (free 10) word) (list_all (free 10) (join_with_byte 32 (next ∷ words))) (all_free 10 word (omega arith) e.0) (line_free (next ∷ words) e.1)

-- a line and what stands behind it
pub line_back : (words : List (List ℕ)) (rest : List ℕ) → are_plain words ≡ true → pieces_of (line words ++ rest) ≡ join_with_byte 32 words ∷ pieces_of rest
line_back words rest h = ap pieces_of (append_assoc (join_with_byte 32 words) (10 ∷ []) rest) ∙ cut_at 10 (join_with_byte 32 words) rest (line_free words h)

first_of : (piece : List ℕ) (pieces : List (List ℕ)) → 0 < length pieces → first_line (piece ∷ pieces) ≡ Some (piece, pieces)
first_of piece [] some = absurd (omega (arith, some))
first_of piece (next ∷ more) some = refl

pub first_back : (piece rest : List ℕ) → first_line (piece ∷ pieces_of rest) ≡ Some (piece, pieces_of rest)
first_back piece rest = let size = length-slice_split (λ byte. byte == 10) rest in first_of piece (pieces_of rest) (omega (arith, size))

-- what a line says that is of its form
pub said_line : {A : Type 0} (form : List (List ℕ) → Option A) (n : ℕ) (words : List (List ℕ)) (rest : List ℕ) (value : A)
    → 0 < length words → are_plain words ≡ true → form words ≡ Some value → said_first form n (pieces_of (line words ++ rest)) ≡ Ok (value, pieces_of rest)
said_line form n words rest value some plain is =
    ap (said_first form n) (line_back words rest plain)
    ∙ ap (λ f. or_at n f (λ cut. or_at n (form (words_of cut.0)) (λ v. Ok (v, cut.1)))) (first_back (join_with_byte 32 words) rest)
    ∙ ap (λ ws. or_at n (form ws) (λ v. Ok (v, pieces_of rest))) (words_back words some plain)
    ∙ ap (λ o. or_at n o (λ v. Ok (v, pieces_of rest))) is

-- what stands behind so many pieces
pub behind : {X : Type 0} (f : X → List ℕ) (pieces : List X) (k n : ℕ) → k ≡ n → map f (slice_range pieces k (length pieces)) ≡ drop n (map f pieces)
behind f pieces k n e = ap (map f) (between_to_end pieces k (length pieces) (omega arith)) ∙ sym (drop-map f k pieces) ∙ ap (λ m. drop m (map f pieces)) e

-- Folded pieces as lists: rows of them, and what their rows depend on.
use Rattle.std.proofs.Common.{◌≡◌, ℕ, zero, suc, ◌+◌, ◌≤◌, List, [], ◌∷◌, ◌++◌, bit_xor, take, drop, length, refl, sym, ap, ◌∙◌, arith, take-add, length-take-le}
use Rattle.std.proofs.lemmas.List.{take-append-le, take-take, drop-drop, drop-take, drop-append-le}
use Rattle.std.proofs.lemmas.Simd.{put_chunk_is, take_more_put_chunk, length-chunk, length-zip2}
use Rattle.std.proofs.Math.Nat.{add_comm}
use Rattle.std.proofs.Math.Seq.{drop-append-add, drop-append_seam}
use Rattle.std.specs.Simd.Lanes.{zip2}
use lib.Lanes.{chunk, put_chunk}
use Rattle.wal_base.specs.Folding.{folded}

zip2_none : {A B C : Type 0} (f : A → B → C) (xs : List A) → zip2 f xs [] ≡ []
zip2_none f [] = refl
zip2_none f (x ∷ xs) = refl

take-zip2 : {A B C : Type 0} (f : A → B → C) (n : ℕ) (xs : List A) (ys : List B) → take n (zip2 f xs ys) ≡ zip2 f (take n xs) (take n ys)
take-zip2 f zero xs ys = refl
take-zip2 f (suc n) [] ys = refl
take-zip2 f (suc n) (x ∷ xs) [] = refl
take-zip2 f (suc n) (x ∷ xs) (y ∷ ys) = ap (λ zs. f x y ∷ zs) (take-zip2 f n xs ys)

drop-zip2 : {A B C : Type 0} (f : A → B → C) (n : ℕ) (xs : List A) (ys : List B) → drop n (zip2 f xs ys) ≡ zip2 f (drop n xs) (drop n ys)
drop-zip2 f zero xs ys = refl
drop-zip2 f (suc n) [] ys = refl
drop-zip2 f (suc n) (x ∷ xs) [] = sym (zip2_none f (drop n xs))
drop-zip2 f (suc n) (x ∷ xs) (y ∷ ys) = drop-zip2 f n xs ys

abbrev pub six : List ℕ → List ℕ → List ℕ → List ℕ → List ℕ → List ℕ → List ℕ
six p a b c d e = zip2 bit_xor (zip2 bit_xor (zip2 bit_xor (zip2 bit_xor (zip2 bit_xor p a) b) c) d) e

pub six_length : (k : ℕ) (p a b c d e : List ℕ)
    → length p ≡ k → length a ≡ k → length b ≡ k → length c ≡ k → length d ≡ k → length e ≡ k → length (six p a b c d e) ≡ k
six_length k p a b c d e hp ha hb hc hd he =
    let pa : List ℕ = zip2 bit_xor p a in
    let pb : List ℕ = zip2 bit_xor pa b in
    let pc : List ℕ = zip2 bit_xor pb c in
    let pd : List ℕ = zip2 bit_xor pc d in
    let la : length pa ≡ k = length-zip2 bit_xor p a (hp ∙ sym ha) ∙ hp in
    let lb : length pb ≡ k = length-zip2 bit_xor pa b (la ∙ sym hb) ∙ la in
    let lc : length pc ≡ k = length-zip2 bit_xor pb c (lb ∙ sym hc) ∙ lb in
    let ld : length pd ≡ k = length-zip2 bit_xor pc d (lc ∙ sym hd) ∙ lc in
    length-zip2 bit_xor pd e (ld ∙ sym he) ∙ ld

take-six : (n : ℕ) (p a b c d e : List ℕ) → take n (six p a b c d e) ≡ six (take n p) (take n a) (take n b) (take n c) (take n d) (take n e)
take-six n p a b c d e = simp (take-zip2 bit_xor)

drop-six : (n : ℕ) (p a b c d e : List ℕ) → drop n (six p a b c d e) ≡ six (drop n p) (drop n a) (drop n b) (drop n c) (drop n d) (drop n e)
drop-six n p a b c d e = simp (drop-zip2 bit_xor)

-- what the first n places of a folded piece are
pub folded_front : (n : ℕ) (piece sums : List ℕ)
    → take n (folded piece sums)
    ≡ six (take n piece) (take n (drop 150 sums)) (take n (drop 127 sums)) (take n (drop 121 sums)) (take n (drop 46 sums)) (take n (drop 14 sums))
unfolding folded
folded_front n piece sums = take-six n piece (drop 150 sums) (drop 127 sums) (drop 121 sums) (drop 46 sums) (drop 14 sums)

later : (at d : ℕ) (sums : List ℕ) → take 16 (drop at (drop d sums)) ≡ chunk (at + d) 16 sums
later at d sums = ap (take 16) (drop-drop at d sums ∙ ap (λ i. drop i sums) (add_comm d at))

-- sixteen places of it
pub folded_row : (at : ℕ) (piece sums : List ℕ)
    → chunk at 16 (folded piece sums)
    ≡ six (chunk at 16 piece) (chunk (at + 150) 16 sums) (chunk (at + 127) 16 sums) (chunk (at + 121) 16 sums) (chunk (at + 46) 16 sums) (chunk (at + 14) 16 sums)
unfolding folded
folded_row at piece sums =
    ap (take 16) (drop-six at piece (drop 150 sums) (drop 127 sums) (drop 121 sums) (drop 46 sums) (drop 14 sums))
    ∙ take-six 16 (drop at piece) (drop at (drop 150 sums)) (drop at (drop 127 sums)) (drop at (drop 121 sums)) (drop at (drop 46 sums)) (drop at (drop 14 sums))
    ∙ rw (later at 150 sums, later at 127 sums, later at 121 sums, later at 46 sums, later at 14 sums) refl

pub row_length : (at : ℕ) (piece sums row : List ℕ) → at + 16 ≤ length piece → at + 320 ≤ length sums
    → row ≡ chunk at 16 (folded piece sums) → length row ≡ 16
row_length at piece sums row in_piece room is =
    ap length (is ∙ folded_row at piece sums)
    ∙ six_length 16 (chunk at 16 piece) (chunk (at + 150) 16 sums) (chunk (at + 127) 16 sums) (chunk (at + 121) 16 sums) (chunk (at + 46) 16 sums) (chunk (at + 14) 16 sums)
    (length-chunk at 16 piece in_piece) (length-chunk (at + 150) 16 sums (omega arith)) (length-chunk (at + 127) 16 sums (omega arith))
    (length-chunk (at + 121) 16 sums (omega arith)) (length-chunk (at + 46) 16 sums (omega arith)) (length-chunk (at + 14) 16 sums (omega arith))

-- the first places depend on sums that lie well before them
window : (n d m : ℕ) (xs ys : List ℕ) → take m xs ≡ take m ys → d + n ≤ m → take n (drop d xs) ≡ take n (drop d ys)
window n d m xs ys same le =
    sym (drop-take d n xs)
    ∙ ap (drop d) (sym (take-take (d + n) m xs le) ∙ ap (take (d + n)) same ∙ take-take (d + n) m ys le)
    ∙ drop-take d n ys

pub folded_same : (n m : ℕ) (piece xs ys : List ℕ) → take m xs ≡ take m ys → n + 150 ≤ m → take n (folded piece xs) ≡ take n (folded piece ys)
folded_same n m piece xs ys same le =
    folded_front n piece xs
    ∙ rw (window n 150 m xs ys same (omega arith), window n 127 m xs ys same (omega arith), window n 121 m xs ys same (omega arith), window n 46 m xs ys same (omega arith), window n 14 m xs ys same (omega arith))
    (sym (folded_front n piece ys))

-- a store leaves what stands before it, and after it
pub before_stored : (n i : ℕ) (xs ys : List ℕ) → n ≤ i → i + length ys ≤ length xs → take n (put_chunk i xs ys) ≡ take n xs
before_stored n i xs ys le room =
    ap (take n) (put_chunk_is i xs ys room)
    ∙ take-append-le n (take i xs) (ys ++ drop (length ys) (drop i xs)) (omega (arith, length-take-le i xs (omega arith)))
    ∙ take-take n i xs le

pub after_stored : (i n : ℕ) (xs ys old : List ℕ) → length ys ≡ n → i + n ≤ length xs → drop i xs ≡ drop i old
    → drop (i + n) (put_chunk i xs ys) ≡ drop (i + n) old
after_stored i n xs ys old long room same =
    let front : List ℕ = take i xs in
    let back : List ℕ = drop (length ys) (drop i xs) in
    let fits : i + length ys ≤ length xs = omega arith in
    let far : i + n ≡ length front + length ys = omega (arith, length-take-le i xs (omega arith)) in
    ap (drop (i + n)) (put_chunk_is i xs ys fits)
    ∙ ap (λ k. drop k (front ++ (ys ++ back))) far
    ∙ drop-append-add front (ys ++ back) (length ys)
    ∙ drop-append_seam ys back
    ∙ ap (λ k. drop k (drop i xs)) long
    ∙ ap (drop n) same
    ∙ drop-drop n i old

-- a row that is stored behind those before it
pub row_stored : (at : ℕ) (piece sums row : List ℕ) → length row ≡ 16 → at + 320 ≤ length sums
    → row ≡ chunk at 16 (folded piece sums)
    → take at (drop 304 sums) ≡ take at (folded piece sums)
    → take (at + 16) (drop 304 (put_chunk (at + 304) sums row)) ≡ take (at + 16) (folded piece (put_chunk (at + 304) sums row))
row_stored at piece sums row long room is before =
    let after : List ℕ = put_chunk (at + 304) sums row in
    let whole : take (304 + (at + 16)) after ≡ take (at + 304) sums ++ row =
    take_more_put_chunk (at + 304) sums row (304 + (at + 16)) (omega (arith, long)) (omega (arith, room)) in
    let front : List ℕ = take (at + 304) sums in
    let front_long : 304 ≤ length front = omega (arith, length-take-le (at + 304) sums (omega (arith, room))) in
    let earlier : drop 304 front ≡ take at (drop 304 sums) = ap (λ n. drop 304 (take n sums)) (add_comm at 304) ∙ drop-take 304 at sums in
    let same : take (at + 304) after ≡ take (at + 304) sums = before_stored (at + 304) (at + 304) sums row (omega arith) (omega (arith, long)) in
    sym (drop-take 304 (at + 16) after)
    ∙ ap (drop 304) whole
    ∙ drop-append-le 304 front row front_long
    ∙ ap (λ xs. xs ++ row) (earlier ∙ before)
    ∙ ap (λ xs. take at (folded piece sums) ++ xs) is
    ∙ sym (take-add at 16 (folded piece sums))
    ∙ sym (folded_same (at + 16) (at + 304) piece after sums same (omega arith))

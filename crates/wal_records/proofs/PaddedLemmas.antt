-- Bytes that go on in zeros, and what is cut out of them.
use Rattle.std.proofs.Common.{◌≡◌, ℕ, ◌+◌, ◌-◌, ◌≤◌, ◌++◌, List, take, drop, length, replicate, sym, ap, ◌∙◌, append_assoc, arith, inl, inr, length-append, length-drop, length-take}
use Rattle.std.proofs.Math.Seq.{drop-append-add, take-add}
use Rattle.std.proofs.lemmas.Bool.{cases_lt}
use Rattle.std.proofs.lemmas.List.{drop_all, drop-drop, drop-take, drop-append-le, drop-replicate, take_at, take-append-le, length-replicate, replicate-append-replicate}

drop_padded : (b : List ℕ) (i n : ℕ) → drop i (b ++ replicate n 0) ≡ drop i b ++ replicate (n - (i - length b)) 0
drop_padded b i n =
    elim (cases_lt (length b) i) [
      | inl past ↦
          let split : i ≡ length b + (i - length b) = omega (arith, past) in
          ap (λ (k : ℕ). drop k (b ++ replicate n 0)) split ∙ drop-append-add b (replicate n 0) (i - length b) ∙ drop-replicate (i - length b) n 0
          ∙ ap (λ (t : List ℕ). t ++ replicate (n - (i - length b)) 0) (sym (drop_all i b (omega (arith, past))))
      | inr within ↦
          let all : n ≡ n - (i - length b) = omega (arith, within) in
          drop-append-le i b (replicate n 0) within ∙ ap (λ (k : ℕ). drop i b ++ replicate k 0) all
    ]

pub length_padded : (b : List ℕ) (n : ℕ) → length (b ++ replicate n 0) ≡ length b + n
length_padded b n = length-append b (replicate n 0) ∙ ap (λ (k : ℕ). length b + k) (length-replicate {A = ℕ} n 0)

take_padded : (b : List ℕ) (n m : ℕ) → n ≤ m → take n (b ++ replicate m 0) ≡ take n (b ++ replicate n 0)
take_padded b n m h =
    let split : m ≡ n + (m - n) = omega (arith, h) in
    ap (λ (k : ℕ). take n (b ++ replicate k 0)) split
    ∙ ap (λ (t : List ℕ). take n (b ++ t)) (sym (replicate-append-replicate {A = ℕ} n (m - n) 0))
    ∙ ap (take n) (sym (append_assoc b (replicate n 0) (replicate (m - n) 0)))
    ∙ take-append-le n (b ++ replicate n 0) (replicate (m - n) 0) (omega (arith, length_padded b n))

-- more zeros behind the bytes change nothing
pub padded_more : (b : List ℕ) (i z n : ℕ) → take n (drop i (b ++ replicate z 0) ++ replicate n 0) ≡ take n (drop i b ++ replicate n 0)
padded_more b i z n =
    let left : ℕ = z - (i - length b) in
    ap (λ (t : List ℕ). take n (t ++ replicate n 0)) (drop_padded b i z)
    ∙ ap (take n) (append_assoc (drop i b) (replicate left 0) (replicate n 0) ∙ ap (λ (t : List ℕ). drop i b ++ t) (replicate-append-replicate {A = ℕ} left n 0))
    ∙ take_padded (drop i b) n (left + n) (omega arith)

take_less : (n m : ℕ) (l : List ℕ) → n ≤ m → n ≤ length l → take n (take m l) ≡ take n l
take_less n m l h long =
    let split : m ≡ n + (m - n) = omega (arith, h) in
    ap (λ (k : ℕ). take n (take k l)) split ∙ ap (take n) (take-add n (m - n) l)
    ∙ take_at (take n l) (take (m - n) (drop n l)) n (length-take n l ∙ omega (arith, long))

-- A part of so many bytes, cut out of a larger one.
pub part_of_part : (b : List ℕ) (from offset n size : ℕ) → offset + n ≤ size → take n (drop offset (take size (drop from b ++ replicate size 0))) ≡ take n (drop (from + offset) b ++ replicate n 0)
part_of_part b from offset n size fits =
    let x : List ℕ = drop from b ++ replicate size 0 in
    let split : size ≡ offset + (size - offset) = omega (arith, fits) in
    let left : ℕ = size - (offset - length (drop from b)) in
    ap (λ (k : ℕ). take n (drop offset (take k x))) split
    ∙ ap (take n) (drop-take offset (size - offset) x)
    ∙ take_less n (size - offset) (drop offset x) (omega (arith, fits)) (omega (arith, fits, length-drop offset x, length_padded (drop from b) size))
    ∙ ap (take n) (drop_padded (drop from b) offset size)
    ∙ take_padded (drop offset (drop from b)) n left (omega (arith, fits))
    ∙ ap (λ (t : List ℕ). take n (t ++ replicate n 0)) (drop-drop offset from b)

pub length_part : (b : List ℕ) (from size : ℕ) → length (take size (drop from b ++ replicate size 0)) ≡ size
length_part b from size = length-take size (drop from b ++ replicate size 0) ∙ omega (arith, length_padded (drop from b) size)

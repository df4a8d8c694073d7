-- Whole blocks of a file's bytes.
use Rattle.std.proofs.Common.{◌≡◌, ℕ, ◌+◌, ◌-◌, ◌*◌, ◌/◌, ◌<◌, ◌≤◌, ◌==◌, Bool, true, false, nat_lt, List, ◌++◌, length, take, drop, replicate, Option, None, Some, refl, ap, ap₂, sym, ◌∙◌, append-nil, append_assoc, arith}
use Rattle.std.specs.Prelude.{if◌then◌else◌}
use Rattle.std.proofs.lemmas.Grind.{common_steps}
use Rattle.std.proofs.lemmas.List.{take-append-drop, length-append, length-take, length-take-le, length-drop, length-replicate, take-append-le, drop-append-le, drop-take, take-replicate, drop-replicate}
use Rattle.std.proofs.Math.Seq.{take-append_seam, take-append-add, drop-append_seam, drop-append-add}
use Rattle.layout.specs.Splice.{splice}
use Rattle.file_edits.specs.Edits.{padded}
use Rattle.storage_replay.specs.Blocks.{block_laid, grown}
use Rattle.storage_laws.specs.After.{zeros_if}
use Rattle.storage_laws.specs.States.{whole_block}
use Rattle.storage_laws.proofs.NumberLemmas.{by_order, lt-yes, lt-no, eq-yes, eq-no, eq-no_more}

-- a block is whole, or not

pub whole-there : (p : ℕ) (xs : List ℕ) → p * 8192 + 8192 ≤ length xs → whole_block p xs ≡ Some (take 8192 (drop (p * 8192) xs))
whole-there p xs l = ap (λ t. if t then Some (take 8192 (drop (p * 8192) xs)) else None) (lt-yes p (length xs / 8192) (omega arith))

pub whole-none : (p : ℕ) (xs : List ℕ) → length xs < p * 8192 + 8192 → whole_block p xs ≡ None
whole-none p xs l = ap (λ t. if t then Some (take 8192 (drop (p * 8192) xs)) else None) (lt-no p (length xs / 8192) (omega arith))

-- of the first blocks of a file, and of those behind

fewer : (n m : ℕ) (xs : List ℕ) → n ≤ m → take n (take m xs) ≡ take n xs
fewer n m xs l = grind (arith, common_steps)

window_front : (a n : ℕ) (xs : List ℕ) → a + 8192 ≤ n → take 8192 (drop a (take n xs)) ≡ take 8192 (drop a xs)
window_front a n xs l =
    let sum : n ≡ a + (n - a) = omega arith in
    ap (λ m. take 8192 (drop a (take m xs))) sum
    ∙ ap (take 8192) (drop-take a (n - a) xs)
    ∙ fewer 8192 (n - a) (drop a xs) (omega arith)

pub whole-taken : (p q : ℕ) (xs : List ℕ) → p < q → whole_block p (take (q * 8192) xs) ≡ whole_block p xs
whole-taken p q xs l = by_order (length xs) (p * 8192 + 8192)
    (λ few. whole-none p (take (q * 8192) xs) (omega (arith, few, length-take (q * 8192) xs)) ∙ sym (whole-none p xs few))
    (λ many.
    whole-there p (take (q * 8192) xs) (omega (arith, many, l, length-take (q * 8192) xs))
    ∙ ap (λ ys. Some ys) (window_front (p * 8192) (q * 8192) xs (omega arith))
    ∙ sym (whole-there p xs many))

pub whole-past : (p q : ℕ) (xs : List ℕ) → q ≤ p → whole_block p (take (q * 8192) xs) ≡ None
whole-past p q xs l = whole-none p (take (q * 8192) xs) (omega (arith, l, length-take (q * 8192) xs))

drop_on : (a b : ℕ) (xs : List ℕ) → drop b (drop a xs) ≡ drop (a + b) xs
drop_on a b xs = grind (arith, common_steps)

pub whole-behind : (p q : ℕ) (xs : List ℕ) → whole_block (q + p) xs ≡ whole_block p (drop (q * 8192) xs)
whole-behind p q xs = by_order (length xs) ((q + p) * 8192 + 8192)
    (λ few. whole-none (q + p) xs few ∙ sym (whole-none p (drop (q * 8192) xs) (omega (arith, few, length-drop (q * 8192) xs))))
    (λ many.
    let at : (q + p) * 8192 ≡ q * 8192 + p * 8192 = omega arith in
    whole-there (q + p) xs many
    ∙ ap (λ n. Some (take 8192 (drop n xs))) at
    ∙ ap (λ ys. Some (take 8192 ys)) (sym (drop_on (q * 8192) (p * 8192) xs))
    ∙ sym (whole-there p (drop (q * 8192) xs) (omega (arith, many, length-drop (q * 8192) xs))))

-- a file that is grown by zeros

zeros_there : (p n : ℕ) → p < n → whole_block p (replicate (n * 8192) 0) ≡ Some (replicate 8192 0)
zeros_there p n l =
    let rest : 8192 ≤ n * 8192 - p * 8192 = omega arith in
    whole-there p (replicate (n * 8192) 0) (omega (arith, l, length-replicate {A = ℕ} (n * 8192) 0))
    ∙ ap (λ ys. Some (take 8192 ys)) (drop-replicate (p * 8192) (n * 8192) 0)
    ∙ ap (λ ys. Some ys) (take-replicate 8192 (n * 8192 - p * 8192) 0 rest)

module _ (n : ℕ) (xs : List ℕ) where
  m : ℕ
  m = length xs / 8192

  short : m < n → grown n xs ≡ take (m * 8192) xs ++ replicate ((n - m) * 8192) 0
  unfolding m
  short l = ap (λ t. if t then take (length xs / 8192 * 8192) xs ++ replicate ((n - length xs / 8192) * 8192) 0 else xs) (lt-yes (length xs / 8192) n l)

  long : n ≤ m → grown n xs ≡ xs
  unfolding m
  long l = ap (λ t. if t then take (length xs / 8192 * 8192) xs ++ replicate ((n - length xs / 8192) * 8192) 0 else xs) (lt-no (length xs / 8192) n l)

  front_size : length (take (m * 8192) xs) ≡ m * 8192
  unfolding m
  front_size = length-take-le (length xs / 8192 * 8192) xs (omega arith)

  size : m < n → length (grown n xs) ≡ n * 8192
  size l = ap length (short l) ∙ length-append (take (m * 8192) xs) (replicate ((n - m) * 8192) 0) ∙ ap₂ (λ a b. a + b) front_size (length-replicate {A = ℕ} ((n - m) * 8192) 0) ∙ omega (arith, l)

  front : m < n → take (m * 8192) (grown n xs) ≡ take (m * 8192) xs
  front l = ap (take (m * 8192)) (short l) ∙ ap (λ k. take k (take (m * 8192) xs ++ replicate ((n - m) * 8192) 0)) (sym front_size) ∙ take-append_seam (take (m * 8192) xs) (replicate ((n - m) * 8192) 0)

  rest : m < n → drop (m * 8192) (grown n xs) ≡ replicate ((n - m) * 8192) 0
  rest l = ap (drop (m * 8192)) (short l) ∙ ap (λ k. drop k (take (m * 8192) xs ++ replicate ((n - m) * 8192) 0)) (sym front_size) ∙ drop-append_seam (take (m * 8192) xs) (replicate ((n - m) * 8192) 0)

  pub size-grown : n * 8192 ≤ length (grown n xs)
  unfolding m
  size-grown = by_order m n (λ l. omega (arith, size l)) (λ l. omega (arith, l, ap length (long l)))

  known : (p : ℕ) → p < m → whole_block p xs ≡ Some (take 8192 (drop (p * 8192) xs))
  unfolding m
  known p l = whole-there p xs (omega (arith, l))

  absent : (p : ℕ) → m ≤ p → whole_block p xs ≡ None
  unfolding m
  absent p l = whole-none p xs (omega (arith, l))

  before : (p : ℕ) → m < n → p < m → whole_block p (grown n xs) ≡ whole_block p xs
  before p l few = sym (whole-taken p m (grown n xs) few) ∙ ap (whole_block p) (front l) ∙ whole-taken p m xs few

  between : (p : ℕ) → m ≤ p → p < n → whole_block p (grown n xs) ≡ Some (replicate 8192 0)
  between p few l =
      let at : p ≡ m + (p - m) = omega arith in
      ap (λ k. whole_block k (grown n xs)) at ∙ whole-behind (p - m) m (grown n xs) ∙ ap (whole_block (p - m)) (rest (omega arith)) ∙ zeros_there (p - m) (n - m) (omega arith)

  past : (p : ℕ) → m < n → n ≤ p → whole_block p (grown n xs) ≡ None
  past p l more = whole-none p (grown n xs) (omega (arith, more, size l))

or_there : (o : Option (List ℕ)) (b : List ℕ) (t : Bool) → o ≡ Some b → zeros_if t o ≡ o
or_there o b t is = ap (zeros_if t) is ∙ kept t b ∙ sym is
  where
    kept : (t : Bool) (b : List ℕ) → zeros_if t (Some b) ≡ Some b
    kept true b = refl
    kept false b = refl

pub whole-grown : (p n : ℕ) (xs : List ℕ) → whole_block p (grown n xs) ≡ zeros_if (nat_lt p n) (whole_block p xs)
unfolding m
whole-grown p n xs = by_order (m n xs) n
    (λ l. by_order p (m n xs)
    (λ few. before n xs p l few ∙ sym (or_there (whole_block p xs) _ (nat_lt p n) (known n xs p few)))
    (λ more. by_order p n
    (λ under. between n xs p more under ∙ sym (ap₂ zeros_if (lt-yes p n under) (absent n xs p more)))
    (λ over. past n xs p l over ∙ sym (ap₂ zeros_if (lt-no p n over) (absent n xs p more)))))
    (λ l. ap (whole_block p) (long n xs l) ∙ by_order p n
    (λ under. sym (or_there (whole_block p xs) _ (nat_lt p n) (known n xs p (omega arith))))
    (λ over. sym (ap (λ t. zeros_if t (whole_block p xs)) (lt-no p n over))))

-- bytes laid over others

length-splice : (p : List ℕ) (at : ℕ) (bs : List ℕ) → at + length bs ≤ length p → length (splice p at bs) ≡ length p
unfolding splice
length-splice p at bs l = grind (arith, common_steps)

module _ (y : List ℕ) (at : ℕ) (bs : List ℕ) (fits : at ≤ length y) where
  own_front : length (take at y) ≡ at
  own_front = length-take-le at y fits

  in_parts : splice y at bs ≡ take at y ++ (bs ++ drop (at + length bs) y)
  unfolding splice
  in_parts = append_assoc (take at y) bs (drop (at + length bs) y)

  spliced-front : (n : ℕ) → n ≤ at → take n (splice y at bs) ≡ take n y
  spliced-front n l = ap (take n) in_parts ∙ take-append-le n (take at y) (bs ++ drop (at + length bs) y) (omega (arith, l, own_front)) ∙ fewer n at y l

  spliced-from : drop at (splice y at bs) ≡ bs ++ drop (at + length bs) y
  spliced-from = ap (drop at) in_parts ∙ ap (λ k. drop k (take at y ++ (bs ++ drop (at + length bs) y))) (sym own_front) ∙ drop-append_seam (take at y) (bs ++ drop (at + length bs) y)

  spliced-behind : (n : ℕ) → at + length bs ≤ n → drop n (splice y at bs) ≡ drop n y
  spliced-behind n l =
      let sum : n ≡ at + (length bs + (n - (at + length bs))) = omega (arith, l) in
      let rest : at + length bs + (n - (at + length bs)) ≡ n = omega (arith, l) in
      ap (λ k. drop k (splice y at bs)) sum
      ∙ sym (drop_on at (length bs + (n - (at + length bs))) (splice y at bs))
      ∙ ap (drop (length bs + (n - (at + length bs)))) spliced-from
      ∙ drop-append-add bs (drop (at + length bs) y) (n - (at + length bs))
      ∙ drop_on (at + length bs) (n - (at + length bs)) y
      ∙ ap (λ k. drop k y) rest

  pub whole-spliced_before : (p q : ℕ) → p < q → q * 8192 ≤ at → whole_block p (splice y at bs) ≡ whole_block p y
  whole-spliced_before p q l m = sym (whole-taken p q (splice y at bs) l) ∙ ap (whole_block p) (spliced-front (q * 8192) m) ∙ whole-taken p q y l

  pub whole-spliced_behind : (p q : ℕ) → q < p → at + length bs ≤ (q + 1) * 8192 → whole_block p (splice y at bs) ≡ whole_block p y
  whole-spliced_behind p q l m =
      let sum : p ≡ q + 1 + (p - (q + 1)) = omega (arith, l) in
      ap (λ k. whole_block k (splice y at bs)) sum
      ∙ whole-behind (p - (q + 1)) (q + 1) (splice y at bs)
      ∙ ap (whole_block (p - (q + 1))) (spliced-behind ((q + 1) * 8192) m)
      ∙ sym (whole-behind (p - (q + 1)) (q + 1) y)
      ∙ ap (λ k. whole_block k y) (sym sum)

padded_enough : (n : ℕ) (y : List ℕ) → n ≤ length y → padded n y ≡ y
padded_enough n y l = let none : n - length y ≡ 0 = omega (arith, l) in ap (λ k. y ++ replicate k 0) none ∙ append-nil y

first_block : (page more : List ℕ) → length page ≡ 8192 → whole_block 0 (page ++ more) ≡ Some page
first_block page more size =
    whole-there 0 (page ++ more) (omega (arith, size, length-append page more))
    ∙ ap (λ n. Some (take n (page ++ more))) (sym size)
    ∙ ap (λ ys. Some ys) (take-append_seam page more)

-- a page behind the blocks before it

module _ (q : ℕ) (page xs : List ℕ) (size : length page ≡ 8192) where
  behind_zeros : block_laid q page xs ≡ splice (grown q xs) (q * 8192) page
  behind_zeros = ap (λ y. splice y (q * 8192) page) (padded_enough (q * 8192) (grown q xs) (size-grown q xs))

  here : whole_block q (block_laid q page xs) ≡ Some page
  here =
      let at : q ≡ q + 0 = omega arith in
      ap (whole_block q) behind_zeros
      ∙ ap (λ k. whole_block k (splice (grown q xs) (q * 8192) page)) at
      ∙ whole-behind 0 q (splice (grown q xs) (q * 8192) page)
      ∙ ap (whole_block 0) (spliced-from (grown q xs) (q * 8192) page (size-grown q xs))
      ∙ first_block page _ size

  below_it : (p : ℕ) → p < q → whole_block p (block_laid q page xs) ≡ zeros_if (nat_lt p q) (whole_block p xs)
  below_it p l =
      ap (whole_block p) behind_zeros
      ∙ whole-spliced_before (grown q xs) (q * 8192) page (size-grown q xs) p q l (omega arith)
      ∙ whole-grown p q xs

  above_it : (p : ℕ) → q < p → whole_block p (block_laid q page xs) ≡ zeros_if (nat_lt p q) (whole_block p xs)
  above_it p l =
      ap (whole_block p) behind_zeros
      ∙ whole-spliced_behind (grown q xs) (q * 8192) page (size-grown q xs) p q l (omega (arith, size))
      ∙ whole-grown p q xs

pub whole-laid : (p q : ℕ) (page xs : List ℕ) → length page ≡ 8192 → whole_block p (block_laid q page xs) ≡ (if q == p then Some page else zeros_if (nat_lt p q) (whole_block p xs))
whole-laid p q page xs size = by_order p q
    (λ l. below_it q page xs size p l ∙ sym (ap (λ t. if t then Some page else zeros_if (nat_lt p q) (whole_block p xs)) (eq-no_more q p l)))
    (λ m. by_order q p
    (λ l. above_it q page xs size p l ∙ sym (ap (λ t. if t then Some page else zeros_if (nat_lt p q) (whole_block p xs)) (eq-no q p l)))
    (λ l.
    let same : q ≡ p = omega (arith, l, m) in
    ap (λ k. whole_block k (block_laid q page xs)) (sym same) ∙ here q page xs size ∙ sym (ap (λ t. if t then Some page else zeros_if (nat_lt p q) (whole_block p xs)) (eq-yes q p same))))

-- bytes laid over a block that is there

spliced_on : (u w : List ℕ) (a : ℕ) (bs : List ℕ) → splice (u ++ w) (length u + a) bs ≡ u ++ splice w a bs
unfolding splice
spliced_on u w a bs =
    let sum : length u + a + length bs ≡ length u + (a + length bs) = omega arith in
    ap₂ (λ x y. x ++ bs ++ y) (take-append-add u w a) (ap (λ n. drop n (u ++ w)) sum ∙ drop-append-add u w (a + length bs))
    ∙ ap (λ x. x ++ drop (a + length bs) w) (append_assoc u (take a w) bs)
    ∙ append_assoc u (take a w ++ bs) (drop (a + length bs) w)

spliced_within : (f r : List ℕ) (a : ℕ) (bs : List ℕ) → a + length bs ≤ length f → splice (f ++ r) a bs ≡ splice f a bs ++ r
unfolding splice
spliced_within f r a bs fits =
    ap₂ (λ x y. x ++ bs ++ y) (take-append-le a f r (omega (arith, fits))) (drop-append-le (a + length bs) f r fits)
    ∙ sym (append_assoc (take a f ++ bs) (drop (a + length bs) f) r)

pub whole-spliced_in : (y : List ℕ) (at q a : ℕ) (bs : List ℕ) → at ≡ q * 8192 + a → a + length bs ≤ 8192 → q * 8192 + 8192 ≤ length y → whole_block q (splice y at bs) ≡ Some (splice (take 8192 (drop (q * 8192) y)) a bs)
whole-spliced_in y at q a bs is fits there =
    let u : List ℕ = take (q * 8192) y in
    let w : List ℕ = drop (q * 8192) y in
    let f : List ℕ = take 8192 w in
    let r : List ℕ = drop 8192 w in
    let front_len : length u ≡ q * 8192 = length-take-le (q * 8192) y (omega (arith, there)) in
    let page_len : length f ≡ 8192 = length-take-le 8192 w (omega (arith, there, length-drop (q * 8192) y)) in
    let whole : u ++ (f ++ r) ≡ y = ap (λ t. u ++ t) (take-append-drop 8192 w) ∙ take-append-drop (q * 8192) y in
    let place : at ≡ length u + a = omega (arith, is, front_len) in
    let laid_over : splice y at bs ≡ u ++ (splice f a bs ++ r) =
    ap₂ (λ t n. splice t n bs) (sym whole) place ∙ spliced_on u (f ++ r) a bs ∙ ap (λ t. u ++ t) (spliced_within f r a bs (omega (arith, fits, page_len))) in
    let new_len : length (splice f a bs) ≡ 8192 = length-splice f a bs (omega (arith, fits, page_len)) ∙ page_len in
    let at_q : q ≡ q + 0 = omega arith in
    ap₂ whole_block at_q laid_over
    ∙ whole-behind 0 q (u ++ (splice f a bs ++ r))
    ∙ ap (λ n. whole_block 0 (drop n (u ++ (splice f a bs ++ r)))) (sym front_len)
    ∙ ap (whole_block 0) (drop-append_seam u (splice f a bs ++ r))
    ∙ first_block (splice f a bs) r new_len

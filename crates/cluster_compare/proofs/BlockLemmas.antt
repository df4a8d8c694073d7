-- Blocks under the mask, one after another.
use Rattle.std.proofs.Common.{◌≡◌, ℕ, suc, ◌+◌, ◌-◌, ◌*◌, ◌/◌, ◌<◌, ◌≤◌, Bool, true, false, List, ◌∷◌, length, map, Option, None, Some, refl, sym, ap, ap₂, ◌∙◌, arith}
use Rattle.std.proofs.lemmas.Slice.Eq.{bytes_eq-Decides}
use Rattle.std.specs.Prelude.{bytes_eq, if◌then◌else◌}
use Rattle.std.specs.List.{range_with_len}
use Rattle.cluster_tree.specs.Causes.{first_of}
use Rattle.page_masks.specs.Mask.{mask}
use Rattle.rewound_tree.specs.Laws.{block_of}
use Rattle.cluster_compare.specs.Looks.{part_of}
use Rattle.cluster_compare.specs.Same.{block_difference, first_block, fork_block, is_same_block}

pub bytes_own : (xs : List ℕ) → bytes_eq xs xs ≡ true
bytes_own xs = (bytes_eq-Decides xs xs).1 refl

pub bytes_same : (xs ys : List ℕ) → bytes_eq xs ys ≡ true → xs ≡ ys
bytes_same xs ys h = (bytes_eq-Decides xs ys).0 h

-- equal blocks are one under the mask
pub same-masks : (number : ℕ) (xs ys : List ℕ) → bytes_eq xs ys ≡ true → true ≡ bytes_eq (mask number xs) (mask number ys)
same-masks number xs ys h = sym (bytes_own (mask number xs)) ∙ ap (λ z. bytes_eq (mask number xs) (mask number z)) (bytes_same xs ys h)

pub ruleset block_steps = (same-masks)

-- ---- the first of so many numbers of which something is told

abbrev pub first_from : (ℕ → Option ℕ) → (at count : ℕ) → Option ℕ
first_from f at count = first_of (map f (range_with_len at count))

counted : (n at : ℕ) → at < n → n - at ≡ suc (n - (at + 1))
counted n at l = omega (arith, l)

passed : (n at : ℕ) → n ≤ at → n - at ≡ 0
passed n at l = omega (arith, l)

pub first-here : (f : ℕ → Option ℕ) (n at x : ℕ) → at < n → f at ≡ Some x → first_from f at (n - at) ≡ Some x
unfolding first_of
first-here f n at x l is = ap (first_from f at) (counted n at l) ∙ ap (λ o. first_of (o ∷ map f (range_with_len (at + 1) (n - (at + 1))))) is

pub first-later : (f : ℕ → Option ℕ) (n at : ℕ) → at < n → f at ≡ None → first_from f at (n - at) ≡ first_from f (at + 1) (n - (at + 1))
unfolding first_of
first-later f n at l is = ap (first_from f at) (counted n at l) ∙ ap (λ o. first_of (o ∷ map f (range_with_len (at + 1) (n - (at + 1))))) is

pub first-none : (f : ℕ → Option ℕ) (n at : ℕ) → n ≤ at → first_from f at (n - at) ≡ None
unfolding first_of
first-none f n at l = ap (first_from f at) (passed n at l)

-- ---- the blocks of two files

module _ (per_file segment : ℕ) (a b : List ℕ) (block : ℕ) where
  pub not-same : false ≡ is_same_block (fork_block per_file segment block) block a b → block_difference per_file segment a b block ≡ Some (fork_block per_file segment block)
  not-same h = ap (λ t. if t then None else Some (fork_block per_file segment block)) (sym h)

  pub is-same : true ≡ is_same_block (fork_block per_file segment block) block a b → block_difference per_file segment a b block ≡ None
  is-same h = ap (λ t. if t then None else Some (fork_block per_file segment block)) (sym h)

-- what was read of a block
pub read-block : (here bytes : List ℕ) (at n block : ℕ) → n ≡ 8192 → at ≡ 8192 * block → here ≡ part_of at n bytes → here ≡ block_of block bytes
read-block here bytes at n block long place is = is ∙ ap₂ (λ k l. part_of k l bytes) place long

pub compared-block : (per_file segment block number : ℕ) (here there a b : List ℕ) (r : Bool) → here ≡ block_of block a → there ≡ block_of block b
    → number ≡ fork_block per_file segment block → r ≡ bytes_eq (mask number here) (mask number there) → r ≡ is_same_block (fork_block per_file segment block) block a b
compared-block per_file segment block number here there a b r one other is compared =
    compared
    ∙ ap₂ (λ x y. bytes_eq (mask number x) (mask number y)) one other
    ∙ ap (λ n. bytes_eq (mask n (block_of block a)) (mask n (block_of block b))) is

-- The bytes of a file on its way, under a write and a cut that were carried out in part, and under both carried out.
use Rattle.std.proofs.Common.{◌≡◌, ◌⊎◌, ℕ, ◌+◌, ◌-◌, ◌<◌, ◌≤◌, ◌&&◌, Bool, true, false, nat_lt, List, ◌++◌, length, take, drop, get_or, inl, inr, ⊎_elim, refl, sym, ap, ◌∙◌, true≢false, arith, rules}
use Rattle.std.specs.Prelude.{nat_le}
use Rattle.std.proofs.lemmas.Bool.Decides.{leb_tells, nat_tests}
use Rattle.std.proofs.lemmas.List.{ext_get_or, length-append, length-drop, length-take, length-take-le, get_or_append_left, get_or-append_right, get_or-drop, get_or-take}
use Rattle.layout.specs.Splice.{splice}
use Rattle.cluster_tree.specs.Step.{CutBytes, TornBytes}
use Rattle.resumed_laws.specs.Between.{AreMixed}

-- ---- tests of numbers

pub below-or_past : (k n : ℕ) → (n ≤ k) ⊎ (k < n)
below-or_past k n = ⊎_elim (λ t. inl t.1) (λ f. inr f.1) (leb_tells n k)

pub less-tells : (k n : ℕ) → nat_lt k n ≡ true → k < n
less-tells k n e = grind (arith, rules, e)

pub less-is : (k n : ℕ) → k < n → nat_lt k n ≡ true
less-is k n l = grind (arith, rules, l)

pub in-range : (at n k : ℕ) → at ≤ k → k < at + n → (nat_le at k && nat_lt k (at + n)) ≡ true
in-range at n k le lt = grind (arith, nat_tests, le, lt)

-- outside of a range
pub out-of_range : (at n k : ℕ) → (nat_le at k && nat_lt k (at + n)) ≡ false → (k < at) ⊎ (at + n ≤ k)
out-of_range at n k e = ⊎_elim (λ (le : at ≤ k). ⊎_elim (λ (past : at + n ≤ k). inr past) (λ (lt : k < at + n). absurd (true≢false (sym (in-range at n k le lt) ∙ e))) (below-or_past k (at + n))) (λ (lt : k < at). inl lt) (below-or_past k at)

-- ---- torn writes and cuts

-- a byte outside of the range is as it was
pub torn-outside : (at n : ℕ) (old new : List ℕ) → TornBytes at n old new → (k : ℕ) → (k < at) ⊎ (at + n ≤ k) → get_or new k 0 ≡ get_or old k 0
torn-outside at n old new torn k (inl lt) = sym (get_or-take at new k 0 lt) ∙ ap (λ l. get_or l k 0) torn.before ∙ get_or-take at old k 0 lt
torn-outside at n old new torn k (inr le) =
    let here : at + n + (k - (at + n)) ≡ k = omega (arith, le) in
    ap (λ j. get_or new j 0) (sym here) ∙ sym (get_or-drop (at + n) new (k - (at + n)) 0) ∙ ap (λ l. get_or l (k - (at + n)) 0) torn.after
    ∙ get_or-drop (at + n) old (k - (at + n)) 0 ∙ ap (λ j. get_or old j 0) here

-- and one of a file that was cut
cut-within : (size : ℕ) (old new : List ℕ) → CutBytes size old new → (k : ℕ) → k < length new → get_or new k 0 ≡ get_or old k 0
cut-within size old new cut k lt = ap (λ l. get_or l k 0) (sym cut.front) ∙ get_or-take (length new) old k 0 lt

cut-shorter : (size : ℕ) (old new : List ℕ) → CutBytes size old new → length new ≤ length old
cut-shorter size old new cut = let e = ap length cut.front in omega (arith, e, length-take (length new) old)

-- ---- the bytes of a file on its way

module _ (left put : ℕ → Bool) where
  pub mixed-same : (old : List ℕ) → AreMixed left put old old
  mixed-same old = record { there = λ k lt l. lt; kept = λ k lt l off. refl; none_new = λ k lt off. lt }

  off-range : (at n k : ℕ) → ((j : ℕ) → at ≤ j → j < at + n → put j ≡ true) → put k ≡ false → (k < at) ⊎ (at + n ≤ k)
  off-range at n k covers off = ⊎_elim
      (λ (le : at ≤ k). ⊎_elim (λ (past : at + n ≤ k). inr past) (λ (lt : k < at + n). absurd (true≢false (sym (covers k le lt) ∙ off))) (below-or_past k (at + n)))
      (λ (lt : k < at). inl lt) (below-or_past k at)

  -- a write in part, where a range is on each of its bytes
  pub mixed-torn : (at n : ℕ) (old new torn : List ℕ) → ((k : ℕ) → at ≤ k → k < at + n → put k ≡ true) → at ≤ length new → AreMixed left put old new → TornBytes at n new torn → AreMixed left put old torn
  mixed-torn at n old new torn covers le mixed t = record {
    there = λ k lt l. let here = mixed.there k lt l in omega (arith, here, t.no_shorter);
    kept = λ k lt l off. torn-outside at n new torn t k (off-range at n k covers off) ∙ mixed.kept k lt l off;
    none_new = λ k lt off. ⊎_elim
        (λ (past : length new ≤ k). absurd (true≢false (sym (covers k (omega (arith, le, past)) (omega (arith, lt, past, t.no_longer))) ∙ off)))
        (λ (in_new : k < length new). mixed.none_new k in_new off)
        (below-or_past k (length new));
  }

  -- a cut in part, where no byte that stays is dropped
  pub mixed-cut : (size : ℕ) (old new cut : List ℕ) → ((k : ℕ) → left k ≡ true → k < size) → AreMixed left put old new → CutBytes size new cut → AreMixed left put old cut
  mixed-cut size old new cut keeps mixed t = record {
    there = λ k lt l. let small = keeps k l in omega (arith, small, t.no_shorter);
    kept = λ k lt l off. let small = keeps k l in cut-within size new cut t k (omega (arith, small, t.no_shorter)) ∙ mixed.kept k lt l off;
    none_new = λ k lt off. mixed.none_new k (omega (arith, lt, cut-shorter size new cut t)) off;
  }

  -- where no byte is dropped and none written, nothing changed
  pub mixed-equal : (old new : List ℕ) → ((k : ℕ) → left k ≡ true) → ((k : ℕ) → put k ≡ false) → AreMixed left put old new → new ≡ old
  mixed-equal old new all none mixed = ext_get_or 0 new old size (λ k lt. mixed.kept k (mixed.none_new k lt (none k)) (all k) (none k))
    where
      no_more : length new ≤ length old
      no_more = ⊎_elim (λ (le : length new ≤ length old). le) (λ (lt : length old < length new). absurd (past (mixed.none_new (length old) lt (none (length old))))) (below-or_past (length old) (length new))
        where
          past : length old < length old → ⊥
          past l = omega (arith, l)

      no_less : length old ≤ length new
      no_less = ⊎_elim (λ (le : length old ≤ length new). le) (λ (lt : length new < length old). absurd (past (mixed.there (length new) lt (all (length new))))) (below-or_past (length new) (length old))
        where
          past : length new < length new → ⊥
          past l = omega (arith, l)

      size : length new ≡ length old
      size = omega (arith, no_more, no_less)

-- the same by other tests
pub mixed-weaker : (left put left' put' : ℕ → Bool) (old new : List ℕ) → ((k : ℕ) → left' k ≡ true → left k ≡ true) → ((k : ℕ) → put' k ≡ false → put k ≡ false)
    → AreMixed left put old new → AreMixed left' put' old new
mixed-weaker left put left' put' old new l p mixed = record {
  there = λ k lt on. mixed.there k lt (l k on);
  kept = λ k lt on off. mixed.kept k lt (l k on) (p k off);
  none_new = λ k lt off. mixed.none_new k lt (p k off);
}

-- ---- a cut that is done, and a range

-- such a file is as long as it is cut to
pub long-enough : (left put : ℕ → Bool) (size : ℕ) (old new : List ℕ) → ((k : ℕ) → k < size → left k ≡ true) → size ≤ length old → AreMixed left put old new → size ≤ length new
long-enough left put size old new keeps le mixed = ⊎_elim (λ (done : size ≤ length new). done)
    (λ (short : length new < size). absurd (past (mixed.there (length new) (omega (arith, short, le)) (keeps (length new) short)))) (below-or_past (length new) size)
  where
    past : length new < length new → ⊥
    past l = omega (arith, l)

pub mixed-shortened : (left put left' put' : ℕ → Bool) (size : ℕ) (old new : List ℕ) → ((k : ℕ) → k < size → left k ≡ true) → ((k : ℕ) → put' k ≡ false → put k ≡ false) → size ≤ length old
    → AreMixed left put old new → AreMixed left' put' (take size old) (take size new)
mixed-shortened left put left' put' size old new keeps p le mixed =
    let one : length (take size old) ≡ size = length-take-le size old le in
    let other : length (take size new) ≡ size = length-take-le size new (long-enough left put size old new keeps le mixed) in
    record {
      there = λ k lt on. omega (arith, lt, one, other);
      kept = λ k lt on off.
          let small : k < size = omega (arith, lt, one) in
          get_or-take size new k 0 small ∙ mixed.kept k (omega (arith, small, le)) (keeps k small) (p k off) ∙ sym (get_or-take size old k 0 small);
      none_new = λ k lt off. omega (arith, lt, one, other);
    }

-- what a range leaves
pub length-spliced : (p : List ℕ) (at : ℕ) (bs : List ℕ) → at ≤ length p → (length p ≤ length (splice p at bs)) × (at + length bs ≤ length (splice p at bs)) × ((k : ℕ) → k < length (splice p at bs) → at + length bs ≤ k → k < length p)
unfolding splice
length-spliced p at bs le =
    let all = length-append (take at p ++ bs) (drop (at + length bs) p) in
    let front = length-append (take at p) bs in
    let size = length-take-le at p le in
    let rest = length-drop (at + length bs) p in
    (omega (arith, all, front, size, rest), omega (arith, all, front, size, rest), λ k lt past. omega (arith, all, front, size, rest, lt, past))

pub byte-below : (p : List ℕ) (at : ℕ) (bs : List ℕ) (k : ℕ) → at ≤ length p → k < at → get_or (splice p at bs) k 0 ≡ get_or p k 0
unfolding splice
byte-below p at bs k le lt =
    let size = length-take-le at p le in
    get_or_append_left (take at p ++ bs) (drop (at + length bs) p) 0 k (omega (arith, lt, size, length-append (take at p) bs))
    ∙ get_or_append_left (take at p) bs 0 k (omega (arith, lt, size)) ∙ get_or-take at p k 0 lt

pub byte-inside : (p : List ℕ) (at : ℕ) (bs : List ℕ) (k : ℕ) → at ≤ length p → at ≤ k → k < at + length bs → get_or (splice p at bs) k 0 ≡ get_or bs (k - at) 0
unfolding splice
byte-inside p at bs k le here lt =
    let size = length-take-le at p le in
    get_or_append_left (take at p ++ bs) (drop (at + length bs) p) 0 k (omega (arith, lt, size, length-append (take at p) bs))
    ∙ get_or-append_right (take at p) bs at k 0 size here

pub byte-behind : (p : List ℕ) (at : ℕ) (bs : List ℕ) (k : ℕ) → at ≤ length p → at + length bs ≤ k → get_or (splice p at bs) k 0 ≡ get_or p k 0
unfolding splice
byte-behind p at bs k le past =
    let size = length-take-le at p le in
    let both : length (take at p ++ bs) ≡ at + length bs = omega (arith, size, length-append (take at p) bs) in
    let here : at + length bs + (k - (at + length bs)) ≡ k = omega (arith, past) in
    get_or-append_right (take at p ++ bs) (drop (at + length bs) p) (at + length bs) k 0 both past
    ∙ get_or-drop (at + length bs) p (k - (at + length bs)) 0 ∙ ap (λ j. get_or p j 0) here

-- the same range over both: only its own bytes needn't have been alike
pub mixed-spliced : (left put left' put' : ℕ → Bool) (at : ℕ) (bs old new : List ℕ) → ((k : ℕ) → left k ≡ true)
    → ((k : ℕ) → put' k ≡ false → (k < at) ⊎ (at + length bs ≤ k) → put k ≡ false) → at ≤ length old
    → AreMixed left put old new → AreMixed left' put' (splice old at bs) (splice new at bs)
mixed-spliced left put left' put' at bs old new all p le mixed =
    let reach : at ≤ length new = long-enough left put at old new (λ k lt. all k) le mixed in
    let one = length-spliced old at bs le in
    let other = length-spliced new at bs reach in
    record {
      there = λ k lt on. ⊎_elim
          (λ (past : at + length bs ≤ k). let here = mixed.there k (one.2 k lt past) (all k) in omega (arith, here, other.0))
          (λ (in_range : k < at + length bs). omega (arith, in_range, other.1))
          (below-or_past k (at + length bs));
      kept = λ k lt on off. ⊎_elim
          (λ (past : at + length bs ≤ k). byte-behind new at bs k reach past ∙ mixed.kept k (one.2 k lt past) (all k) (p k off (inr past)) ∙ sym (byte-behind old at bs k le past))
          (λ (near : k < at + length bs). ⊎_elim
          (λ (here : at ≤ k). byte-inside new at bs k reach here near ∙ sym (byte-inside old at bs k le here near))
          (λ (before : k < at). byte-below new at bs k reach before ∙ mixed.kept k (omega (arith, before, le)) (all k) (p k off (inl before)) ∙ sym (byte-below old at bs k le before))
          (below-or_past k at))
          (below-or_past k (at + length bs));
      none_new = λ k lt off. ⊎_elim
          (λ (past : at + length bs ≤ k). let here = mixed.none_new k (other.2 k lt past) (p k off (inr past)) in omega (arith, here, one.0))
          (λ (near : k < at + length bs). omega (arith, near, one.1))
          (below-or_past k (at + length bs));
    }

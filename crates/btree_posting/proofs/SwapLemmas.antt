-- A new tid in a posting tuple's list.
use Rattle.std.proofs.Common.{◌≡◌, ℕ, zero, suc, ◌+◌, ◌-◌, ◌*◌, ◌<◌, ◌≤◌, List, ◌∷◌, ◌++◌, true, length, take, drop, refl, sym, ◌∙◌, ap, append_assoc, arith}
use Rattle.std.specs.List.{concat}
use Rattle.std.proofs.lemmas.Bool.Decides.{nat_tests}
use Rattle.std.proofs.lemmas.List.Folds.{concat-append}
use Rattle.std.proofs.lemmas.List.{length-append, length-drop, length-take-le, take_all}
use Rattle.std.proofs.Math.Seq.{take-add, take-append-add}
use Rattle.layout.specs.Splice.{splice}
use Rattle.page_layout.specs.Bytes.{cut}
use Rattle.btree_posting.specs.Tuple.{tid_count, list_at, list_stands, tids_from, tids_of}
use Rattle.btree_posting.specs.Form.{can_swap, with_tid, swapped_posting, last_tid}
use Rattle.btree_posting.proofs.TupleLemmas.{has_list, concat-tids_from, length-tids_from}

-- the first tids, and those from one on
pub take-tids_from : (k n : ℕ) (t : List ℕ) (at : ℕ) → k ≤ n → take k (tids_from n t at) ≡ tids_from k t at
take-tids_from zero n t at le = refl
take-tids_from (suc k) zero t at le = absurd (omega arith)
take-tids_from (suc k) (suc n) t at le = ap (λ tids. cut t at 6 ∷ tids) (take-tids_from k n t (at + 6) (omega arith))

pub drop-tids_from : (k n : ℕ) (t : List ℕ) (at : ℕ) → k ≤ n → drop k (tids_from n t at) ≡ tids_from (n - k) t (at + 6 * k)
drop-tids_from zero n t at le =
    let same : n - 0 ≡ n = omega arith in
    let here : at + 6 * 0 ≡ at = omega arith in
    rw (same, here) refl
drop-tids_from (suc k) zero t at le = absurd (omega arith)
drop-tids_from (suc k) (suc n) t at le =
    let less : n - k ≡ suc n - suc k = omega arith in
    let here : at + 6 + 6 * k ≡ at + 6 * suc k = omega arith in
    drop-tids_from k n t (at + 6) (omega arith) ∙ (λ i. tids_from (less i) t (here i))

pub record CanSwap (k : ℕ) (t : List ℕ) : Type 0 where
  pub stands : list_stands t ≡ true
  pub some : 0 < k
  pub below : k < tid_count t

pub can : (k : ℕ) (t : List ℕ) → can_swap k t ≡ true → CanSwap k t
can k t e = record { stands = grind (arith, nat_tests); some = grind (arith, nat_tests); below = grind (arith, nat_tests) }

module _ (t new : List ℕ) (k : ℕ) (c : CanSwap k t) (long : 6 ≤ length new) where
  abbrev at : ℕ
  at = list_at t

  abbrev more : ℕ
  more = tid_count t - 1 - k

  abbrev middle : List ℕ
  middle = take (6 * k) (drop at t) ++ (take 6 new ++ take (6 * more) (drop (at + 6 * k) t))

  tids : tids_of t ≡ tids_from (tid_count t) t at
  tids = rw c.stands refl

  moved : concat (with_tid k (cut new 0 6) (tids_of t)) ≡ middle
  unfolding cut
  moved =
      let n = tid_count t in
      let all = length-tids_from n t at in
      let first = take-tids_from k n t at (omega (arith, c.below)) in
      let rest = drop-tids_from k n t at (omega (arith, c.below)) in
      let some : length (tids_from k t at) ≡ k = length-tids_from k t at in
      let size : n ≡ length (tids_from k t at) + suc more = omega (arith, some, c.below) in
      let fewer : more ≤ n - k = omega arith in
      ap (λ l. concat (with_tid k (take 6 new) l)) tids
      ∙ (λ i. concat (take (all i) (first i ++ take 6 new ∷ rest i)))
      ∙ ap (λ m. concat (take m (tids_from k t at ++ take 6 new ∷ tids_from (n - k) t (at + 6 * k)))) size
      ∙ ap concat (take-append-add (tids_from k t at) (take 6 new ∷ tids_from (n - k) t (at + 6 * k)) (suc more))
      ∙ ap (λ l. concat (tids_from k t at ++ take 6 new ∷ l)) (take-tids_from more (n - k) t (at + 6 * k) fewer)
      ∙ concat-append (tids_from k t at) (take 6 new ∷ tids_from more t (at + 6 * k))
      ∙ (λ i. concat-tids_from k t at i ++ (take 6 new ++ concat-tids_from more t (at + 6 * k) i))

  middle_size : length middle ≡ 6 * tid_count t
  middle_size =
      let h = has_list t c.stands in
      let a = length-take-le (6 * k) (drop at t) (omega (arith, length-drop at t, h.within, c.below)) in
      let b = length-take-le 6 new long in
      let d = length-take-le (6 * more) (drop (at + 6 * k) t) (omega (arith, length-drop (at + 6 * k) t, h.within, c.below)) in
      omega (arith, length-append (take (6 * k) (drop at t)) (take 6 new ++ take (6 * more) (drop (at + 6 * k) t)), length-append (take 6 new) (take (6 * more) (drop (at + 6 * k) t)), a, b, d, c.below)

  pub swapped_bytes : swapped_posting k new t ≡ take (at + 6 * k) t ++ take 6 new ++ take (6 * more) (drop (at + 6 * k) t) ++ drop (at + 6 * tid_count t) t
  unfolding splice
  swapped_bytes =
      ap (splice t at) moved
      ∙ ap (λ n. take at t ++ middle ++ drop (at + n) t) middle_size
      ∙ ap (λ x. x ++ drop (at + 6 * tid_count t) t)
      (sym (append_assoc (take at t) (take (6 * k) (drop at t)) (take 6 new ++ take (6 * more) (drop (at + 6 * k) t)))
      ∙ ap (λ x. x ++ (take 6 new ++ take (6 * more) (drop (at + 6 * k) t))) (sym (take-add at (6 * k) t))
      ∙ sym (append_assoc (take (at + 6 * k) t) (take 6 new) (take (6 * more) (drop (at + 6 * k) t))))

-- the pieces laid one after another: one ends behind another, and they stand at the front
pub record Laid (end : ℕ) (old : List ℕ) (piece : List ℕ) (behind : ℕ) (new : List ℕ) : Type 0 where
  pub value : behind ≡ end + length piece
  pub laid : take behind new ≡ take end old ++ piece

module _ (t new : List ℕ) (k j at n : ℕ) (e : can_swap k t ≡ true) (long : 6 ≤ length new) (index : j ≡ k) (here : at ≡ list_at t) (many : n ≡ tid_count t) where
  abbrev behind : ℕ
  behind = list_at t + 6 * tid_count t

  abbrev part : List ℕ
  part = take (6 * more t new k (can k t e) long) (drop (list_at t + 6 * k) t)

  pub swapped_laid : (m0 m1 m2 m3 m4 : List ℕ) (r1 r2 r3 r4 : ℕ) → Laid 0 m0 (take (at + 6 * j) t) r1 m1 → Laid r1 m1 (take 6 new) r2 m2
      → Laid r2 m2 (take (at + 6 * n - 6 - (at + 6 * j)) (drop (at + 6 * j) t)) r3 m3 → Laid r3 m3 (take (length t - (at + 6 * n)) (drop (at + 6 * n) t)) r4 m4
      → take (length t) m4 ≡ swapped_posting k new t
  swapped_laid m0 m1 m2 m3 m4 r1 r2 r3 r4 a b d f =
      let c = can k t e in
      let h = has_list t c.stands in
      let size : at + 6 * n - 6 - (at + 6 * j) ≡ 6 * more t new k c long = omega (arith, index, many, c.below) in
      let from : at + 6 * j ≡ list_at t + 6 * k = omega (arith, here, index) in
      let to : at + 6 * n ≡ behind = omega (arith, here, many) in
      let rest : take (length t - behind) (drop behind t) ≡ drop behind t = take_all (length t - behind) (drop behind t) (omega (arith, length-drop behind t)) in
      let whole : take r4 m4 ≡ take (list_at t + 6 * k) t ++ take 6 new ++ part ++ drop behind t =
      f.laid ∙ (λ i. d.laid i ++ take (length t - to i) (drop (to i) t)) ∙ (λ i. b.laid i ++ take (size i) (drop (from i) t) ++ rest i)
      ∙ (λ i. a.laid i ++ take 6 new ++ part ++ drop behind t) ∙ ap (λ w. take w t ++ take 6 new ++ part ++ drop behind t) from
      in
      let one : r1 ≡ list_at t + 6 * k = omega (arith, a.value, from, length-take-le (at + 6 * j) t (omega (arith, from, h.within, c.below))) in
      let two : length (take 6 new) ≡ 6 = length-take-le 6 new long in
      let three : length (take (at + 6 * n - 6 - (at + 6 * j)) (drop (at + 6 * j) t)) ≡ 6 * more t new k c long =
      ap (λ w. length (take w (drop (at + 6 * j) t))) size ∙ length-take-le (6 * more t new k c long) (drop (at + 6 * j) t) (omega (arith, length-drop (at + 6 * j) t, from, h.within, c.below))
      in
      let four : length (take (length t - (at + 6 * n)) (drop (at + 6 * n) t)) ≡ length t - behind =
      (λ i. length (take (length t - to i) (drop (to i) t))) ∙ ap length rest ∙ length-drop behind t
      in
      let all : length t ≡ r4 = omega (arith, one, b.value, two, d.value, three, f.value, four, h.within, c.below) in
      ap (λ n. take n m4) all ∙ whole ∙ sym (swapped_bytes t new k c long)

-- another tid before the rest of a tuple
pub tid_laid : (m0 m1 m2 new tid : List ℕ) (r1 r2 : ℕ) → length tid ≡ 6 → 6 ≤ length new → Laid 0 m0 tid r1 m1 → Laid r1 m1 (take (length new - 6) (drop 6 new)) r2 m2 → take (length new) m2 ≡ splice new 0 tid
unfolding splice
tid_laid m0 m1 m2 new tid r1 r2 six long a b =
    let rest : take (length new - 6) (drop 6 new) ≡ drop 6 new = take_all (length new - 6) (drop 6 new) (omega (arith, length-drop 6 new)) in
    let size : length (take (length new - 6) (drop 6 new)) ≡ length new - 6 = ap length rest ∙ length-drop 6 new in
    let all : length new ≡ r2 = omega (arith, b.value, size, a.value, six, long) in
    let from : 6 ≡ 0 + length tid = omega (arith, six) in
    ap (λ n. take n m2) all ∙ b.laid ∙ (λ i. a.laid i ++ rest i) ∙ ap (λ n. tid ++ drop n new) from

pub last_bytes : (t : List ℕ) (behind : ℕ) → list_stands t ≡ true → behind ≡ list_at t + 6 * tid_count t → take (behind - (behind - 6)) (drop (behind - 6) t) ≡ last_tid t
unfolding cut
last_bytes t behind stands e =
    let h = has_list t stands in
    let six : behind - (behind - 6) ≡ 6 = omega (arith, h.some, e) in
    let there : behind - 6 ≡ list_at t + 6 * (tid_count t - 1) = omega (arith, h.some, e) in
    rw (six, there) refl

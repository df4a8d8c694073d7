-- A tuple changed where it lies.
use Rattle.std.proofs.Common.{◌≡◌, ℕ, ◌+◌, ◌-◌, ◌*◌, ◌<◌, ◌≤◌, List, true, length, take, drop, refl, sym, ◌∙◌, ap, subst, arith}
use Rattle.std.proofs.lemmas.Bool.Decides.{nat_tests}
use borrow.Rule.Slice.PartMut.{put_mid}
use Rattle.page_layout.specs.Bytes.{cut}
use Rattle.page_layout.specs.Page.{pd_upper, count, lp_off, lp_len, item, lines_fit, IsFormed}
use Rattle.layout.specs.Splice.{splice}
use Rattle.layout.proofs.SpliceLemmas.{length-splice, byte-splice_below}
use Rattle.page_layout.proofs.BytesLemmas.{length-cut, put_mid-splice}
use Rattle.page_layout.proofs.Front as Front
use Rattle.page_layout.proofs.Front.{SameFront}
use Rattle.page_layout.proofs.ShapeLemmas.{held_in}
use Rattle.heap_tuples.specs.Heap.{has_tuple, with_tuple}

-- where the tuple at a place lies
pub record IsTuple (p : List ℕ) (place : ℕ) : Type 0 where
  pub size : length p ≡ 8192
  pub above : 0 < place
  pub there : 28 + 4 * (place - 1) ≤ 8192
  pub from : pd_upper p ≤ lp_off p (place - 1)
  pub inside : lp_off p (place - 1) + lp_len p (place - 1) ≤ 8192
  pub long : 23 ≤ lp_len p (place - 1)

pub tuple_of : (p : List ℕ) (place : ℕ) → IsFormed p → has_tuple p place ≡ true → IsTuple p place
tuple_of p place f e =
    let above : 0 < place = grind (arith, nat_tests) in
    let below : place ≤ count p = grind (arith, nat_tests) in
    let long : 23 ≤ lp_len p (place - 1) = grind (arith, nat_tests) in
    let there : place - 1 < count p = omega arith in
    let held = held_in p (place - 1) f there (omega (arith, long)) in
    record {
      size = f.size;
      above = above;
      there = omega (arith, there, f.head.low, f.head.mid, f.head.high, f.head.top);
      from = held.from;
      inside = omega (arith, held.to, f.head.top);
      long = long;
    }

pub length-tuple : (p : List ℕ) (place : ℕ) → IsTuple p place → length (item p (place - 1)) ≡ lp_len p (place - 1)
length-tuple p place t = length-cut p (lp_off p (place - 1)) (lp_len p (place - 1)) (omega (arith, t.inside, t.size))

-- the item, as a part of the page
pub part_is : (p : List ℕ) (place start end : ℕ) → start ≡ lp_off p (place - 1) → end ≡ lp_off p (place - 1) + lp_len p (place - 1) → take (end - start) (drop start p) ≡ item p (place - 1)
unfolding cut
part_is p place start end a b = let m : end - start ≡ lp_len p (place - 1) = omega (arith, a, b) in rw (m, a) refl

pub put_is : (p new : List ℕ) (place start end : ℕ) (change : List ℕ → List ℕ) → IsTuple p place → start ≡ lp_off p (place - 1) → end ≡ lp_off p (place - 1) + lp_len p (place - 1)
    → new ≡ change (take (end - start) (drop start p)) → length new ≡ length (take (end - start) (drop start p)) → put_mid start (end - start) p new ≡ with_tuple place change p
put_is p new place start end change t a b is_new size =
    let part = part_is p place start end a b in
    let m : end - start ≡ lp_len p (place - 1) = omega (arith, a, b) in
    let made : new ≡ change (item p (place - 1)) = is_new ∙ rw part refl in
    let len : length new ≡ lp_len p (place - 1) = size ∙ rw part (length-tuple p place t) in
    rw (m, a) (put_mid-splice (lp_off p (place - 1)) (lp_len p (place - 1)) p new len ∙ rw made refl)

-- a page with the same header and lines is well formed too
pub front_formed : (p q : List ℕ) → IsFormed p → length q ≡ 8192 → SameFront p q → IsFormed q
front_formed p q f size same = record {
  size = size;
  head = Front.head_stays p q f.head same;
  lines = ap (lines_fit q) (Front.count_same p q f.head same) ∙ Front.lines_fit_same p q f.head same (count p) (omega arith) ∙ f.lines;
}

-- so is one with other bytes for a tuple
pub edit_formed : (p : List ℕ) (place : ℕ) (bytes : List ℕ) → IsFormed p → IsTuple p place → length bytes ≡ lp_len p (place - 1) → IsFormed (splice p (lp_off p (place - 1)) bytes)
edit_formed p place bytes f t size =
    let fits : lp_off p (place - 1) + length bytes ≤ length p = omega (arith, size, t.inside, t.size) in
    front_formed p (splice p (lp_off p (place - 1)) bytes) f (length-splice p (lp_off p (place - 1)) bytes fits ∙ f.size) (record {
      head = λ i le lt. byte-splice_below p (lp_off p (place - 1)) bytes i fits (omega (arith, lt, f.head.low, f.head.mid, t.from));
      lines = λ i le lt. byte-splice_below p (lp_off p (place - 1)) bytes i fits (omega (arith, lt, f.head.mid, t.from));
    })

pub put_formed : (p new : List ℕ) (place start end : ℕ) → IsFormed p → IsTuple p place → start ≡ lp_off p (place - 1) → end ≡ lp_off p (place - 1) + lp_len p (place - 1)
    → length new ≡ length (take (end - start) (drop start p)) → IsFormed (put_mid start (end - start) p new)
put_formed p new place start end f t a b size =
    let part = part_is p place start end a b in
    let m : end - start ≡ lp_len p (place - 1) = omega (arith, a, b) in
    let len : length new ≡ lp_len p (place - 1) = size ∙ rw part (length-tuple p place t) in
    rw (m, a) (subst IsFormed (sym (put_mid-splice (lp_off p (place - 1)) (lp_len p (place - 1)) p new len)) (edit_formed p place new f t len))

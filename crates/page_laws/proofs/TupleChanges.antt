-- Changes of a heap tuple that its mask determines.
use Rattle.std.proofs.Common.{◌≡◌, ℕ, ◌+◌, ◌*◌, ◌≤◌, ◌==◌, inl, inr, List, Bool, true, false, length, refl, sym, ◌∙◌, ap, subst, arith}
use Rattle.std.specs.Prelude.{if◌then◌else◌}
use Rattle.std.proofs.lemmas.Bool.Decides.{nat_tests}
use Rattle.layout.specs.Splice.{splice}
use Rattle.page_layout.specs.Bytes.{u16_at, with_u16, u16_bytes}
use Rattle.layout.proofs.SpliceLemmas.{length-splice}
use Rattle.page_masks.specs.Mask.{masked_infomask}
use Rattle.page_laws.specs.Change.{ItemChange}
use Rattle.page_laws.proofs.TupleLaw.{TupleAlike, tuple_alike, alike_masks, laid_alike, put_bits}

change_of : (block place : ℕ) (change : List ℕ → List ℕ) → ((x : List ℕ) → 23 ≤ length x → length (change x) ≡ length x) → ((x y : List ℕ) → TupleAlike block place x y → TupleAlike block place (change x) (change y)) → ItemChange block place change
change_of block place change size keeps = record {
  size = size;
  mask = λ x y long same alike. alike_masks block place (change x) (change y) (keeps x y (tuple_alike block place x y long same alike));
}

pub low_change : (block place at : ℕ) (bytes : List ℕ) → at + length bytes ≤ 12 → ItemChange block place (λ x. splice x at bytes)
low_change block place at bytes low = change_of block place (λ x. splice x at bytes) (λ x long. length-splice x at bytes (omega (arith, low, long))) (λ x y a. laid_alike block place x y at bytes (omega (arith, low, a.long)) (inl (omega (arith, low))) (inl (inl low)) a)

-- bytes from `at` to the tuple's end
abbrev pub with_tail : ℕ → List ℕ → List ℕ → List ℕ
with_tail at bytes x = if at + length bytes == length x then splice x at bytes else x

pub tail_change : (block place at : ℕ) (bytes : List ℕ) → 23 ≤ at → ItemChange block place (λ x. if at + length bytes == length x then splice x at bytes else x)
tail_change block place at bytes high = change_of block place (with_tail at bytes) (λ x long. size x (at + length bytes == length x) refl)
    (λ x y a. subst (λ b. TupleAlike block place (with_tail at bytes x) (if b then splice y at bytes else y)) (ap (λ n. at + length bytes == n) a.size) (both x y a (at + length bytes == length x) refl))
  where
    whole : (x : List ℕ) → (at + length bytes == length x) ≡ true → at + length bytes ≡ length x
    whole x e = grind (arith, nat_tests, e)

    size : (x : List ℕ) (b : Bool) → (at + length bytes == length x) ≡ b → length (if b then splice x at bytes else x) ≡ length x
    size x true e = length-splice x at bytes (omega (arith, whole x e))
    size x false e = refl

    both : (x y : List ℕ) → TupleAlike block place x y → (b : Bool) → (at + length bytes == length x) ≡ b → TupleAlike block place (if b then splice x at bytes else x) (if b then splice y at bytes else y)
    both x y a true e = laid_alike block place x y at bytes (omega (arith, whole x e)) (inr (omega (arith, high))) (inl (inr (omega (arith, high)))) a
    both x y a false e = a

pub address_change : (block place : ℕ) (bytes : List ℕ) → length bytes ≡ 6 → ItemChange block place (λ x. splice x 12 bytes)
address_change block place bytes six = change_of block place (λ x. splice x 12 bytes) (λ x long. length-splice x 12 bytes (omega (arith, six, long))) (λ x y a. laid_alike block place x y 12 bytes (omega (arith, six, a.long)) (inl (omega (arith, six))) (inr (refl, six)) a)

pub infomask2_change : (block place : ℕ) (g : ℕ → ℕ) → ItemChange block place (λ x. with_u16 x 18 (g (u16_at x 18)))
infomask2_change block place g = change_of block place (λ x. with_u16 x 18 (g (u16_at x 18))) (λ x long. length-splice x 18 (u16_bytes (g (u16_at x 18))) (omega (arith, long))) both
  where
    both : (x y : List ℕ) → TupleAlike block place x y → TupleAlike block place (with_u16 x 18 (g (u16_at x 18))) (with_u16 y 18 (g (u16_at y 18)))
    both x y a =
        let same : u16_at x 18 ≡ u16_at y 18 = λ t. a.bits2 18 (omega arith) (omega arith) t + 256 * a.bits2 19 (omega arith) (omega arith) t in
        subst (λ n. TupleAlike block place (with_u16 x 18 (g (u16_at x 18))) (with_u16 y 18 (g n))) same
        (laid_alike block place x y 18 (u16_bytes (g (u16_at x 18))) (omega (arith, a.long)) (inl (omega arith)) (inl (inr (omega arith))) a)

pub infomask_change : (block place : ℕ) (g : ℕ → ℕ) → ((v w : ℕ) → masked_infomask v ≡ masked_infomask w → masked_infomask (g v) ≡ masked_infomask (g w)) → ItemChange block place (λ x. with_u16 x 20 (g (u16_at x 20)))
infomask_change block place g law = change_of block place (λ x. with_u16 x 20 (g (u16_at x 20))) (λ x long. length-splice x 20 (u16_bytes (g (u16_at x 20))) (omega (arith, long))) (λ x y a. put_bits block place g x y law a)

pub both_changes : (block place : ℕ) (f g : List ℕ → List ℕ) → ItemChange block place f → ItemChange block place g → ItemChange block place (λ x. g (f x))
both_changes block place f g a b = record {
  size = λ x long. b.size (f x) (omega (arith, a.size x long, long)) ∙ a.size x long;
  mask = λ x y long same alike.
      b.mask (f x) (f y) (omega (arith, a.size x long, long)) (a.size x long ∙ same ∙ sym (a.size y (omega (arith, long, same)))) (a.mask x y long same alike);
}

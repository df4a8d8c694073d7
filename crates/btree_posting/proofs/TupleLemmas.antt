-- The tids of a tuple.
use Rattle.std.proofs.Common.{◌≡◌, ℕ, zero, suc, ◌+◌, ◌-◌, ◌*◌, ◌≤◌, List, ◌++◌, true, false, length, take, drop, refl, sym, ◌∙◌, ap, arith}
use Rattle.std.specs.Prelude.{nat_le}
use Rattle.std.specs.List.{concat}
use Rattle.std.proofs.lemmas.Bool.Decides.{nat_tests}
use Rattle.std.proofs.lemmas.List.{append-nil, drop-drop, length-drop, length-take-le}
use Rattle.std.proofs.Math.Seq.{take-add}
use Rattle.block_layouts.proofs.RowLemmas.{length-row_of}
use Rattle.page_layout.specs.Bytes.{cut}
use Rattle.btree_posting.specs.Tuple.{is_posting_tuple, tid_count, list_at, list_stands, HasList, tid_at, tid_behind, tids_from, tids_of}

pub has_list : (t : List ℕ) → list_stands t ≡ true → HasList t
has_list t e = record {
  header = grind (arith, nat_tests);
  some = grind (arith, nat_tests);
  key = grind (arith, nat_tests);
  by8 = grind (arith, nat_tests);
  within = grind (arith, nat_tests);
}

-- tids one after another are the bytes from the first on
pub concat-tids_from : (n : ℕ) (t : List ℕ) (at : ℕ) → concat (tids_from n t at) ≡ take (6 * n) (drop at t)
unfolding cut
concat-tids_from zero t at = refl
concat-tids_from (suc n) t at =
    let size : 6 + 6 * n ≡ 6 * suc n = omega arith in
    ap (λ x. take 6 (drop at t) ++ x) (concat-tids_from n t (at + 6))
    ∙ ap (λ d. take 6 (drop at t) ++ take (6 * n) d) (sym (drop-drop 6 at t))
    ∙ sym (take-add 6 (6 * n) (drop at t))
    ∙ ap (λ k. take k (drop at t)) size

pub length-tids_from : (n : ℕ) (t : List ℕ) (at : ℕ) → length (tids_from n t at) ≡ n
length-tids_from n t at = length-row_of tid_at tid_behind n t at

-- what the code takes of a tuple
module _ (t : List ℕ) where
  pub listed_bytes : (at n : ℕ) → list_stands t ≡ true → at ≡ list_at t → n ≡ tid_count t → take (at + 6 * n - at) (drop at t) ≡ concat (tids_of t)
  listed_bytes at n stands a e =
      let size : at + 6 * n - at ≡ 6 * n = omega arith in
      rw (size, a, e, stands) (sym (concat-tids_from (tid_count t) t (list_at t)))

  pub listed_size : (at n : ℕ) → list_stands t ≡ true → at ≡ list_at t → n ≡ tid_count t → length (take (at + 6 * n - at) (drop at t)) ≡ 6 * tid_count t
  listed_size at n stands a e =
      let h = has_list t stands in
      let size : at + 6 * n - at ≡ 6 * tid_count t = omega (arith, e) in
      rw (size, a) (length-take-le (6 * tid_count t) (drop (list_at t) t) (omega (arith, length-drop (list_at t) t, h.within)))

  pub listed_count : list_stands t ≡ true → length (tids_of t) ≡ tid_count t
  listed_count stands = rw stands (length-tids_from (tid_count t) t (list_at t))

  pub own_bytes : list_stands t ≡ false → is_posting_tuple t ≡ false → 8 ≤ length t → take 6 t ≡ concat (tids_of t)
  unfolding cut
  own_bytes none plain long =
      let there : nat_le 8 (length t) ≡ true = grind (arith, nat_tests) in
      rw (none, plain, there) (sym (append-nil (take 6 t)))

-- Tuples that are formed at the front of a room.
use Rattle.std.proofs.Common.{◌≡◌, ℕ, ◌+◌, ◌-◌, ◌≤◌, ◌==◌, List, ◌++◌, true, length, take, drop, sym, ◌∙◌, ap, arith}
use Rattle.std.specs.Prelude.{replicate}
use Rattle.std.proofs.lemmas.Bool.Decides.{nat_tests}
use Rattle.std.proofs.lemmas.List.{drop-take, length-append, length-replicate, length-take-le, take_at, take-take}
use Rattle.layout.specs.Splice.{splice}
use Rattle.page_layout.specs.Bytes.{up8}
use Rattle.btree_posting.specs.Form.{with_own, padded, form_of}

-- bytes laid behind the first ones
pub laid : (room bytes : List ℕ) (end : ℕ) → end ≤ length room → take (end + length bytes) (splice room end bytes) ≡ take end room ++ bytes
unfolding splice
laid room bytes end le =
    take_at (take end room ++ bytes) (drop (end + length bytes) room) (end + length bytes)
    (length-append (take end room) bytes ∙ ap (λ n. n + length bytes) (length-take-le end room le))

-- zeros laid up to the next multiple of 8
pub laid_zeros : (room : List ℕ) (end : ℕ) → end ≤ length room → take (up8 end) (splice room end (replicate (up8 end - end) 0)) ≡ padded (take end room)
laid_zeros room end le =
    let size : length (take end room) ≡ end = length-take-le end room le in
    let zeros : length {A = ℕ} (replicate (up8 end - end) 0) ≡ up8 end - end = length-replicate (up8 end - end) 0 in
    let top : end + length {A = ℕ} (replicate (up8 end - end) 0) ≡ up8 end = omega (arith, zeros) in
    ap (λ n. take n (splice room end (replicate (up8 end - end) 0))) (sym top)
    ∙ laid room (replicate (up8 end - end) 0) end le
    ∙ ap (λ n. take end room ++ replicate (up8 n - n) 0) (sym size)

-- one tid behind a key
pub formed_own : (room new : List ℕ) (at end : ℕ) → end ≡ at + 6 → end ≤ length room → take at new ≡ with_own (take at room) (take 6 (drop at room)) → take at new ≡ form_of at (take end room)
formed_own room new at end e le made =
    let size : length (take end room) ≡ end = length-take-le end room le in
    let one : (length (take end room) == at + 6) ≡ true = grind (arith, nat_tests, size, e) in
    let key : take at (take end room) ≡ take at room = take-take at end room (omega (arith, e)) in
    let tid : drop at (take end room) ≡ take 6 (drop at room) = ap (λ n. drop at (take n room)) e ∙ drop-take at 6 room in
    rw (one, key, tid) made

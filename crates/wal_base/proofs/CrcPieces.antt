-- The sum of a folded piece is that of its last bytes.
use Rattle.std.proofs.Common.{◌≡◌, ℕ, zero, suc, ◌+◌, ◌-◌, ◌*◌, ◌/◌, ◌%◌, ◌^◌, ◌<◌, ◌≤◌, List, [], ◌∷◌, ◌++◌, bit_xor, bit_and, get_or, take, drop, replicate, length, refl, sym, ap, ap₂, ◌∙◌, arith, append_assoc, take-add, take-append-drop, take_all, length-take-le, length-drop, length-append, lit<}
use Rattle.std.proofs.Math.Nat.{add_comm}
use Rattle.std.proofs.Math.Seq.{take-append-add, drop-append-add, drop-append_seam}
use Rattle.std.proofs.lemmas.List.{drop-drop, drop-take, drop-append-le, drop-replicate, take-replicate, length-replicate}
use Rattle.std.proofs.lemmas.Nat.{and_mask, mod_below}
use Rattle.std.proofs.lemmas.Simd.{length-zip2, put_chunk_is}
use Rattle.std.specs.Int.{w32, to_le_bytes}
use Rattle.std.specs.Simd.Lanes.{zip2, put_chunk}
use lib.Bits.{xor_assoc, xor_zero_l, xor_zero_r, xor_self}
use Rattle.wal_base.specs.Crc.{crc_steps, crc_fold}
use Rattle.wal_base.specs.Folding.{folded}
use Rattle.wal_base.proofs.CrcFold.{fold_append, fold_below, fold_end}
use Rattle.wal_base.proofs.CrcLinear.{xor_swap, steps_xor, steps_add, fold_xor}
use Rattle.wal_base.proofs.CrcMixed.{fold_mixed, fold_zeros, zeros_after, steps_zero}
use Rattle.wal_base.proofs.CrcRelation.{steps_sum, relation}
use Rattle.wal_base.proofs.CrcWords.{fresh_four, word_only}
use Rattle.wal_base.proofs.FoldedLists.{six, six_length, folded_front}

-- ---- six lists of one length, mixed

all_mixed : (k : ℕ) (p a b c d e : List ℕ)
    → length p ≡ k → length a ≡ k → length b ≡ k → length c ≡ k → length d ≡ k → length e ≡ k
    → crc_fold 0 (six p a b c d e)
    ≡ bit_xor (bit_xor (bit_xor (bit_xor (bit_xor (crc_fold 0 p) (crc_fold 0 a)) (crc_fold 0 b)) (crc_fold 0 c)) (crc_fold 0 d)) (crc_fold 0 e)
all_mixed k p a b c d e hp ha hb hc hd he =
    let pa : List ℕ = zip2 bit_xor p a in
    let pb : List ℕ = zip2 bit_xor pa b in
    let pc : List ℕ = zip2 bit_xor pb c in
    let pd : List ℕ = zip2 bit_xor pc d in
    let la : length pa ≡ k = length-zip2 bit_xor p a (hp ∙ sym ha) ∙ hp in
    let lb : length pb ≡ k = length-zip2 bit_xor pa b (la ∙ sym hb) ∙ la in
    let lc : length pc ≡ k = length-zip2 bit_xor pb c (lb ∙ sym hc) ∙ lb in
    let ld : length pd ≡ k = length-zip2 bit_xor pc d (lc ∙ sym hd) ∙ lc in
    fold_mixed 0 0 pd e (ld ∙ sym he)
    ∙ ap (λ x. bit_xor x (crc_fold 0 e)) (fold_mixed 0 0 pc d (lc ∙ sym hd)
    ∙ ap (λ x. bit_xor x (crc_fold 0 d)) (fold_mixed 0 0 pb c (lb ∙ sym hc)
    ∙ ap (λ x. bit_xor x (crc_fold 0 c)) (fold_mixed 0 0 pa b (la ∙ sym hb)
    ∙ ap (λ x. bit_xor x (crc_fold 0 b)) (fold_mixed 0 0 p a (hp ∙ sym ha)))))

-- ---- one of the five places: all sums but the first `d`, as far as the piece is long

module _ (d z : ℕ) (front sums : List ℕ) (in_front : d ≤ length front) (in_zeros : d ≤ z) where
  abbrev pub late : List ℕ
  late = take (length front + length sums) (drop d (front ++ (sums ++ replicate z 0)))

  late_is : late ≡ (drop d front ++ sums) ++ replicate d 0
  late_is =
      let head : List ℕ = drop d front ++ sums in
      let long : length front + length sums ≡ length head + d = omega (arith, length-append (drop d front) sums, length-drop d front) in
      ap (take (length front + length sums)) (drop-append-le d front (sums ++ replicate z 0) in_front ∙ sym (append_assoc (drop d front) sums (replicate z 0)))
      ∙ ap (λ n. take n (head ++ replicate z 0)) long
      ∙ take-append-add head (replicate z 0) d
      ∙ ap (λ zs. head ++ zs) (take-replicate d z 0 in_zeros)

  pub late_length : length late ≡ length front + length sums
  late_length =
      ap length late_is ∙ omega (arith, length-append (drop d front ++ sums) (replicate d 0), length-append (drop d front) sums, length-drop d front, length-replicate {A = ℕ} d 0)

  pub late_sum : crc_fold 0 late ≡ crc_steps (8 * d) (crc_fold (crc_fold 0 (drop d front)) sums)
  late_sum =
      ap (crc_fold 0) late_is ∙ zeros_after 0 d (drop d front ++ sums) ∙ ap (crc_steps (8 * d)) (fold_append 0 (drop d front) sums)

-- ---- the rows at the end, one after another

pub one_more_row : (s at from : ℕ) (bytes row : List ℕ) → s ≡ crc_fold 0 (take at (drop from bytes)) → row ≡ take 16 (drop (from + at) bytes)
    → crc_fold s row ≡ crc_fold 0 (take (at + 16) (drop from bytes))
one_more_row s at from bytes row so_far is =
    let all : List ℕ = drop from bytes in
    ap (λ x. crc_fold x row) so_far
    ∙ ap (crc_fold (crc_fold 0 (take at all))) (is ∙ ap (take 16) (sym (drop-drop at from bytes)))
    ∙ sym (fold_append 0 (take at all) (take 16 (drop at all)))
    ∙ ap (crc_fold 0) (sym (take-add at 16 all))

-- ---- the sums before a piece: zeros but for the four bytes of the state

zeros_small : (k : ℕ) → get_or (0 ∷ 0 ∷ 0 ∷ 0 ∷ []) k 0 < 256
zeros_small zero = lit< tt
zeros_small (suc zero) = lit< tt
zeros_small (suc (suc zero)) = lit< tt
zeros_small (suc (suc (suc zero))) = lit< tt
zeros_small (suc (suc (suc (suc k)))) = lit< tt

four_small : (s k : ℕ) → get_or (to_le_bytes w32 s) k 0 < 256
four_small s zero = mod_below s 256 (lit< tt)
four_small s (suc zero) = mod_below (s / 256) 256 (lit< tt)
four_small s (suc (suc zero)) = mod_below (s / 65536) 256 (lit< tt)
four_small s (suc (suc (suc zero))) = mod_below (s / 16777216) 256 (lit< tt)
four_small s (suc (suc (suc (suc k)))) = lit< tt

four_bytes : (s : ℕ) → s < 2 ^ 32 → crc_fold 0 (to_le_bytes w32 s) ≡ crc_steps 32 s
four_bytes s small =
    let zeros : List ℕ = 0 ∷ 0 ∷ 0 ∷ 0 ∷ [] in
    let bytes : List ℕ = to_le_bytes w32 s in
    let b0 : s % 256 ≡ bit_xor (bit_and s 255) 0 = sym (xor_zero_r (bit_and s 255) ∙ and_mask s 8) in
    let b1 : s / 256 % 256 ≡ bit_xor (bit_and (s / 256) 255) 0 = sym (xor_zero_r (bit_and (s / 256) 255) ∙ and_mask (s / 256) 8) in
    let b2 : s / 65536 % 256 ≡ bit_xor (bit_and (s / 65536) 255) 0 = sym (xor_zero_r (bit_and (s / 65536) 255) ∙ and_mask (s / 65536) 8) in
    let b3 : s / 16777216 % 256 ≡ bit_xor (s / 16777216) 0 = sym (xor_zero_r (s / 16777216) ∙ omega arith) in
    let bytes_small : (k : ℕ) → get_or bytes k 0 < 256 = four_small s in
    fresh_four bytes 0 0 refl bytes_small
    ∙ ap (λ x. bit_xor (crc_steps 32 (s % 256)) (bit_xor (crc_steps 24 (s / 256 % 256)) (bit_xor (crc_steps 16 (s / 65536 % 256)) (bit_xor (crc_steps 8 (s / 16777216 % 256)) x)))) (fold_end 0 bytes 4 (omega arith))
    ∙ ap (λ x. bit_xor (crc_steps 32 (s % 256)) (bit_xor (crc_steps 24 (s / 256 % 256)) (bit_xor (crc_steps 16 (s / 65536 % 256)) x))) (xor_zero_r (crc_steps 8 (s / 16777216 % 256)))
    ∙ rw (b0, b1, b2, b3) (sym (word_only s zeros small refl zeros_small))
    ∙ fold_zeros s 4

module _ (p s m : ℕ) (old : List ℕ) (is : old ≡ replicate p 0 ++ (to_le_bytes w32 s ++ replicate m 0)) where
  state_on : drop p old ≡ to_le_bytes w32 s ++ replicate m 0
  state_on = ap (drop p) is ∙ ap (λ k. drop k (replicate p 0 ++ (to_le_bytes w32 s ++ replicate m 0))) (sym (length-replicate {A = ℕ} p 0)) ∙ drop-append_seam (replicate p 0) (to_le_bytes w32 s ++ replicate m 0)

  zeros_on : (j : ℕ) → drop (p + (4 + j)) old ≡ replicate (m - j) 0
  zeros_on j =
      sym (drop-drop (4 + j) p old)
      ∙ ap (drop (4 + j)) state_on
      ∙ drop-append-add (to_le_bytes w32 s) (replicate m 0) j
      ∙ drop-replicate j m 0

  -- of a part of them from past the state on
  nothing_in : (j n : ℕ) → n ≤ m - j → crc_fold 0 (drop (p + (4 + j)) (take (p + (4 + j) + n) old)) ≡ 0
  nothing_in j n le =
      ap (crc_fold 0) (drop-take (p + (4 + j)) n old ∙ ap (take n) (zeros_on j) ∙ take-replicate n (m - j) 0 le)
      ∙ fold_zeros 0 n
      ∙ steps_zero (8 * n)

  -- of a part of them from the state on
  state_in : (n : ℕ) → n ≤ m → s < 2 ^ 32 → crc_fold 0 (drop p (take (p + (4 + n)) old)) ≡ crc_steps (32 + 8 * n) s
  state_in n le small =
      ap (crc_fold 0) (drop-take p (4 + n) old ∙ ap (take (4 + n)) state_on ∙ take-append-add (to_le_bytes w32 s) (replicate m 0) n ∙ ap (λ zs. to_le_bytes w32 s ++ zs) (take-replicate n m 0 le))
      ∙ zeros_after 0 n (to_le_bytes w32 s)
      ∙ ap (crc_steps (8 * n)) (four_bytes s small)
      ∙ steps_add 32 (8 * n) s

-- ---- all together

-- six terms that vanish together, and what else the last of them has with it
left_over : (r a b c d f w t last : ℕ) → bit_xor r (bit_xor a (bit_xor b (bit_xor c (bit_xor d (bit_xor f 0))))) ≡ 0
    → bit_xor r last ≡ bit_xor (bit_xor (bit_xor (bit_xor (bit_xor w a) b) c) d) (bit_xor t f)
    → last ≡ bit_xor t w
left_over r a b c d f w t last gone both =
    let five : ℕ = bit_xor a (bit_xor b (bit_xor c (bit_xor d f))) in
    let five_gone : bit_xor r five ≡ 0 = ap (λ x. bit_xor r (bit_xor a (bit_xor b (bit_xor c (bit_xor d x))))) (sym (xor_zero_r f)) ∙ gone in
    let flat : bit_xor (bit_xor (bit_xor (bit_xor (bit_xor w a) b) c) d) (bit_xor t f) ≡ bit_xor w (bit_xor a (bit_xor b (bit_xor c (bit_xor d (bit_xor t f))))) = simp xor_assoc in
    let out : bit_xor w (bit_xor a (bit_xor b (bit_xor c (bit_xor d (bit_xor t f))))) ≡ bit_xor t (bit_xor w five) =
    ap (bit_xor w) (ap (bit_xor a) (ap (bit_xor b) (ap (bit_xor c) (xor_swap d t f) ∙ xor_swap c t (bit_xor d f)) ∙ xor_swap b t (bit_xor c (bit_xor d f))) ∙ xor_swap a t (bit_xor b (bit_xor c (bit_xor d f))))
    ∙ xor_swap w t five in
    sym (xor_zero_l last) ∙ ap (λ x. bit_xor x last) (sym (xor_self r)) ∙ xor_assoc r r last
    ∙ ap (bit_xor r) (both ∙ flat ∙ out)
    ∙ xor_swap r t (bit_xor w five)
    ∙ ap (bit_xor t) (xor_swap r w five ∙ ap (bit_xor w) five_gone ∙ xor_zero_r w)

-- one of the five places by its length and its sum
one_part : (d z k q : ℕ) (front sums new : List ℕ) → new ≡ front ++ (sums ++ replicate z 0) → length front + length sums ≡ k
    → d ≤ length front → d ≤ z → crc_fold 0 (drop d front) ≡ q
    → (length (take k (drop d new)) ≡ k) × (crc_fold 0 (take k (drop d new)) ≡ crc_steps (8 * d) (crc_fold q sums))
one_part d z k q front sums new is long in_front in_zeros head =
    let same : take k (drop d new) ≡ late d z front sums in_front in_zeros =
    ap₂ (λ n xs. take n (drop d xs)) (sym long) is in (
      ap length same ∙ late_length d z front sums in_front in_zeros ∙ long,
      ap (crc_fold 0) same ∙ late_sum d z front sums in_front in_zeros ∙ ap (λ x. crc_steps (8 * d) (crc_fold x sums)) head,
    )

alone : (x : ℕ) (bytes : List ℕ) → crc_fold x bytes ≡ bit_xor (crc_steps (8 * length bytes) x) (crc_fold 0 bytes)
alone x bytes = ap (λ y. crc_fold y bytes) (sym (xor_zero_r x)) ∙ fold_xor x 0 bytes

far : (n : ℕ) → n + 304 ≡ 14 + (4 + (n + 286))
far n = omega arith

parts : (n : ℕ) (xs : List ℕ) → xs ≡ take 304 xs ++ (take n (drop 304 xs) ++ drop (n + 304) xs)
parts n xs =
    sym (take-append-drop 304 xs)
    ∙ ap (λ ys. take 304 xs ++ ys) (sym (take-append-drop n (drop 304 xs)) ∙ ap (λ ys. take n (drop 304 xs) ++ ys) (drop-drop n 304 xs ∙ ap (λ k. drop k xs) (add_comm 304 n)))

pub piece_sum : (s done room : ℕ) (piece old new : List ℕ) → s < 2 ^ 32
    → old ≡ put_chunk 14 (replicate (304 + room) 0) (to_le_bytes w32 s)
    → length piece ≡ done + 304 → done + 150 ≤ room → length new ≡ 304 + room
    → take done (drop 304 new) ≡ take done (folded piece new)
    → take 304 new ≡ take 304 old → drop (done + 304) new ≡ drop (done + 304) old
    → crc_fold 0 (take 304 (drop done (folded piece new))) ≡ crc_fold s piece
unfolding steps_sum
piece_sum s done room piece old new small placed long fits new_long rows before after =
    let le : List ℕ = to_le_bytes w32 s in
    let m : ℕ = 286 + room in
    let left : 304 + room - 18 ≡ m = omega arith in
    let old_is : old ≡ replicate 14 0 ++ (le ++ replicate m 0) =
    placed
    ∙ put_chunk_is 14 (replicate (304 + room) 0) le (omega (arith, length-replicate {A = ℕ} (304 + room) 0))
    ∙ ap₂ (λ xs ys. xs ++ (le ++ ys)) (take-replicate 14 (304 + room) 0 (omega arith)) (drop-drop 4 14 (replicate (304 + room) 0) ∙ drop-replicate 18 (304 + room) 0 ∙ ap (λ k. replicate k 0) left) in
    let front : List ℕ = take 304 new in
    let sums : List ℕ = take done (drop 304 new) in
    let z : ℕ = room - done in
    let front_long : length front ≡ 304 = length-take-le 304 new (omega arith) in
    let sums_long : length sums ≡ done = length-take-le done (drop 304 new) (omega (arith, length-drop 304 new)) in
    let zeros : drop (done + 304) new ≡ replicate z 0 =
    after ∙ ap (λ k. drop k old) (far done) ∙ zeros_on 14 s m old old_is (done + 286) ∙ ap (λ k. replicate k 0) (omega arith) in
    let new_is : new ≡ front ++ (sums ++ replicate z 0) = parts done new ∙ ap (λ zs. front ++ (sums ++ zs)) zeros in
    let k : ℕ = length piece in
    let k_is : length front + length sums ≡ k = omega arith in
    let u : ℕ = crc_fold 0 sums in
    let all : List ℕ = folded piece new in
    let last : List ℕ = take 304 (drop done all) in
    let within = λ (d q : ℕ) (in_front : d ≤ 150) (sum : crc_fold 0 (drop d (take 304 old)) ≡ q).
    one_part d z k q front sums new new_is k_is (omega arith) (omega arith) (ap (λ xs. crc_fold 0 (drop d xs)) before ∙ sum) in
    let p150 = within 150 0 (omega arith) (nothing_in 14 s m old old_is 132 154 (omega arith)) in
    let p127 = within 127 0 (omega arith) (nothing_in 14 s m old old_is 109 177 (omega arith)) in
    let p121 = within 121 0 (omega arith) (nothing_in 14 s m old old_is 103 183 (omega arith)) in
    let p46 = within 46 0 (omega arith) (nothing_in 14 s m old old_is 28 258 (omega arith)) in
    let p14 = within 14 (crc_steps 2320 s) (omega arith) (state_in 14 s m old old_is 286 (omega arith) small) in
    let whole_piece : take k piece ≡ piece = take_all k piece (omega arith) in
    let whole_long : length (take k piece) ≡ k = ap length whole_piece in
    let six_are : take k all ≡ six (take k piece) (take k (drop 150 new)) (take k (drop 127 new)) (take k (drop 121 new)) (take k (drop 46 new)) (take k (drop 14 new)) =
    folded_front k piece new in
    let split : take k all ≡ sums ++ last = ap (λ n. take n all) long ∙ take-add done 304 all ∙ ap (λ xs. xs ++ last) (sym rows) in
    let all_long : length (take k all) ≡ k =
    ap length six_are ∙ six_length k (take k piece) (take k (drop 150 new)) (take k (drop 127 new)) (take k (drop 121 new)) (take k (drop 46 new)) (take k (drop 14 new))
    whole_long p150.0 p127.0 p121.0 p46.0 p14.0 in
    let last_long : length last ≡ 304 = omega (arith, length-append sums last, ap length split, all_long) in
    let w : ℕ = crc_fold 0 piece in
    let t : ℕ = crc_steps (8 * k) s in
    let here : crc_fold 0 (take k all) ≡ bit_xor (crc_steps 2432 u) (crc_fold 0 last) =
    ap (crc_fold 0) split ∙ fold_append 0 sums last ∙ alone u last ∙ ap (λ n. bit_xor (crc_steps (8 * n) u) (crc_fold 0 last)) last_long in
    let with_state : crc_steps 112 (crc_fold (crc_steps 2320 s) sums) ≡ bit_xor t (crc_steps 112 u) =
    ap (crc_steps 112) (alone (crc_steps 2320 s) sums)
    ∙ steps_xor 112 (crc_steps (8 * length sums) (crc_steps 2320 s)) u
    ∙ ap (λ x. bit_xor x (crc_steps 112 u)) (
    ap (crc_steps 112) (steps_add 2320 (8 * length sums) s)
    ∙ steps_add (2320 + 8 * length sums) 112 s
    ∙ ap (λ n. crc_steps n s) (omega arith)
    ) in
    let there : crc_fold 0 (take k all) ≡ bit_xor (bit_xor (bit_xor (bit_xor (bit_xor w (crc_steps 1200 u)) (crc_steps 1016 u)) (crc_steps 968 u)) (crc_steps 368 u)) (bit_xor t (crc_steps 112 u)) =
    ap (crc_fold 0) six_are
    ∙ all_mixed k (take k piece) (take k (drop 150 new)) (take k (drop 127 new)) (take k (drop 121 new)) (take k (drop 46 new)) (take k (drop 14 new))
    whole_long p150.0 p127.0 p121.0 p46.0 p14.0
    ∙ rw (whole_piece, p150.1, p127.1, p121.1, p46.1, p14.1, with_state) refl in
    left_over (crc_steps 2432 u) (crc_steps 1200 u) (crc_steps 1016 u) (crc_steps 968 u) (crc_steps 368 u) (crc_steps 112 u) w t (crc_fold 0 last)
    (relation u (fold_below 0 sums (lit< tt))) (sym here ∙ there)
    ∙ sym (alone s piece)

-- The blocks of a file that both clusters have.
use Rattle.std.proofs.Common.{◌≡◌, ℕ, ◌+◌, ◌*◌, ◌-◌, ◌/◌, ◌%◌, ◌<◌, ◌≤◌, Bool, true, false, cond, ◌||◌, nat_le, List, length, map, take, drop, get_or, refl, ap, sym, ◌∙◌, arith}
use Rattle.std.proofs.lemmas.Bool.Decides.{nat_tests}
use Rattle.std.proofs.lemmas.List.{ext_get_or, get_or-drop, get_or-take, length-drop, length-take}
use Rattle.std.proofs.lemmas.List.FromFn.{get_or-map-range_with_len, length-map-range_with_len}
use Rattle.std.specs.List.{range_with_len}
use Rattle.rewound_tree.specs.Mixed.{mixed, mixed_byte}
use Rattle.rewound_tree.specs.Laws.{block_of}

pub mixed_length : (wanted : ℕ → Bool) (old new : List ℕ) → length (mixed wanted old new) ≡ length new
unfolding mixed
mixed_length wanted old new = length-map-range_with_len (mixed_byte wanted old new) 0 (length new)

block_length : (block : ℕ) (bytes : List ℕ) → 8192 * block + 8192 ≤ length bytes → length (block_of block bytes) ≡ 8192
block_length block bytes h = omega (arith, length-take {A = ℕ}, length-drop {A = ℕ})

byte_of : (block i : ℕ) (bytes : List ℕ) → i < 8192 → get_or (block_of block bytes) i 0 ≡ get_or bytes (8192 * block + i) 0
byte_of block i bytes h = get_or-take 8192 (drop (8192 * block) bytes) i 0 h ∙ get_or-drop (8192 * block) bytes i 0

same_block : (block i : ℕ) → i < 8192 → (8192 * block + i) / 8192 ≡ block
same_block block i h = omega arith

past_alike : (old block i : ℕ) → old % 8192 ≡ 0 → i < 8192 → nat_le old (8192 * block + i) ≡ nat_le old (8192 * block)
past_alike old block i whole h = by (nat_le old (8192 * block)) refl
  where
    by : (b : Bool) → nat_le old (8192 * block) ≡ b → nat_le old (8192 * block + i) ≡ b
    by true e = let low : old ≤ 8192 * block = grind (arith, nat_tests) in let more : old ≤ 8192 * block + i = omega arith in grind (arith, nat_tests)
    by false e = let high : 8192 * block < old = grind (arith, nat_tests) in let less : 8192 * block + i < old = omega arith in grind (arith, nat_tests)

mixed_at : (wanted : ℕ → Bool) (old new : List ℕ) (block i : ℕ) → length old % 8192 ≡ 0 → 8192 * block + 8192 ≤ length new → i < 8192
    → get_or (mixed wanted old new) (8192 * block + i) 0
    ≡ cond (wanted block || nat_le (length old) (8192 * block)) (get_or new (8192 * block + i) 0) (get_or old (8192 * block + i) 0)
unfolding mixed
mixed_at wanted old new block i whole room h =
    get_or-map-range_with_len (mixed_byte wanted old new) 0 (length new) (8192 * block + i) (8192 * block + i) 0 (omega arith) (omega arith)
    ∙ ap (λ b. cond (wanted b || nat_le (length old) (8192 * block + i)) (get_or new (8192 * block + i) 0) (get_or old (8192 * block + i) 0)) (same_block block i h)
    ∙ ap (λ b. cond (wanted block || b) (get_or new (8192 * block + i) 0) (get_or old (8192 * block + i) 0)) (past_alike (length old) block i whole h)

not_past : (old block : ℕ) (w : Bool) → old % 8192 ≡ 0 → (w || nat_le old (8192 * block)) ≡ false → 8192 * block + 8192 ≤ old
not_past old block true whole e = absurd cc
not_past old block false whole e = let high : 8192 * block < old = grind (arith, nat_tests) in omega arith

pub block_side : (wanted : ℕ → Bool) (old new : List ℕ) (block : ℕ) → length old % 8192 ≡ 0 → 8192 * block + 8192 ≤ length new
    → block_of block (mixed wanted old new) ≡ cond (wanted block || nat_le (length old) (8192 * block)) (block_of block new) (block_of block old)
block_side wanted old new block whole room = by (wanted block || nat_le (length old) (8192 * block)) refl
  where
    size : length (block_of block (mixed wanted old new)) ≡ 8192
    size = block_length block (mixed wanted old new) (omega (arith, mixed_length wanted old new))

    from_new : (i : ℕ) → i < 8192 → (wanted block || nat_le (length old) (8192 * block)) ≡ true → get_or (block_of block (mixed wanted old new)) i 0 ≡ get_or (block_of block new) i 0
    from_new i l e =
        byte_of block i (mixed wanted old new) l ∙ mixed_at wanted old new block i whole room l
        ∙ ap (λ b. cond b (get_or new (8192 * block + i) 0) (get_or old (8192 * block + i) 0)) e ∙ sym (byte_of block i new l)

    from_old : (i : ℕ) → i < 8192 → (wanted block || nat_le (length old) (8192 * block)) ≡ false → get_or (block_of block (mixed wanted old new)) i 0 ≡ get_or (block_of block old) i 0
    from_old i l e =
        byte_of block i (mixed wanted old new) l ∙ mixed_at wanted old new block i whole room l
        ∙ ap (λ b. cond b (get_or new (8192 * block + i) 0) (get_or old (8192 * block + i) 0)) e ∙ sym (byte_of block i old l)

    by : (b : Bool) → (wanted block || nat_le (length old) (8192 * block)) ≡ b → block_of block (mixed wanted old new) ≡ cond b (block_of block new) (block_of block old)
    by true e = ext_get_or 0 (block_of block (mixed wanted old new)) (block_of block new) (size ∙ sym (block_length block new room)) (λ i l. from_new i (omega (arith, size)) e)
    by false e =
        let more : 8192 * block + 8192 ≤ length old = not_past (length old) block (wanted block) whole e in
        ext_get_or 0 (block_of block (mixed wanted old new)) (block_of block old) (size ∙ sym (block_length block old more)) (λ i l. from_old i (omega (arith, size)) e)

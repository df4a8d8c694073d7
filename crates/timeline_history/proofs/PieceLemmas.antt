-- Bytes up to a byte and after it, and the lines of a text.
use Rattle.std.proofs.Common.{◌≡◌, ◌==◌, ℕ, suc, ◌+◌, ◌-◌, ◌<◌, Bool, true, false, not, cond, List, [], ◌∷◌, Some, None, length, take, drop, get_or, refl, sym, ap, ◌∙◌, arith}
use Rattle.std.proofs.lemmas.List.Sums.{position_or_len_is}
use Rattle.std.proofs.lemmas.List.{take_all, drop_all, take_rest, length-drop}
use Rattle.std.specs.List.{position_or_len, before_first, after_first}
use Rattle.memchr.specs.Find.{is_byte, IsFirstByte}
use Rattle.timeline_history.specs.Lines.{newline, at_front, lines_of}

not_true : (b : Bool) → (b ≡ true → ⊥) → b ≡ false
not_true true h = absurd (h refl)
not_true false h = refl

module _ (test : ℕ → Bool) (bytes : List ℕ) where
  found_at : (at : ℕ) → IsFirstByte test bytes (Some at) → position_or_len test bytes ≡ at
  found_at at h =
      let first = h.0 in
      let high : at < length bytes = first.high in
      position_or_len_is test bytes at 0 (omega arith) (λ k l. not_true (test (get_or bytes k 0)) (first.before k (omega arith) l)) (λ _. h.1)

  found_nowhere : IsFirstByte test bytes None → position_or_len test bytes ≡ length bytes
  found_nowhere h =
      position_or_len_is test bytes (length bytes) 0 (omega arith) (λ k l. not_true (test (get_or bytes k 0)) (h k (omega arith) l)) (λ l. absurd (omega arith))

  pub before_found : (at : ℕ) → IsFirstByte test bytes (Some at) → take at bytes ≡ before_first test bytes
  before_found at h = ap (λ k. take k bytes) (sym (found_at at h))

  pub after_found : (at : ℕ) → IsFirstByte test bytes (Some at) → take (length bytes - (at + 1)) (drop (at + 1) bytes) ≡ after_first test bytes
  after_found at h = take_rest bytes (at + 1) ∙ ap (λ k. drop (k + 1) bytes) (sym (found_at at h))

  pub before_none : IsFirstByte test bytes None → bytes ≡ before_first test bytes
  before_none h = sym (take_all (position_or_len test bytes) bytes (omega (arith, found_nowhere h)))

  pub after_none : IsFirstByte test bytes None → take (length bytes - length bytes) (drop (length bytes) bytes) ≡ after_first test bytes
  after_none h =
      take_rest bytes (length bytes)
      ∙ drop_all (length bytes) bytes (omega arith)
      ∙ sym (drop_all (position_or_len test bytes + 1) bytes (omega (arith, found_nowhere h)))

-- what stands after the first such byte is shorter
pub after_shorter : (test : ℕ → Bool) (bytes : List ℕ) → 0 < length bytes → length (after_first test bytes) < length bytes
after_shorter test bytes h = omega (arith, length-drop (position_or_len test bytes + 1) bytes)

one_more : (k : ℕ) → 1 + k ≡ suc k
one_more k = omega arith

suc_more : (k : ℕ) → 1 + k + 1 ≡ suc (k + 1)
suc_more k = omega arith

line_ends : (byte : ℕ) (bytes : List ℕ)
    → at_front byte (lines_of bytes) ≡ (byte ∷ before_first (is_byte newline) bytes) ∷ lines_of (after_first (is_byte newline) bytes)
    → lines_of (byte ∷ bytes) ≡ before_first (is_byte newline) (byte ∷ bytes) ∷ lines_of (after_first (is_byte newline) (byte ∷ bytes))
unfolding lines_of
line_ends byte bytes rest = by (byte == newline) refl
  where
    by : (b : Bool) → (byte == newline) ≡ b
        → cond (byte == newline) ([] ∷ lines_of bytes) (at_front byte (lines_of bytes))
        ≡ take (cond (not (byte == newline)) (1 + position_or_len (is_byte newline) bytes) 0) (byte ∷ bytes)
        ∷ lines_of (drop (cond (not (byte == newline)) (1 + position_or_len (is_byte newline) bytes) 0 + 1) (byte ∷ bytes))
    by true e = rw e refl
    by false e =
        rw e
        (rest
        ∙ ap (λ k. take k (byte ∷ bytes) ∷ lines_of (after_first (is_byte newline) bytes)) (sym (one_more (position_or_len (is_byte newline) bytes)))
        ∙ ap (λ k. take (1 + position_or_len (is_byte newline) bytes) (byte ∷ bytes) ∷ lines_of (drop k (byte ∷ bytes))) (sym (suc_more (position_or_len (is_byte newline) bytes))))

-- the lines of a text that isn't empty: the bytes before its first newline, and the lines of those after it
lines_first : (byte : ℕ) (bytes : List ℕ)
    → lines_of (byte ∷ bytes) ≡ before_first (is_byte newline) (byte ∷ bytes) ∷ lines_of (after_first (is_byte newline) (byte ∷ bytes))
unfolding lines_of
lines_first byte [] = line_ends byte [] refl
lines_first byte (c ∷ cs) = line_ends byte (c ∷ cs) (ap (at_front byte) (lines_first c cs))

pub lines_next : (bytes line after : List ℕ) → 0 < length bytes → line ≡ before_first (is_byte newline) bytes → after ≡ after_first (is_byte newline) bytes
    → lines_of bytes ≡ line ∷ lines_of after
lines_next [] line after h e f = absurd (omega arith)
lines_next (byte ∷ bytes) line after h e f =
    lines_first byte bytes
    ∙ ap (λ x. x ∷ lines_of (after_first (is_byte newline) (byte ∷ bytes))) (sym e)
    ∙ ap (λ x. line ∷ lines_of x) (sym f)

pub lines_nil : (bytes : List ℕ) → length bytes ≡ 0 → lines_of bytes ≡ []
unfolding lines_of
lines_nil [] h = refl
lines_nil (byte ∷ bytes) h = absurd (omega arith)

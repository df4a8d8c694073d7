-- Bytes that go on in zeros, and what is written over the first of them.
use Rattle.std.proofs.Common.{◌≡◌, ℕ, ◌+◌, ◌-◌, ◌≤◌, ◌++◌, List, [], take, drop, length, replicate, refl, sym, ap, ◌∙◌, append_assoc, arith, length-append, length-take-le}
use Rattle.std.proofs.lemmas.List.{length-replicate, drop-replicate, replicate-append-replicate, take_at, append-nil, drop-drop, drop_at}
use Rattle.layout.specs.Splice.{splice}
use Rattle.wal_records.specs.Zeros.{ZeroEnded, with_bytes}

-- so many bytes, and zeros behind them
abbrev pub EndsInZeros : ℕ → List ℕ → Type 0
EndsInZeros used all = (used ≤ length all) × (all ≡ take used all ++ replicate (length all - used) 0)

pub view_is : (a b : List ℕ) (m n : ℕ) → a ≡ b → m ≡ n → ◌≡◌ {A = ZeroEnded} (record { bytes = a; zeros = m }) (record { bytes = b; zeros = n })
view_is a b m n e f = cc

-- bytes that begin so, with zeros behind, are such
pub ends_so : (front : List ℕ) (n : ℕ) (all : List ℕ) (used : ℕ) → used ≡ length front → all ≡ front ++ replicate n 0 → EndsInZeros used all
ends_so front n all used e h =
    let size : length all ≡ length front + n = ap length h ∙ length-append front (replicate n 0) ∙ ap (λ k. length front + k) (length-replicate n 0) in
    let same : take used all ≡ front = ap (take used) h ∙ take_at front (replicate n 0) used (sym e) in
    let rest : n ≡ length all - used = omega arith in
    (omega arith, h ∙ ap (λ f. f ++ replicate n 0) (sym same) ∙ ap (λ k. take used all ++ replicate k 0) rest)

-- and are seen so
pub seen_so : (front : List ℕ) (n : ℕ) (all : List ℕ) (used : ℕ) → used ≡ length front → all ≡ front ++ replicate n 0
    → ◌≡◌ {A = ZeroEnded} (record { bytes = take used all; zeros = length all - used }) (record { bytes = front; zeros = n })
seen_so front n all used e h =
    let size : length all ≡ length front + n = ap length h ∙ length-append front (replicate n 0) ∙ ap (λ k. length front + k) (length-replicate n 0) in
    view_is (take used all) front (length all - used) n (ap (take used) h ∙ take_at front (replicate n 0) used (sym e)) (omega arith)

beyond : (used more : ℕ) (all : List ℕ) → EndsInZeros used all → drop (used + more) all ≡ drop more (replicate (length all - used) 0)
beyond used more all h =
    sym (drop-drop more used all)
    ∙ ap (drop more) (ap (drop used) h.1 ∙ drop_at (take used all) (replicate (length all - used) 0) used (length-take-le used all h.0))

-- what is written over the first zeros
pub written_over : (used : ℕ) (all piece : List ℕ) → EndsInZeros used all → length piece ≤ length all - used
    → splice all used piece ≡ (take used all ++ piece) ++ replicate (length all - used - length piece) 0
unfolding splice
written_over used all piece h room =
    let front : List ℕ = take used all in
    let size : length front ≡ used = length-take-le used all h.0 in
    let more : drop (used + length piece) all ≡ drop (length piece) (replicate (length all - used) 0) = beyond used (length piece) all h in
    let laid : splice all used piece ≡ (front ++ piece) ++ drop (used + length piece) all = refl in
    laid ∙ ap (λ t. (front ++ piece) ++ t) (more ∙ drop-replicate (length piece) (length all - used) 0)

-- what is kept of a list by its length
pub kept_len : (len : ℕ) (w b : List ℕ) → len ≡ length w → take len (w ++ drop (length w) b) ≡ w
kept_len len w b e = take_at w (drop (length w) b) len (sym e)

parts : (n count : ℕ) → count ≤ n → n ≡ count + (n - count)
parts n count h = omega arith

-- some of the zeros are taken for bytes
pub passed_over : (used count : ℕ) (all : List ℕ) → EndsInZeros used all → count ≤ length all - used
    → all ≡ (take used all ++ replicate count 0) ++ replicate (length all - used - count) 0
passed_over used count all h room =
    h.1
    ∙ ap (λ n. take used all ++ replicate n 0) (parts (length all - used) count room)
    ∙ ap (λ z. take used all ++ z) (sym (replicate-append-replicate count (length all - used - count) 0))
    ∙ sym (append_assoc (take used all) (replicate count 0) (replicate (length all - used - count) 0))

pub length_with : (used : ℕ) (all piece : List ℕ) → used ≤ length all → used + length piece ≡ length (take used all ++ piece)
length_with used all piece h = sym (length-append (take used all) piece ∙ ap (λ n. n + length piece) (length-take-le used all h))

pub with_twice : (z : ZeroEnded) (a b : List ℕ) → with_bytes (with_bytes z a) b ≡ with_bytes z (a ++ b)
with_twice z a b = view_is _ _ _ _ (append_assoc z.bytes a b) (omega (arith, length-append a b))

pub length_over : (used : ℕ) (all piece w : List ℕ) → EndsInZeros used all → length piece ≤ length all - used
    → w ≡ (take used all ++ piece) ++ replicate (length all - used - length piece) 0 → length w ≡ length all
length_over used all piece w h room e =
    let front : length (take used all ++ piece) ≡ used + length piece = sym (length_with used all piece h.0) in
    let size : length w ≡ length (take used all ++ piece) + (length all - used - length piece) =
    ap length e ∙ length-append (take used all ++ piece) (replicate (length all - used - length piece) 0)
    ∙ ap (λ n. length (take used all ++ piece) + n) (length-replicate (length all - used - length piece) 0) in
    omega (arith, h.0)

-- bytes that are added one after another
pub with_then : (z y x : ZeroEnded) (a b d : List ℕ) → y ≡ with_bytes z a → x ≡ with_bytes y d → d ≡ b → x ≡ with_bytes z (a ++ b)
with_then z y x a b d e f g = f ∙ ap (with_bytes y) g ∙ ap (λ (w : ZeroEnded). with_bytes w b) e ∙ with_twice z a b

pub with_first : (z y : ZeroEnded) (a d : List ℕ) → y ≡ with_bytes z d → d ≡ a → y ≡ with_bytes z a
with_first z y a d e f = e ∙ ap (with_bytes z) f

pub append_then : (z y x a b d : List ℕ) → y ≡ z ++ a → x ≡ y ++ d → d ≡ b → x ≡ z ++ (a ++ b)
append_then z y x a b d e f g = f ∙ ap (λ t. y ++ t) g ∙ ap (λ w. w ++ b) e ∙ append_assoc z a b

pub append_on : (old new piece rest all : List ℕ) → new ≡ old ++ piece → piece ++ rest ≡ all → new ++ rest ≡ old ++ all
append_on old new piece rest all e f = ap (λ t. t ++ rest) e ∙ append_assoc old piece rest ∙ ap (λ t. old ++ t) f

-- as many bytes and zeros as before
pub kept_room : (z y : ZeroEnded) (piece : List ℕ) → y ≡ with_bytes z piece → length piece ≤ z.zeros → length y.bytes + y.zeros ≡ length z.bytes + z.zeros
kept_room z y piece e h =
    let a : length y.bytes ≡ length z.bytes + length piece = ap (λ (w : ZeroEnded). length w.bytes) e ∙ length-append z.bytes piece in
    let b : y.zeros ≡ z.zeros - length piece = ap (λ (w : ZeroEnded). w.zeros) e in
    omega arith

pub both_lengths : (a b d e : List ℕ) → a ++ b ≡ d ++ e → length a + length b ≡ length d + length e
both_lengths a b d e h = sym (length-append a b) ∙ ap length h ∙ length-append d e

pub with_none : (z : ZeroEnded) (a : List ℕ) → a ≡ [] → z ≡ with_bytes z a
with_none z a e = view_is z.bytes (z.bytes ++ []) z.zeros (z.zeros - 0) (sym (append-nil z.bytes)) (omega arith) ∙ ap (with_bytes z) (sym e)

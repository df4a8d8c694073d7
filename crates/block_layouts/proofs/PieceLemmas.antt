-- Numbers in a piece of the bytes are those in the bytes.
use Rattle.std.proofs.Common.{◌≡◌, ℕ, ◌+◌, ◌<◌, ◌≤◌, List, ◌++◌, length, take, drop, get_or, refl, sym, ap, ◌∙◌, arith}
use Rattle.std.proofs.lemmas.List.{get_or-drop, get_or-take, take_at}
use Rattle.layout.specs.Readers.{u16_at}

same_byte : (bytes : List ℕ) (at size k i : ℕ) → k + i < size → get_or (drop k (take size (drop at bytes))) i 0 ≡ get_or (drop (at + k) bytes) i 0
same_byte bytes at size k i lt =
    get_or-drop k (take size (drop at bytes)) i 0
    ∙ get_or-take size (drop at bytes) (k + i) 0 lt
    ∙ get_or-drop at bytes (k + i) 0
    ∙ ap (λ (j : ℕ). get_or bytes j 0) (omega arith)
    ∙ sym (get_or-drop (at + k) bytes i 0)

pub u16_at-piece : (bytes : List ℕ) (at size k : ℕ) → k + 2 ≤ size → u16_at k (take size (drop at bytes)) ≡ u16_at (at + k) bytes
unfolding u16_at
u16_at-piece bytes at size k room =
    let first = same_byte bytes at size k 0 (omega arith) in
    let second = same_byte bytes at size k 1 (omega arith) in
    rw (first, second) refl

-- where the bytes go on with a piece, its numbers stand there
pub u16_at-front : (bytes piece rest : List ℕ) (at k : ℕ) → drop at bytes ≡ piece ++ rest → k + 2 ≤ length piece → u16_at (at + k) bytes ≡ u16_at k piece
u16_at-front bytes piece rest at k e room =
    let whole : take (length piece) (drop at bytes) ≡ piece = ap (take (length piece)) e ∙ take_at piece rest (length piece) refl in
    sym (u16_at-piece bytes at (length piece) k room) ∙ ap (u16_at k) whole

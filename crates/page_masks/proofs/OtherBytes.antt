-- The masks of sequences and other pages, byte by byte.
use Rattle.std.proofs.Common.{◌≡◌, ℕ, ◌+◌, ◌-◌, ◌≤◌, ◌&&◌, List, Bool, true, false, length, refl, sym, ◌∙◌, arith}
use Rattle.std.specs.Prelude.{if◌then◌else◌, nat_lt, nat_le, replicate}
use Rattle.std.proofs.lemmas.Bool.Decides.{nat_tests}
use Rattle.std.proofs.lemmas.List.{length-replicate}
use Rattle.layout.specs.Splice.{splice}
use Rattle.page_layout.specs.Bytes.{byte, page_of}
use Rattle.page_layout.specs.Page.{pd_lower, pd_upper, Head}
use Rattle.layout.proofs.SpliceLemmas.{length-splice, byte-splice}
use Rattle.page_layout.proofs.BytesLemmas.{byte-zeros, byte-page_of, length-page_of, same_pages}
use Rattle.page_masks.specs.Mask.{sequence_byte, other_byte}

cleared_front : (p : List ℕ) (i : ℕ) → length p ≡ 8192 → byte (splice p 0 (replicate 10 0)) i ≡ (if nat_lt i 10 then 0 else byte p i)
cleared_front p i size = byte-splice p 0 (replicate 10 0) i (omega arith) ∙ grind (arith, nat_tests, byte-zeros 10 (i - 0))

pub other_open : (p : List ℕ) (i : ℕ) → other_byte p i ≡ (if nat_lt i 10 then 0 else byte p i)
unfolding other_byte
other_open p i = refl

pub sequence_open : (p : List ℕ) (i : ℕ) → sequence_byte p i ≡ (if nat_lt i 10 then 0 else if nat_le (pd_lower p) i && nat_lt i (pd_upper p) then 0 else byte p i)
unfolding sequence_byte
sequence_open p i = refl

pub other_laid : (p : List ℕ) → length p ≡ 8192 → splice p 0 (replicate 10 0) ≡ page_of (other_byte p)
other_laid p size = same_pages (splice p 0 (replicate 10 0)) (page_of (other_byte p)) (length-splice p 0 (replicate 10 0) (omega arith) ∙ size) (length-page_of (other_byte p))
    (λ i lt. cleared_front p i size ∙ sym (other_open p i) ∙ sym (byte-page_of (other_byte p) i lt))

either_first : (a b : Bool) (x : ℕ) → (if b then 0 else if a then 0 else x) ≡ (if a then 0 else if b then 0 else x)
either_first true true x = refl
either_first true false x = refl
either_first false true x = refl
either_first false false x = refl

pub sequence_laid : (p : List ℕ) → length p ≡ 8192 → Head p → splice (splice p 0 (replicate 10 0)) (pd_lower p) (replicate (pd_upper p - pd_lower p) 0) ≡ page_of (sequence_byte p)
sequence_laid p size h = same_pages (splice one (pd_lower p) zeros) (page_of (sequence_byte p)) (length-splice one (pd_lower p) zeros fits ∙ one_size) (length-page_of (sequence_byte p))
    (λ i lt. byte-splice one (pd_lower p) zeros i fits ∙ rw (byte-zeros (pd_upper p - pd_lower p) (i - pd_lower p), n, up, cleared_front p i size)
    (either_first (nat_lt i 10) (nat_le (pd_lower p) i && nat_lt i (pd_upper p)) (byte p i)) ∙ sym (sequence_open p i) ∙ sym (byte-page_of (sequence_byte p) i lt))
  where
    one : List ℕ
    one = splice p 0 (replicate 10 0)

    zeros : List ℕ
    zeros = replicate (pd_upper p - pd_lower p) 0

    n : length zeros ≡ pd_upper p - pd_lower p
    n = length-replicate {A = ℕ} (pd_upper p - pd_lower p) 0

    up : pd_lower p + (pd_upper p - pd_lower p) ≡ pd_upper p
    up = omega (arith, h.mid)

    one_size : length one ≡ 8192
    one_size = length-splice p 0 (replicate 10 0) (omega arith) ∙ size

    fits : pd_lower p + length zeros ≤ length one
    fits = omega (arith, n, one_size, h.mid, h.high, h.top)

-- A page that gets an LSN has it.
use Rattle.std.proofs.Common.{◌≡◌, ℕ, ◌+◌, ◌-◌, ◌*◌, ◌/◌, ◌%◌, ◌<◌, ◌==◌, List, Bool, true, false, IsTrue, length, refl, ◌∙◌, ap, arith}
use Rattle.std.proofs.lemmas.Bool.Decides.{nat_tests}
use Rattle.layout.specs.Splice.{splice}
use Rattle.page_layout.specs.Bytes.{byte}
use Rattle.page_layout.specs.Lsn.{lsn, lsn_bytes, with_lsn}
use Rattle.layout.proofs.SpliceLemmas.{length-splice, byte-splice_in}
use Rattle.page_masks.specs.Kind.{is_zero}
use Rattle.page_masks.specs.Law.{is_page}
use Rattle.page_masks.proofs.Unshown.{zero_byte}

four_bytes : (n : ℕ) → n % 256 + 256 * (n / 256 % 256) + 65536 * (n / 65536 % 256 + 256 * (n / 16777216)) ≡ n
four_bytes n = omega arith

both_halves : (n : ℕ) → n / 4294967296 * 4294967296 + n % 4294967296 ≡ n
both_halves n = omega arith

pub lsn-with_lsn : (end : ℕ) (p : List ℕ) → length p ≡ 8192 → lsn (with_lsn end p) ≡ end
unfolding lsn with_lsn
lsn-with_lsn end p size =
    (λ t. (at 0 (omega arith) t + 256 * at 1 (omega arith) t + 65536 * (at 2 (omega arith) t + 256 * at 3 (omega arith) t)) * 4294967296 + (at 4 (omega arith) t + 256 * at 5 (omega arith) t + 65536 * (at 6 (omega arith) t + 256 * at 7 (omega arith) t)))
    ∙ (λ t. four_bytes (end / 4294967296) t * 4294967296 + four_bytes (end % 4294967296) t) ∙ both_halves end
  where
    eight : length (lsn_bytes end) ≡ 8
    eight = refl

    at : (i : ℕ) → i < 8 → byte (splice p 0 (lsn_bytes end)) i ≡ byte (lsn_bytes end) i
    at i lt = let same : i - 0 ≡ i = omega arith in byte-splice_in p 0 (lsn_bytes end) i (omega (arith, eight)) (omega arith) (omega (arith, eight)) ∙ ap (byte (lsn_bytes end)) same

length-with_lsn : (end : ℕ) (p : List ℕ) → length p ≡ 8192 → length (with_lsn end p) ≡ 8192
unfolding with_lsn
length-with_lsn end p size = let eight : length (lsn_bytes end) ≡ 8 = refl in length-splice p 0 (lsn_bytes end) (omega (arith, eight)) ∙ size

zeros_at_0 : (p : List ℕ) → is_zero p ≡ true → lsn p ≡ 0
unfolding lsn
zeros_at_0 p z = λ t. (zero_byte p 0 z t + 256 * zero_byte p 1 z t + 65536 * (zero_byte p 2 z t + 256 * zero_byte p 3 z t)) * 4294967296 + (zero_byte p 4 z t + 256 * zero_byte p 5 z t + 65536 * (zero_byte p 6 z t + 256 * zero_byte p 7 z t))

pub page_size : (p : List ℕ) → IsTrue (is_page p) → length p ≡ 8192
page_size p h = by_case (length p == 8192) refl
  where
    by_case : (b : Bool) → (length p == 8192) ≡ b → length p ≡ 8192
    by_case true e = grind (arith, nat_tests)
    by_case false e = absurd (off (rw e at h))
      where
        off : IsTrue false → ⊥
        off x = cc

pub stamped_page : (end : ℕ) (p : List ℕ) → 0 < end → length p ≡ 8192 → IsTrue (is_page (with_lsn end p))
stamped_page end p some size =
    let long : (length (with_lsn end p) == 8192) ≡ true = let n = length-with_lsn end p size in grind (arith, nat_tests, n) in
    let nonzero : is_zero (with_lsn end p) ≡ false = by_case (is_zero (with_lsn end p)) refl in
    rw (long, nonzero) refl
  where
    by_case : (b : Bool) → is_zero (with_lsn end p) ≡ b → is_zero (with_lsn end p) ≡ false
    by_case false e = e
    by_case true e = absurd (omega (arith, zeros_at_0 (with_lsn end p) e, lsn-with_lsn end p size, some))

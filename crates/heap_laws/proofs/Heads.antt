-- Changes of a page's header that isn't shown.
use Rattle.std.proofs.Common.{◌≡◌, ℕ, ◌+◌, ◌*◌, ◌/◌, ◌%◌, List, Bool, true, false, ◌∙◌, ap, arith}
use Rattle.std.specs.Prelude.{if◌then◌else◌}
use Rattle.std.proofs.lemmas.List.{length-set, get_or-set_same, get_or-set_other}
use Rattle.page_layout.specs.Bytes.{byte}
use Rattle.redo_steps.specs.Bits.{has_bit}
use Rattle.redo_steps.specs.Head.{with_all_visible}
use Rattle.heap_tuples.specs.Heap.{visible_cleared}
use Rattle.heap_tuples.proofs.TupleLaws.{OfHead, only_both, nothing_more, visible_head}
use Rattle.heap_pages.specs.Insert.{visible_told}
use Rattle.heap_pages.specs.Update.{new_cleared}

both_heads : (f g : List ℕ → List ℕ) → OfHead f → OfHead g → OfHead (λ r. g (f r))
both_heads f g hf hg = λ r size. let a = hf r size in only_both r (f r) (g (f r)) a (hg (f r) a.size)

picked : (b : Bool) (f g : List ℕ → List ℕ) → OfHead f → OfHead g → OfHead (λ r. if b then f r else g r)
picked true f g hf hg = hf
picked false f g hf hg = hg

pub set_head : OfHead with_all_visible
set_head = λ r size.
    let new = byte r 10 / 8 * 8 + 4 + byte r 10 % 4 in
    record {
      size = length-set r 10 new ∙ size;
      flags = ap (λ x. x / 8 * 8) (get_or-set_same r 10 new 0 (omega (arith, size))) ∙ ten (byte r 10);
      head = λ i le lt. get_or-set_other r 10 i new 0 (λ e. omega arith);
      rest = λ i le. get_or-set_other r 10 i new 0 (λ e. omega arith);
    }
  where
    ten : (b : ℕ) → (b / 8 * 8 + 4 + b % 4) / 8 * 8 ≡ b / 8 * 8
    ten b = omega arith

pub told_head : (flags : ℕ) → OfHead (visible_told flags)
told_head flags = picked (has_bit 0x20 flags) (λ r. with_all_visible (visible_cleared flags r)) (visible_cleared flags) (both_heads (visible_cleared flags) with_all_visible (visible_head flags) set_head) (visible_head flags)

-- flag 2 of an UPDATE takes off what flag 1 of another record does
pub cleared_head : (flags : ℕ) → OfHead (new_cleared flags)
cleared_head flags = picked (has_bit 2 flags) (visible_cleared 1) (λ r. r) (visible_head 1) nothing_more

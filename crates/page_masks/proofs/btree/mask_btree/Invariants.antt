use Rattle.std.proofs.Common.{◌≡◌, ◌<◌, ℕ, length}
use Rattle.page_layout.specs.Bytes.{byte}
use Rattle.page_masks.specs.Mask.{btree_byte}
use Rattle.page_masks.proofs.btree.mask_btree.Given as goal

abbrev pub invariant-loop-i : goal.invariant-loop-i
invariant-loop-i l = record { bytes : (j : ℕ) → j < l.i → byte l.page j ≡ btree_byte l.old j; size : length l.page ≡ 8192 }

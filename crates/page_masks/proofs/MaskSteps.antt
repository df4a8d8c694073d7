-- The steps on each kind of page give its mask.
use Rattle.std.proofs.Common.{◌≡◌, ℕ, List, length, sym, ◌∙◌, ap}
use Rattle.page_layout.specs.Bytes.{byte, page_of}
use Rattle.page_layout.proofs.BytesLemmas.{length-page_of, byte-page_of, same_pages}
use Rattle.page_masks.specs.Kind.{kind_of}
use Rattle.page_masks.specs.Mask.{mask, masked_by, btree_byte, sequence_byte, other_byte}
use Rattle.page_masks.specs.Laying.{heap_laid}
use Rattle.page_masks.specs.Shapes.{IsHeap}
use Rattle.page_masks.specs.declared.kind.PageKind.{PageKind}
use Rattle.page_masks.specs.declared.kind.PageKind.TheVariants.{Zero, Btree, Sequence, Other}
use Rattle.page_masks.proofs.HeapLaid.{heap_laid_is}
use Rattle.page_masks.proofs.Unshown.{heap_mask_is}

pub mask_by : (block : ℕ) (p : List ℕ) (k : PageKind) → kind_of p ≡ k → mask block p ≡ page_of (masked_by k block p)
unfolding mask
mask_by block p k e = ap (λ x. page_of (masked_by x block p)) e

pub heap_masked : (block : ℕ) (p : List ℕ) → IsHeap p → heap_laid block p ≡ mask block p
heap_masked block p h = heap_laid_is block p h.size h.head h.lines ∙ sym (heap_mask_is block p h)

pub zero_masked : (block : ℕ) (p : List ℕ) → length p ≡ 8192 → kind_of p ≡ Zero → p ≡ mask block p
zero_masked block p size e = same_pages p (page_of (byte p)) size (length-page_of (byte p)) (λ i lt. sym (byte-page_of (byte p) i lt)) ∙ sym (mask_by block p Zero e)

pub btree_masked : (block : ℕ) (p : List ℕ) → kind_of p ≡ Btree → page_of (btree_byte p) ≡ mask block p
btree_masked block p e = sym (mask_by block p Btree e)

pub sequence_masked : (block : ℕ) (p : List ℕ) → kind_of p ≡ Sequence → page_of (sequence_byte p) ≡ mask block p
sequence_masked block p e = sym (mask_by block p Sequence e)

pub other_masked : (block : ℕ) (p : List ℕ) → kind_of p ≡ Other → page_of (other_byte p) ≡ mask block p
other_masked block p e = sym (mask_by block p Other e)

pub ruleset mask_rules = (heap_masked, zero_masked, btree_masked, sequence_masked, other_masked)

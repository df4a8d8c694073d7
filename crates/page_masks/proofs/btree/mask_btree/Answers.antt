use Rattle.std.proofs.Common.{◌∙◌, sym, ap, arith}
use Rattle.page_layout.specs.Bytes.{page_of}
use Rattle.page_layout.proofs.BytesLemmas.{same_pages, length-page_of, byte-page_of}
use Rattle.page_masks.specs.Mask.{btree_byte}
use Rattle.page_masks.proofs.btree.mask_btree.Goals as goal

pub returns : goal.returns
returns c =
    let f = btree_byte c.args.page.now in
    same_pages c.loop-i.page (page_of f) c.loop-i.invariant.size (length-page_of f)
    (λ i lt. c.loop-i.invariant.bytes i (omega arith) ∙ ap (λ old. btree_byte old i) c.copy_from_slice.ensures.after ∙ sym (byte-page_of f i lt))

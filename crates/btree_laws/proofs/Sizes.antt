-- Pages that are made anew have 8192 bytes.
use Rattle.std.proofs.Common.{◌≡◌, ℕ, ◌+◌, ◌≤◌, ◌⊎◌, inl, inr, List, [], ◌∷◌, Err, length, reverse, sym, ◌∙◌, subst, arith}
use Rattle.layout.specs.Splice.{splice}
use Rattle.layout.proofs.SpliceLemmas.{length-splice}
use Rattle.page_layout.specs.Bytes.{u16_bytes, u32_bytes, cut}
use Rattle.page_layout.specs.Page.{IsFormed}
use Rattle.page_layout.specs.Edits.{init_bytes}
use Rattle.page_layout.specs.declared.refusal.RedoWhy.TheVariants.{Room}
use Rattle.page_layout.proofs.BytesLemmas.{length-cut}
use Rattle.block_layouts.specs.declared.meta.BtreeMeta.{BtreeMeta}
use Rattle.btree_pages.specs.declared.special.Special.{Special}
use Rattle.btree_pages.specs.Special.{with_prev, with_next, with_level, with_flags, with_fields, empty_page}
use Rattle.btree_pages.specs.Items.{with_items, restored}
use Rattle.btree_pages.specs.Meta.{with_u32, with_root, with_fast_root, with_rest, meta_special, meta_page}
use Rattle.btree_pages.proofs.ItemsLemmas.{Done, AreAdded, all_items}
use Rattle.btree_pages.proofs.SpecialLemmas.{HasSpecial, spliced, init_has}
use Rattle.btree_laws.proofs.Steps.{done_same}

-- bytes laid over others
kept : (n : ℕ) (x : List ℕ) (at : ℕ) (bytes : List ℕ) → length x ≡ n → at + length bytes ≤ n → length (splice x at bytes) ≡ n
kept n x at bytes size fits = length-splice x at bytes (omega (arith, size, fits)) ∙ size

fields_size : (s : Special) (x : List ℕ) → length x ≡ 16 → length (with_fields s x) ≡ 16
fields_size s x size =
    let a = kept 16 x 0 (u32_bytes s.prev) size (omega arith) in
    let b = kept 16 (with_prev s.prev x) 4 (u32_bytes s.next) a (omega arith) in
    let c = kept 16 (with_next s.next (with_prev s.prev x)) 8 (u32_bytes s.level) b (omega arith) in
    let d = kept 16 (with_level s.level (with_next s.next (with_prev s.prev x))) 12 (u16_bytes s.flags) c (omega arith) in
    kept 16 (with_flags s.flags (with_level s.level (with_next s.next (with_prev s.prev x)))) 14 (u16_bytes 0) d (omega arith)

empty_has : (s : Special) → HasSpecial (empty_page s)
empty_has s =
    let x = cut (init_bytes 16) 8176 16 in
    spliced (init_bytes 16) (with_fields s x) init_has (fields_size s x (length-cut (init_bytes 16) 8176 16 (omega (arith, init_has.formed.size))))

items_size : (lists : List (List ℕ)) (p r : List ℕ) → IsFormed p → with_items lists p ≡ Done r → length r ≡ 8192
items_size lists p r f e = by_case (all_items lists p f)
  where
    by_case : ((q : List ℕ) × AreAdded lists p q) ⊎ (with_items lists p ≡ Err Room) → length r ≡ 8192
    by_case (inl t) = subst (λ x. length x ≡ 8192) (done_same t.0 r (sym t.1.is ∙ e)) t.1.formed.size
    by_case (inr full) = let x = sym full ∙ e in cc x

-- a page with tuples
pub restored_size : (s : Special) (tuples : List (List ℕ)) (r : List ℕ) → restored tuples (empty_page s) ≡ Done r → length r ≡ 8192
restored_size s tuples r e = let has = empty_has s in items_size (reverse tuples) (empty_page s) r has.formed e

-- a metapage
pub meta_size : (meta : BtreeMeta) → length (meta_page meta) ≡ 8192
meta_size meta =
    let has = empty_has meta_special in
    let e = empty_page meta_special in
    let a = kept 8192 e 24 (u32_bytes 0x053162) has.formed.size (omega arith) in
    let b = kept 8192 (with_u32 24 0x053162 e) 28 (u32_bytes meta.version) a (omega arith) in
    let c = kept 8192 (with_u32 28 meta.version (with_u32 24 0x053162 e)) 32 (u32_bytes meta.root) b (omega arith) in
    let d = kept 8192 (with_u32 32 meta.root (with_u32 28 meta.version (with_u32 24 0x053162 e))) 36 (u32_bytes meta.level) c (omega arith) in
    let f = kept 8192 (with_root meta e) 40 (u32_bytes meta.fast_root) d (omega arith) in
    let g = kept 8192 (with_u32 40 meta.fast_root (with_root meta e)) 44 (u32_bytes meta.fast_level) f (omega arith) in
    let h = kept 8192 (with_u32 44 meta.fast_level (with_u32 40 meta.fast_root (with_root meta e))) 48 (u32_bytes meta.deleted_pages) g (omega arith) in
    let i = rest_size (with_fast_root meta (with_root meta e)) h in
    kept 8192 (with_rest meta (with_fast_root meta (with_root meta e))) 12 (u16_bytes 72) i (omega arith)
  where
    rest_size : (p : List ℕ) → length p ≡ 8192 → length (with_rest meta p) ≡ 8192
    rest_size p size = kept 8192 p 56 (0 ∷ 0 ∷ 0 ∷ 0 ∷ 0 ∷ 0 ∷ 0xF0 ∷ 0xBF ∷ meta.all_equal_image ∷ []) size (omega arith)

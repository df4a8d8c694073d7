-- The pages of a pair's relation, and where each lies in its file.
use Rattle.std.proofs.Common.{◌≡◌, ℕ, zero, suc, ◌+◌, ◌*◌, ◌%◌, ◌<◌, List, ◌++◌, length, take, drop, Option, None, Some, Ok, refl, sym, ap, ◌∙◌, subst, true, arith}
use Rattle.std.proofs.Math.Seq.{drop-append-add, take-append_seam}
use Rattle.std.proofs.lemmas.List.{length-append}
use Rattle.std.specs.List.{flat_map, range_with_len}
use Rattle.heap_pages.specs.Insert.{visible_told}
use Rattle.heap_tuples.specs.Put.{filled, put_refusal}
use Rattle.heap_tuples.proofs.HeapLemmas.{init_formed}
use Rattle.heap_tuples.proofs.PutLemmas.{put_formed}
use Rattle.layout.proofs.SpliceLemmas.{length-splice}
use Rattle.page_layout.specs.Edits.{added, init_bytes, refuse_or}
use Rattle.page_layout.specs.Lsn.{lsn_bytes, with_lsn}
use Rattle.page_layout.specs.Page.{IsFormed}
use Rattle.page_layout.specs.declared.refusal.RedoWhy.{RedoWhy}
use Rattle.page_masks.specs.Law.{and_then}
use Rattle.pair_maker.specs.Blocks.{block_page, inserted, log_start}
use Rattle.pair_maker.specs.Files.{relation_bytes}
use Rattle.pair_maker.specs.Logs.{block_end}
use Rattle.pair_maker.specs.declared.side.Side.{Side}
use Rattle.pair_maker.proofs.BlockLemmas.{insert-on_empty}
use Rattle.pair_laws.proofs.PageLemmas.{tuple_in}

-- ---- a page has 8192 bytes

-- what an insert that isn't refused has made
record Put (o : Option RedoWhy) (p q : List ℕ) : Type 0 where
  none : o ≡ None
  is : p ≡ q

put_of : (o : Option RedoWhy) (p q : List ℕ) → and_then (refuse_or o (Ok p)) (λ r. Ok (visible_told 0 r)) ≡ Ok q → Put o p q
put_of None p q h = record { none = refl; is = cc h }
put_of (Some why) p q h = absurd (cc h)

put_on : (seed block : ℕ) → Put (put_refusal (init_bytes 0) 1 (length (tuple_in seed block))) (added (filled (init_bytes 0) 0) (tuple_in seed block) 1 true) (inserted seed block)
put_on seed block = put_of (put_refusal (init_bytes 0) 1 (length (tuple_in seed block))) (added (filled (init_bytes 0) 0) (tuple_in seed block) 1 true) (inserted seed block) (insert-on_empty seed block)

pub inserted-formed : (seed block : ℕ) → IsFormed (inserted seed block)
inserted-formed seed block = let put = put_on seed block in subst (λ p. IsFormed p) put.is (put_formed (init_bytes 0) (tuple_in seed block) 1 init_formed put.none)

lsn_long : (end : ℕ) (p : List ℕ) → length p ≡ 8192 → length (with_lsn end p) ≡ 8192
unfolding with_lsn
lsn_long end p size = let eight : length (lsn_bytes end) ≡ 8 = refl in length-splice p 0 (lsn_bytes end) (omega (arith, eight, size)) ∙ size

pub page-long : (seed block : ℕ) (end : Option ℕ) → length (block_page seed block end) ≡ 8192
unfolding block_page
page-long seed block None = lsn_long log_start (init_bytes 0) init_formed.size
page-long seed block (Some end) = lsn_long end (inserted seed block) (inserted-formed seed block).size

-- ---- pages one after another

module _ (page : ℕ → List ℕ) (long : (block : ℕ) → length (page block) ≡ 8192) where
  pages_long : (from n : ℕ) → length (flat_map page (range_with_len from n)) ≡ 8192 * n
  pages_long from zero = refl
  pages_long from (suc n) =
      let here = long from in
      let rest = pages_long (from + 1) n in
      omega (arith, length-append (page from) (flat_map page (range_with_len (from + 1) n)), here, rest)

  page_in_turn : (k from n : ℕ) → k < n → take 8192 (drop (k * 8192) (flat_map page (range_with_len from n))) ≡ page (from + k)
  page_in_turn k from zero low = absurd (omega (arith, low))
  page_in_turn zero from (suc n) low =
      let rest = flat_map page (range_with_len (from + 1) n) in
      ap (λ m. take m (page from ++ rest)) (sym (long from)) ∙ take-append_seam (page from) rest ∙ ap page (omega arith)
  page_in_turn (suc k) from (suc n) low =
      let rest = flat_map page (range_with_len (from + 1) n) in
      let over : suc k * 8192 ≡ length (page from) + k * 8192 = omega (arith, long from) in
      ap (λ m. take 8192 (drop m (page from ++ rest))) over
      ∙ ap (λ l. take 8192 l) (drop-append-add (page from) rest (k * 8192))
      ∙ page_in_turn k (from + 1) n (omega (arith, low))
      ∙ ap page (omega arith)

abbrev pub page_of_side : Side → (seed block : ℕ) → List ℕ
page_of_side side seed block = block_page seed block (block_end side seed block)

side_long : (side : Side) (seed block : ℕ) → length (page_of_side side seed block) ≡ 8192
side_long side seed block = page-long seed block (block_end side seed block)

pub relation-long : (side : Side) (seed blocks : ℕ) → length (relation_bytes side seed blocks) ≡ 8192 * blocks
unfolding relation_bytes
relation-long side seed blocks = pages_long (page_of_side side seed) (side_long side seed) 0 blocks

pub relation-whole : (side : Side) (seed blocks : ℕ) → length (relation_bytes side seed blocks) % 8192 ≡ 0
relation-whole side seed blocks = let long = relation-long side seed blocks in omega (arith, long)

pub relation-page : (side : Side) (seed blocks block : ℕ) → block < blocks → take 8192 (drop (block * 8192) (relation_bytes side seed blocks)) ≡ page_of_side side seed block
unfolding relation_bytes
relation-page side seed blocks block low = page_in_turn (page_of_side side seed) (side_long side seed) block 0 blocks low ∙ ap (page_of_side side seed) (omega arith)

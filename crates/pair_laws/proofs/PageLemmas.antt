-- The empty page of a pair's base, and what redo of an insert makes of it.
use Rattle.std.proofs.Common.{◌≡◌, ℕ, ◌+◌, ◌-◌, ◌*◌, ◌/◌, true, false, cond, ◌&&◌, ◌||◌, nat_le, nat_lt, nat_eq, List, length, None, Some, Ok, Err, inr, lit<, refl, ap, ap₂, sym, ◌∙◌, arith}
use Rattle.std.specs.Prelude.{IsTrue, replicate}
use Rattle.page_layout.specs.Apart.{AreApart}
use Rattle.page_layout.specs.Bytes.{up8, with_u16}
use Rattle.page_layout.specs.Deletes.{all_apart}
use Rattle.page_layout.specs.Edits.{added, init_bytes, is_free, refuse_or, trimmed, trimmed_count}
use Rattle.page_layout.specs.Lsn.{lsn, with_lsn}
use Rattle.page_layout.specs.Page.{IsFormed, count, pd_lower, pd_special, pd_upper, well_formed}
use Rattle.page_layout.specs.declared.refusal.RedoWhy.TheVariants.{PageShape, Place, Room}
use Rattle.page_layout.proofs.LineViews.{u16_at-with_u16, u16_at-with_u16_out}
use Rattle.page_layout.proofs.ReadLemmas.{lower_u16, upper_u16}
use Rattle.page_laws.proofs.BtreeAnew.{empty_lower, empty_upper, init_size}
use Rattle.page_laws.proofs.SoundHeap.{heap_shown}
use Rattle.page_laws.specs.Results.{TrimmedHeap}
use Rattle.page_masks.proofs.LsnLemmas.{lsn-with_lsn, stamped_page}
use Rattle.page_masks.proofs.LsnUnshown.{lsn_tail, lsn_unshown}
use Rattle.page_masks.proofs.ShapeKind.{SameTail, u16_tail}
use Rattle.page_masks.proofs.Trimmed.{trimmed_mask}
use Rattle.page_masks.proofs.Unshown.{kind_heap, well}
use Rattle.page_masks.specs.Law.{Redone, SamePage, and_then, view}
use Rattle.page_masks.specs.Mask.{mask}
use Rattle.page_masks.specs.Shapes.{IsHeap}
use Rattle.page_masks.specs.Sound.{have_good_hoffs, is_sound, sound_as}
use Rattle.heap_laws.proofs.Carried.{both_done}
use Rattle.heap_laws.proofs.Door.{sound_shown}
use Rattle.heap_laws.proofs.PutLaw.{put_step}
use Rattle.heap_pages.specs.Insert.{insert_page, visible_told}
use Rattle.heap_pages.specs.NewTuple.{new_tuple}
use Rattle.heap_tuples.proofs.HeapLemmas.{init_formed, init_heap, trimmed_formed}
use Rattle.heap_tuples.specs.Heap.{is_heap_page, on_heap}
use Rattle.heap_tuples.specs.Put.{extended, filled, has_room_at, is_open, put_refusal, put_tuple}
use Rattle.record_layouts.specs.declared.heap.HeapInsert.{HeapInsert}
use Rattle.pair_maker.specs.Blocks.{block_page, inserted, log_start}
use Rattle.pair_maker.specs.Inserts.{transaction, tuple_of}

-- ---- a page without lines

abbrev pub first_place : HeapInsert
first_place = record { off = 1; flags = 0 }

-- the tuple of a block, as it stands on its page
abbrev pub tuple_in : (seed block : ℕ) → List ℕ
tuple_in seed block = new_tuple transaction 0 block 1 (tuple_of seed block)

module _ (p : List ℕ) (lower : pd_lower p ≡ 24) (upper : pd_upper p ≡ 8192) (seed block : ℕ) where
  opens : is_open p 1 ≡ true
  opens = ap (λ n. true && (nat_lt ((n - 24) / 4) 1 || is_free p 0)) lower

  has_room : has_room_at p 1 28 ≡ true
  has_room = ap₂ (λ n m. nat_le (cond (nat_lt ((n - 24) / 4) 1) 28 n + 32) m) lower upper

  unrefused : put_refusal p 1 28 ≡ None
  unrefused =
      ap (λ b. cond b (cond (has_room_at p 1 28) None (Some Room)) (Some Place)) opens
      ∙ ap (λ b. cond b None (Some Room)) has_room

  no_lines : filled p 0 ≡ p
  no_lines = ap (λ n. cond (nat_lt ((n - 24) / 4) 0) (extended p 0) p) lower

  -- a tuple comes to its first place
  pub put-on : put_tuple 1 (tuple_in seed block) p ≡ Ok (added p (tuple_in seed block) 1 true)
  put-on =
      ap (λ o. refuse_or o (Ok (added (filled p 0) (tuple_in seed block) 1 true))) unrefused
      ∙ ap (λ q. Ok (added q (tuple_in seed block) 1 true)) no_lines

  pub insert-on : insert_page transaction block first_place (tuple_of seed block) p ≡ Ok (added p (tuple_in seed block) 1 true)
  insert-on = ap (λ a. and_then a (λ q. Ok (visible_told 0 q))) put-on

-- ---- the empty page, and the base's

empty : List ℕ
empty = init_bytes 0

empty-low : pd_lower (init_bytes 0) ≡ 24
empty-low = lower_u16 (init_bytes 0) ∙ empty_lower (replicate 8192 0) init_size (8192 - up8 0)

empty-up : pd_upper (init_bytes 0) ≡ 8192
empty-up = upper_u16 (init_bytes 0) ∙ empty_upper (replicate 8192 0) init_size (8192 - up8 0)

no-count : (p : List ℕ) → pd_lower p ≡ 24 → count p ≡ 0
no-count p low = ap (λ n. (n - 24) / 4) low

no-items : (p : List ℕ) → pd_lower p ≡ 24 → AreApart p
no-items p low = λ j k up below. absurd (omega (arith, below, no-count p low))

sound-heap : (p : List ℕ) → IsHeap p → pd_lower p ≡ 24 → IsTrue (is_sound p)
unfolding is_sound
sound-heap p heap low = ap (λ k. sound_as k p) (kind_heap p heap) ∙ ap (λ n. all_apart p n && have_good_hoffs p n) (no-count p low)

trimmed-heap : (p : List ℕ) → IsHeap p → pd_lower p ≡ 24 → TrimmedHeap p
trimmed-heap p heap low = record {
  page = record {
    size = heap.size;
    head = heap.head;
    lines = heap.lines;
    heap = heap.heap;
    trimmed = ap (trimmed_count p) (no-count p low) ∙ sym (no-count p low);
  };
  apart = no-items p low;
}

-- the page of the base
abbrev pub blank : List ℕ
blank = with_lsn log_start (init_bytes 0)

empty-long : length (init_bytes 0) ≡ 8192
empty-long = init_heap.size

tail : SameTail (init_bytes 0) blank
tail = lsn_tail log_start (init_bytes 0) empty-long

pub blank-long : length blank ≡ 8192
blank-long = tail.size_q

blank-shown : (block : ℕ) → mask block (init_bytes 0) ≡ mask block blank
blank-shown block = sym (lsn_unshown block log_start (init_bytes 0) empty-long)

blank-heap : IsHeap blank
blank-heap = heap_shown 0 (init_bytes 0) blank init_heap blank-long (blank-shown 0)

blank-low : pd_lower blank ≡ 24
blank-low = lower_u16 blank ∙ u16_tail (init_bytes 0) blank tail 12 (omega arith) ∙ sym (lower_u16 (init_bytes 0)) ∙ empty-low

blank-up : pd_upper blank ≡ 8192
blank-up = upper_u16 blank ∙ u16_tail (init_bytes 0) blank tail 14 (omega arith) ∙ sym (upper_u16 (init_bytes 0)) ∙ empty-up

pub blank-sound : IsTrue (is_sound blank)
blank-sound = sound-heap blank blank-heap blank-low

pub blank-page : (block : ℕ) → IsTrue ((view block).is_page blank)
blank-page block = stamped_page log_start (init_bytes 0) (lit< tt) empty-long

pub blank-lsn : lsn blank ≡ log_start
blank-lsn = lsn-with_lsn log_start (init_bytes 0) empty-long

-- ---- it is trimmed, and a tuple is put on it

cut : List ℕ
cut = trimmed blank

cut-as : trimmed blank ≡ with_u16 blank 12 24
cut-as = ap (λ n. with_u16 blank 12 (24 + 4 * trimmed_count blank n)) (no-count blank blank-low)

cut-low : pd_lower (trimmed blank) ≡ 24
cut-low = ap pd_lower cut-as ∙ lower_u16 (with_u16 blank 12 24) ∙ u16_at-with_u16 blank 12 24 (omega (arith, blank-long))

cut-up : pd_upper (trimmed blank) ≡ 8192
cut-up =
    ap pd_upper cut-as ∙ upper_u16 (with_u16 blank 12 24) ∙ u16_at-with_u16_out blank 12 24 14 (omega (arith, blank-long)) (inr (omega arith))
    ∙ sym (upper_u16 blank) ∙ blank-up

goes-on : (go : List ℕ → Redone) → on_heap false go blank ≡ go (trimmed blank)
goes-on go =
    let shape : well_formed blank ≡ true = well blank blank-heap.head blank-heap.lines in
    let is : is_heap_page blank ≡ true = ap (λ b. b && nat_eq (pd_special blank) 8192) shape ∙ ap (λ n. nat_eq n 8192) blank-heap.heap in
    ap (λ b. and_then (cond b (Ok (trimmed blank)) (Err PageShape)) go) is

-- what an insert makes of the base's page, and of the empty one
abbrev pub put-blank : (seed block : ℕ) → List ℕ
put-blank seed block = added (trimmed blank) (tuple_in seed block) 1 true

pub redo-blank : (seed block : ℕ) → on_heap false (insert_page transaction block first_place (tuple_of seed block)) blank ≡ Ok (put-blank seed block)
redo-blank seed block = goes-on (insert_page transaction block first_place (tuple_of seed block)) ∙ insert-on (trimmed blank) cut-low cut-up seed block

put-long : (p : List ℕ) → IsFormed p → pd_lower p ≡ 24 → pd_upper p ≡ 8192 → (seed block : ℕ) → length (added p (tuple_in seed block) 1 true) ≡ 8192
put-long p formed low up seed block =
    let made : IsFormed (added p (tuple_in seed block) 1 true) = (put_step block 1 (tuple_in seed block)).formed p (added p (tuple_in seed block) 1 true) formed (put-on p low up seed block) in
    made.size

-- both have equal masks
pub put-shown : (at seed block : ℕ) → mask at (put-blank seed block) ≡ mask at (inserted seed block)
unfolding inserted
put-shown at seed block =
    let goods = sound_shown at blank blank blank-heap blank-sound blank-long refl in
    let cut-heap : TrimmedHeap (trimmed blank) = goods.0.heap in
    let empty-heap : TrimmedHeap (init_bytes 0) = trimmed-heap (init_bytes 0) init_heap empty-low in
    let same : mask at (trimmed blank) ≡ mask at (init_bytes 0) = trimmed_mask blank blank-heap at ∙ sym (blank-shown at) in
    both_done (view at) (put_tuple 1 (tuple_in seed block) (trimmed blank)) (put_tuple 1 (tuple_in seed block) (init_bytes 0)) (put-blank seed block) (added (init_bytes 0) (tuple_in seed block) 1 true)
    (put-on (trimmed blank) cut-low cut-up seed block) (put-on (init_bytes 0) empty-low empty-up seed block)
    ((put_step at 1 (tuple_in seed block)).same (trimmed blank) (init_bytes 0) cut-heap empty-heap same)

-- with the record's end as LSN they are the same page
pub put-same : (at end seed block : ℕ) → SamePage (view at) (with_lsn end (put-blank seed block)) (block_page seed block (Some end))
unfolding block_page inserted
put-same at end seed block =
    let long : length (put-blank seed block) ≡ 8192 = put-long (trimmed blank) (trimmed_formed blank blank-heap) cut-low cut-up seed block in
    let other : length (added (init_bytes 0) (tuple_in seed block) 1 true) ≡ 8192 = put-long (init_bytes 0) init_formed empty-low empty-up seed block in
    record {
      lsn = lsn-with_lsn end (put-blank seed block) long ∙ sym (lsn-with_lsn end (inserted seed block) other);
      mask = lsn_unshown at end (put-blank seed block) long ∙ put-shown at seed block ∙ sym (lsn_unshown at end (inserted seed block) other);
    }

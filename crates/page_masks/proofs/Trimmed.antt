-- A heap page without its unused lines at the end, and with another position: the same mask.
use Rattle.std.proofs.Common.{◌≡◌, ◌≢◌, ℕ, zero, suc, ◌+◌, ◌*◌, ◌/◌, ◌%◌, ◌<◌, ◌≤◌, ◌⊎◌, List, Bool, true, false, length, refl, sym, ◌∙◌, ap, arith}
use Rattle.std.specs.Prelude.{if◌then◌else◌}
use Rattle.page_layout.specs.Bytes.{byte, u16_at, with_u16, u16_bytes}
use Rattle.page_layout.specs.Page.{pd_lower, pd_upper, pd_special, count, lp_off, lp_flags, lp_len, Head, lines_fit, line_fits}
use Rattle.page_layout.specs.Edits.{is_free, trimmed_count, trimmed}
use Rattle.layout.proofs.SpliceLemmas.{length-splice, byte-splice_in, byte-splice_out}
use Rattle.page_layout.proofs.ShapeLemmas.{line_fits_at, trimmed_count-le, lines_below}
use Rattle.page_layout.proofs.Front as Front
use Rattle.page_layout.proofs.Front.{SameFront}
use Rattle.page_masks.specs.Mask.{mask}
use Rattle.page_masks.specs.Shapes.{HeapPage, IsHeap, OnlyHead}
use Rattle.page_layout.specs.Apart.{AreApart}
use Rattle.page_masks.proofs.Holders.{heap_mask}
use Rattle.page_masks.proofs.Unshown.{SameShown, masks_same, heap_mask_is, is_heap}

pub trimmed_twice : (p : List ℕ) (n : ℕ) → trimmed_count p (trimmed_count p n) ≡ trimmed_count p n
trimmed_twice p zero = refl
trimmed_twice p (suc n) = by_case (trimmed_twice p n) (is_free p n) refl
  where
    by_case : trimmed_count p (trimmed_count p n) ≡ trimmed_count p n → (b : Bool) → is_free p n ≡ b → trimmed_count p (if b then trimmed_count p n else suc n) ≡ (if b then trimmed_count p n else suc n)
    by_case before true e = before
    by_case before false e = rw e refl

halves_back : (n : ℕ) → n % 256 + 256 * (n / 256) ≡ n
halves_back n = omega arith

module _ (p : List ℕ) (h : IsHeap p) where
  abbrev n : ℕ
  n = trimmed_count p (count p)

  abbrev q : List ℕ
  q = with_u16 p 12 (24 + 4 * n)

  other : (i : ℕ) → i ≢ 12 → i ≢ 13 → byte q i ≡ byte p i
  other i a b = byte-splice_out p 12 (u16_bytes (24 + 4 * n)) i (omega (arith, h.size)) (outside i a b)
    where
      outside : (i : ℕ) → i ≢ 12 → i ≢ 13 → (i < 12) ⊎ (14 ≤ i)
      outside i a b = search_by i a b
        where
          search_by : (i : ℕ) → i ≢ 12 → i ≢ 13 → (i < 12) ⊎ (14 ≤ i)
          search_by i a b = grind arith

  pub size_q : length q ≡ 8192
  size_q = length-splice p 12 (u16_bytes (24 + 4 * n)) (omega (arith, h.size)) ∙ h.size

  from14 : (i : ℕ) → 14 ≤ i → byte q i ≡ byte p i
  from14 i le = other i (λ e. omega arith) (λ e. omega arith)

  u16_from : (i : ℕ) → 14 ≤ i → u16_at q i ≡ u16_at p i
  u16_from i le = λ t. from14 i le t + 256 * from14 (i + 1) (omega arith) t

  lower_q : pd_lower q ≡ 24 + 4 * n
  unfolding pd_lower
  lower_q =
      let a : byte q 12 ≡ (24 + 4 * n) % 256 = byte-splice_in p 12 (u16_bytes (24 + 4 * n)) 12 (omega (arith, h.size)) (omega arith) (omega arith) in
      let b : byte q 13 ≡ (24 + 4 * n) / 256 = byte-splice_in p 12 (u16_bytes (24 + 4 * n)) 13 (omega (arith, h.size)) (omega arith) (omega arith) in
      (λ t. a t + 256 * b t) ∙ halves_back (24 + 4 * n)

  upper_q : pd_upper q ≡ pd_upper p
  unfolding pd_upper
  upper_q = u16_from 14 (omega arith)

  special_q : pd_special q ≡ pd_special p
  unfolding pd_special
  special_q = u16_from 16 (omega arith)

  pub count_q : count q ≡ n
  count_q = omega (arith, lower_q)

  pub off_q : (k : ℕ) → lp_off q k ≡ lp_off p k
  unfolding lp_off
  off_q k = ap (λ w. w % 32768) (u16_from (24 + 4 * k) (omega arith))

  pub len_q : (k : ℕ) → lp_len q k ≡ lp_len p k
  unfolding lp_len
  len_q k = ap (λ w. w / 2) (u16_from (26 + 4 * k) (omega arith))

  pub flags_q : (k : ℕ) → lp_flags q k ≡ lp_flags p k
  unfolding lp_flags
  flags_q k = λ t. u16_from (24 + 4 * k) (omega arith) t / 32768 % 2 + 2 * (u16_from (26 + 4 * k) (omega arith) t % 2)

  pub head_q : Head q
  head_q =
      let le = trimmed_count-le p (count p) in
      record {
        low = rw lower_q (omega arith);
        mid = rw (lower_q, upper_q) (omega (arith, le, h.head.low, h.head.mid));
        high = rw (upper_q, special_q) h.head.high;
        top = rw special_q h.head.top;
        by4 = rw lower_q (omega arith);
        by8 = rw upper_q h.head.by8;
        special8 = rw special_q h.head.special8;
        layout = u16_from 18 (omega arith) ∙ h.head.layout;
      }

  line_q : (k : ℕ) → line_fits q k ≡ line_fits p k
  unfolding line_fits
  line_q k = rw (len_q k, off_q k, upper_q, special_q) refl

  free_q : (k : ℕ) → is_free q k ≡ is_free p k
  free_q k = rw (flags_q k, len_q k) refl

  counts_q : (m : ℕ) → trimmed_count q m ≡ trimmed_count p m
  counts_q zero = refl
  counts_q (suc m) = rw (flags_q m, len_q m, counts_q m) refl

  pub trimmed_page : HeapPage (trimmed p)
  trimmed_page = record {
    size = size_q;
    head = head_q;
    lines = lines_below q (count q) (λ k lt. line_q k ∙ line_fits_at p (count p) k h.lines (omega (arith, count_q, trimmed_count-le p (count p))));
    heap = special_q ∙ h.heap;
    trimmed = counts_q (count q) ∙ ap (trimmed_count p) count_q ∙ trimmed_twice p (count p) ∙ sym count_q;
  }

  pub trimmed_shown : SameShown p (trimmed p)
  trimmed_shown = record {
    upper = upper_q;
    shown = counts_q (count q) ∙ ap (trimmed_count p) count_q ∙ trimmed_twice p (count p);
    ten = ap (λ x. x / 8 * 8) (other 10 (λ e. omega arith) (λ e. omega arith));
    eleven = other 11 (λ e. omega arith) (λ e. omega arith);
    head = λ i le lt. from14 i le;
    rest = λ i le. from14 i (omega arith);
  }

  pub trimmed_mask : (block : ℕ) → mask block (trimmed p) ≡ mask block p
  trimmed_mask block = heap_mask_is block (trimmed p) (is_heap (trimmed p) trimmed_page) ∙ masks_same block p (trimmed p) h size_q trimmed_shown ∙ sym (heap_mask_is block p h)

  pub trimmed_apart : AreApart p → AreApart (trimmed p)
  trimmed_apart apart = λ j k lt there some_j some_k.
      let le = trimmed_count-le p (count p) in
      rw (off_q j, len_q j, off_q k, len_q k) (apart j k lt (omega (arith, count_q)) (omega (arith, len_q j)) (omega (arith, len_q k)))

-- a page with the same front is a trimmed heap page too
pub heap_stays : (p q : List ℕ) → HeapPage p → length q ≡ 8192 → SameFront p q → HeapPage q
heap_stays p q h size same =
    let n = Front.count_same p q h.head same in
    record {
      size = size;
      head = Front.head_stays p q h.head same;
      lines = ap (lines_fit q) n ∙ Front.lines_fit_same p q h.head same (count p) (omega arith) ∙ h.lines;
      heap = Front.special_same p q h.head same ∙ h.heap;
      trimmed = rw n (Front.trimmed_same p q h.head same (count p) (omega arith) ∙ h.trimmed);
    }

pub head_front : (p q : List ℕ) → OnlyHead p q → SameFront p q
head_front p q o = record { head = o.head; lines = λ i le lt. o.rest i le }

pub only_head_page : (p q : List ℕ) → HeapPage p → OnlyHead p q → HeapPage q
only_head_page p q h o = heap_stays p q h o.size (head_front p q o)

pub only_head_mask : (p q : List ℕ) → HeapPage p → OnlyHead p q → (block : ℕ) → heap_mask block q ≡ heap_mask block p
only_head_mask p q h o block = masks_same block p q (is_heap p h) o.size (record {
  upper = Front.upper_same p q h.head (head_front p q o);
  shown = (only_head_page p q h o).trimmed ∙ Front.count_same p q h.head (head_front p q o) ∙ sym h.trimmed;
  ten = o.flags;
  eleven = o.head 11 (omega arith) (omega arith);
  head = λ i le lt. o.head i (omega arith) lt;
  rest = o.rest;
})

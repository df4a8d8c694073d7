-- Masking twice is masking once.
use Rattle.std.proofs.Common.{◌≡◌, ℕ, ◌*◌, ◌/◌, ◌%◌, ◌<◌, ◌≤◌, ◌==◌, ◌&&◌, ⊎_elim, List, Bool, true, false, length, refl, sym, ◌∙◌, ap, subst, arith}
use Rattle.std.specs.Prelude.{if◌then◌else◌, nat_lt, nat_le}
use Rattle.std.proofs.lemmas.Bool.Decides.{nat_tests, leb_tells}
use Rattle.page_layout.specs.Bytes.{byte, page_of}
use Rattle.page_layout.specs.Page.{pd_lower, pd_upper}
use Rattle.page_layout.specs.Edits.{trimmed}
use Rattle.page_layout.proofs.BytesLemmas.{byte-page_of}
use Rattle.page_layout.proofs.Front as Front
use Rattle.page_masks.specs.Mask.{mask, heap_byte, shown_flags, btree_byte, btree_front, sequence_byte, other_byte, AreBytes}
use Rattle.page_masks.specs.Shapes.{IsHeap, IsBtree}
use Rattle.page_masks.proofs.Holders.{heap_mask}
use Rattle.page_masks.proofs.HeapTwice.{heap_twice}
use Rattle.page_masks.proofs.LsnUnshown.{btree_open, btree_front_open}
use Rattle.page_masks.proofs.MaskShape.{heap_front, heap_masked_page, heap_of_trimmed, heap_at, btree_lower, btree_upper, sequence_front, mask_as, kind_shown}
use Rattle.page_masks.proofs.OtherBytes.{other_open, sequence_open}
use Rattle.page_masks.proofs.ShapeKind.{shape_kind, shape_cases, masked_as, mask_is, length-mask, IsSequence}
use Rattle.page_masks.proofs.Trimmed.{trimmed_page, trimmed_shown}

heap_again : (block : ℕ) (p : List ℕ) → IsHeap p → AreBytes p → (i : ℕ) → i < 8192 → heap_byte block (heap_mask block p) i ≡ byte (heap_mask block p) i
heap_again block p h bytes i lt =
    let t = trimmed_page p h in
    let s = trimmed_shown p h in
    subst (λ m. heap_byte block m i ≡ byte m i) (sym (heap_of_trimmed block p h))
    (heap_twice block (trimmed p) (heap_mask block (trimmed p)) t (heap_masked_page block p h) (heap_front block p h) (heap_at block p h)
    (λ j le. let below = bytes j in omega (arith, s.rest j (omega (arith, le, t.head.low, t.head.mid)), below)) i lt)

other_again : (p : List ℕ) (i : ℕ) → i < 8192 → other_byte (page_of (other_byte p)) i ≡ byte (page_of (other_byte p)) i
other_again p i lt = other_open (page_of (other_byte p)) i ∙ rw (byte-page_of (other_byte p) i lt, other_open p i) (by_case (nat_lt i 10))
  where
    by_case : (b : Bool) → (if b then 0 else (if b then 0 else byte p i)) ≡ (if b then 0 else byte p i)
    by_case true = refl
    by_case false = refl

sequence_again : (p : List ℕ) → length p ≡ 8192 → IsSequence p → (i : ℕ) → i < 8192 → sequence_byte (page_of (sequence_byte p)) i ≡ byte (page_of (sequence_byte p)) i
sequence_again p size h i lt =
    let m = page_of (sequence_byte p) in
    let f = sequence_front p size h in
    sequence_open m i ∙ rw (Front.lower_same p m h.head f, Front.upper_same p m h.head f, byte-page_of (sequence_byte p) i lt, sequence_open p i) (by_case (nat_lt i 10) (nat_le (pd_lower p) i && nat_lt i (pd_upper p)))
  where
    by_case : (a b : Bool) → (if a then 0 else if b then 0 else (if a then 0 else if b then 0 else byte p i)) ≡ (if a then 0 else if b then 0 else byte p i)
    by_case true b = refl
    by_case false true = refl
    by_case false false = refl

-- the chain of tests of a B-tree page's front, over what stands there
abbrev chain : Bool → Bool → Bool → Bool → Bool → Bool → Bool → ℕ → ℕ → ℕ
chain a b c d e f g ten old = if a then 0 else if b then ten else if c then old else if d then 0 else if e then (if f then old % 128 else if g then old / 2 * 2 else old) else 0

chain_twice : (a b c d e f g : Bool) (ten old : ℕ) → chain a b c d e f g ten (chain a b c d e f g ten old) ≡ chain a b c d e f g ten old
chain_twice true b c d e f g ten old = refl
chain_twice false true c d e f g ten old = refl
chain_twice false false true d e f g ten old = refl
chain_twice false false false true e f g ten old = refl
chain_twice false false false false true true g ten old = omega arith
chain_twice false false false false true false true ten old = omega arith
chain_twice false false false false true false false ten old = refl
chain_twice false false false false false f g ten old = refl

eighths : (b : ℕ) → b / 8 * 8 / 8 * 8 ≡ b / 8 * 8
eighths b = omega arith

module _ (p : List ℕ) (h : IsBtree p) where
  abbrev m : List ℕ
  m = page_of (btree_byte p)

  at : (i : ℕ) → i < 8192 → byte m i ≡ btree_byte p i
  at i lt = byte-page_of (btree_byte p) i lt

  front_at : (i : ℕ) → i < pd_upper p → byte m i ≡ btree_front p i
  front_at i lt = let here : nat_lt i (pd_upper p) ≡ true = grind (arith, nat_tests) in at i (omega (arith, h.head.high, h.head.top)) ∙ btree_open p i ∙ rw here refl

  back_at : (i : ℕ) → pd_upper p ≤ i → i < 8192 → byte m i ≡ (if i == 8188 then shown_flags (byte p i) else if nat_le 8190 i then 0 else byte p i)
  back_at i le lt = let past : nat_lt i (pd_upper p) ≡ false = grind (arith, nat_tests) in at i lt ∙ btree_open p i ∙ rw past refl

  ten_m : byte m 10 / 8 * 8 ≡ byte p 10 / 8 * 8
  ten_m = ap (λ b. b / 8 * 8) (front_at 10 (omega (arith, h.head.low, h.head.mid)) ∙ btree_front_open p 10) ∙ eighths (byte p 10)

  leaf_m : byte m 8188 % 2 ≡ byte p 8188 % 2
  leaf_m = ap (λ b. b % 2) (back_at 8188 (omega (arith, h.head.high, h.special)) (omega arith)) ∙ odd (byte p 8188)
    where
      odd : (b : ℕ) → shown_flags b % 2 ≡ b % 2
      odd b = omega arith

  in_front : (i : ℕ) → i < pd_upper p → btree_front m i ≡ byte m i
  in_front i lt = btree_front_open m i ∙ rw (ten_m, leaf_m, btree_lower p h, front_at i lt, btree_front_open p i)
      (chain_twice (nat_lt i 10) (i == 10) (nat_lt i 20) (nat_lt i 24) (nat_lt i (pd_lower p)) (byte p 8188 % 2 == 1 && i % 4 == 1) (byte p 8188 % 2 == 1 && i % 4 == 2) (byte p 10 / 8 * 8) (byte p i))

  back_twice : (a b : Bool) (x : ℕ) → (if a then shown_flags (if a then shown_flags x else if b then 0 else x) else if b then 0 else (if a then shown_flags x else if b then 0 else x)) ≡ (if a then shown_flags x else if b then 0 else x)
  back_twice true b x = omega arith
  back_twice false true x = refl
  back_twice false false x = refl

  btree_again : (i : ℕ) → i < 8192 → btree_byte m i ≡ byte m i
  btree_again i lt = btree_open m i ∙ ⊎_elim
      (λ (le : (nat_le (pd_upper p) i ≡ true) × (pd_upper p ≤ i)).
      let past : nat_lt i (pd_upper p) ≡ false = grind (arith, nat_tests, le.1) in
      rw (btree_upper p h, past, back_at i le.1 lt) (back_twice (i == 8188) (nat_le 8190 i) (byte p i)))
      (λ (less : (nat_le (pd_upper p) i ≡ false) × (i < pd_upper p)).
      let here : nat_lt i (pd_upper p) ≡ true = grind (arith, nat_tests, less.1) in
      rw (btree_upper p h, here) (in_front i less.1))
      (leb_tells (pd_upper p) i)

pub twice : (block : ℕ) (p : List ℕ) → length p ≡ 8192 → AreBytes p → mask block (mask block p) ≡ mask block p
twice block p size bytes = mask_is block (mask block p) (mask block p) (length-mask block p) (λ i lt. rw ((kind_shown block p size).is)
    (subst (λ m. masked_as (shape_kind p) block m i ≡ byte m i) (sym (mask_as block p)) (each i lt)))
  where
    each : (i : ℕ) → i < 8192 → masked_as (shape_kind p) block (page_of (masked_as (shape_kind p) block p)) i ≡ byte (page_of (masked_as (shape_kind p) block p)) i
    each i lt = shape_cases p (λ k. masked_as k block (page_of (masked_as k block p)) i ≡ byte (page_of (masked_as k block p)) i) size
        (λ h. heap_again block p h bytes i lt) (λ h w. btree_again p h i lt) (λ h. sequence_again p size h i lt) (λ k. other_again p i lt)

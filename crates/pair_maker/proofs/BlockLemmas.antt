-- The pages of a pair's relation, and the bodies of the records of inserts.
use Rattle.std.proofs.Common.{◌≡◌, ℕ, ◌+◌, ◌-◌, ◌/◌, ◌%◌, ◌^◌, true, ◌&&◌, ◌||◌, cond, nat_le, nat_lt, List, [], ◌∷◌, ◌++◌, length, None, Some, Ok, Err, refl, ap, ap₂, sym, ◌∙◌, subst}
use Rattle.std.specs.Prelude.{replicate}
use Rattle.byteorder.specs.Endian.{little_bytes}
use Rattle.layout.specs.Writing.{value_bytes}
use Rattle.block_layouts.specs.Tuple.{TupleView}
use Rattle.heap_pages.specs.Insert.{insert_page, visible_told}
use Rattle.heap_pages.specs.NewTuple.{new_tuple}
use Rattle.heap_tuples.specs.Put.{extended, filled, has_room_at, is_open, put_refusal}
use Rattle.page_layout.specs.Bytes.{up8}
use Rattle.page_layout.specs.Edits.{added, init_bytes, is_free, refuse_or}
use Rattle.page_layout.specs.Page.{IsFormed, pd_lower, pd_upper}
use Rattle.page_layout.specs.declared.refusal.RedoWhy.{RedoWhy}
use Rattle.page_layout.specs.declared.refusal.RedoWhy.TheVariants.{Place, Room}
use Rattle.page_layout.proofs.ReadLemmas.{lower_u16, upper_u16}
use Rattle.page_laws.proofs.BtreeAnew.{empty_lower, empty_upper, init_size}
use Rattle.page_masks.specs.Law.{Redone, and_then}
use Rattle.heap_tuples.proofs.HeapLemmas.{init_formed}
use Rattle.record_layouts.specs.declared.heap.HeapInsert.{HeapInsert}
use Rattle.pair_maker.specs.Blocks.{inserted}
use Rattle.pair_maker.specs.Inserts.{insert_body, transaction, tuple_of}

-- ---- an insert on the empty page

lower : pd_lower (init_bytes 0) ≡ 24
lower = lower_u16 (init_bytes 0) ∙ empty_lower (replicate 8192 0) init_size (8192 - up8 0)

upper : pd_upper (init_bytes 0) ≡ 8192
upper = upper_u16 (init_bytes 0) ∙ empty_upper (replicate 8192 0) init_size (8192 - up8 0)

opens : is_open (init_bytes 0) 1 ≡ true
opens = ap (λ n. true && (nat_lt ((n - 24) / 4) 1 || is_free (init_bytes 0) 0)) lower

has_room : has_room_at (init_bytes 0) 1 28 ≡ true
has_room = ap₂ (λ n m. nat_le (cond (nat_lt ((n - 24) / 4) 1) 28 n + 32) m) lower upper

unrefused : put_refusal (init_bytes 0) 1 28 ≡ None
unrefused =
    ap (λ b. cond b (cond (has_room_at (init_bytes 0) 1 28) None (Some Room)) (Some Place)) opens
    ∙ ap (λ b. cond b None (Some Room)) has_room

no_lines : filled (init_bytes 0) 0 ≡ init_bytes 0
no_lines = ap (λ n. cond (nat_lt ((n - 24) / 4) 0) (extended (init_bytes 0) 0) (init_bytes 0)) lower

abbrev first_place : HeapInsert
first_place = record { off = 1; flags = 0 }

-- a tuple of a pair with these bytes
abbrev pub tuple-as : List ℕ → TupleView
tuple-as bytes = record { header = record { infomask2 = 1; infomask = 0x0800; hoff = 24 }; bytes = bytes }

pub insert-on_empty : (seed block : ℕ) → insert_page transaction block first_place (tuple_of seed block) (init_bytes 0) ≡ Ok (inserted seed block)
unfolding inserted
insert-on_empty seed block =
    let tuple = new_tuple transaction 0 block 1 (tuple_of seed block) in
    ap (λ o. and_then (refuse_or o (Ok (added (filled (init_bytes 0) 0) tuple 1 true))) (λ q. Ok (visible_told 0 q))) unrefused
    ∙ ap (λ p. and_then (Ok (added p tuple 1 true)) (λ q. Ok (visible_told 0 q))) no_lines

pub insert-made : (seed block : ℕ) (tuple : TupleView) (p q : List ℕ) → tuple ≡ tuple_of seed block → p ≡ init_bytes 0 → insert_page transaction block first_place tuple p ≡ Ok q → q ≡ inserted seed block
insert-made seed block tuple p q is at made =
    let same : ◌≡◌ {A = Redone} (Ok q) (Ok (inserted seed block)) = sym made ∙ ap₂ (λ t x. insert_page transaction block first_place t x) is at ∙ insert-on_empty seed block in
    cc same

pub insert-never : (seed block : ℕ) (tuple : TupleView) (p : List ℕ) (why : RedoWhy) → tuple ≡ tuple_of seed block → p ≡ init_bytes 0 → insert_page transaction block first_place tuple p ≡ Err why → ⊥
insert-never seed block tuple p why is at refused =
    let same : ◌≡◌ {A = Redone} (Err why) (Ok (inserted seed block)) = sym refused ∙ ap₂ (λ t x. insert_page transaction block first_place t x) is at ∙ insert-on_empty seed block in
    cc same

pub formed-at : (p : List ℕ) → p ≡ init_bytes 0 → IsFormed p
formed-at p at = subst IsFormed (sym at) init_formed

-- ---- the body of an insert

abbrev pub laid_body : (seed block : ℕ) → List ℕ
laid_body seed block =
    ((((0 ∷ 0x20 ∷ 10 ∷ 0 ∷ 127 ∷ 6 ∷ 0 ∷ 0 ∷ 5 ∷ 0 ∷ 0 ∷ 0 ∷ 0 ∷ 64 ∷ 0 ∷ 0 ∷ []) ++ little_bytes 4 block) ++ (255 ∷ 3 ∷ 1 ∷ 0 ∷ 0 ∷ 8 ∷ 24 ∷ 0 ∷ []))
    ++ little_bytes 4 ((block + seed) % 2 ^ 32)) ++ (1 ∷ 0 ∷ 0 ∷ [])

pub body-is : (seed block : ℕ) (items : List ℕ) → items ≡ laid_body seed block → items ≡ insert_body seed block
unfolding insert_body value_bytes
body-is seed block items is = is

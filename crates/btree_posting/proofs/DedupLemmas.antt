-- Tuples that are merged.
use Rattle.std.proofs.Common.{◌≡◌, Some, None, drop-cons, ℕ, zero, suc, ◌+◌, ◌-◌, ◌*◌, ◌/◌, ◌%◌, ◌<◌, ◌≤◌, ◌==◌, ◌&&◌, ◌⊎◌, List, [], ◌∷◌, ◌++◌, Bool, true, false, Result, Ok, Err, inl, inr, length, take, drop, refl, sym, ◌∙◌, ap, append_assoc, arith}
use Rattle.std.specs.Prelude.{nat_le, replicate, if◌then◌else◌}
use Rattle.std.specs.List.{concat, flat_map, slice_get}
use Rattle.std.proofs.lemmas.Bool.Decides.{nat_tests}
use Rattle.std.proofs.lemmas.List.{length-append, length-take-le}
use Rattle.std.proofs.lemmas.Option.{slice_get_within, get_or_from_slice_get}
use Rattle.std.proofs.lemmas.List.Folds.{concat-append}
use Rattle.block_layouts.specs.declared.dedup.Interval.{Interval}
use Rattle.layout.proofs.SpliceLemmas.{length-splice}
use Rattle.page_layout.specs.Bytes.{byte, u16_bytes, cut, up8}
use Rattle.page_layout.specs.Page.{count, item, IsFormed}
use Rattle.page_layout.specs.Edits.{added, add_refusal, add_item}
use Rattle.page_layout.specs.declared.refusal.PageRefusal.TheVariants.{NoRoom}
use Rattle.page_layout.specs.declared.refusal.RedoWhy.{RedoWhy}
use Rattle.page_layout.specs.declared.refusal.RedoWhy.TheVariants.{Room}
use Rattle.page_layout.proofs.BytesLemmas.{length-cut}
use Rattle.page_laws.specs.Btree.{made_anew, with_special}
use Rattle.page_laws.proofs.Refused.{OkPage, allowed, accepted}
use Rattle.page_masks.specs.Law.{Redone, and_then}
use Rattle.page_masks.specs.Mask.{tid_bytes}
use Rattle.redo_steps.specs.Redo.{Redoes, Makes, on_page}
use Rattle.btree_pages.specs.Items.{items, with_last, with_items}
use Rattle.btree_pages.specs.Special.{without_garbage}
use Rattle.btree_pages.proofs.SpecialLemmas.{spliced, anew_has}
use Rattle.btree_pages.proofs.ItemsLemmas.{items_append, items_step, items_none, last_item}
use Rattle.btree_posting.specs.Tuple.{t_info, is_posting_tuple, list_stands, tid_at, tids_of, key_of, is_key}
use Rattle.btree_posting.specs.Form.{padded, listed, form_of}
use Rattle.btree_posting.proofs.ShortenLemmas.{AreTids, form_is, tids_stand}
use Rattle.btree_posting.specs.Dedup.{members, merged, can_merge, can_merge_all, dedup_tuples}

-- the tids of some tuples as bytes
abbrev pub tid_bytes_of : List ℕ → ℕ → ℕ → List ℕ
tid_bytes_of p from to = concat (flat_map tids_of (items p from to))

pub next_tids : (p : List ℕ) (from to : ℕ) → from < to → tid_bytes_of p from to ≡ concat (tids_of (item p (from - 1))) ++ tid_bytes_of p (from + 1) to
next_tids p from to lt =
    ap (λ tuples. concat (flat_map tids_of tuples)) (items_step p from to lt)
    ∙ concat-append (tids_of (item p (from - 1))) (flat_map tids_of (items p (from + 1) to))

pub no_tids : (p : List ℕ) (from to : ℕ) → to ≤ from → tid_bytes_of p from to ≡ []
no_tids p from to le = ap (λ tuples. concat (flat_map tids_of tuples)) (items_none p from to le)

-- intervals taken one by one
pub next_interval : (intervals : List Interval) (i : ℕ) (interval : Interval) → slice_get intervals i ≡ Some interval → drop i intervals ≡ interval ∷ drop (i + 1) intervals
next_interval intervals i interval e =
    let step : suc i ≡ i + 1 = omega arith in
    drop-cons intervals i interval (slice_get_within intervals i interval e) ∙ (λ t. get_or_from_slice_get intervals i interval interval e t ∷ drop (step t) intervals)

pub no_interval : (intervals : List Interval) (i : ℕ) → slice_get intervals i ≡ None → drop i intervals ≡ []
no_interval [] zero e = refl
no_interval [] (suc i) e = refl
no_interval (x ∷ xs) zero e = cc e
no_interval (x ∷ xs) (suc i) e = no_interval xs i e

-- an interval that can be merged
pub record Merges (p : List ℕ) (from : ℕ) (interval : Interval) : Type 0 where
  pub base : from ≤ interval.base
  pub some : 2 ≤ interval.count
  pub there : interval.base + interval.count ≤ count p + 1
  pub key : is_key (key_of (item p (interval.base - 1))) ≡ true

pub merges : (p : List ℕ) (from : ℕ) (interval : Interval) → can_merge p from interval ≡ true → Merges p from interval
merges p from interval e = record { base = grind (arith, nat_tests, e); some = grind (arith, nat_tests, e); there = grind (arith, nat_tests, e); key = grind (arith, nat_tests, e) }

-- the tids of a place laid, and the next one's still to come
module _ (p tids room new start : List ℕ) (place to behind r : ℕ) (lt : place < to) (bytes : tids ≡ concat (tids_of (item p (place - 1)))) where
  pub laid_next : take r new ≡ take behind room ++ tids → take behind room ++ tid_bytes_of p place to ≡ start → take r new ++ tid_bytes_of p (place + 1) to ≡ start
  laid_next laid before =
      ap (λ x. x ++ tid_bytes_of p (place + 1) to) laid
      ∙ append_assoc (take behind room) tids (tid_bytes_of p (place + 1) to)
      ∙ ap (λ x. take behind room ++ (x ++ tid_bytes_of p (place + 1) to)) bytes
      ∙ ap (λ x. take behind room ++ x) (sym (next_tids p place to lt))
      ∙ before

  pub too_long : behind ≤ length room → 8184 < behind + length tids → take behind room ++ tid_bytes_of p place to ≡ start → 8184 < length start
  too_long fits long before =
      let size = length-take-le behind room fits in
      let all = ap length before in
      let next = ap length (next_tids p place to lt) in
      omega (arith, all, size, next, length-append (take behind room) (tid_bytes_of p place to), length-append (concat (tids_of (item p (place - 1)))) (tid_bytes_of p (place + 1) to), ap length bytes, long)

-- one more interval that can, or can't, be merged
pub stops : (p : List ℕ) (from : ℕ) (interval : Interval) (intervals : List Interval) → can_merge p from interval ≡ false → can_merge_all p from (interval ∷ intervals) ≡ false
stops p from interval intervals e = rw e refl

pub goes_on : (p : List ℕ) (from : ℕ) (interval : Interval) (intervals : List Interval) → can_merge p from interval ≡ true → can_merge_all p from (interval ∷ intervals) ≡ can_merge_all p (interval.base + interval.count) intervals
goes_on p from interval intervals e = rw e refl

-- the flag taken off leaves sixteen bytes
pub garbage_size : (x : List ℕ) → length x ≡ 16 → length (without_garbage x) ≡ 16
garbage_size x size = length-splice x 12 ((byte x 12 / 128 * 128 + byte x 12 % 64) ∷ []) (omega (arith, size)) ∙ size

pub begun : (p : List ℕ) → length p ≡ 8192 → IsFormed (with_special without_garbage (made_anew p))
begun p size =
    let anew = anew_has p size in
    let x : length (cut (made_anew p) 8176 16) ≡ 16 = length-cut (made_anew p) 8176 16 (omega (arith, anew.formed.size)) in
    let has = spliced (made_anew p) (without_garbage (cut (made_anew p) 8176 16)) anew (garbage_size (cut (made_anew p) 8176 16) x) in
    has.formed

-- the tids of tuples are tids
tids_any : (t : List ℕ) → AreTids (tids_of t)
tids_any t = by_case (list_stands t) refl
  where
    by_case : (b : Bool) → list_stands t ≡ b → AreTids (tids_of t)
    by_case true e = tids_stand t e
    by_case false e = rw e (plain (is_posting_tuple t) (nat_le 8 (length t)) refl)
      where
        plain : (a b : Bool) → nat_le 8 (length t) ≡ b → AreTids (if a then [] else if b then tid_at t 0 ∷ [] else [])
        plain true b h = tt
        plain false false h = tt
        plain false true h = (length-cut t 0 6 (grind (arith, nat_tests, h)), tt)

tids_append : (a b : List (List ℕ)) → AreTids a → AreTids b → AreTids (a ++ b)
tids_append [] b x y = y
tids_append (tid ∷ a) b x y = (x.0, tids_append a b x.1 y)

pub tids_flat : (tuples : List (List ℕ)) → AreTids (flat_map tids_of tuples)
tids_flat [] = tt
tids_flat (t ∷ tuples) = tids_append (tids_of t) (flat_map tids_of tuples) (tids_any t) (tids_flat tuples)

-- a tuple that is too long for a page
pub form_long : (key bytes : List ℕ) → length key ≤ 8168 → 8184 < length key + length bytes → 8184 < length (form_of (length key) (key ++ bytes))
form_long key bytes small long =
    let both = length-append key bytes in
    let more : (length (key ++ bytes) == length key + 6) ≡ false = grind (arith, nat_tests, both, small, long) in
    let all : 8184 < length (padded (key ++ bytes)) = omega (arith, length-append (key ++ bytes) (replicate (up8 (length (key ++ bytes)) - length (key ++ bytes)) 0), both, long) in
    rw more (listed_long (length key) ((length (key ++ bytes) - length key) / 6) (padded (key ++ bytes)) all)
  where
    listed_long : (at n : ℕ) (t : List ℕ) → 8184 < length t → 8184 < length (listed at n t)
    listed_long at n t le = omega (arith, length-splice t 0 (tid_bytes at (0x2000 + n) ++ u16_bytes (t_info t / 0x4000 * 0x4000 + 0x2000 + length t)) (omega (arith, le)), le)

pub not_added : (p bytes : List ℕ) → IsFormed p → 8184 < length bytes → with_last bytes p ≡ Err Room
not_added p bytes f long = step (last_item p bytes f)
  where
    step : (add_item p bytes (count p + 1) false ≡ OkPage (added p bytes (count p + 1) false)) ⊎ (add_item p bytes (count p + 1) false ≡ Err NoRoom) → with_last bytes p ≡ Err Room
    step (inl e) =
        let a = accepted (add_refusal p (length bytes) (count p + 1) false) (added p bytes (count p + 1) false) (added p bytes (count p + 1) false) e in
        let room = allowed p (length bytes) (count p + 1) false a.0 in
        absurd (omega (arith, room.room, f.head.high, f.head.top, long))
    step (inr e) = ap on_page e

-- the tuple that is merged
module _ (p : List ℕ) (interval : Interval) where
  abbrev key : List ℕ
  key = key_of (item p (interval.base - 1))

  abbrev tids : List ℕ
  tids = tid_bytes_of p interval.base (interval.base + interval.count)

  pub merged_is : merged p interval ≡ form_of (length key) (key ++ tids)
  merged_is = form_is key (flat_map tids_of (members p interval)) (tids_flat (members p interval))

  pub merged_refused : (q : List ℕ) → IsFormed q → length key ≤ 8168 → 8184 < length key + length tids → with_last (merged p interval) q ≡ Err Room
  merged_refused q f small long = ap (λ t. with_last t q) merged_is ∙ not_added q (form_of (length key) (key ++ tids)) f (form_long key tids small long)

-- what is added is what is meant
pub made_of : (a b old new : List ℕ) (r : Result (Unit {0}) RedoWhy) → a ≡ b → Redoes (with_last a old) old r new → Makes (with_last b old) r new
made_of a b old new (Ok done) e made = ap (λ t. with_last t old) (sym e) ∙ made
made_of a b old new (Err why) e made = ap (λ t. with_last t old) (sym e) ∙ made.0

-- the tuples of the page with one more interval
and_then_twice : (r : Redone) (f g : List ℕ → Redone) → and_then r (λ q. and_then (f q) g) ≡ and_then (and_then r f) g
and_then_twice (Ok q) f g = refl
and_then_twice (Err why) f g = refl

module _ (p : List ℕ) (from : ℕ) (i : Interval) (intervals rest : List Interval) (here : intervals ≡ i ∷ rest) where
  abbrev next : List ℕ → Redone
  next room = and_then (with_items (items p from i.base) room) (with_last (merged p i))

  pub added_next : (room : List ℕ) (r : Redone) → next room ≡ r → with_items (dedup_tuples p from intervals) room ≡ and_then r (with_items (dedup_tuples p (i.base + i.count) rest))
  added_next room r e =
      ap (λ l. with_items (dedup_tuples p from l) room) here
      ∙ items_append (items p from i.base) (merged p i ∷ dedup_tuples p (i.base + i.count) rest) room
      ∙ and_then_twice (with_items (items p from i.base) room) (with_last (merged p i)) (with_items (dedup_tuples p (i.base + i.count) rest))
      ∙ ap (λ r. and_then r (with_items (dedup_tuples p (i.base + i.count) rest))) e

  pub can_next : can_merge_all p from intervals ≡ true → (can_merge p from i ≡ true) × (can_merge_all p (i.base + i.count) rest ≡ true)
  can_next e = both (can_merge p from i) (can_merge_all p (i.base + i.count) rest) (ap (can_merge_all p from) (sym here) ∙ e)
    where
      both : (a b : Bool) → (a && b) ≡ true → (a ≡ true) × (b ≡ true)
      both true b h = (refl, h)
      both false b h = cc h

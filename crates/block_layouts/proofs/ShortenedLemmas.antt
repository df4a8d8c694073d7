-- Updates of posting lists and their lists, one at a time.
use Rattle.std.proofs.Common.{◌≡◌, ℕ, zero, suc, ◌+◌, ◌-◌, ◌*◌, ◌<◌, ◌≤◌, true, ltb, List, length, None, refl, arith}
use Rattle.std.proofs.lemmas.Bool.Decides.{nat_tests}
use Rattle.layout_readers.specs.Whole.{whole}
use Rattle.block_layouts.specs.Shortened.{UpdatePlace, HasUpdates, gone_count, list_behind, lists_end, update_behind}
use Rattle.block_layouts.proofs.RowLemmas.{end_of-next, end_of-step}

-- lists end behind their beginning
pub lists_end-grows : (n : ℕ) (bytes : List ℕ) (at : ℕ) → at ≤ lists_end n bytes at
lists_end-grows zero bytes at = omega arith
lists_end-grows (suc n) bytes at = omega (arith, lists_end-grows n bytes (list_behind bytes at))

-- bytes that are too few
pub none_whole : {A : Type 0} (size : ℕ) (bytes : List ℕ) (value : A) → length bytes < size → None ≡ whole size bytes value
none_whole size bytes value short = let h : ltb (length bytes) size ≡ true = grind (arith, nat_tests) in rw h refl

-- ---- the loop over the lists comes to one whose number isn't there
pub lists_end-stop : (n i : ℕ) (bytes : List ℕ) (at end : ℕ) → i < n → length bytes < at + 2 → lists_end (n - i) bytes at ≡ end → None ≡ whole end bytes end
lists_end-stop n i bytes at end lt short same =
    let next = end_of-next list_behind (n - i) bytes at (omega arith) in
    none_whole end bytes end (omega (arith, same, next, short, lists_end-grows (n - i - 1) bytes (list_behind bytes at)))

-- and past one, as the code steps
pub lists_end-step : (n i : ℕ) (bytes : List ℕ) (at count end : ℕ) → i < n → count ≡ gone_count bytes at → lists_end (n - i) bytes at ≡ end
    → lists_end (n - (i + 1)) bytes (at + (2 + 2 * count)) ≡ end
lists_end-step n i bytes at count end lt is same =
    let next : at + (2 + 2 * count) ≡ list_behind bytes at = omega (arith, is) in
    rw next (end_of-step list_behind n i bytes at end lt same)

-- where updates are there, the first is with its list, and those behind it are
pub record HasFirst (n : ℕ) (bytes : List ℕ) (at : UpdatePlace) : Type 0 where
  pub place : at.place + 2 ≤ length bytes
  pub list : list_behind bytes at.list ≤ length bytes
  pub others : HasUpdates (n - 1) bytes (update_behind bytes at)

pub HasUpdates-next : (n : ℕ) (bytes : List ℕ) (at : UpdatePlace) → 0 < n → HasUpdates n bytes at → HasFirst n bytes at
HasUpdates-next n bytes at lt has =
    let next = end_of-next list_behind n bytes at.list lt in
    let end : lists_end (n - 1) bytes (list_behind bytes at.list) ≤ length bytes = omega (arith, next, has.lists) in
    let list : list_behind bytes at.list ≤ length bytes = omega (arith, end, lists_end-grows (n - 1) bytes (list_behind bytes at.list)) in
    record {
      place = omega (arith, has.places, list);
      list = list;
      others = record { places = omega (arith, has.places); lists = end };
    }

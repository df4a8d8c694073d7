-- A posting tuple without some of its tids.
use Rattle.std.proofs.Common.{◌≡◌, ℕ, zero, suc, ◌+◌, ◌-◌, ◌*◌, ◌/◌, ◌<◌, ◌≤◌, ◌==◌, ◌&&◌, List, [], ◌∷◌, ◌++◌, Bool, true, false, length, take, drop, refl, sym, ◌∙◌, ap, subst, append_assoc, arith}
use Rattle.std.specs.Prelude.{nat_le, nat_lt, if◌then◌else◌}
use Rattle.std.specs.List.{concat, list_any}
use Rattle.std.proofs.lemmas.Bool.Decides.{nat_tests}
use Rattle.std.proofs.lemmas.List.{append-nil, length-append, length-drop, length-take-le, take_at, drop_at, take_all, drop-drop}
use Rattle.std.proofs.lemmas.List.Folds.{concat-append}
use Rattle.std.proofs.Math.Seq.{take-append-add, drop-append-add, take-nil, drop-nil}
use Rattle.page_layout.proofs.BytesLemmas.{length-cut}
use Rattle.btree_posting.specs.Tuple.{is_posting_tuple, key_of, tid_count, list_at, list_stands, tids_from, tids_of}
use Rattle.btree_posting.proofs.TupleLemmas.{has_list, listed_count}
use Rattle.btree_posting.specs.Form.{form, form_of, are_indexes, without_tids, can_shorten, shortened}

-- each has six bytes
abbrev pub AreTids : List (List ℕ) → Type 0
AreTids [] = Unit {0}
AreTids (tid ∷ tids) = (length tid ≡ 6) × AreTids tids

pub concat_size : (tids : List (List ℕ)) → AreTids tids → length (concat tids) ≡ 6 * length tids
concat_size [] a = refl
concat_size (tid ∷ tids) a = omega (arith, length-append tid (concat tids), concat_size tids a.1, a.0)

-- the first tids as bytes, and those from one on
pub concat-take : (k : ℕ) (tids : List (List ℕ)) → AreTids tids → concat (take k tids) ≡ take (6 * k) (concat tids)
concat-take zero tids a = refl
concat-take (suc k) [] a = sym (take-nil (6 * suc k))
concat-take (suc k) (tid ∷ tids) a =
    let size : 6 * suc k ≡ length tid + 6 * k = omega (arith, a.0) in
    ap (λ x. tid ++ x) (concat-take k tids a.1) ∙ sym (take-append-add tid (concat tids) (6 * k)) ∙ ap (λ n. take n (tid ++ concat tids)) (sym size)

pub concat-drop : (k : ℕ) (tids : List (List ℕ)) → AreTids tids → concat (drop k tids) ≡ drop (6 * k) (concat tids)
concat-drop zero tids a = refl
concat-drop (suc k) [] a = sym (drop-nil (6 * suc k))
concat-drop (suc k) (tid ∷ tids) a =
    let size : 6 * suc k ≡ length tid + 6 * k = omega (arith, a.0) in
    concat-drop k tids a.1 ∙ sym (drop-append-add tid (concat tids) (6 * k)) ∙ ap (λ n. drop n (tid ++ concat tids)) (sym size)

pub tids-drop : (k : ℕ) (tids : List (List ℕ)) → AreTids tids → AreTids (drop k tids)
tids-drop zero tids a = a
tids-drop (suc k) [] a = tt
tids-drop (suc k) (tid ∷ tids) a = tids-drop k tids a.1

-- a key and tids behind it as a tuple
pub form_is : (key : List ℕ) (tids : List (List ℕ)) → AreTids tids → form key tids ≡ form_of (length key) (key ++ concat tids)
form_is key [] a =
    let size : length (key ++ []) ≡ length key = ap length (append-nil key) in
    let none : (length (key ++ []) == length key + 6) ≡ false = grind (arith, nat_tests, size) in
    let zero : (length (key ++ []) - length key) / 6 ≡ 0 = omega (arith, size) in
    rw (none, zero) refl
form_is key (tid ∷ []) a =
    let size : length (key ++ (tid ++ [])) ≡ length key + 6 = omega (arith, length-append key (tid ++ []), length-append tid [], a.0) in
    let one : (length (key ++ (tid ++ [])) == length key + 6) ≡ true = grind (arith, nat_tests, size) in
    let front : take (length key) (key ++ (tid ++ [])) ≡ key = take_at key (tid ++ []) (length key) refl in
    let back : drop (length key) (key ++ (tid ++ [])) ≡ tid = drop_at key (tid ++ []) (length key) refl ∙ append-nil tid in
    rw (one, front, back) refl
form_is key (tid ∷ next ∷ tids) a =
    let all : List (List ℕ) = tid ∷ next ∷ tids in
    let size : length (key ++ concat all) ≡ length key + 6 * length all = length-append key (concat all) ∙ ap (λ n. length key + n) (concat_size all a) in
    let more : (length (key ++ concat all) == length key + 6) ≡ false = grind (arith, nat_tests, size) in
    let count : (length (key ++ concat all) - length key) / 6 ≡ length all = omega (arith, size) in
    rw (more, count) refl

-- the tids of a tuple
pub are_tids_from : (n : ℕ) (t : List ℕ) (at : ℕ) → at + 6 * n ≤ length t → AreTids (tids_from n t at)
are_tids_from zero t at fits = tt
are_tids_from (suc n) t at fits = (length-cut t at 6 (omega (arith, fits)), are_tids_from n t (at + 6) (omega (arith, fits)))

-- indexes that rise
pub rising : (from count index : ℕ) (gone : List ℕ) → are_indexes from count (index ∷ gone) ≡ true → (from ≤ index) × (index < count) × (are_indexes (index + 1) count gone ≡ true)
rising from count index gone e =
    let a = both (nat_le from index && nat_lt index count) (are_indexes (index + 1) count gone) e in
    (grind (arith, nat_tests, a.0), grind (arith, nat_tests, a.0), a.1)
  where
    both : (a b : Bool) → (a && b) ≡ true → (a ≡ true) × (b ≡ true)
    both true b h = (refl, h)
    both false b h = cc h

none_before : (from count index : ℕ) (gone : List ℕ) → index < from → are_indexes from count gone ≡ true → list_any (λ i. i == index) gone ≡ false
none_before from count index [] lt e = refl
none_before from count index (i ∷ gone) lt e =
    let r = rising from count i gone e in
    let other : (i == index) ≡ false = grind (arith, nat_tests, r.0, lt) in
    rw (other, none_before (i + 1) count index gone (omega (arith, r.0, lt)) r.2) refl

-- an index that was passed
passed : (g index : ℕ) (gone : List ℕ) (tids : List (List ℕ)) → g < index → without_tids (g ∷ gone) index tids ≡ without_tids gone index tids
passed g index gone [] lt = refl
passed g index gone (tid ∷ tids) lt =
    let other : (g == index) ≡ false = grind (arith, nat_tests, lt) in
    let rest = passed g (index + 1) gone tids (omega (arith, lt)) in
    rw (other, rest) refl

pub without_none : (index : ℕ) (tids : List (List ℕ)) → without_tids [] index tids ≡ tids
without_none index [] = refl
without_none index (tid ∷ tids) = ap (λ l. tid ∷ l) (without_none (index + 1) tids)

-- the tids up to the next index that goes, and those behind it
pub without_next : (d from count g : ℕ) (gone : List ℕ) (tids : List (List ℕ)) → from + d ≡ g → d < length tids → are_indexes (g + 1) count gone ≡ true
    → without_tids (g ∷ gone) from tids ≡ take d tids ++ without_tids gone (g + 1) (drop (suc d) tids)
without_next d from count g gone [] e lt rise = absurd (omega arith)
without_next zero from count g gone (tid ∷ tids) e lt rise =
    let here : (g == from) ≡ true = grind (arith, nat_tests, e) in
    let next : from + 1 ≡ g + 1 = omega (arith, e) in
    rw here (passed g (from + 1) gone tids (omega (arith, e)) ∙ ap (λ i. without_tids gone i tids) next)
without_next (suc d) from count g gone (tid ∷ tids) e lt rise =
    let other : (g == from) ≡ false = grind (arith, nat_tests, e) in
    let later = none_before (g + 1) count from gone (omega (arith, e)) rise in
    rw (other, later) (ap (λ l. tid ∷ l) (without_next d (from + 1) count g gone tids (omega (arith, e)) (omega (arith, lt)) rise))

pub tids_stand : (t : List ℕ) → list_stands t ≡ true → AreTids (tids_of t)
tids_stand t stands =
    let h = has_list t stands in
    subst AreTids (sym (rw stands refl)) (are_tids_from (tid_count t) t (list_at t) h.within)

-- the walk over the indexes: what is laid, and what is still to come
module _ (t tids : List ℕ) (stands : list_stands t ≡ true) (bytes : tids ≡ concat (tids_of t)) where
  abbrev all : List (List ℕ)
  all = tids_of t

  abbrev count : ℕ
  count = tid_count t

  pub checked_next : (from g : ℕ) (gone : List ℕ) → from ≤ g → g < count → are_indexes from count (g ∷ gone) ≡ are_indexes (g + 1) count gone
  checked_next from g gone le lt =
      let a : nat_le from g ≡ true = grind (arith, nat_tests, le) in
      let b : nat_lt g count ≡ true = grind (arith, nat_tests, lt) in
      rw (a, b) refl

  piece : (from g : ℕ) → from ≤ g → concat (take (g - from) (drop from all)) ≡ take (6 * g - 6 * from) (drop (6 * from) tids)
  piece from g le =
      let a = tids_stand t stands in
      let size : 6 * (g - from) ≡ 6 * g - 6 * from = omega (arith, le) in
      concat-take (g - from) (drop from all) (tids-drop from all a)
      ∙ (λ i. take (size i) (concat-drop from all a i))
      ∙ ap (λ b. take (6 * g - 6 * from) (drop (6 * from) b)) (sym bytes)

  pub kept_next : (from g end r : ℕ) (gone room new target : List ℕ) → from ≤ g → g < count
      → take r new ≡ take end room ++ take (6 * g - 6 * from) (drop (6 * from) tids)
      → (are_indexes from count (g ∷ gone) ≡ true → take end room ++ concat (without_tids (g ∷ gone) from (drop from all)) ≡ target)
      → are_indexes (g + 1) count gone ≡ true → take r new ++ concat (without_tids gone (g + 1) (drop (g + 1) all)) ≡ target
  kept_next from g end r gone room new target le lt laid kept rise =
      let some : g - from < length (drop from all) = omega (arith, length-drop from all, listed_count t stands, le, lt) in
      let next = without_next (g - from) from count g gone (drop from all) (omega (arith, le)) some rise in
      let behind : from + suc (g - from) ≡ g + 1 = omega (arith, le) in
      let rest : drop (suc (g - from)) (drop from all) ≡ drop (g + 1) all = drop-drop (suc (g - from)) from all ∙ ap (λ k. drop k all) behind in
      ap (λ x. x ++ concat (without_tids gone (g + 1) (drop (g + 1) all))) laid
      ∙ append_assoc (take end room) (take (6 * g - 6 * from) (drop (6 * from) tids)) (concat (without_tids gone (g + 1) (drop (g + 1) all)))
      ∙ ap (λ x. take end room ++ x)
      ((λ i. sym (piece from g le) i ++ concat (without_tids gone (g + 1) (sym rest i)))
      ∙ sym (concat-append (take (g - from) (drop from all)) (without_tids gone (g + 1) (drop (suc (g - from)) (drop from all))))
      ∙ ap concat (sym next))
      ∙ kept (checked_next from g gone le lt ∙ rise)

  pub kept_last : (from end r : ℕ) (room new target : List ℕ) → take r new ≡ take end room ++ take (length tids - 6 * from) (drop (6 * from) tids)
      → take end room ++ concat (without_tids [] from (drop from all)) ≡ target → take r new ≡ target
  kept_last from end r room new target laid kept =
      let whole : take (length tids - 6 * from) (drop (6 * from) tids) ≡ drop (6 * from) tids = take_all (length tids - 6 * from) (drop (6 * from) tids) (omega (arith, length-drop (6 * from) tids)) in
      laid
      ∙ ap (λ x. take end room ++ x)
      (whole ∙ ap (drop (6 * from)) bytes ∙ sym (concat-drop from all (tids_stand t stands)) ∙ ap concat (sym (without_none from (drop from all))))
      ∙ kept

tids_without : (gone : List ℕ) (index : ℕ) (tids : List (List ℕ)) → AreTids tids → AreTids (without_tids gone index tids)
tids_without gone index [] a = tt
tids_without gone index (tid ∷ tids) a = by_test (list_any (λ i. i == index) gone) (without_tids gone (index + 1) tids) a.0 (tids_without gone (index + 1) tids a.1)
  where
    by_test : (b : Bool) (rest : List (List ℕ)) → length tid ≡ 6 → AreTids rest → AreTids (if b then rest else tid ∷ rest)
    by_test true rest six r = r
    by_test false rest six r = (six, r)

-- the whole: the key, and the tids that are kept
module _ (t gone : List ℕ) (stands : list_stands t ≡ true) where
  posting : is_posting_tuple t ≡ true
  posting = grind (arith, nat_tests, stands)

  pub key_is : key_of t ≡ take (list_at t) t
  key_is = rw posting refl

  pub shortened_is : shortened gone t ≡ form_of (list_at t) (take (list_at t) t ++ concat (without_tids gone 0 (tids_of t)))
  shortened_is =
      let h = has_list t stands in
      let size : length (take (list_at t) t) ≡ list_at t = length-take-le (list_at t) t (omega (arith, h.within)) in
      form_is (key_of t) (without_tids gone 0 (tids_of t)) (tids_without gone 0 (tids_of t) (tids_stand t stands))
      ∙ ap (λ k. form_of (length k) (k ++ concat (without_tids gone 0 (tids_of t)))) key_is
      ∙ ap (λ n. form_of n (take (list_at t) t ++ concat (without_tids gone 0 (tids_of t)))) size

  pub can_be_shortened : are_indexes 0 (tid_count t) gone ≡ true → length gone < tid_count t → can_shorten gone t ≡ true
  can_be_shortened rise few =
      let left : nat_lt (length gone) (tid_count t) ≡ true = grind (arith, nat_tests, few) in
      rw (stands, rise, left) refl

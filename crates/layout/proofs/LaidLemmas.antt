-- What a table lays out is read again, value by value.
use Rattle.std.proofs.Common.{true, ◌≡◌, ℕ, ◌+◌, ◌≤◌, List, [], ◌∷◌, ◌++◌, length, replicate, refl, ◌∙◌, arith}
use Rattle.std.specs.List.{AllByRecursion}
use Rattle.std.proofs.lemmas.List.{length-replicate}
use Rattle.layout.specs.Rows.{end_of, ascends, RowFits, Says}
use Rattle.layout.specs.Values.{width}
use Rattle.layout.specs.Writing.{value_bytes, with_row, laid}
use Rattle.layout.specs.declared.row.Row.{Row}
use Rattle.layout.proofs.OrderLemmas.{step, within_each, le-ascends, ascends_on}
use Rattle.layout.proofs.PutLemmas.{length-value_bytes, value_again}
use Rattle.layout.proofs.SpliceLemmas.{Stands, length-splice, splice-stands, splice-keeps}
use Rattle.layout.specs.Splice.{splice}

-- the bytes of this row's value stand at its offset
abbrev RowStands : {F : Type 0} → List ℕ → Row F → Type 0
RowStands bytes row = Stands row.at (value_bytes row.value) bytes

pub laid-append : {F : Type 0} → (xs ys : List (Row F)) (bytes : List ℕ) → laid (xs ++ ys) bytes ≡ laid ys (laid xs bytes)
laid-append [] ys bytes = refl
laid-append (row ∷ xs) ys bytes = laid-append xs ys (with_row bytes row)

-- a row of a table leaves the length as it is
record Room {F : Type 0} (from : ℕ) (row : Row F) (rows : List (Row F)) (old : List ℕ) : Type 0 where
  here : from ≤ row.at
  room : row.at + length (value_bytes row.value) ≤ length old
  size : length (value_bytes row.value) ≡ width row.value
  same : length (with_row old row) ≡ length old
  rest : ascends (end_of row) rows (length (with_row old row)) ≡ true

room_of : {F : Type 0} → (from : ℕ) (row : Row F) (rows : List (Row F)) (old : List ℕ) → ascends from (row ∷ rows) (length old) ≡ true → RowFits row → Room from row rows old
room_of from row rows old asc fits =
    let s = step from row rows (length old) asc in
    let size = length-value_bytes row.value fits in
    let end = le-ascends (end_of row) rows (length old) s.rest in
    let room : row.at + length (value_bytes row.value) ≤ length old = omega arith in
    let same = length-splice old row.at (value_bytes row.value) room in
    record { here = s.here; room = room; size = size; same = same; rest = rw same s.rest }

pub length-laid : {F : Type 0} → (from : ℕ) (rows : List (Row F)) (old : List ℕ) → ascends from rows (length old) ≡ true → AllByRecursion RowFits rows → length (laid rows old) ≡ length old
length-laid from [] old asc fits = refl
length-laid from (row ∷ rows) old asc fits =
    let r = room_of from row rows old asc fits.0 in
    length-laid (end_of row) rows (with_row old row) r.rest fits.1 ∙ r.same

-- what stands before all rows is kept
laid-keeps : {F : Type 0} → (at : ℕ) (new : List ℕ) (from : ℕ) (rows : List (Row F)) (old : List ℕ) → at + length new ≤ from → ascends from rows (length old) ≡ true → AllByRecursion RowFits rows → Stands at new old → Stands at new (laid rows old)
laid-keeps at new from [] old before asc fits stands = stands
laid-keeps at new from (row ∷ rows) old before asc fits stands =
    let r = room_of from row rows old asc fits.0 in
    let here = r.here in
    let room = r.room in
    let kept = splice-keeps at new old row.at (value_bytes row.value) (omega arith) (omega arith) stands in
    laid-keeps at new (end_of row) rows (with_row old row) (omega arith) r.rest fits.1 kept

-- each row's value stands at its offset
laid-stands : {F : Type 0} → (from : ℕ) (rows : List (Row F)) (old : List ℕ) → ascends from rows (length old) ≡ true → AllByRecursion RowFits rows → AllByRecursion (RowStands (laid rows old)) rows
laid-stands from [] old asc fits = tt
laid-stands from (row ∷ rows) old asc fits =
    let r = room_of from row rows old asc fits.0 in
    let size = r.size in
    let here = splice-stands old row.at (value_bytes row.value) r.room in
    let first = laid-keeps row.at (value_bytes row.value) (end_of row) rows (with_row old row) (omega arith) r.rest fits.1 here in
    (first, laid-stands (end_of row) rows (with_row old row) r.rest fits.1)

values_again : {F : Type 0} → (rows : List (Row F)) (bytes : List ℕ) → AllByRecursion RowFits rows → AllByRecursion (λ row. end_of row ≤ length bytes) rows → AllByRecursion (RowStands bytes) rows → Says rows bytes
values_again [] bytes fits within stand = tt
values_again (row ∷ rows) bytes fits within stand =
    (value_again row.value row.at bytes fits.0 within.0 stand.0, values_again rows bytes fits.1 within.1 stand.1)

-- n bytes that say what the table says
pub record IsLaid {F : Type 0} (rows : List (Row F)) (n : ℕ) (bytes : List ℕ) : Type 0 where
  pub len : length bytes ≡ n
  pub said : Says rows bytes

pub laid_again : {F : Type 0} → (rows : List (Row F)) (n : ℕ) → ascends 0 rows n ≡ true → AllByRecursion RowFits rows → IsLaid rows n (laid rows (replicate n 0))
laid_again rows n asc fits =
    let zeros : List ℕ = replicate n 0 in
    let size : length zeros ≡ n = length-replicate {A = ℕ} n 0 in
    let there : ascends 0 rows (length zeros) ≡ true = rw size asc in
    let len : length (laid rows zeros) ≡ n = length-laid 0 rows zeros there fits ∙ size in
    record { len = len; said = values_again rows (laid rows zeros) fits (within_each 0 rows (length (laid rows zeros)) (rw len asc)) (laid-stands 0 rows zeros there fits) }

-- bytes written behind the rows leave what they say
stand_before : {F : Type 0} → (to : ℕ) (more old : List ℕ) (rows : List (Row F)) → to + length more ≤ length old → AllByRecursion RowFits rows → AllByRecursion (λ row. end_of row ≤ to) rows → AllByRecursion (RowStands old) rows → AllByRecursion (RowStands (splice old to more)) rows
stand_before to more old [] room fits within stand = tt
stand_before to more old (row ∷ rows) room fits within stand =
    let size = length-value_bytes row.value fits.0 in
    let here = within.0 in
    (splice-keeps row.at (value_bytes row.value) old to more (omega arith) room stand.0, stand_before to more old rows room fits.1 within.1 stand.1)

pub sealed_again : {F : Type 0} → (rows : List (Row F)) (at : ℕ) (new : List ℕ) (n : ℕ) → ascends 0 rows at ≡ true → at + length new ≤ n → AllByRecursion RowFits rows → IsLaid rows n (splice (laid rows (replicate n 0)) at new)
sealed_again rows at new n asc room fits =
    let zeros : List ℕ = replicate n 0 in
    let size : length zeros ≡ n = length-replicate {A = ℕ} n 0 in
    let there : ascends 0 rows (length zeros) ≡ true = ascends_on 0 rows at (length zeros) asc (omega arith) in
    let old : List ℕ = laid rows zeros in
    let len : length old ≡ n = length-laid 0 rows zeros there fits ∙ size in
    let stand = stand_before at new old rows (omega arith) fits (within_each 0 rows at asc) (laid-stands 0 rows zeros there fits) in
    let whole : length (splice old at new) ≡ n = length-splice old at new (omega arith) ∙ len in
    let within = within_each 0 rows (length (splice old at new)) (ascends_on 0 rows at (length (splice old at new)) asc (omega arith)) in
    record { len = whole; said = values_again rows (splice old at new) fits within stand }

-- Rows that ascend don't overlap.
use Rattle.std.proofs.Common.{Bool, true, false, ◌≡◌, ◌&&◌, All, ℕ, ◌≤◌, List, [], ◌∷◌, refl, arith}
use Rattle.std.specs.Prelude.{nat_le, AllPairs}
use Rattle.std.specs.List.{AllByRecursion}
use Rattle.std.proofs.lemmas.Bool.Decides.{nat_tests}
use Rattle.std.proofs.lemmas.List.Elements.{All-from_recursion, All-weaker}
use Rattle.std.proofs.lemmas.List.Kept.{AllPairs-cons}
use Rattle.layout.specs.Rows.{end_of, ascends, AreApart}
use Rattle.layout.specs.declared.row.Row.{Row}

-- both parts of a test that is true
pub both : (a b : Bool) → a && b ≡ true → (a ≡ true) × (b ≡ true)
both true b h = (refl, h)
both false b h = absurd cc

-- what the test `nat_le` says
pub le_of : (m n : ℕ) → nat_le m n ≡ true → m ≤ n
le_of m n h = grind (arith, nat_tests)

-- what holds of each row by a weaker fact
pub weaker : {F : Type 0} → (P Q : Row F → Type 0) → ((row : Row F) → P row → Q row) → (rows : List (Row F)) → AllByRecursion P rows → AllByRecursion Q rows
weaker P Q f [] all = tt
weaker P Q f (row ∷ rows) all = (f row all.0, weaker P Q f rows all.1)

-- what the first row of an ascending table keeps, and the rest behind it
pub record Step {F : Type 0} (from : ℕ) (row : Row F) (rows : List (Row F)) (end : ℕ) : Type 0 where
  pub here : from ≤ row.at
  pub rest : ascends (end_of row) rows end ≡ true

pub step : {F : Type 0} → (from : ℕ) (row : Row F) (rows : List (Row F)) (end : ℕ) → ascends from (row ∷ rows) end ≡ true → Step from row rows end
step from row rows end asc =
    let p : (nat_le from row.at ≡ true) × (ascends (end_of row) rows end ≡ true) = both _ _ asc in
    record { here = le_of from row.at p.0; rest = p.1 }

-- an ascending table begins by its end
pub le-ascends : {F : Type 0} → (from : ℕ) (rows : List (Row F)) (end : ℕ) → ascends from rows end ≡ true → from ≤ end
le-ascends from [] end asc = le_of from end asc
le-ascends from (row ∷ rows) end asc =
    let s = step from row rows end asc in
    let more = le-ascends (end_of row) rows end s.rest in
    let here = s.here in
    omega arith

-- each row ends by the table's end
pub within_each : {F : Type 0} → (from : ℕ) (rows : List (Row F)) (end : ℕ) → ascends from rows end ≡ true → AllByRecursion (λ row. end_of row ≤ end) rows
within_each from [] end asc = tt
within_each from (row ∷ rows) end asc =
    let s = step from row rows end asc in
    (le-ascends (end_of row) rows end s.rest, within_each (end_of row) rows end s.rest)

-- each row begins at or behind the table's begin
pub later_each : {F : Type 0} → (from : ℕ) (rows : List (Row F)) (end : ℕ) → ascends from rows end ≡ true → AllByRecursion (λ row. from ≤ row.at) rows
later_each from [] end asc = tt
later_each from (row ∷ rows) end asc =
    let s = step from row rows end asc in
    let here = s.here in
    (here, weaker (λ other. end_of row ≤ other.at) (λ other. from ≤ other.at) (λ other h. omega arith) rows (later_each (end_of row) rows end s.rest))

pairs_apart : {F : Type 0} → (from : ℕ) (rows : List (Row F)) (end : ℕ) → ascends from rows end ≡ true → AllPairs (λ (row : Row F) (later : Row F). end_of row ≤ later.at) rows
pairs_apart from [] end asc = λ i j d lt below. absurd (omega arith)
pairs_apart from (row ∷ rows) end asc =
    let s = step from row rows end asc in
    AllPairs-cons (λ row later. end_of row ≤ later.at) row rows (All-from_recursion (λ later. end_of row ≤ later.at) rows (later_each (end_of row) rows end s.rest)) (pairs_apart (end_of row) rows end s.rest)

pub are_apart : {F : Type 0} → (rows : List (Row F)) (end : ℕ) → ascends 0 rows end ≡ true → AreApart rows end
are_apart rows end asc = record { apart = pairs_apart 0 rows end asc; within = within_each 0 rows end asc }

-- each row ends by a number that isn't below the table's end
pub rows_within : {F : Type 0} → (rows : List (Row F)) (end n : ℕ) → ascends 0 rows end ≡ true → end ≤ n → All (λ row. end_of row ≤ n) rows
rows_within rows end n asc le = All-weaker (λ row. end_of row ≤ end) (λ row. end_of row ≤ n) (λ row fits. omega arith) rows (All-from_recursion (λ row. end_of row ≤ end) rows (within_each 0 rows end asc))

-- a table's end may be put later
pub ascends_on : {F : Type 0} → (from : ℕ) (rows : List (Row F)) (end n : ℕ) → ascends from rows end ≡ true → end ≤ n → ascends from rows n ≡ true
ascends_on from [] end n asc le = grind (arith, nat_tests)
ascends_on from (row ∷ rows) end n asc le =
    let p : (nat_le from row.at ≡ true) × (ascends (end_of row) rows end ≡ true) = both _ _ asc in
    rw (p.0, ascends_on (end_of row) rows end n p.1 le) refl

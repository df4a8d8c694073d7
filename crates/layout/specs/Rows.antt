-- A fixed layout as a table: a list of rows, each a field, its offset, its value and its rule.
use Rattle.std.specs.Prelude.{ℕ, ◌≡◌, ◌≤◌, ◌<◌, ◌+◌, nat_le, ◌&&◌, Bool, true, false, not, List, [], ◌∷◌, Option, AllPairs}
use Rattle.std.specs.List.{find, AllByRecursion, Contains}
use Rattle.layout.specs.Readers.{value_at}
use Rattle.layout.specs.Rules.{allows}
use Rattle.layout.specs.Values.{number, width, ValueFits}
use Rattle.layout.specs.declared.row.Row.{Row}
use Rattle.layout.specs.declared.rule.Rule.{Rule}
use Rattle.layout.specs.declared.value.Value.{Value}

-- a row of the table
abbrev pub row : {F : Type 0} → F → ℕ → Value → Rule → Row F
row field at value rule = record { field = field; at = at; value = value; rule = rule }

-- the row's value is one that its bytes can hold
abbrev pub RowFits : {F : Type 0} → Row F → Type 0
RowFits row = ValueFits row.value

-- the offset behind a row
abbrev pub end_of : {F : Type 0} → Row F → ℕ
end_of row = row.at + width row.value

-- each row begins where the one before it has ended, or later: the first at `from`, and the last ends by `end`
abbrev pub ascends : {F : Type 0} → ℕ → List (Row F) → ℕ → Bool
ascends from [] end = nat_le from end
ascends from (row ∷ rows) end = nat_le from row.at && ascends (end_of row) rows end

-- no two rows overlap, and each ends by `end`
pub record AreApart {F : Type 0} (rows : List (Row F)) (end : ℕ) : Type 0 where
  pub apart : AllPairs (λ row later. end_of row ≤ later.at) rows
  pub within : AllByRecursion (λ row. end_of row ≤ end) rows

-- each value of the table is what stands at its offset
abbrev pub Says : {F : Type 0} → List (Row F) → List ℕ → Type 0
Says rows bytes = AllByRecursion (λ row. value_at row.value row.at bytes ≡ row.value) rows

-- a row keeps its rule
abbrev pub Holds : {F : Type 0} → Row F → Type 0
Holds row = allows row.rule (number row.value) ≡ true

-- the first row of the table that breaks its rule
unfoldable pub first_broken : {F : Type 0} → List (Row F) → Option (Row F)
first_broken rows = find (λ row. not (allows row.rule (number row.value))) rows

-- the row breaks its rule, and none of a lesser offset does
pub record IsFirstBroken {F : Type 0} (row : Row F) (rows : List (Row F)) : Type 0 where
  pub among : Contains rows row
  pub breaks : allows row.rule (number row.value) ≡ false
  pub before : AllByRecursion (λ other. other.at < row.at → Holds other) rows

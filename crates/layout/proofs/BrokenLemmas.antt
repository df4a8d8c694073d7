-- The first row that breaks its rule.
use Rattle.std.proofs.Common.{Bool, true, false, not, cond, ◌⊎◌, inl, inr, Option, Some, None, subst, ◌≡◌, ℕ, suc, ◌<◌, ◌≤◌, List, [], ◌∷◌, refl, sym, ◌∙◌, arith}
use Rattle.std.specs.Prelude.{IfSome, IsNone, ◌↔◌}
use Rattle.std.specs.List.{AllByRecursion}
use Rattle.layout.specs.Rows.{end_of, ascends, first_broken, Holds, IsFirstBroken}
use Rattle.layout.specs.Rules.{allows}
use Rattle.layout.specs.Values.{number}
use Rattle.layout.specs.declared.row.Row.{Row}
use Rattle.layout.proofs.OrderLemmas.{step, weaker, later_each}

chosen : {X : Type 0} (b : Bool) (x : X) (r : Option X) (y : X) → cond (not b) (Some x) r ≡ Some y → ((b ≡ false) × (x ≡ y)) ⊎ ((b ≡ true) × (r ≡ Some y))
chosen true x r y e = inr (refl, e)
chosen false x r y e = inl (refl, cc)

nothing : {X : Type 0} (b : Bool) (x : X) (r : Option X) → cond (not b) (Some x) r ≡ None → (b ≡ true) × (r ≡ None)
nothing true x r e = (refl, e)
nothing false x r e = absurd cc

-- the row found, in a table that begins at `from`
record Found {F : Type 0} (from : ℕ) (row : Row F) (rows : List (Row F)) : Type 0 where
  at : from ≤ row.at
  first : IsFirstBroken row rows

found_here : {F : Type 0} → (from : ℕ) (r row : Row F) (rows : List (Row F)) → from ≤ r.at → allows r.rule (number r.value) ≡ false → r ≡ row → AllByRecursion (λ other. end_of r ≤ other.at) rows → Found from row (r ∷ rows)
found_here from r row rows le breaks same behind =
    subst (λ (x : Row _). Found from x (r ∷ rows)) same (record {
      at = le;
      first = record {
        among = (0, omega arith, refl);
        breaks = breaks;
        before = (λ lt. absurd (omega arith), weaker (λ other. end_of r ≤ other.at) (λ other. other.at < r.at → Holds other) (λ other h lt. absurd (omega arith)) rows behind);
      };
    })

found_later : {F : Type 0} → (from : ℕ) (r row : Row F) (rows : List (Row F)) → from ≤ r.at → allows r.rule (number r.value) ≡ true → Found (end_of r) row rows → Found from row (r ∷ rows)
found_later from r row rows le holds is =
    let m = is.first.among in
    let least = is.at in
    record {
      at = omega arith;
      first = record {
        among = (suc m.0, omega (arith, m.1), m.2);
        breaks = is.first.breaks;
        before = (λ lt. holds, is.first.before);
      };
    }

found : {F : Type 0} → (from : ℕ) (rows : List (Row F)) (end : ℕ) (row : Row F) → ascends from rows end ≡ true → first_broken rows ≡ Some row → Found from row rows
unfolding first_broken
found from [] end row asc e = absurd cc
found from (r ∷ rows) end row asc e =
    let s = step from r rows end asc in
    elim (chosen (allows r.rule (number r.value)) r (first_broken rows) row e) [
      | inl h ↦ found_here from r row rows s.here h.0 h.1 (later_each (end_of r) rows end s.rest)
      | inr h ↦ found_later from r row rows s.here h.0 (found (end_of r) rows end row s.rest h.1)
    ]

-- in a table that ascends it is the broken row of the least offset
pub is_first_broken : {F : Type 0} → (rows : List (Row F)) (end : ℕ) (row : Row F) → ascends 0 rows end ≡ true → first_broken rows ≡ Some row → IsFirstBroken row rows
is_first_broken rows end row asc e = (found 0 rows end row asc e).first

pub none_broken : {F : Type 0} → (rows : List (Row F)) → first_broken rows ≡ None → AllByRecursion Holds rows
unfolding first_broken
none_broken [] e = tt
none_broken (r ∷ rows) e = let h = nothing (allows r.rule (number r.value)) r (first_broken rows) e in (h.0, none_broken rows h.1)

pub all_hold : {F : Type 0} → (rows : List (Row F)) → AllByRecursion Holds rows → first_broken rows ≡ None
unfolding first_broken
all_hold [] all = refl
all_hold (r ∷ rows) all = rw all.0 (all_hold rows all.1)

-- the same of what a search gave
pub least_of : {F : Type 0} → (rows : List (Row F)) (r : Option (Row F)) (end : ℕ) → ascends 0 rows end ≡ true → r ≡ first_broken rows → IfSome r (λ row. IsFirstBroken row rows)
least_of rows None end asc e = tt
least_of rows (Some row) end asc e = is_first_broken rows end row asc (sym e)

is_none : {X : Type 0} (r : Option X) → IsNone r → r ≡ None
is_none None none = refl
is_none (Some x) none = absurd cc

none_of : {X : Type 0} (r : Option X) → r ≡ None → IsNone r
none_of None e = refl
none_of (Some x) e = absurd cc

pub none_iff : {F : Type 0} → (rows : List (Row F)) (r : Option (Row F)) → r ≡ first_broken rows → IsNone r ↔ AllByRecursion Holds rows
none_iff rows r e = (λ none. none_broken rows (sym e ∙ is_none r none), λ all. none_of r (e ∙ all_hold rows all))

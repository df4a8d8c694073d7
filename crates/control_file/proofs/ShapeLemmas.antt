-- What the rules of the table say of single fields.
use Rattle.std.proofs.Common.{true, ◌≡◌, ◌&&◌, ◌≤◌, ◌^◌, ℕ, List, [], ◌∷◌, ◌++◌}
use Rattle.std.specs.Prelude.{nat_le}
use Rattle.std.specs.Int.{is_power_of_two}
use Rattle.std.specs.List.{AllByRecursion}
use Rattle.layout.specs.Rows.{Holds}
use Rattle.layout.specs.Rules.{allows}
use Rattle.layout.specs.declared.rule.Rule.TheVariants.{PowerOfTwo}
use Rattle.layout.specs.declared.row.Row.{Row}
use Rattle.layout.proofs.OrderLemmas.{both, le_of}
use Rattle.wal_base.specs.SegSize.{IsSegSize}
use Rattle.control_file.specs.Rows.{head_rows, checkpoint_rows, recovery_rows, setting_rows, build_rows, rows_of}
use Rattle.control_file.specs.declared.control.Control.{Control}
use Rattle.control_file.specs.declared.field.Field.{Field}

hold_left : (xs ys : List (Row Field)) → AllByRecursion Holds (xs ++ ys) → AllByRecursion Holds xs
hold_left [] ys all = tt
hold_left (row ∷ xs) ys all = (all.0, hold_left xs ys all.1)

hold_right : (xs ys : List (Row Field)) → AllByRecursion Holds (xs ++ ys) → AllByRecursion Holds ys
hold_right [] ys all = all
hold_right (row ∷ xs) ys all = hold_right xs ys all.1

-- each part of the table keeps its rules
record PartsHold (c : Control) : Type 0 where
  head : AllByRecursion Holds (head_rows c)
  settings : AllByRecursion Holds (setting_rows c)
  build : AllByRecursion Holds (build_rows c)

parts_hold : (c : Control) → AllByRecursion Holds (rows_of c) → PartsHold c
unfolding rows_of
parts_hold c all =
    let recovered : List (Row Field) = head_rows c ++ checkpoint_rows 40 c.cp ++ recovery_rows c in
    let front = hold_left (recovered ++ setting_rows c) (build_rows c) all in
    let early = hold_left recovered (setting_rows c) front in
    record {
      head = hold_left (head_rows c) (checkpoint_rows 40 c.cp) (hold_left (head_rows c ++ checkpoint_rows 40 c.cp) (recovery_rows c) early);
      settings = hold_right recovered (setting_rows c) front;
      build = hold_right (recovered ++ setting_rows c) (build_rows c) all;
    }

seg_size_of : (n : ℕ) → allows (PowerOfTwo (2 ^ 20) (2 ^ 30)) n ≡ true → IsSegSize n
seg_size_of n h =
    let outer = both (is_power_of_two n && nat_le (2 ^ 20) n) (nat_le n (2 ^ 30)) h in
    let inner = both (is_power_of_two n) (nat_le (2 ^ 20) n) outer.0 in
    record { power = inner.0; least = le_of (2 ^ 20) n inner.1; greatest = le_of n (2 ^ 30) outer.1 }

-- the fields that the text reads by their rules
pub record IsShaped (c : Control) : Type 0 where
  pub state : c.state ≤ 6
  pub level : c.walLevel ≤ 2
  pub size : IsSegSize c.walSegSize

pub shaped : (c : Control) → AllByRecursion Holds (rows_of c) → IsShaped c
unfolding head_rows setting_rows build_rows
shaped c shape =
    let parts = parts_hold c shape in
    record {
      state = le_of c.state 6 parts.head.1.1.1.0;
      level = le_of c.walLevel 2 parts.settings.0;
      size = seg_size_of c.walSegSize parts.build.1.1.1.1.1.0;
    }

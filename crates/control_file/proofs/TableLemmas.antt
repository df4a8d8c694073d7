-- The table's rows stand in order, and its first broken row is the first of its parts.
use Rattle.std.proofs.Common.{All, ◌≡◌, ◌≤◌, ℕ, true, refl, List, [], ◌∷◌, ◌++◌, arith}
use Rattle.std.specs.List.{AllByRecursion}
use Rattle.std.specs.Option.{option_or}
use Rattle.std.proofs.lemmas.List.Folds.{find-append}
use Rattle.layout.specs.Rows.{end_of, ascends, AreApart, first_broken, RowFits}
use Rattle.layout.specs.declared.row.Row.{Row}
use Rattle.layout.specs.Writing.{laid}
use Rattle.layout.proofs.LaidLemmas.{laid-append}
use Rattle.layout.proofs.OrderLemmas.{are_apart, rows_within}
use Rattle.control_file.specs.Rows.{head_rows, checkpoint_rows, recovery_rows, setting_rows, build_rows, rows_of}
use Rattle.control_file.specs.declared.checkpoint.Checkpoint.{Checkpoint}
use Rattle.control_file.specs.declared.control.Control.{Control}
use Rattle.control_file.specs.declared.field.Field.{Field}

pub ascends_checkpoint : (cp : Checkpoint) → ascends 0 (checkpoint_rows 0 cp) 88 ≡ true
unfolding checkpoint_rows
ascends_checkpoint cp = refl

pub ascends_rows : (c : Control) → ascends 0 (rows_of c) 288 ≡ true
unfolding rows_of head_rows checkpoint_rows recovery_rows setting_rows build_rows
ascends_rows c = refl

pub apart_checkpoint : (cp : Checkpoint) → AreApart (checkpoint_rows 0 cp) 88
apart_checkpoint cp = are_apart (checkpoint_rows 0 cp) 88 (ascends_checkpoint cp)

pub apart_rows : (c : Control) → AreApart (rows_of c) 288
apart_rows c = are_apart (rows_of c) 288 (ascends_rows c)

first_broken-append : (xs ys : List (Row Field)) → first_broken (xs ++ ys) ≡ option_or (first_broken xs) (first_broken ys)
unfolding first_broken
first_broken-append xs ys = find-append _ xs ys

-- the first broken row of the whole table, part by part
pub first_broken_of_parts : (c : Control) → first_broken (rows_of c) ≡ option_or (option_or (option_or (option_or (first_broken (head_rows c)) (first_broken (checkpoint_rows 40 c.cp))) (first_broken (recovery_rows c))) (first_broken (setting_rows c))) (first_broken (build_rows c))
unfolding rows_of
first_broken_of_parts c = simp first_broken-append

-- each part of the table lies within the file
pub record PartsWithin (c : Control) : Type 0 where
  pub head : All (λ row. end_of row ≤ 8192) (head_rows c)
  pub checkpoint : All (λ row. end_of row ≤ 8192) (checkpoint_rows 40 c.cp)
  pub recovery : All (λ row. end_of row ≤ 8192) (recovery_rows c)
  pub settings : All (λ row. end_of row ≤ 8192) (setting_rows c)
  pub build : All (λ row. end_of row ≤ 8192) (build_rows c)

pub parts_within : (c : Control) → PartsWithin c
unfolding head_rows checkpoint_rows recovery_rows setting_rows build_rows
parts_within c = record {
  head = rows_within (head_rows c) 8192 8192 refl (omega arith);
  checkpoint = rows_within (checkpoint_rows 40 c.cp) 8192 8192 refl (omega arith);
  recovery = rows_within (recovery_rows c) 8192 8192 refl (omega arith);
  settings = rows_within (setting_rows c) 8192 8192 refl (omega arith);
  build = rows_within (build_rows c) 8192 8192 refl (omega arith);
}

-- the whole table laid out, part by part
pub laid_of_parts : (c : Control) (bytes : List ℕ) → laid (rows_of c) bytes ≡ laid (build_rows c) (laid (setting_rows c) (laid (recovery_rows c) (laid (checkpoint_rows 40 c.cp) (laid (head_rows c) bytes))))
unfolding rows_of
laid_of_parts c bytes = simp laid-append

fits_append : (xs ys : List (Row Field)) → AllByRecursion RowFits xs → AllByRecursion RowFits ys → AllByRecursion RowFits (xs ++ ys)
fits_append [] ys left right = right
fits_append (row ∷ xs) ys left right = (left.0, fits_append xs ys left.1 right)

-- the whole table fits where each part does
pub fits_of_parts : (c : Control) → AllByRecursion RowFits (head_rows c) → AllByRecursion RowFits (checkpoint_rows 40 c.cp) → AllByRecursion RowFits (recovery_rows c) → AllByRecursion RowFits (setting_rows c) → AllByRecursion RowFits (build_rows c) → AllByRecursion RowFits (rows_of c)
unfolding rows_of
fits_of_parts c head cp recovery settings build =
    fits_append _ (build_rows c) (fits_append _ (setting_rows c) (fits_append _ (recovery_rows c) (fits_append (head_rows c) (checkpoint_rows 40 c.cp) head cp) recovery) settings) build

-- The new control file keeps the rules of its fields.
use Rattle.std.proofs.Common.{◌≡◌, ℕ, ℤ, ◌^◌, ◌≤◌, ◌&&◌, true, refl, ap₂, arith, rules}
use Rattle.std.specs.Prelude.{nat_le}
use Rattle.layout.specs.Rules.{allows}
use Rattle.layout.specs.declared.rule.Rule.TheVariants.{PowerOfTwo}
use Rattle.wal_base.specs.SegSize.{IsSegSize}
use Rattle.control_file.specs.Admission.{IsControl}
use Rattle.control_file.specs.Rows.{head_rows, checkpoint_rows, recovery_rows, setting_rows, build_rows, rows_of}
use Rattle.control_file.specs.declared.control.Control.{Control}
use Rattle.reset_numbers.specs.NewControl.{new_checkpoint, new_control}
use Rattle.reset_numbers.specs.declared.options.ResetOptions.{ResetOptions}

le_true : (a b : ℕ) → a ≤ b → nat_le a b ≡ true
le_true a b l = grind (arith, rules, l)

seg_size_holds : (n : ℕ) → IsSegSize n → allows (PowerOfTwo (2 ^ 20) (2 ^ 30)) n ≡ true
seg_size_holds n s = ap₂ (λ a b. a && b) (ap₂ (λ a b. a && b) s.power (le_true (2 ^ 20) n s.least)) (le_true n (2 ^ 30) s.greatest)

-- of the old one stay those that a reset leaves; the others have values that keep their rules
pub renewed : (options : ResetOptions) (now : ℤ) (at size : ℕ) (old : Control) → IsControl old → IsSegSize size → IsControl (new_control options now at size old)
unfolding new_control new_checkpoint rows_of head_rows checkpoint_rows recovery_rows setting_rows build_rows
renewed options now at size old is fits = record {
  version = is.version;
  catalog = is.catalog;
  shape = (refl, (refl, (refl, (refl, (refl, (refl, (refl, (refl, (refl, (is.shape.1.1.1.1.1.1.1.1.1.0, (refl, (refl, (refl, (refl, (refl, (refl, (refl, (refl, (refl, (refl, (refl, (refl, (refl, (refl, (refl, (refl, (refl, (refl, (refl, (refl, (refl, (refl, (refl, (refl, (refl, (refl, (is.shape.1.1.1.1.1.1.1.1.1.1.1.1.1.1.1.1.1.1.1.1.1.1.1.1.1.1.1.1.1.1.1.1.1.1.1.1.0, (is.shape.1.1.1.1.1.1.1.1.1.1.1.1.1.1.1.1.1.1.1.1.1.1.1.1.1.1.1.1.1.1.1.1.1.1.1.1.1.0, (is.shape.1.1.1.1.1.1.1.1.1.1.1.1.1.1.1.1.1.1.1.1.1.1.1.1.1.1.1.1.1.1.1.1.1.1.1.1.1.1.0, (is.shape.1.1.1.1.1.1.1.1.1.1.1.1.1.1.1.1.1.1.1.1.1.1.1.1.1.1.1.1.1.1.1.1.1.1.1.1.1.1.1.0, (is.shape.1.1.1.1.1.1.1.1.1.1.1.1.1.1.1.1.1.1.1.1.1.1.1.1.1.1.1.1.1.1.1.1.1.1.1.1.1.1.1.1.0, (seg_size_holds size fits, (refl, (refl, (refl, (refl, (is.shape.1.1.1.1.1.1.1.1.1.1.1.1.1.1.1.1.1.1.1.1.1.1.1.1.1.1.1.1.1.1.1.1.1.1.1.1.1.1.1.1.1.1.1.1.1.1.0, (is.shape.1.1.1.1.1.1.1.1.1.1.1.1.1.1.1.1.1.1.1.1.1.1.1.1.1.1.1.1.1.1.1.1.1.1.1.1.1.1.1.1.1.1.1.1.1.1.1.0, (refl, tt)))))))))))))))))))))))))))))))))))))))))))))))));
}

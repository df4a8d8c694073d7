-- The control file keeps the rules of its fields.
use Rattle.std.proofs.Common.{◌≡◌, ◌<◌, ◌-◌, ◌^◌, ℕ, true, List, Option, None, Some, refl, subst, arith, nat_le}
use Rattle.std.specs.Prelude.{ℤ, pos, negsuc, ◌&&◌, IfSome}
use Rattle.std.proofs.lemmas.Bool.{and_parts}
use Rattle.std.proofs.lemmas.Bool.Decides.{nat_tests}
use Rattle.block_refs.specs.Bytes.{main_bytes}
use Rattle.block_refs.specs.Parts.{PartsView}
use Rattle.control_file.specs.Admission.{IsControl}
use Rattle.control_file.specs.Reading.{checkpoint_of}
use Rattle.control_file.specs.Rows.{head_rows, checkpoint_rows, recovery_rows, setting_rows, build_rows, rows_of}
use Rattle.control_file.specs.declared.checkpoint.Checkpoint.{Checkpoint}
use Rattle.control_file.specs.declared.control.Control.{Control}
use Rattle.record_layouts.proofs.PrefixLemmas.{checkpoints, parameters}
use Rattle.record_layouts.specs.Xlog.{parameter_change_of}
use Rattle.record_layouts.specs.XlogPrefixes.{checkpoint_prefix_of, parameter_prefix_of}
use Rattle.record_layouts.specs.declared.operation.Operation.{Operation}
use Rattle.record_layouts.specs.declared.operation.Operation.TheVariants as op
use Rattle.record_layouts.specs.declared.xlog.ParameterChange.{ParameterChange}
use Rattle.record_layouts.specs.declared.xlog.XlogOp.{XlogOp}
use Rattle.record_layouts.specs.declared.xlog.XlogOp.TheVariants as xlog
use Rattle.replay_profile.specs.Fields.{takes_fields, takes_xlog}
use Rattle.replay_profile.specs.Names.{are_known}
use Rattle.replay_profile.specs.Profile.{done_by, is_in_profile, is_known}
use Rattle.replay_profile.specs.Values.{is_known_change, is_known_checkpoint, is_level, is_set}
use Rattle.wal_records.specs.Reading.{LogRecord}
use Rattle.replay_control.specs.Following.{AreSmall, control_left, counted, with_checkpoint, with_settings}
use Rattle.replay_control.specs.Said.{change_by, change_by_xlog, change_said, checkpoint_by, checkpoint_by_xlog, checkpoint_said}
use Rattle.rmgr_hooks.specs.Custom.{Extension}

-- a checkpoint's copy has one rule, of its flag
checkpoint-keeps : (start : ℕ) (cp : Checkpoint) (control : Control) → nat_le cp.fpw 1 ≡ true → IsControl control → IsControl (with_checkpoint start (Some cp) control)
unfolding rows_of head_rows checkpoint_rows recovery_rows setting_rows build_rows
checkpoint-keeps start cp control flag is = record {
  version = is.version;
  catalog = is.catalog;
  shape = (refl, (refl, (refl, (is.shape.1.1.1.0, (refl, (refl, (refl, (refl, (refl, (flag, (refl, (refl, (refl, (refl, (refl, (refl, (refl, (refl, (refl, (refl, (refl, (refl, is.shape.1.1.1.1.1.1.1.1.1.1.1.1.1.1.1.1.1.1.1.1.1.1))))))))))))))))))))));
}

-- what the rules of settings ask
record AreFit (change : ParameterChange) : Type 0 where
  level : nat_le (counted change.wal_level) 2 ≡ true
  hints : nat_le change.wal_log_hints 1 ≡ true
  small : AreSmall change
  times : nat_le change.track_commit_ts 1 ≡ true

count_rule : (n : ℕ) → n < 2 ^ 31 → nat_le n (2 ^ 31 - 1) ≡ true
count_rule n low = grind (arith, nat_tests, low)

settings-keep : (change : ParameterChange) (control : Control) → AreFit change → IsControl control → IsControl (with_settings (Some change) control)
unfolding rows_of head_rows checkpoint_rows recovery_rows setting_rows build_rows
settings-keep change control fit is = record {
  version = is.version;
  catalog = is.catalog;
  shape = (refl, (refl, (refl, (is.shape.1.1.1.0, (refl, (refl, (refl, (refl, (refl, (is.shape.1.1.1.1.1.1.1.1.1.0, (refl, (refl, (refl, (refl, (refl, (refl, (refl, (refl, (refl, (refl, (refl, (refl, (refl, (refl, (refl, (refl, (refl, (is.shape.1.1.1.1.1.1.1.1.1.1.1.1.1.1.1.1.1.1.1.1.1.1.1.1.1.1.1.0, (fit.level, (fit.hints, (count_rule _ fit.small.0, (count_rule _ fit.small.1, (count_rule _ fit.small.2, (count_rule _ fit.small.3, (count_rule _ fit.small.4, (fit.times, is.shape.1.1.1.1.1.1.1.1.1.1.1.1.1.1.1.1.1.1.1.1.1.1.1.1.1.1.1.1.1.1.1.1.1.1.1.1))))))))))))))))))))))))))))))))))));
}

-- what a replay leaves has a state, which is 2 of at most 6, and a flag, which is 0
pub left-keeps : (tli end : ℕ) (control : Control) → IsControl control → IsControl (control_left tli end control)
unfolding control_left rows_of head_rows checkpoint_rows recovery_rows setting_rows build_rows
left-keeps tli end control is = record {
  version = is.version;
  catalog = is.catalog;
  shape = (refl, (refl, (refl, (refl, (refl, (refl, (refl, (refl, (refl, (is.shape.1.1.1.1.1.1.1.1.1.0, (refl, (refl, (refl, (refl, (refl, (refl, (refl, (refl, (refl, (refl, (refl, (refl, (refl, (refl, (refl, (refl, (refl, (refl, is.shape.1.1.1.1.1.1.1.1.1.1.1.1.1.1.1.1.1.1.1.1.1.1.1.1.1.1.1.1))))))))))))))))))))))))))));
}

-- a checkpoint that replay takes keeps that rule
flag_of : (main : List ℕ) (cp : Checkpoint) → checkpoint_of main ≡ Some cp → is_known_checkpoint (checkpoint_prefix_of main) ≡ true → nat_le cp.fpw 1 ≡ true
flag_of main cp is known = subst (λ prefix. is_known_checkpoint prefix ≡ true) (checkpoints main cp is) known

flag_by_xlog : (o : XlogOp) (main : List ℕ) (cp : Checkpoint) → checkpoint_by_xlog o main ≡ Some cp → takes_xlog o main ≡ true → nat_le cp.fpw 1 ≡ true
flag_by_xlog xlog.CheckpointShutdown main cp is takes = flag_of main cp is takes
flag_by_xlog xlog.CheckpointOnline main cp is takes = flag_of main cp is takes
flag_by_xlog _ main cp is takes = grind (arith, is)

flag_by : (o : Operation) (main : List ℕ) (cp : Checkpoint) → checkpoint_by o main ≡ Some cp → takes_fields o main ≡ true → nat_le cp.fpw 1 ≡ true
flag_by (op.Xlog o) main cp is takes = flag_by_xlog o main cp is takes
flag_by _ main cp is takes = grind (arith, is)

-- so do settings
level_of : (level : ℤ) → is_level level ≡ true → nat_le (counted level) 2 ≡ true
level_of (pos n) is = (and_parts _ _ is).1
level_of (negsuc n) is = refl

set_of : (flag : ℕ) → is_set flag ≡ true → nat_le flag 1 ≡ true
set_of flag is = grind (arith, nat_tests, is)

fit_of : (main : List ℕ) (change : ParameterChange) → AreSmall change → parameter_change_of main ≡ Some change → is_known_change (parameter_prefix_of main) ≡ true → AreFit change
fit_of main change small is known =
    let there = subst (λ prefix. is_known_change prefix ≡ true) (parameters main change is) known in
    let modes = (and_parts _ _ there).1 in
    let first = (and_parts _ _ modes).0 in
    record {
      level = level_of change.wal_level (and_parts _ _ first).0;
      hints = set_of change.wal_log_hints (and_parts _ _ first).1;
      small = small;
      times = (and_parts _ _ modes).1;
    }

fit_by_xlog : (o : XlogOp) (main : List ℕ) (change : ParameterChange) → AreSmall change → change_by_xlog o main ≡ Some change → takes_xlog o main ≡ true → AreFit change
fit_by_xlog xlog.ParameterChange main change small is takes = fit_of main change small is takes
fit_by_xlog _ main change small is takes = grind (arith, is)

fit_by : (o : Operation) (main : List ℕ) (change : ParameterChange) → AreSmall change → change_by o main ≡ Some change → takes_fields o main ≡ true → AreFit change
fit_by (op.Xlog o) main change small is takes = fit_by_xlog o main change small is takes
fit_by _ main change small is takes = grind (arith, is)

takes_of : (custom : Option Extension) (rec : LogRecord) (parts : PartsView) → is_in_profile custom rec parts ≡ true → takes_fields (done_by rec) (main_bytes rec.body parts) ≡ true
takes_of custom rec parts in_profile =
    (and_parts (are_known parts.blocks && is_known custom rec) (takes_fields (done_by rec) (main_bytes rec.body parts)) in_profile).1

checkpoint_or : (start : ℕ) (said : Option Checkpoint) (control : Control) → ((cp : Checkpoint) → said ≡ Some cp → nat_le cp.fpw 1 ≡ true) → IsControl control → IsControl (with_checkpoint start said control)
checkpoint_or start None control flag is = is
checkpoint_or start (Some cp) control flag is = checkpoint-keeps start cp control (flag cp refl) is

settings_or : (said : Option ParameterChange) (control : Control) → ((change : ParameterChange) → said ≡ Some change → AreFit change) → IsControl control → IsControl (with_settings said control)
settings_or None control fit is = is
settings_or (Some change) control fit is = settings-keep change control (fit change refl) is

small_of : (said : Option ParameterChange) (change : ParameterChange) → IfSome said AreSmall → said ≡ Some change → AreSmall change
small_of said change small is = subst (λ s. IfSome s AreSmall) is small

pub after-keeps : (custom : Option Extension) (start : ℕ) (rec : LogRecord) (parts : PartsView) (control : Control) → IfSome (change_said rec parts) AreSmall → is_in_profile custom rec parts ≡ true → IsControl control
    → IsControl (with_settings (change_said rec parts) (with_checkpoint start (checkpoint_said rec parts) control))
after-keeps custom start rec parts control small in_profile is =
    settings_or (change_said rec parts) (with_checkpoint start (checkpoint_said rec parts) control)
    (λ change said. fit_by (done_by rec) (main_bytes rec.body parts) change (small_of (change_said rec parts) change small said) said (takes_of custom rec parts in_profile))
    (checkpoint_or start (checkpoint_said rec parts) control (λ cp said. flag_by (done_by rec) (main_bytes rec.body parts) cp said (takes_of custom rec parts in_profile)) is)

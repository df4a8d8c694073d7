-- The control file that a rewind leaves keeps the rules of its fields.
use Rattle.std.proofs.Common.{ℤ, refl}
use Rattle.control_file.specs.Admission.{IsControl}
use Rattle.control_file.specs.Rows.{head_rows, checkpoint_rows, recovery_rows, setting_rows, build_rows, rows_of}
use Rattle.control_file.specs.declared.control.Control.{Control}
use Rattle.rewound_tree.specs.RewoundControl.{rewound_control}

-- but for the state, which is 5 of at most 6, what it has of its own has no rule
pub rewound-keeps : (source : Control) (now : ℤ) → IsControl source → IsControl (rewound_control source now)
unfolding rows_of head_rows checkpoint_rows recovery_rows setting_rows build_rows
rewound-keeps source now is = record {
  version = is.version;
  catalog = is.catalog;
  shape = (refl, (refl, (refl, (refl, (refl, (refl, (refl, (refl, (refl, (is.shape.1.1.1.1.1.1.1.1.1.0, (refl, (refl, (refl, (refl, (refl, (refl, (refl, (refl, (refl, (refl, (refl, (refl, (refl, (refl, (refl, is.shape.1.1.1.1.1.1.1.1.1.1.1.1.1.1.1.1.1.1.1.1.1.1.1.1.1)))))))))))))))))))))))));
}

pub ruleset control_steps = (rewound-keeps)

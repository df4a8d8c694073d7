-- The control files of a pair keep the rules of their fields.
use Rattle.std.proofs.Common.{◌≡◌, ℕ, refl, sym, subst}
use Rattle.std.specs.Prelude.{pos}
use Rattle.control_file.specs.Admission.{IsControl}
use Rattle.control_file.specs.Rows.{head_rows, checkpoint_rows, recovery_rows, setting_rows, build_rows, rows_of}
use Rattle.control_file.specs.declared.control.Control.{Control}
use Rattle.rewound_tree.specs.RewoundControl.{rewound_control}
use Rattle.pair_maker.specs.Files.{control_with}
use Rattle.pair_maker.specs.Logs.{is_megabyte, last_checkpoint, made_at}
use Rattle.pair_maker.specs.declared.side.Side.{Side}

holds : (side : Side) (place : ℕ) → IsControl (control_with (last_checkpoint side place))
unfolding rows_of head_rows checkpoint_rows recovery_rows setting_rows build_rows
holds side place = record { version = refl; catalog = refl; shape = (refl, (refl, (refl, (refl, (refl, (refl, (refl, (refl, (refl, (refl, (refl, (refl, (refl, (refl, (refl, (refl, (refl, (refl, (refl, (refl, (refl, (refl, (refl, (refl, (refl, (refl, (refl, (refl, (refl, (refl, (refl, (refl, (refl, (refl, (refl, (refl, (refl, (refl, (refl, (refl, (refl, (is_megabyte, (refl, (refl, (refl, (refl, (refl, (refl, (refl, tt))))))))))))))))))))))))))))))))))))))))))))))))) }

pub control-holds : (side : Side) (place : ℕ) (control : Control) → control ≡ control_with (last_checkpoint side place) → IsControl control
control-holds side place control is = subst IsControl (sym is) (holds side place)

rewound_holds : (side : Side) (place : ℕ) → IsControl (rewound_control (control_with (last_checkpoint side place)) (pos made_at))
unfolding rows_of head_rows checkpoint_rows recovery_rows setting_rows build_rows
rewound_holds side place = record { version = refl; catalog = refl; shape = (refl, (refl, (refl, (refl, (refl, (refl, (refl, (refl, (refl, (refl, (refl, (refl, (refl, (refl, (refl, (refl, (refl, (refl, (refl, (refl, (refl, (refl, (refl, (refl, (refl, (refl, (refl, (refl, (refl, (refl, (refl, (refl, (refl, (refl, (refl, (refl, (refl, (refl, (refl, (refl, (refl, (is_megabyte, (refl, (refl, (refl, (refl, (refl, (refl, (refl, tt))))))))))))))))))))))))))))))))))))))))))))))))) }

pub rewound-holds : (side : Side) (place : ℕ) (control : Control) → control ≡ rewound_control (control_with (last_checkpoint side place)) (pos made_at) → IsControl control
rewound-holds side place control is = subst IsControl (sym is) (rewound_holds side place)

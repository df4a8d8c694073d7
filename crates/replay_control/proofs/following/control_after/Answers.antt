use Rattle.std.proofs.Common.{subst, sym}
use Rattle.std.specs.Prelude.{IfSome}
use Rattle.control_file.specs.Admission.{IsControl}
use Rattle.replay_control.specs.Following.{AreSmall, with_checkpoint, with_settings}
use Rattle.replay_control.specs.Said.{change_said}
use Rattle.replay_control.proofs.ControlLemmas.{after-keeps}
use Rattle.replay_control.proofs.following.control_after.Goals as goal

pub returns-clause-control : goal.returns-clause-control
returns-clause-control c = λ custom in_profile is.
    subst IsControl (sym c.with_settings.ensures.value)
    (subst (λ said. IsControl (with_settings said c.with_checkpoint-followed.result)) (sym c.change_said.ensures)
    (subst (λ followed. IsControl (with_settings (change_said c.args.rec.now c.args.parts.now) followed)) (sym c.with_checkpoint-followed.ensures)
    (subst (λ said. IsControl (with_settings (change_said c.args.rec.now c.args.parts.now) (with_checkpoint c.start.result.0 said c.args.control.now))) (sym c.checkpoint_said.ensures)
    (after-keeps custom c.start.result.0 c.args.rec.now c.args.parts.now c.args.control.now (subst (λ said. IfSome said AreSmall) c.change_said.ensures c.with_settings.ensures.small) in_profile is))))

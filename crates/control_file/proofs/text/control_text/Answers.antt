use Rattle.std.proofs.Common.{sym}
use Rattle.control_file.proofs.LineLemmas.{control_text_of-parts}
use Rattle.control_file.proofs.ShapeLemmas.{shaped}
use Rattle.control_file.proofs.text.control_text.Goals as goal

pub push_head-requires : goal.push_head-requires
push_head-requires c = (shaped c.args.control.now c.requires.shape).state

pub push_redo_file-requires : goal.push_redo_file-requires
push_redo_file-requires c = (shaped c.args.control.now c.requires.shape).size

pub push_settings-requires : goal.push_settings-requires
push_settings-requires c = (shaped c.args.control.now c.requires.shape).level

pub returns : goal.returns
returns c =
    rw (
      c.from.ensures,
      c.in_ok-push_storage.ensures,
      c.in_ok-push_sizes.ensures,
      c.in_ok-push_settings.ensures,
      c.in_ok-push_recovery.ensures,
      c.in_ok-push_oldest.ensures,
      c.in_ok-push_checkpoint.ensures,
      c.in_ok-push_redo_file.ensures,
      c.in_ok-push_head.ensures,
      c.new-out.ensures.bytes,
    ) (sym (control_text_of-parts c.args.control.now))

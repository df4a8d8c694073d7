use Rattle.std.proofs.Common.{ap, codes, ◌∙◌}
use Rattle.control_file.specs.Writing.{control_bytes}
use Rattle.pair_maker.specs.Files.{control_of, control_with}
use Rattle.pair_maker.specs.Logs.{last_checkpoint, records_of}
use Rattle.pair_maker.specs.declared.side.Side.TheVariants.{Target}
use Rattle.pair_maker.proofs.EntryLemmas.{adds-last, adds-more, file-last}
use Rattle.pair_maker.proofs.cluster.add_target.Goals as goal

pub returns : goal.returns
returns c =
    adds-last c.args.root.now _ c.add_first_log.new.entries.items _ _ _ c.add_control.result
    (adds-more c.in_ok-add_common.ensures (c.in_ok-add_first_log.ensures (records_of Target c.args.seed c.args.blocks) c.in_ok-writer.ensures.log))
    (file-last c.args.root.now _ _ (codes "global/pg_control") c.in_ok-control.control.items (control_bytes (control_of Target c.args.seed c.args.blocks)) c.add_control.result
    (c.in_ok-control.ensures ∙ ap control_bytes (c.control_at.ensures.value ∙ ap (λ n. control_with (last_checkpoint Target n)) c.in_ok-writer.ensures.last)) c.add_control.ensures)

use Rattle.std.proofs.Common.{ap, codes, ◌∙◌}
use Rattle.control_file.specs.Writing.{control_bytes}
use Rattle.pair_maker.specs.Files.{control_of, control_with}
use Rattle.pair_maker.specs.Logs.{last_checkpoint}
use Rattle.pair_maker.specs.declared.side.Side.TheVariants.{Source}
use Rattle.pair_maker.proofs.EntryLemmas.{adds-last, file-last}
use Rattle.pair_maker.proofs.cluster.add_source.Goals as goal

pub returns : goal.returns
returns c =
    adds-last c.args.root.now _ c.add_shared.new.entries.items _ _ _ c.add_control.result c.in_ok-last.ensures.added
    (file-last c.args.root.now _ _ (codes "global/pg_control") c.in_ok-control.control.items (control_bytes (control_of Source c.args.seed c.args.blocks)) c.add_control.result
    (c.in_ok-control.ensures ∙ ap control_bytes (c.control_at.ensures.value ∙ ap (λ n. control_with (last_checkpoint Source n)) c.in_ok-last.ensures.last)) c.add_control.ensures)

use Rattle.std.proofs.Common.{[], ◌∷◌}
use Rattle.reset_plan.specs.NewSegment.{checkpoint_record}
use Rattle.pair_maker.specs.Logs.{common_checkpoint, records_of}
use Rattle.pair_maker.specs.declared.side.Side.TheVariants.{Source}
use Rattle.pair_maker.proofs.EntryLemmas.{adds-more}
use Rattle.pair_maker.proofs.cluster.add_shared.Goals as goal

pub returns-clause-added : goal.returns-clause-added
returns-clause-added c =
    adds-more c.in_ok-add_common.ensures
    (adds-more (c.in_ok-add_first_log.ensures (checkpoint_record common_checkpoint ∷ []) c.in_ok-first.ensures.log)
    (c.in_ok-add_second_log.ensures (records_of Source c.args.seed c.args.blocks) c.in_ok-writer.ensures.log))

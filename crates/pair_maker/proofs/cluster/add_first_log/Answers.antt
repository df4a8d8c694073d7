use Rattle.std.proofs.Common.{ap, [], ◌∷◌, codes}
use Rattle.cluster_tree.specs.PathValue.{kept_parts}
use Rattle.pair_maker.specs.declared.side.Side.TheVariants.{Target}
use Rattle.pair_maker.proofs.EntryLemmas.{adds-as, segment-is}
use Rattle.pair_maker.proofs.cluster.add_first_log.Goals as goal

pub returns : goal.returns
returns c = λ records is.
    adds-as c.args.root.now _ _ _ _ c.add.result (ap (λ e. record { parts = kept_parts (codes "pg_wal/000000010000000000000001"); entry = e } ∷ []) (segment-is Target records c.args.log is)) c.add.ensures

use Rattle.std.proofs.Common.{ap, [], ◌∷◌, codes}
use Rattle.cluster_tree.specs.PathValue.{kept_parts}
use Rattle.pair_maker.specs.Files.{history_bytes}
use Rattle.pair_maker.specs.declared.side.Side.TheVariants.{Source}
use Rattle.pair_maker.proofs.EntryLemmas.{adds-as, adds-last, file-as, segment-is}
use Rattle.pair_maker.proofs.cluster.add_second_log.Goals as goal

pub returns : goal.returns
returns c = λ records is.
    adds-last c.args.root.now _ c.add_file.new.entries.items _ _ _ c.add.result
    (file-as c.args.root.now _ _ (codes "pg_wal/00000002.history") c.in_ok-history.history.items history_bytes c.in_ok-history.ensures c.in_ok-add_file.ensures)
    (adds-as c.args.root.now _ _ _ _ c.add.result (ap (λ e. record { parts = kept_parts (codes "pg_wal/000000020000000000000001"); entry = e } ∷ []) (segment-is Source records c.args.log is)) c.add.ensures)

use Rattle.pair_maker.proofs.EntryLemmas.{adds-last, adds-more, adds-own}
use Rattle.pair_maker.proofs.cluster.add_folders.Goals as goal

pub returns : goal.returns
returns c =
    adds-last c.args.root.now _ c.add_folder-3.new.entries.items _ _ _ c.add_folder-4.result
    (adds-more (adds-more (adds-more (adds-own c.args.root.now c.in_ok-own.own _ _ _ c.in_ok-own.ensures c.in_ok-add_at.ensures) c.in_ok-add_folder.ensures) c.in_ok-add_folder-2.ensures) c.in_ok-add_folder-3.ensures)
    c.add_folder-4.ensures

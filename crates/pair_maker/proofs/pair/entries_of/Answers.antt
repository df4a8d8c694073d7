use Rattle.pair_maker.proofs.EntryLemmas.{pair-added}
use Rattle.pair_maker.proofs.pair.entries_of.Goals as goal

pub returns : goal.returns
returns c =
    pair-added c.args.root.now c.args.pair.now.target c.args.pair.now.source c.args.pair.now.copy c.args.seed c.args.blocks c.new-entries.result.items c.add_target.new.entries.items c.add_source.new.entries.items c.add_copy.new.entries.items
    c.requires.target c.requires.source c.requires.copy c.new-entries.ensures.items c.in_ok-add_target.ensures c.in_ok-add_source.ensures c.in_ok-add_copy.ensures

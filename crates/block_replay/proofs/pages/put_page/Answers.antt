use Rattle.file_edits.proofs.OwnLemmas.{own-wider}
use Rattle.file_effects.proofs.OwnLemmas.{relation-replayed}
use Rattle.storage_replay.specs.Sparing.{piece_of}
use Rattle.std.proofs.Common.{◌%◌, rules}
use Rattle.file_effects.proofs.SparingLemmas.{whole-end}
use Rattle.block_replay.proofs.SparingLemmas.{write-away}
use Rattle.block_replay.proofs.pages.put_page.Goals as goal

pub returns-in_err-write_block-clause-own : goal.returns-in_err-write_block-clause-own
returns-in_err-write_block-clause-own g c told = own-wider g.F.Tree.calls _ _ _ _ (relation-replayed c.args.at.now.root c.args.name.rel) (c.write_block.ensures.own told)

pub returns-clause-own : goal.returns-clause-own
returns-clause-own g c told = own-wider g.F.Tree.calls _ _ _ _ (relation-replayed c.args.at.now.root c.args.name.rel) (c.write_block.ensures.own told)

pub returns-in_err-write_block-clause-spares : goal.returns-in_err-write_block-clause-spares
returns-in_err-write_block-clause-spares g c told name is free = c.write_block.ensures.spares told (piece_of c.args.at.now.root c.args.at.now.per_file name) (whole-end (name.block % c.args.at.now.per_file)) (write-away c.args.at.now.root c.args.at.now.per_file c.args.name name c.requires.fit.some (record { database = search rules; relation = search rules }) (search rules) is free)

pub returns-clause-spares : goal.returns-clause-spares
returns-clause-spares g c told name is free = c.write_block.ensures.spares told (piece_of c.args.at.now.root c.args.at.now.per_file name) (whole-end (name.block % c.args.at.now.per_file)) (write-away c.args.at.now.root c.args.at.now.per_file c.args.name name c.requires.fit.some (record { database = search rules; relation = search rules }) (search rules) is free)

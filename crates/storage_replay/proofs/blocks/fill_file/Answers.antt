use Rattle.std.proofs.Common.{rules}
use Rattle.relation_files.specs.Paths.{relation_file}
use Rattle.storage_replay.specs.Blocks.{grown}
use Rattle.storage_replay.proofs.BlockLemmas.{at-file, own-at}
use Rattle.storage_replay.proofs.blocks.fill_file.Goals as goal

pub returns-clause-exact : goal.returns-clause-exact
returns-clause-exact g c told =
    at-file c.args.at.now.root c.in_ok-path.path (relation_file c.args.at.now.root c.args.rel c.args.fork c.args.file) (grown c.args.at.now.per_file) (g.F.Tree.contents c.args.tree.now) (g.F.Tree.contents c.grow_file.new.tree) c.grow_file.result
    c.in_ok-path.ensures.value (c.grow_file.ensures.exact told)

pub returns-clause-own : goal.returns-clause-own
returns-clause-own g c told =
    own-at g.F.Tree.calls c.args.at.now.root c.in_ok-path.path c.args.rel c.args.fork c.args.file _ _ c.in_ok-path.ensures.value (search rules) (search rules) (c.grow_file.ensures.own told)

pub returns-clause-spares : goal.returns-clause-spares
returns-clause-spares g c told piece ends = c.grow_file.ensures.spares told piece ends

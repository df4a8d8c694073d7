use Rattle.std.proofs.Common.{◌/◌, ◌%◌, rules}
use Rattle.relation_files.specs.Paths.{relation_file}
use Rattle.storage_replay.specs.Blocks.{block_laid}
use Rattle.storage_replay.proofs.BlockLemmas.{at-file, own-at}
use Rattle.file_edits.specs.Sparing.{spares}
use Rattle.cluster_tree.specs.declared.tree.ChangeCall.TheVariants as call
use Rattle.cluster_tree.specs.PathValue.{PathValue}
use Rattle.std.proofs.Common.{◌*◌, ap, ◌∙◌, length}
use Rattle.storage_replay.proofs.blocks.put_in_file.Goals as goal

pub returns-clause-exact : goal.returns-clause-exact
returns-clause-exact g c told =
    at-file c.args.at.now.root c.in_ok-path.path (relation_file c.args.at.now.root c.args.name.rel c.args.name.fork (c.args.name.block / c.args.at.now.per_file)) (block_laid (c.args.name.block % c.args.at.now.per_file) c.args.page.now)
    (g.F.Tree.contents c.args.tree.now) (g.F.Tree.contents c.put_block.new.tree) c.put_block.result
    c.in_ok-path.ensures.value (c.put_block.ensures.exact told)

pub returns-clause-own : goal.returns-clause-own
returns-clause-own g c told =
    own-at g.F.Tree.calls c.args.at.now.root c.in_ok-path.path c.args.name.rel c.args.name.fork (c.args.name.block / c.args.at.now.per_file) _ _ c.in_ok-path.ensures.value (search rules) (search rules) (c.put_block.ensures.own told)

pub returns-clause-spares : goal.returns-clause-spares
returns-clause-spares g c told piece ends is = c.put_block.ensures.spares told piece ends (ap (λ (p : PathValue). spares piece (call.Write p (c.args.name.block % c.args.at.now.per_file * 8192) (length c.args.page.now))) c.in_ok-path.ensures.value ∙ is)

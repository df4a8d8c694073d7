use Rattle.std.proofs.Common.{◌/◌, rules, ap, ◌∙◌}
use Rattle.block_refs.specs.declared.names.Fork.TheVariants.{Visibility}
use Rattle.relation_files.specs.Paths.{relation_file}
use Rattle.storage_replay.specs.MapBits.{bits_edited, map_page}
use Rattle.storage_replay.proofs.BlockLemmas.{at-file, own-at}
use Rattle.storage_replay.proofs.SparingLemmas.{fork-apart}
use Rattle.storage_replay.proofs.visibility.edit_in_file.Goals as goal

pub returns-clause-exact : goal.returns-clause-exact
returns-clause-exact g c told =
    at-file c.args.at.now.root c.in_ok-path.path (relation_file c.args.at.now.root c.args.rel Visibility (map_page c.args.block / c.args.at.now.per_file)) (bits_edited c.args.at.now.per_file c.args.block c.args.edit)
    (g.F.Tree.contents c.args.tree.now) (g.F.Tree.contents c.edit_bits.new.tree) c.edit_bits.result
    (c.in_ok-path.ensures.value ∙ ap (λ n. relation_file c.args.at.now.root c.args.rel Visibility (n / c.args.at.now.per_file)) c.map_page.ensures) (c.edit_bits.ensures.exact told)

pub returns-clause-own : goal.returns-clause-own
returns-clause-own g c told =
    own-at g.F.Tree.calls c.args.at.now.root c.in_ok-path.path c.args.rel Visibility (c.map_page.result / c.args.at.now.per_file) _ _ c.in_ok-path.ensures.value (search rules) (search rules) (c.edit_bits.ensures.own told)

pub returns-clause-spares : goal.returns-clause-spares
returns-clause-spares g c told piece apart = c.edit_bits.ensures.spares told piece (fork-apart c.args.at.now.root c.in_ok-path.path c.args.rel Visibility (c.map_page.result / c.args.at.now.per_file) piece.path (search rules) (search rules) c.in_ok-path.ensures.value apart)

use Rattle.storage_replay.proofs.EditLemmas.{whole-cut, part-cut}
use Rattle.storage_replay.proofs.SparingLemmas.{fork-keeps}
use Rattle.block_refs.specs.declared.names.Fork.TheVariants.{Visibility}
use Rattle.std.proofs.Common.{rules}
use Rattle.storage_replay.proofs.visibility.cut_map.Goals as goal

pub returns-then-fill_pages-clause-exact : goal.returns-then-fill_pages-clause-exact
returns-then-fill_pages-clause-exact g c told =
    whole-cut c.args.at.now.root c.args.at.now.per_file c.args.rel c.args.blocks (g.F.Tree.contents c.args.tree.now) c.map_page-pages.result (g.F.Tree.contents c.cut_fork.new.tree) c.cut_fork.result
    c.map_page-pages.ensures c.if-fill_pages.ensures (c.cut_fork.ensures.exact told)

pub returns-else-fill_pages-clause-exact : goal.returns-else-fill_pages-clause-exact
returns-else-fill_pages-clause-exact g c told =
    part-cut c.args.at.now.root c.args.at.now.per_file c.args.rel c.args.blocks (g.F.Tree.contents c.args.tree.now) (g.F.Tree.contents c.cut_in_page.new.tree) c.cut_in_page.result
    c.if-fill_pages.ensures (c.cut_in_page.ensures.exact told)

pub returns-then-fill_pages-clause-spares : goal.returns-then-fill_pages-clause-spares
returns-then-fill_pages-clause-spares g c told piece apart = c.cut_fork.ensures.spares told piece (fork-keeps c.args.at.now.root c.args.at.now.per_file c.args.rel Visibility _ piece (search rules) (search rules) apart)

pub returns-else-fill_pages-clause-spares : goal.returns-else-fill_pages-clause-spares
returns-else-fill_pages-clause-spares g c told piece apart = c.cut_in_page.ensures.spares told piece apart

use Rattle.cmd_pair.proofs.MakeLemmas.{pair-stands, pair-stays}
use Rattle.cmd_pair.proofs.makes.make.Goals as goal

pub returns-in-Ok-clause-made : goal.returns-in-Ok-clause-made
returns-in-Ok-clause-made g c told =
    pair-stands c.args.words.now (g.F.Tree.contents c.make_pair.new.tree) c.requires.fit c.len.ensures.proper (g.met.F.Tree.is_tree told c.make_pair.new.tree) (c.in-Ok.ensures.made told)

pub returns-in-Ok-clause-within : goal.returns-in-Ok-clause-within
returns-in-Ok-clause-within g c told =
    pair-stays c.args.words.now.root c.args.words.now.seed c.args.words.now.blocks (g.F.Tree.calls c.args.tree.now) (g.F.Tree.calls c.make_pair.new.tree) (g.F.Tree.contents c.args.tree.now) (g.F.Tree.contents c.make_pair.new.tree) _ (c.in-Ok.ensures.runs told)

pub returns-in-Err-clause-within : goal.returns-in-Err-clause-within
returns-in-Err-clause-within g c told =
    pair-stays c.args.words.now.root c.args.words.now.seed c.args.words.now.blocks (g.F.Tree.calls c.args.tree.now) (g.F.Tree.calls c.make_pair.new.tree) (g.F.Tree.contents c.args.tree.now) (g.F.Tree.contents c.make_pair.new.tree) _ (c.in-Err.ensures.runs told)

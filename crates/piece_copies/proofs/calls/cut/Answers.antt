use Rattle.cluster_tree.specs.declared.tree.ChangeCall.TheVariants as call
use Rattle.file_edits.proofs.OwnLemmas.{own-made, at-own}
use Rattle.file_edits.proofs.SparingLemmas.{spared-made}
use Rattle.file_edits.proofs.AnswerLemmas.{settled-exact}
use Rattle.piece_copies.proofs.calls.cut.Goals as goal

pub returns-clause-exact : goal.returns-clause-exact
returns-clause-exact g c told none = settled-exact _ _ _ _ _ none (c.cut-done.ensures.cut told) (c.cut-done.ensures.refused told) c.settled.ensures.ok c.settled.ensures.failed

pub returns-clause-own : goal.returns-clause-own
returns-clause-own g c told = own-made g.F.Tree.contents g.F.Tree.calls _ (call.Cut c.args.path.now c.args.size) _ _ c.cut-done.result (at-own c.args.path.now) (c.cut-done.ensures.made told)

pub returns-clause-spares : goal.returns-clause-spares
returns-clause-spares g c told piece is = spared-made g.F.Tree piece (call.Cut c.args.path.now c.args.size) _ _ c.cut-done.result is (c.cut-done.ensures.made told)

use Rattle.std.proofs.Common.{subst, rules}
use Rattle.file_edits.specs.Answers.{Does}
use Rattle.file_edits.specs.Edits.{file_cut}
use Rattle.storage_replay.proofs.BlockLemmas.{own-here}
use Rattle.file_edits.specs.Sparing.{spares}
use Rattle.cluster_tree.specs.declared.tree.ChangeCall.TheVariants as call
use Rattle.cluster_tree.specs.PathValue.{PathValue}
use Rattle.std.proofs.Common.{ap, ◌∙◌}
use Rattle.storage_replay.proofs.cutting.cut_file.Goals as goal

pub returns-clause-exact : goal.returns-clause-exact
returns-clause-exact g c told =
    subst (λ p. Does (file_cut p c.args.size (g.F.Tree.contents c.args.tree.now)) (g.F.Tree.contents c.shorten.new.tree) c.shorten.result) c.in_ok-path.ensures.value (c.shorten.ensures.exact told)

pub returns-clause-own : goal.returns-clause-own
returns-clause-own g c told =
    own-here g.F.Tree.calls c.args.at.now.root c.in_ok-path.path c.args.rel c.args.fork c.args.file _ _ c.in_ok-path.ensures.value (search rules) (search rules) (c.shorten.ensures.own told)

pub returns-clause-spares : goal.returns-clause-spares
returns-clause-spares g c told piece is = c.shorten.ensures.spares told piece (ap (λ (p : PathValue). spares piece (call.Cut p c.args.size)) c.in_ok-path.ensures.value ∙ is)

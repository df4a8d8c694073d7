use Rattle.std.proofs.Common.{Ok, ap, ◌∙◌, sym, rules}
use Rattle.std.proofs.lemmas.Result.{err_from_is_err_and}
use Rattle.file_edits.proofs.OwnLemmas.{own-read, own-on}
use Rattle.file_edits.proofs.AnswerLemmas.{handed-on}
use Rattle.file_edits.proofs.CutLemmas.{cut-refused, cut-whole, cut-longer}
use Rattle.file_edits.proofs.SparingLemmas.{spared-on, spared-read}
use Rattle.file_edits.proofs.shortening.shorten.Goals as goal

pub returns-in_err-file_size-clause-exact : goal.returns-in_err-file_size-clause-exact
returns-in_err-file_size-clause-exact g c told =
    handed-on _ _ c.from_residual.result _ (err_from_is_err_and c.from_residual.result c.from_residual.ensures.1)
    (cut-refused c.args.path.now c.args.size (g.F.Tree.contents c.args.tree.now) _ (c.in_err-file_size.ensures.exact told))

pub returns-then-there-size-clause-exact : goal.returns-then-there-size-clause-exact
returns-then-there-size-clause-exact g c told =
    cut-whole c.args.path.now c.args.size (g.F.Tree.contents c.args.tree.now) c.in_ok-file_size.field-0 (c.in_ok-file_size.ensures.exact told) (search rules)
    ∙ ap (λ x. Ok x) (sym c.file_size.ensures.frame.same)

pub returns-clause-exact : goal.returns-clause-exact
returns-clause-exact g c told =
    cut-longer c.args.path.now c.args.size (g.F.Tree.contents c.args.tree.now) (g.F.Tree.contents c.cut.new.tree) c.cut.result c.in_ok-file_size.field-0 (c.in_ok-file_size.ensures.exact told) (search rules)
    (rw c.file_size.ensures.frame.same at (c.cut.ensures.exact told))

pub returns-clause-own : goal.returns-clause-own
returns-clause-own g c told = own-on g.F.Tree.calls _ _ _ _ (own-read g.F.Tree _ _ _ c.file_size.ensures.frame) (c.cut.ensures.own told)

pub returns-clause-spares : goal.returns-clause-spares
returns-clause-spares g c told piece is = spared-on g.F.Tree piece _ _ _ (spared-read g.F.Tree piece _ _ c.file_size.ensures.frame) (c.cut.ensures.spares told piece is)

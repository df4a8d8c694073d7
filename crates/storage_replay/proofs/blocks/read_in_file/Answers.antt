use Rattle.std.proofs.Common.{sym, ◌∙◌, subst}
use Rattle.std.proofs.lemmas.Result.{err_from_is_err_and}
use Rattle.file_edits.proofs.AnswerLemmas.{Why}
use Rattle.storage_replay.proofs.ReadLemmas.{handed-read, page-refused, page-found, from-file}
use Rattle.storage_replay.proofs.blocks.read_in_file.Goals as goal

pub returns-in_err-read_page-clause-exact : goal.returns-in_err-read_page-clause-exact
returns-in_err-read_page-clause-exact g c told =
    handed-read _ _ c.from_residual-in_err-read_page.result _ (err_from_is_err_and c.from_residual-in_err-read_page.result c.from_residual-in_err-read_page.ensures.1)
    (page-refused _ _ (subst (λ m. Why m c.in_err-read_page.field-0.0) (from-file c.args.at.now.root c.in_ok-path.path c.args.at.now.per_file c.from-start.result c.args.name (g.F.Tree.contents c.args.tree.now) c.in_ok-path.ensures.value c.from-start.ensures) (c.in_err-read_page.ensures.exact told)))

pub returns-clause-exact : goal.returns-clause-exact
returns-clause-exact g c told =
    page-found _ c.read_page.new.into c.found_in.result (sym (from-file c.args.at.now.root c.in_ok-path.path c.args.at.now.per_file c.from-start.result c.args.name (g.F.Tree.contents c.args.tree.now) c.in_ok-path.ensures.value c.from-start.ensures) ∙ c.in_ok-read_page.ensures.exact told) c.found_in.ensures

use Rattle.std.proofs.Common.{inl, inr, ⊎_elim}
use Rattle.std.proofs.lemmas.Result.{err_from_is_err_and}
use Rattle.file_edits.proofs.AnswerLemmas.{handed-on}
use Rattle.file_edits.proofs.OwnLemmas.{own-read, own-on}
use Rattle.file_edits.proofs.WayLemmas.{made-refused}
use Rattle.file_edits.proofs.SparingLemmas.{spared-on, spared-read}
use Rattle.file_edits.proofs.ways.make_front.Goals as goal

pub returns-in_err-is_folder-clause-exact : goal.returns-in_err-is_folder-clause-exact
returns-in_err-is_folder-clause-exact g c told folder =
    let r = c.from_residual-in_err-is_folder in
    handed-on _ _ r.result _ (err_from_is_err_and r.result r.ensures.1)
    (⊎_elim (λ free. inl free) (λ is. inr (made-refused _ _ _ is)) (rw c.in_ok-folder.ensures at (c.in_err-is_folder.ensures.exact told)))

pub returns-clause-own : goal.returns-clause-own
returns-clause-own g c told =
    let made = rw c.in_ok-folder.ensures at (c.make_folder.ensures.own told) in
    own-on g.F.Tree.calls _ _ _ _ (own-read g.F.Tree _ _ _ c.is_folder.ensures.frame) made

pub returns-clause-spares : goal.returns-clause-spares
returns-clause-spares g c told piece = spared-on g.F.Tree piece _ _ _ (spared-read g.F.Tree piece _ _ c.is_folder.ensures.frame) (c.make_folder.ensures.spares told piece)

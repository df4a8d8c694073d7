use Rattle.std.proofs.Common.{ap, ◌∙◌, Ok}
use Rattle.cluster_tree.specs.Contents.{entry_at, is_folder, parent}
use Rattle.cluster_tree.specs.Tree.{file_of, size_of}
use Rattle.file_edits.proofs.EditLemmas.{size-there}
use Rattle.file_edits.proofs.OwnLemmas.{own-on, own-read}
use Rattle.file_edits.proofs.SparingLemmas.{spared-on, spared-read}
use Rattle.replay_restore.proofs.PageLemmas.{none_there}
use Rattle.replay_restore.proofs.pages.fill_page.Goals as goal

pub returns-in-None-clause-own : goal.returns-in-None-clause-own
returns-in-None-clause-own g c told = own-on g.F.Tree.calls _ _ _ _ (own-read g.F.Tree _ _ _ c.file_size.ensures.frame) (c.make_sized.ensures.own told)

pub returns-in-Some-clause-own : goal.returns-in-Some-clause-own
returns-in-Some-clause-own g c told = own-on g.F.Tree.calls _ _ _ _ (own-read g.F.Tree _ _ _ c.file_size.ensures.frame) (c.resize.ensures.own told)

pub returns-in-None-clause-spares : goal.returns-in-None-clause-spares
returns-in-None-clause-spares g c told piece fits folder is =
    let none = none_there c.args.path.now (entry_at (g.F.Tree.contents c.args.tree.now) c.args.path.now) (c.in_ok-file_size.ensures.exact told ∙ ap (λ o. Ok o) c.in-None.is) in
    spared-on g.F.Tree piece _ _ _ (spared-read g.F.Tree piece _ _ c.file_size.ensures.frame)
    (c.make_sized.ensures.spares told piece (ap (λ x. entry_at x c.args.path.now) c.file_size.ensures.frame.same ∙ none) (ap (λ x. is_folder (entry_at x (parent c.args.path.now))) c.file_size.ensures.frame.same ∙ folder))

pub returns-in-Some-clause-spares : goal.returns-in-Some-clause-spares
returns-in-Some-clause-spares g c told piece fits folder is =
    let sized = size-there c.args.path.now (entry_at (g.F.Tree.contents c.args.tree.now) c.args.path.now) c.in-Some.there (c.in_ok-file_size.ensures.exact told ∙ ap (λ o. Ok o) c.in-Some.is) in
    spared-on g.F.Tree piece _ _ _ (spared-read g.F.Tree piece _ _ c.file_size.ensures.frame)
    (c.resize.ensures.spares told piece (ap (λ x. size_of (file_of (entry_at x c.args.path.now))) c.file_size.ensures.frame.same ∙ sized) is)

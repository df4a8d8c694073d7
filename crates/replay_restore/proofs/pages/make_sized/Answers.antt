use Rattle.file_edits.proofs.OwnLemmas.{own-on}
use Rattle.file_edits.proofs.SparingLemmas.{padded-spares}
use Rattle.piece_copies.proofs.AnswerLemmas.{done-is}
use Rattle.replay_restore.proofs.PageLemmas.{file-unrefused, made-size, sized-new}
use Rattle.replay_restore.proofs.pages.make_sized.Goals as goal

pub returns-clause-exact : goal.returns-clause-exact
returns-clause-exact g c told none folder =
    let made = done-is _ _ (c.in_ok-make_file.ensures.exact told (file-unrefused c.args.path.now (g.F.Tree.contents c.args.tree.now) none folder)) in
    sized-new c.args.path.now (g.F.Tree.contents c.args.tree.now) (g.F.Tree.contents c.make_file.new.tree) (g.F.Tree.contents c.pad_to.new.tree) c.args.size c.pad_to.result none made
    (c.pad_to.ensures.exact told (made-size c.args.path.now (g.F.Tree.contents c.args.tree.now) (g.F.Tree.contents c.make_file.new.tree) made))

pub returns-clause-own : goal.returns-clause-own
returns-clause-own g c told = own-on g.F.Tree.calls _ _ _ _ (c.make_file.ensures.own told) (c.pad_to.ensures.own told)

pub returns-clause-spares : goal.returns-clause-spares
returns-clause-spares g c told piece none folder =
    let made = done-is _ _ (c.in_ok-make_file.ensures.exact told (file-unrefused c.args.path.now (g.F.Tree.contents c.args.tree.now) none folder)) in
    padded-spares g.F.Tree piece c.args.path.now 0 _ _ _ (c.make_file.ensures.spares told piece)
    (made-size c.args.path.now (g.F.Tree.contents c.args.tree.now) (g.F.Tree.contents c.make_file.new.tree) made) (c.pad_to.ensures.spares told piece)

pub returns-in_err-make_file-clause-spares : goal.returns-in_err-make_file-clause-spares
returns-in_err-make_file-clause-spares g c told piece none folder = c.make_file.ensures.spares told piece

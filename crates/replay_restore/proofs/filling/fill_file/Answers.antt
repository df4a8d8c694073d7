use Rattle.file_edits.proofs.OwnLemmas.{own-on}
use Rattle.piece_copies.proofs.AnswerLemmas.{done-is}
use Rattle.replay_restore.proofs.FillLemmas.{file-filled}
use Rattle.replay_restore.proofs.filling.fill_file.Goals as goal

pub returns-clause-exact : goal.returns-clause-exact
returns-clause-exact g c told bytes is long other fits folder =
    let from = c.in_ok-from.ensures.value in
    let made = done-is _ _ (c.in_ok-empty_file.ensures.exact told fits folder) in
    let copies = rw c.in_ok-from.ensures.value at (c.copy_bytes.ensures.exact told bytes) in
    file-filled (g.F.Tree.contents c.args.tree.now) (g.F.Tree.contents c.empty_file.new.tree) (g.F.Tree.contents c.copy_bytes.new.tree) _ c.args.file.0.now bytes c.copy_bytes.result is other made
    (λ from_is empty. copies from_is long other empty)

pub returns-clause-own : goal.returns-clause-own
returns-clause-own g c told = own-on g.F.Tree.calls _ _ _ _ (c.empty_file.ensures.own told) (c.copy_bytes.ensures.own told)

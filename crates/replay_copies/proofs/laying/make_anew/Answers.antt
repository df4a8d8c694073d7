use Rattle.file_edits.proofs.OwnLemmas.{own-on, own-wider}
use Rattle.replay_copies.proofs.FolderLemmas.{is-emptied, is-free}
use Rattle.replay_copies.proofs.PathLemmas.{way-to_folder}
use Rattle.replay_copies.proofs.laying.make_anew.Goals as goal

pub returns-clause-emptied : goal.returns-clause-emptied
returns-clause-emptied g c = λ told rooted.
    is-emptied c.args.root.now (g.F.Tree.contents c.args.tree.now) (g.F.Tree.contents c.remove_tree.new.tree) (g.met.F.Tree.is_tree told c.remove_tree.new.tree) rooted (rw c.in_ok-folder.ensures.value at (c.in_ok-remove_tree.ensures.exact told))
    (g.F.Tree.contents c.make_way.new.tree) c.make_way.result (rw c.in_ok-first.ensures.value at (c.make_way.ensures.exact told))

pub returns-clause-refused : goal.returns-clause-refused
returns-clause-refused g c = λ told rooted.
    is-free c.args.root.now (g.F.Tree.contents c.args.tree.now) (g.F.Tree.contents c.remove_tree.new.tree) (g.met.F.Tree.is_tree told c.remove_tree.new.tree) rooted (rw c.in_ok-folder.ensures.value at (c.in_ok-remove_tree.ensures.exact told))
    (g.F.Tree.contents c.make_way.new.tree) c.make_way.result (rw c.in_ok-first.ensures.value at (c.make_way.ensures.exact told))

pub returns-clause-own : goal.returns-clause-own
returns-clause-own g c told =
    own-on g.F.Tree.calls _ _ _ _ (rw c.in_ok-folder.ensures.value at (c.remove_tree.ensures.own told))
    (own-wider g.F.Tree.calls _ _ _ _ (way-to_folder c.args.root.now 0) (rw c.in_ok-first.ensures.value at (c.make_way.ensures.own told)))

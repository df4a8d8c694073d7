use Rattle.std.proofs.Common.{◌≡◌, false, rules}
use Rattle.file_edits.proofs.OwnLemmas.{own-wider}
use Rattle.replay_restore.specs.Listing.{has_file}
use Rattle.replay_restore.proofs.AnswerLemmas.{err-of, ok-of}
use Rattle.replay_restore.proofs.FreeLemmas.{file-freed, file-free, file-goes, file-kept}
use Rattle.replay_restore.proofs.freeing.free_file.Goals as goal

pub returns-then-has_file-clause-done : goal.returns-then-has_file-clause-done
returns-then-has_file-clause-done g c told file some = file-kept c.args.listed.now c.args.path.now (g.F.Tree.contents c.args.tree.now) (g.met.F.Tree.is_tree told c.args.tree.now) some file (search rules)

pub returns-else-has_file-clause-done : goal.returns-else-has_file-clause-done
returns-else-has_file-clause-done g c told file some =
    ok-of _ _ c.remove_file.result _ (c.remove_file.ensures.exact told) (λ removed. file-freed c.args.listed.now c.args.path.now (g.F.Tree.contents c.args.tree.now) (g.F.Tree.contents c.remove_file.new.tree) (g.met.F.Tree.is_tree told c.args.tree.now) some file removed)

pub returns-else-has_file-clause-refused : goal.returns-else-has_file-clause-refused
returns-else-has_file-clause-refused g c told file =
    err-of _ _ c.remove_file.result _ (c.remove_file.ensures.exact told) (λ e why. file-free (g.F.Tree.contents c.args.tree.now) c.args.path.now e file why)

pub returns-else-has_file-clause-own : goal.returns-else-has_file-clause-own
returns-else-has_file-clause-own g c told file =
    let has : has_file c.args.listed.now c.args.path.now ≡ false = search rules in
    own-wider g.F.Tree.calls _ _ _ _ (λ q is. file-goes c.args.listed.now c.args.path.now (g.F.Tree.contents c.args.tree.now) q file has is) (c.remove_file.ensures.own told)

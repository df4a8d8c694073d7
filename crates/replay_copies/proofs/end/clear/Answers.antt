use Rattle.std.proofs.lemmas.Result.{err_from_is_err_and}
use Rattle.cluster_tree.specs.Apart.{is_held}
use Rattle.cluster_tree.specs.Frame.{moment_of, state_of}
use Rattle.cluster_tree.proofs.RunLemmas.{course_of, run_of}
use Rattle.file_edits.specs.Own.{Same}
use Rattle.file_edits.proofs.LawLemmas.{own-elsewhere}
use Rattle.stored_replay.specs.Shadows.{shadow_folder}
use Rattle.replay_copies.specs.Ended.{Clears}
use Rattle.replay_copies.proofs.BeginLemmas.{handed}
use Rattle.replay_copies.proofs.FillLemmas.{SameOutside}
use Rattle.replay_copies.proofs.EndLemmas.{all-cleared, end-allowed, folder-broken}
use Rattle.replay_copies.proofs.CallLemmas.{copies-lay, lays-on, mark-lays}
use Rattle.replay_copies.proofs.end.clear.Goals as goal

pub returns-in_err-remove_tree-clause-clears : goal.returns-in_err-remove_tree-clause-clears
returns-in_err-remove_tree-clause-clears g c = λ told file.
    let a = moment_of g.F.Tree c.args.tree.now in
    let b = moment_of g.F.Tree c.remove_tree.new.tree in
    let goes = rw c.requires.folder at (c.remove_tree.ensures.own told _ Same) in
    let outside : SameOutside c.args.root.now (g.F.Tree.contents c.args.tree.now) (g.F.Tree.contents c.remove_tree.new.tree) = λ q off. own-elsewhere (is_held (shadow_folder c.args.root.now)) (state_of g.F.Tree c.args.tree.now) (state_of g.F.Tree c.remove_tree.new.tree) q (run_of g.F.Tree _ _ c.remove_tree.ensures.frame) goes off in
    handed (Clears c.args.root.now a b) c.from_residual.result _ (err_from_is_err_and c.from_residual.result c.from_residual.ensures.1)
    (folder-broken c.args.root.now a file b (course_of g.F.Tree _ _ c.remove_tree.ensures.frame) goes outside _ (rw c.requires.folder at (c.in_err-remove_tree.ensures.exact told)))

pub returns-clause-clears : goal.returns-clause-clears
returns-clause-clears g c = λ told file.
    let a = moment_of g.F.Tree c.args.tree.now in
    let b = moment_of g.F.Tree c.remove_tree.new.tree in
    let course = course_of g.F.Tree _ _ c.remove_tree.ensures.frame in
    let goes = rw c.requires.folder at (c.remove_tree.ensures.own told _ Same) in
    let outside : SameOutside c.args.root.now (g.F.Tree.contents c.args.tree.now) (g.F.Tree.contents c.remove_tree.new.tree) = λ q off. own-elsewhere (is_held (shadow_folder c.args.root.now)) (state_of g.F.Tree c.args.tree.now) (state_of g.F.Tree c.remove_tree.new.tree) q (run_of g.F.Tree _ _ c.remove_tree.ensures.frame) goes off in
    let none = end-allowed c.args.root.now a file b course goes outside in
    all-cleared c.args.root.now a file b course goes outside (g.met.F.Tree.is_tree told c.remove_tree.new.tree) (rw c.requires.folder at (c.in_ok-remove_tree.ensures.exact told)) (moment_of g.F.Tree c.finish_mark.new.tree) c.finish_mark.result
    (course_of g.F.Tree _ _ c.finish_mark.ensures.frame) ((rw c.requires.mark at (c.finish_mark.ensures.any_moment told)) none) ((rw c.requires.mark at (c.finish_mark.ensures.synced told)) none) ((rw c.requires.mark at (c.finish_mark.ensures.free told)) none)
    ((rw c.requires.mark at (c.finish_mark.ensures.elsewhere told)) none)

pub returns-in_err-remove_tree-clause-calls : goal.returns-in_err-remove_tree-clause-calls
returns-in_err-remove_tree-clause-calls g c = λ told file. copies-lay c.args.root.now _ _ (rw c.requires.folder at (c.remove_tree.ensures.own told _ Same))

pub returns-clause-calls : goal.returns-clause-calls
returns-clause-calls g c = λ told file.
    let a = moment_of g.F.Tree c.args.tree.now in
    let b = moment_of g.F.Tree c.remove_tree.new.tree in
    let course = course_of g.F.Tree _ _ c.remove_tree.ensures.frame in
    let goes = rw c.requires.folder at (c.remove_tree.ensures.own told _ Same) in
    let outside : SameOutside c.args.root.now (g.F.Tree.contents c.args.tree.now) (g.F.Tree.contents c.remove_tree.new.tree) = λ q off. own-elsewhere (is_held (shadow_folder c.args.root.now)) (state_of g.F.Tree c.args.tree.now) (state_of g.F.Tree c.remove_tree.new.tree) q (run_of g.F.Tree _ _ c.remove_tree.ensures.frame) goes off in
    let none = end-allowed c.args.root.now a file b course goes outside in
    lays-on c.args.root.now _ _ _ (copies-lay c.args.root.now _ _ goes) (mark-lays c.args.root.now _ _ ((rw c.requires.mark at (c.finish_mark.ensures.calls told)) none))

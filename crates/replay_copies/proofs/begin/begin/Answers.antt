use Rattle.std.proofs.lemmas.Result.{err_from_is_err_and}
use Rattle.cluster_tree.specs.Frame.{moment_of}
use Rattle.cluster_tree.proofs.RunLemmas.{course_of}
use Rattle.replay_copies.specs.Copying.{Begins}
use Rattle.replay_copies.proofs.BeginLemmas.{all-begun, handed, head-allowed, head-broken}
use Rattle.replay_copies.proofs.CallLemmas.{lays-on, mark-lays}
use Rattle.replay_copies.proofs.begin.begin.Goals as goal

pub returns-in_err-begin_mark-clause-begins : goal.returns-in_err-begin_mark-clause-begins
returns-in_err-begin_mark-clause-begins g c = λ told ready.
    let a = moment_of g.F.Tree c.args.tree.now in
    let none = head-allowed c.args.root.now c.args.listed.now a ready in
    handed (Begins c.args.root.now c.args.listed.now a (moment_of g.F.Tree c.begin_mark.new.tree)) c.from_residual.result _ (err_from_is_err_and c.from_residual.result c.from_residual.ensures.1)
    (head-broken c.args.root.now c.args.listed.now a ready (moment_of g.F.Tree c.begin_mark.new.tree) ((rw c.requires.mark at (c.in_err-begin_mark.ensures.any_moment told)) none) _ ((rw c.requires.mark at (c.in_err-begin_mark.ensures.free told)) none)
    ((rw c.requires.mark at (c.in_err-begin_mark.ensures.elsewhere told)) none))

pub returns-clause-begins : goal.returns-clause-begins
returns-clause-begins g c = λ told ready.
    let a = moment_of g.F.Tree c.args.tree.now in
    let none = head-allowed c.args.root.now c.args.listed.now a ready in
    all-begun c.args.root.now c.args.listed.now a ready (moment_of g.F.Tree c.begin_mark.new.tree) ((rw c.requires.mark at (c.in_ok-begin_mark.ensures.any_moment told)) none) (moment_of g.F.Tree c.fill.new.tree) c.fill.result
    (course_of g.F.Tree _ _ c.begin_mark.ensures.frame) (course_of g.F.Tree _ _ c.fill.ensures.frame)
    (c.fill.ensures.fills told (g.F.Tree.contents c.args.tree.now) ready ((rw c.requires.mark at (c.in_ok-begin_mark.ensures.synced told)) none))

pub returns-in_err-begin_mark-clause-calls : goal.returns-in_err-begin_mark-clause-calls
returns-in_err-begin_mark-clause-calls g c = λ told ready.
    let none = head-allowed c.args.root.now c.args.listed.now (moment_of g.F.Tree c.args.tree.now) ready in
    mark-lays c.args.root.now _ _ ((rw c.requires.mark at (c.begin_mark.ensures.calls told)) none)

pub returns-clause-calls : goal.returns-clause-calls
returns-clause-calls g c = λ told ready.
    let none = head-allowed c.args.root.now c.args.listed.now (moment_of g.F.Tree c.args.tree.now) ready in
    lays-on c.args.root.now _ _ _ (mark-lays c.args.root.now _ _ ((rw c.requires.mark at (c.begin_mark.ensures.calls told)) none))
    (c.fill.ensures.calls told (g.F.Tree.contents c.args.tree.now) ready ((rw c.requires.mark at (c.in_ok-begin_mark.ensures.synced told)) none))

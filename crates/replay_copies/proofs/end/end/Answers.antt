use Rattle.std.proofs.lemmas.Result.{err_from_is_err_and}
use Rattle.cluster_tree.specs.Frame.{moment_of}
use Rattle.cluster_tree.proofs.RunLemmas.{course_of}
use Rattle.replay_copies.specs.Ended.{Ends}
use Rattle.replay_copies.proofs.BeginLemmas.{handed}
use Rattle.replay_copies.proofs.EndLemmas.{all-ended, ended-file, gate-end_allowed, gate-end_broken}
use Rattle.replay_copies.proofs.CallLemmas.{lays-on, mark-lays}
use Rattle.replay_copies.proofs.end.end.Goals as goal

pub returns-in_err-open_mark-clause-ends : goal.returns-in_err-open_mark-clause-ends
returns-in_err-open_mark-clause-ends g c = λ told has.
    let a = moment_of g.F.Tree c.args.tree.now in
    let b = moment_of g.F.Tree c.open_mark.new.tree in
    let none = gate-end_allowed c.args.root.now a has in
    handed (Ends c.args.root.now a b) c.from_residual.result _ (err_from_is_err_and c.from_residual.result c.from_residual.ensures.1)
    (gate-end_broken c.args.root.now a has b ((rw c.requires.mark at (c.in_err-open_mark.ensures.any_moment told)) none) _ ((rw c.requires.mark at (c.in_err-open_mark.ensures.free told)) none) ((rw c.requires.mark at (c.in_err-open_mark.ensures.elsewhere told)) none))

pub returns-clause-ends : goal.returns-clause-ends
returns-clause-ends g c = λ told has.
    let a = moment_of g.F.Tree c.args.tree.now in
    let b = moment_of g.F.Tree c.open_mark.new.tree in
    let none = gate-end_allowed c.args.root.now a has in
    let torn = (rw c.requires.mark at (c.in_ok-open_mark.ensures.any_moment told)) none in
    let opened = (rw c.requires.mark at (c.in_ok-open_mark.ensures.synced told)) none in
    all-ended c.args.root.now a has b torn opened (moment_of g.F.Tree c.clear.new.tree) c.clear.result (course_of g.F.Tree _ _ c.open_mark.ensures.frame) (course_of g.F.Tree _ _ c.clear.ensures.frame)
    (c.clear.ensures.clears told (ended-file c.args.root.now a has b torn opened))

pub returns-in_err-open_mark-clause-calls : goal.returns-in_err-open_mark-clause-calls
returns-in_err-open_mark-clause-calls g c = λ told has.
    let none = gate-end_allowed c.args.root.now (moment_of g.F.Tree c.args.tree.now) has in
    mark-lays c.args.root.now _ _ ((rw c.requires.mark at (c.open_mark.ensures.calls told)) none)

pub returns-clause-calls : goal.returns-clause-calls
returns-clause-calls g c = λ told has.
    let a = moment_of g.F.Tree c.args.tree.now in
    let b = moment_of g.F.Tree c.open_mark.new.tree in
    let none = gate-end_allowed c.args.root.now a has in
    let torn = (rw c.requires.mark at (c.in_ok-open_mark.ensures.any_moment told)) none in
    let opened = (rw c.requires.mark at (c.in_ok-open_mark.ensures.synced told)) none in
    lays-on c.args.root.now _ _ _ (mark-lays c.args.root.now _ _ ((rw c.requires.mark at (c.open_mark.ensures.calls told)) none))
    (c.clear.ensures.calls told (ended-file c.args.root.now a has b torn opened))

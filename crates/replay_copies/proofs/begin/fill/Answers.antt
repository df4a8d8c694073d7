use Rattle.std.proofs.Common.{sym, subst}
use Rattle.std.proofs.lemmas.Result.{err_from_is_err_and}
use Rattle.cluster_tree.specs.Frame.{moment_of}
use Rattle.cluster_tree.proofs.RunLemmas.{course_of}
use Rattle.file_edits.specs.Own.{Same}
use Rattle.replay_copies.specs.Copying.{CanCopy, Fills}
use Rattle.replay_copies.proofs.BeginLemmas.{handed}
use Rattle.replay_copies.proofs.FillLemmas.{all-filled, can-copy, copies-broken, gate-allowed, text-allowed, text-broken}
use Rattle.replay_copies.proofs.CallLemmas.{copies-lay, lays-on, mark-lays}
use Rattle.replay_copies.proofs.begin.fill.Goals as goal

pub returns-in_err-lay_copies-clause-fills : goal.returns-in_err-lay_copies-clause-fills
returns-in_err-lay_copies-clause-fills g c = λ told old ready stands.
    let a = moment_of g.F.Tree c.args.tree.now in
    let b = moment_of g.F.Tree c.lay_copies.new.tree in
    let can = subst (CanCopy c.args.root.now c.args.listed.now) (sym stands.now) (can-copy c.args.root.now c.args.listed.now old ready) in
    handed (Fills c.args.root.now c.args.listed.now old a b) c.from_residual.result _ (err_from_is_err_and c.from_residual.result c.from_residual.ensures.1)
    (copies-broken c.args.root.now c.args.listed.now old ready a b stands (course_of g.F.Tree _ _ c.lay_copies.ensures.frame) (c.lay_copies.ensures.own told _ Same) _ (c.in_err-lay_copies.ensures.refused told can))

pub returns-in_err-fill_mark-clause-fills : goal.returns-in_err-fill_mark-clause-fills
returns-in_err-fill_mark-clause-fills g c = λ told old ready stands.
    let a = moment_of g.F.Tree c.args.tree.now in
    let b = moment_of g.F.Tree c.lay_copies.new.tree in
    let d = moment_of g.F.Tree c.fill_mark.new.tree in
    let course = course_of g.F.Tree _ _ c.lay_copies.ensures.frame in
    let goes = c.lay_copies.ensures.own told _ Same in
    let none = text-allowed c.args.root.now c.args.listed.now old ready a b stands course goes in
    handed (Fills c.args.root.now c.args.listed.now old a d) c.from_residual-in_err-fill_mark.result _ (err_from_is_err_and c.from_residual-in_err-fill_mark.result c.from_residual-in_err-fill_mark.ensures.1)
    (text-broken c.args.root.now c.args.listed.now old ready a b stands course goes d (course_of g.F.Tree _ _ c.fill_mark.ensures.frame) ((rw (c.requires.mark, c.requires.text) at (c.in_err-fill_mark.ensures.any_moment told)) none) _
    ((rw (c.requires.mark, c.requires.text) at (c.in_err-fill_mark.ensures.free told)) none) ((rw (c.requires.mark, c.requires.text) at (c.in_err-fill_mark.ensures.elsewhere told)) none))

pub returns-clause-fills : goal.returns-clause-fills
returns-clause-fills g c = λ told old ready stands.
    let a = moment_of g.F.Tree c.args.tree.now in
    let b = moment_of g.F.Tree c.lay_copies.new.tree in
    let d = moment_of g.F.Tree c.fill_mark.new.tree in
    let e = moment_of g.F.Tree c.open_mark.new.tree in
    let can = subst (CanCopy c.args.root.now c.args.listed.now) (sym stands.now) (can-copy c.args.root.now c.args.listed.now old ready) in
    let course = course_of g.F.Tree _ _ c.lay_copies.ensures.frame in
    let goes = c.lay_copies.ensures.own told _ Same in
    let none = text-allowed c.args.root.now c.args.listed.now old ready a b stands course goes in
    let on = course_of g.F.Tree _ _ c.fill_mark.ensures.frame in
    let torn = (rw (c.requires.mark, c.requires.text) at (c.in_ok-fill_mark.ensures.any_moment told)) none in
    let synced = (rw (c.requires.mark, c.requires.text) at (c.in_ok-fill_mark.ensures.synced told)) none in
    let copies = c.in_ok-lay_copies.ensures.copied told can in
    let open_none = gate-allowed c.args.root.now c.args.listed.now old ready a b stands course goes d on torn synced copies in
    all-filled c.args.root.now c.args.listed.now old ready a b stands course goes d on torn synced copies e c.open_mark.result (course_of g.F.Tree _ _ c.open_mark.ensures.frame)
    ((rw c.requires.mark at (c.open_mark.ensures.any_moment told)) open_none) ((rw c.requires.mark at (c.open_mark.ensures.synced told)) open_none) ((rw c.requires.mark at (c.open_mark.ensures.free told)) open_none)
    ((rw c.requires.mark at (c.open_mark.ensures.elsewhere told)) open_none)

pub returns-in_err-lay_copies-clause-calls : goal.returns-in_err-lay_copies-clause-calls
returns-in_err-lay_copies-clause-calls g c = λ told old ready stands. copies-lay c.args.root.now _ _ (c.lay_copies.ensures.own told _ Same)

pub returns-in_err-fill_mark-clause-calls : goal.returns-in_err-fill_mark-clause-calls
returns-in_err-fill_mark-clause-calls g c = λ told old ready stands.
    let a = moment_of g.F.Tree c.args.tree.now in
    let b = moment_of g.F.Tree c.lay_copies.new.tree in
    let course = course_of g.F.Tree _ _ c.lay_copies.ensures.frame in
    let goes = c.lay_copies.ensures.own told _ Same in
    let none = text-allowed c.args.root.now c.args.listed.now old ready a b stands course goes in
    lays-on c.args.root.now _ _ _ (copies-lay c.args.root.now _ _ goes) (mark-lays c.args.root.now _ _ ((rw (c.requires.mark, c.requires.text) at (c.fill_mark.ensures.calls told)) none))

pub returns-clause-calls : goal.returns-clause-calls
returns-clause-calls g c = λ told old ready stands.
    let a = moment_of g.F.Tree c.args.tree.now in
    let b = moment_of g.F.Tree c.lay_copies.new.tree in
    let d = moment_of g.F.Tree c.fill_mark.new.tree in
    let can = subst (CanCopy c.args.root.now c.args.listed.now) (sym stands.now) (can-copy c.args.root.now c.args.listed.now old ready) in
    let course = course_of g.F.Tree _ _ c.lay_copies.ensures.frame in
    let goes = c.lay_copies.ensures.own told _ Same in
    let none = text-allowed c.args.root.now c.args.listed.now old ready a b stands course goes in
    let on = course_of g.F.Tree _ _ c.fill_mark.ensures.frame in
    let torn = (rw (c.requires.mark, c.requires.text) at (c.in_ok-fill_mark.ensures.any_moment told)) none in
    let synced = (rw (c.requires.mark, c.requires.text) at (c.in_ok-fill_mark.ensures.synced told)) none in
    let open_none = gate-allowed c.args.root.now c.args.listed.now old ready a b stands course goes d on torn synced (c.in_ok-lay_copies.ensures.copied told can) in
    lays-on c.args.root.now _ _ _
    (lays-on c.args.root.now _ _ _ (copies-lay c.args.root.now _ _ goes) (mark-lays c.args.root.now _ _ ((rw (c.requires.mark, c.requires.text) at (c.fill_mark.ensures.calls told)) none)))
    (mark-lays c.args.root.now _ _ ((rw c.requires.mark at (c.open_mark.ensures.calls told)) open_none))

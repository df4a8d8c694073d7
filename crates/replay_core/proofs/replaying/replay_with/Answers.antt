use Rattle.std.proofs.Common.{◌∙◌, ap, sym}
use Rattle.rmgr_hooks.specs.Custom.{handed_in}
use Rattle.std.proofs.lemmas.Result.{err_from_is_err_and}
use Rattle.cluster_tree.specs.Run.{state_by}
use Rattle.replay_core.specs.Replayed.{after_replay}
use Rattle.replay_core.specs.Stages.{start_in}
use Rattle.replay_core.specs.Went.{Unchanged}
use Rattle.replay_core.proofs.JoinLemmas.{after-of, done-of, refused-of, went-nowhere}
use Rattle.replay_core.proofs.StartedLemmas.{checked-by}
use Rattle.replay_core.proofs.StopLemmas.{checked-left, reads-moment, refused-left}
use Rattle.replay_core.proofs.WithinLemmas.{then_within, went-log, went-within}
use Rattle.storage_replay.specs.Sparing.{piece_of}
use Rattle.file_edits.proofs.SparingLemmas.{spared-on, spared-read}
use Rattle.replay_core.proofs.SparingLemmas.{spared-stays}
use Rattle.std.proofs.Common.{◌≡◌, Ok, subst}
use Rattle.replay_core.specs.Sparing.{LeavesUntouched}
use Rattle.replay_start.specs.Checked.{Start, start_of}
use Rattle.cluster_tree.specs.Frame.{moment_of}
use Rattle.cluster_tree.specs.Contents.{Contents}
use Rattle.cluster_tree.proofs.RunLemmas.{came_on, came_read}
use Rattle.replay_core.proofs.replaying.replay_with.Goals as goal

pub returns-in_err-checked-clause-went : goal.returns-in_err-checked-clause-went
returns-in_err-checked-clause-went g c told =
    went-nowhere c.args.root.now (state_by g.F.Tree.contents g.F.Tree.calls c.args.tree.now) (state_by g.F.Tree.contents g.F.Tree.calls c.check.new.tree) c.from_residual.result _
    (err_from_is_err_and c.from_residual.result c.from_residual.ensures.1).1 c.check.ensures.reads.uncalled c.check.ensures.reads.same

pub replay_checked-requires-clause-checked : goal.replay_checked-requires-clause-checked
replay_checked-requires-clause-checked g c told =
    let before = g.F.Tree.contents c.args.tree.now in
    let after = g.F.Tree.contents c.check.new.tree in
    let checked = checked-by _ before after c.args.root.now c.in_ok-checked.checked c.check.ensures.reads.same (c.in_ok-checked.ensures.exact told) (c.in_ok-checked.ensures.knows told) in
    checked

pub returns-clause-done : goal.returns-clause-done
returns-clause-done g c told =
    let before = g.F.Tree.contents c.args.tree.now in
    let after = g.F.Tree.contents c.check.new.tree in
    let checked = checked-by _ before after c.args.root.now c.in_ok-checked.checked c.check.ensures.reads.same (c.in_ok-checked.ensures.exact told) (c.in_ok-checked.ensures.knows told) in
    let meant = sym (after-of _ after c.args.root.now (start_in c.in_ok-checked.checked after) checked.start) ∙ ap (λ x. after_replay (handed_in g.M.Manager c.args.custom) x c.args.root.now) c.check.ensures.reads.same in
    done-of (after_replay (handed_in g.M.Manager c.args.custom) before c.args.root.now) _ (g.F.Tree.contents c.replay_checked.new.tree) c.replay_checked.result meant (c.replay_checked.ensures.exact told)

pub returns-clause-refused : goal.returns-clause-refused
returns-clause-refused g c told =
    let before = g.F.Tree.contents c.args.tree.now in
    let after = g.F.Tree.contents c.check.new.tree in
    let checked = checked-by _ before after c.args.root.now c.in_ok-checked.checked c.check.ensures.reads.same (c.in_ok-checked.ensures.exact told) (c.in_ok-checked.ensures.knows told) in
    let meant = sym (after-of _ after c.args.root.now (start_in c.in_ok-checked.checked after) checked.start) ∙ ap (λ x. after_replay (handed_in g.M.Manager c.args.custom) x c.args.root.now) c.check.ensures.reads.same in
    refused-of (after_replay (handed_in g.M.Manager c.args.custom) before c.args.root.now) _ (g.F.Tree.contents c.replay_checked.new.tree) c.replay_checked.result meant (c.replay_checked.ensures.exact told)

pub returns-in_err-checked-clause-within : goal.returns-in_err-checked-clause-within
returns-in_err-checked-clause-within g c told =
    went-within c.args.root.now (state_by g.F.Tree.contents g.F.Tree.calls c.args.tree.now) (state_by g.F.Tree.contents g.F.Tree.calls c.check.new.tree) _
    (Unchanged c.check.ensures.reads.uncalled c.check.ensures.reads.same)

pub returns-clause-within : goal.returns-clause-within
returns-clause-within g c told =
    let first = went-within c.args.root.now (state_by g.F.Tree.contents g.F.Tree.calls c.args.tree.now) (state_by g.F.Tree.contents g.F.Tree.calls c.check.new.tree) _
    (Unchanged c.check.ensures.reads.uncalled c.check.ensures.reads.same) in
    then_within c.args.root.now (state_by g.F.Tree.contents g.F.Tree.calls c.args.tree.now) (state_by g.F.Tree.contents g.F.Tree.calls c.check.new.tree) (state_by g.F.Tree.contents g.F.Tree.calls c.replay_checked.new.tree)
    first (went-within c.args.root.now _ _ _ (c.replay_checked.ensures.went told))

pub returns-in_err-checked-clause-log : goal.returns-in_err-checked-clause-log
returns-in_err-checked-clause-log g c told =
    went-log c.args.root.now (state_by g.F.Tree.contents g.F.Tree.calls c.args.tree.now) (state_by g.F.Tree.contents g.F.Tree.calls c.check.new.tree) _
    (Unchanged c.check.ensures.reads.uncalled c.check.ensures.reads.same)

pub returns-clause-log : goal.returns-clause-log
returns-clause-log g c told path holds =
    let old = state_by g.F.Tree.contents g.F.Tree.calls c.args.tree.now in
    let mid = state_by g.F.Tree.contents g.F.Tree.calls c.check.new.tree in
    let new = state_by g.F.Tree.contents g.F.Tree.calls c.replay_checked.new.tree in
    went-log c.args.root.now mid new _ (c.replay_checked.ensures.went told) path holds
    ∙ went-log c.args.root.now old mid _ (Unchanged c.check.ensures.reads.uncalled c.check.ensures.reads.same) path holds

pub returns-in_err-checked-clause-checked : goal.returns-in_err-checked-clause-checked
returns-in_err-checked-clause-checked g c told e is = reads-moment g.F.Tree c.args.tree.now c.check.new.tree c.check.ensures.reads

pub returns-in_err-checked-clause-stops : goal.returns-in_err-checked-clause-stops
returns-in_err-checked-clause-stops g c told = refused-left g.F.Tree c.args.root.now (after_replay (handed_in g.M.Manager c.args.custom) (g.F.Tree.contents c.args.tree.now) c.args.root.now) c.args.tree.now c.check.new.tree c.check.ensures.reads

pub returns-clause-stops : goal.returns-clause-stops
returns-clause-stops g c told =
    let before = g.F.Tree.contents c.args.tree.now in
    let after = g.F.Tree.contents c.check.new.tree in
    let checked = checked-by _ before after c.args.root.now c.in_ok-checked.checked c.check.ensures.reads.same (c.in_ok-checked.ensures.exact told) (c.in_ok-checked.ensures.knows told) in
    let meant = sym (after-of _ after c.args.root.now (start_in c.in_ok-checked.checked after) checked.start) ∙ ap (λ x. after_replay (handed_in g.M.Manager c.args.custom) x c.args.root.now) c.check.ensures.reads.same in
    checked-left g.F.Tree c.args.root.now (after_replay (handed_in g.M.Manager c.args.custom) before c.args.root.now) _ c.args.tree.now c.check.new.tree c.replay_checked.new.tree c.check.ensures.reads meant (c.replay_checked.ensures.stops told)

pub returns-in_err-checked-clause-spares : goal.returns-in_err-checked-clause-spares
returns-in_err-checked-clause-spares g c told s start name page is free stands =
    spared-stays g.F.Tree c.args.root.now s.control.relseg name page c.args.tree.now c.check.new.tree (came_read g.F.Tree c.args.tree.now c.check.new.tree c.check.ensures.reads) (spared-read g.F.Tree (piece_of c.args.root.now s.control.relseg name) _ _ c.check.ensures.reads) stands

pub returns-clause-spares : goal.returns-clause-spares
returns-clause-spares g c told s start =
    let before = g.F.Tree.contents c.args.tree.now in
    let after = g.F.Tree.contents c.check.new.tree in
    let root = c.args.root.now in
    let custom = handed_in g.M.Manager c.args.custom in
    let checked = checked-by _ before after root c.in_ok-checked.checked c.check.ensures.reads.same (c.in_ok-checked.ensures.exact told) (c.in_ok-checked.ensures.knows told) in
    let own = start_in c.in_ok-checked.checked after in
    let both : Ok own ≡ Ok s = sym checked.start ∙ ap (λ (x : Contents). start_of custom x root) c.check.ensures.reads.same ∙ start in
    let same : own ≡ s = cc both in
    subst (λ (x : Start). LeavesUntouched custom root x (moment_of g.F.Tree c.args.tree.now) (moment_of g.F.Tree c.replay_checked.new.tree)) same
    (λ name page is free stands.
    spared-stays g.F.Tree root own.control.relseg name page c.args.tree.now c.replay_checked.new.tree
    (came_on g.F.Tree _ _ _ (came_read g.F.Tree _ _ c.check.ensures.reads) c.replay_checked.ensures.frame)
    (spared-on g.F.Tree (piece_of root own.control.relseg name) _ _ _ (spared-read g.F.Tree (piece_of root own.control.relseg name) _ _ c.check.ensures.reads) (c.replay_checked.ensures.spares told name is free)) stands)

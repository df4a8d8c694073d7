use Rattle.std.proofs.Common.{◌∷◌, [], refl}
use Rattle.cluster_tree.specs.PathValue.{below}
use Rattle.file_edits.proofs.ClearLemmas.{held-own}
use Rattle.file_edits.proofs.OwnLemmas.{own-wider}
use Rattle.replay_restore.proofs.AnswerLemmas.{err-wider, ok-wider}
use Rattle.replay_restore.proofs.AreaLemmas.{area-goes, area-refused}
use Rattle.replay_restore.proofs.ClosedLemmas.{closed-folders}
use Rattle.replay_restore.proofs.FreeLemmas.{came-elsewhere}
use Rattle.replay_restore.proofs.InsideLemmas.{freeing-on, goes-off}
use Rattle.replay_restore.proofs.restoring.free_area.Goals as goal

pub returns-clause-done : goal.returns-clause-done
returns-clause-done g c told closed done first other freeing =
    let now = g.F.Tree.contents c.args.tree.now in
    let folders = closed-folders c.args.root.now c.args.listed.now c.args.name.now closed in
    ok-wider c.free_entry.result _ _
    (freeing-on c.args.listed.now c.args.root.now (c.args.name.now ∷ done) done c.args.name.now first now (g.F.Tree.contents c.free_entry.new.tree) freeing refl other
    (λ q away. came-elsewhere g.F.Tree _ _ _ q c.free_entry.ensures.frame (c.free_entry.ensures.own told folders) (goes-off c.args.listed.now now (below c.args.root.now (c.args.name.now ∷ [])) q away)))
    (c.free_entry.ensures.done told folders)

pub returns-clause-refused : goal.returns-clause-refused
returns-clause-refused g c told closed named done first other freeing =
    err-wider c.free_entry.result _ _
    (λ e. area-refused c.args.listed.now c.args.root.now c.args.name.now done first (g.F.Tree.contents c.args.tree.now) e c.requires.room named other freeing (held-own (below c.args.root.now (c.args.name.now ∷ []))))
    (c.free_entry.ensures.refused told (closed-folders c.args.root.now c.args.listed.now c.args.name.now closed))

pub returns-clause-own : goal.returns-clause-own
returns-clause-own g c told closed named done first other freeing =
    own-wider g.F.Tree.calls _ _ _ _ (λ q. area-goes c.args.listed.now c.args.root.now c.args.name.now done first (g.F.Tree.contents c.args.tree.now) q named other freeing)
    (c.free_entry.ensures.own told (closed-folders c.args.root.now c.args.listed.now c.args.name.now closed))

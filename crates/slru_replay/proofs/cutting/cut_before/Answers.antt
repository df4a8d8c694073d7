use Rattle.std.proofs.Common.{◌≤◌, length, sym, inl, inr, ⊎_elim, subst}
use Rattle.std.proofs.lemmas.Result.{err_from_is_err_and}
use Rattle.cluster_tree.specs.PathValue.{PathValue}
use Rattle.file_edits.specs.Answers.{Does}
use Rattle.file_edits.proofs.OwnLemmas.{own-read, own-on, own-wider}
use Rattle.slru_replay.specs.Area.{is_of_area}
use Rattle.slru_replay.proofs.NameLemmas.{folder-room}
use Rattle.slru_replay.proofs.AreaLemmas.{area-in}
use Rattle.slru_replay.proofs.CutLemmas.{area-refused, area-listed}
use Rattle.slru_replay.proofs.cutting.cut_before.Goals as goal

pub cut_files-requires-clause-room : goal.cut_files-requires-clause-room
cut_files-requires-clause-room g c =
    subst (λ (f : PathValue). length f.parts ≤ 63) (sym c.in_ok-folder.ensures.value) (folder-room c.args.root.now c.args.area c.requires.room)

pub returns-in_err-names-clause-exact : goal.returns-in_err-names-clause-exact
returns-in_err-names-clause-exact g c told =
    let p = err_from_is_err_and c.from_residual-in_err-names.result c.from_residual-in_err-names.ensures.1 in
    let why = rw c.in_ok-folder.ensures.value at (c.in_err-names.ensures.exact told) in
    rw (p.1, p.2) (⊎_elim (λ free. inl free) (λ is. inr (area-refused c.args.root.now c.args.area c.args.first c.args.last (g.F.Tree.contents c.args.tree.now) _ is)) why)

pub returns-clause-exact : goal.returns-clause-exact
returns-clause-exact g c told =
    let listed = area-listed c.args.root.now c.args.area c.args.first c.args.last (g.F.Tree.contents c.args.tree.now) c.in_ok-names.names (rw c.in_ok-folder.ensures.value at (c.in_ok-names.ensures.exact told)) in
    let done = rw (c.in_ok-folder.ensures.value, c.names_of.ensures.frame.same) at (c.cut_files.ensures.exact told) in
    subst (λ m. Does m (g.F.Tree.contents c.cut_files.new.tree) c.cut_files.result) (sym listed) done

pub returns-clause-own : goal.returns-clause-own
returns-clause-own g c told =
    let went = rw c.in_ok-folder.ensures.value at (c.cut_files.ensures.own told) in
    own-on g.F.Tree.calls _ _ _ _ (own-read g.F.Tree _ _ _ c.names_of.ensures.frame)
    (own-wider g.F.Tree.calls _ (is_of_area c.args.root.now c.args.area) _ _ (area-in c.args.root.now c.args.area) went)

use Rattle.std.proofs.Common.{inl}
use Rattle.std.proofs.lemmas.Result.{err_from_is_err_and}
use Rattle.file_edits.proofs.AnswerLemmas.{handed-on}
use Rattle.file_edits.proofs.OwnLemmas.{own-on, own-wider}
use Rattle.piece_copies.proofs.AnswerLemmas.{why-free}
use Rattle.replay_copies.proofs.CopyLemmas.{empty-made, file-copied, file-opened}
use Rattle.replay_copies.proofs.PathLemmas.{copy-held, copy-in_folder, way-in_folder}
use Rattle.replay_copies.proofs.copying.copy_file.Goals as goal

pub ensure_file-requires-clause-held : goal.ensure_file-requires-clause-held
ensure_file-requires-clause-held g c = rw (c.in_ok-to.ensures.value, c.in_ok-folder.ensures.value) (copy-held c.args.root.now c.args.files)

pub returns-in_err-ensure_file-clause-own : goal.returns-in_err-ensure_file-clause-own
returns-in_err-ensure_file-clause-own g c told = own-wider g.F.Tree.calls _ _ _ _ (way-in_folder c.args.root.now c.args.files) (rw (c.in_ok-to.ensures.value, c.in_ok-folder.ensures.value) at (c.ensure_file.ensures.own told))

pub returns-clause-own : goal.returns-clause-own
returns-clause-own g c told = own-on g.F.Tree.calls _ _ _ _
    (own-wider g.F.Tree.calls _ _ _ _ (way-in_folder c.args.root.now c.args.files) (rw (c.in_ok-to.ensures.value, c.in_ok-folder.ensures.value) at (c.ensure_file.ensures.own told)))
    (own-wider g.F.Tree.calls _ _ _ _ (copy-in_folder c.args.root.now c.args.files) (rw c.in_ok-to.ensures.value at (c.copy_bytes.ensures.own told)))

pub returns-in_err-ensure_file-clause-exact : goal.returns-in_err-ensure_file-clause-exact
returns-in_err-ensure_file-clause-exact g c = λ told bytes opened is long.
    handed-on _ _ c.from_residual-in_err-ensure_file.result _ (err_from_is_err_and c.from_residual-in_err-ensure_file.result c.from_residual-in_err-ensure_file.ensures.1)
    (inl (why-free _ _ _ (empty-made c.args.root.now c.args.files (g.F.Tree.contents c.args.tree.now) c.ranges.files.fits opened) (rw (c.in_ok-to.ensures.value, c.in_ok-folder.ensures.value) at (c.in_err-ensure_file.ensures.exact told))))

pub returns-clause-exact : goal.returns-clause-exact
returns-clause-exact g c = λ told bytes opened is long.
    let copies = rw c.in_ok-to.ensures.value at (c.copy_bytes.ensures.exact told bytes) in
    let made = rw (c.in_ok-to.ensures.value, c.in_ok-folder.ensures.value) at (c.in_ok-ensure_file.ensures.exact told) in
    file-copied c.args.root.now c.args.files (g.F.Tree.contents c.args.tree.now) c.ranges.files.fits opened c.args.file.0.now bytes is (g.F.Tree.contents c.ensure_file.new.tree) (g.F.Tree.contents c.copy_bytes.new.tree) c.copy_bytes.result
    (file-opened c.args.root.now c.args.files (g.F.Tree.contents c.args.tree.now) c.ranges.files.fits opened (g.F.Tree.contents c.ensure_file.new.tree) made)
    (λ from_is other empty. copies from_is long other empty)

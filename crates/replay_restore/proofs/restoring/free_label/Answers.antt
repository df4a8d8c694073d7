use Rattle.std.proofs.Common.{◌≡◌, codes, false, Ok, refl, ap, sym, subst, ◌∙◌, inl, inr, ⊎_elim, true≢false, rules}
use Rattle.std.proofs.lemmas.Result.{err_from_is_err_and}
use Rattle.cluster_tree.specs.Contents.{entry_at, is_folder}
use Rattle.cluster_tree.specs.PathValue.{PathValue}
use Rattle.cluster_tree.specs.declared.file_fault.FileFault.TheVariants as fault
use Rattle.file_edits.proofs.ClearLemmas.{held-own}
use Rattle.replay_restore.specs.Freed.{IsBlocked, label_path}
use Rattle.replay_restore.specs.Listing.{has_file}
use Rattle.replay_restore.proofs.AnswerLemmas.{err-given}
use Rattle.replay_restore.proofs.AreaLemmas.{named-restored}
use Rattle.replay_restore.proofs.KindLemmas.{told-folder, told-link}
use Rattle.replay_restore.proofs.restoring.free_label.Goals as goal

pub returns-then-not-has_file-clause-done : goal.returns-then-not-has_file-clause-done
returns-then-not-has_file-clause-done g c told closed has done first other freeing =
    let off : has_file c.args.listed.now c.in_ok-path.path ≡ false = search rules in
    absurd (true≢false (sym has ∙ ap (has_file c.args.listed.now) (sym c.in_ok-path.ensures.value) ∙ off))

pub returns-then-not-has_file-clause-label : goal.returns-then-not-has_file-clause-label
returns-then-not-has_file-clause-label g c told has stands =
    let off : has_file c.args.listed.now c.in_ok-path.path ≡ false = search rules in
    absurd (true≢false (sym has ∙ ap (has_file c.args.listed.now) (sym c.in_ok-path.ensures.value) ∙ off))

pub returns-in_err-standing-clause-refused : goal.returns-in_err-standing-clause-refused
returns-in_err-standing-clause-refused g c told closed done first other freeing =
    let p = err_from_is_err_and c.from_residual-in_err-standing.result c.from_residual-in_err-standing.ensures.1 in
    let path : PathValue = label_path c.args.root.now in
    let why = rw c.in_ok-path.ensures.value at (c.in_err-standing.ensures.exact told) in
    err-given _ _ _ p
    (⊎_elim (λ free. inl free)
    (λ is. let link = told-link path (entry_at (g.F.Tree.contents c.args.tree.now) path) _ is in
    inr (inr (
      path,
      named-restored c.args.root.now (codes "backup_label") path refl (held-own path),
      subst (IsBlocked path first) (sym link.0) (held-own path, sym (freeing.left (codes "backup_label") other path (held-own path)) ∙ link.1),
    )))
    why)

pub returns-in-Folder-clause-refused : goal.returns-in-Folder-clause-refused
returns-in-Folder-clause-refused g c told closed done first other freeing =
    let path : PathValue = label_path c.args.root.now in
    let asked = rw c.in_ok-path.ensures.value at (c.in_ok-standing.ensures.exact told) in
    let stands = told-folder path (entry_at (g.F.Tree.contents c.args.tree.now) path) (asked ∙ ap (λ k. Ok k) c.in-Folder.is) in
    inr (inl (ap fault.IsFolder c.in_ok-path.ensures.value, ap is_folder (sym (freeing.left (codes "backup_label") other path (held-own path))) ∙ stands))

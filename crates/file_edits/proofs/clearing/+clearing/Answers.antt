use Rattle.std.proofs.Common.{◌≡◌, ◌<◌, ◌∷◌, [], Ok, Err, true, false, ap, sym, ◌∙◌, inl, inr, ⊎_elim, subst, arith}
use Rattle.std.proofs.lemmas.Result.{err_from_is_err_and}
use Rattle.cluster_tree.specs.Apart.{is_held}
use Rattle.cluster_tree.specs.PathValue.{PathValue, below}
use Rattle.cluster_tree.specs.PathOrder.{path_eq}
use Rattle.cluster_tree.specs.Contents.{entry_at}
use Rattle.file_edits.specs.Answers.{Does}
use Rattle.file_edits.specs.Clearing.{full_asked}
use Rattle.file_edits.proofs.ClearLemmas.{full-is, held-same, held-above, clear-unrefused, turn-end, turn-more, turn-refused, clear-done, entry-deep, entry-refused, entry-full, entry-other}
use Rattle.file_edits.proofs.OwnLemmas.{own-read, own-on, own-wider, came-on}
use Rattle.file_edits.proofs.clearing.+clearing.Goals as goal

pub clear-returns-clause-exact : goal.clear-returns-clause-exact
clear-returns-clause-exact g t c told there =
    let asked = c.in_ok-names.ensures.exact told in
    let turn = rw c.names_of.ensures.frame.same at (c.in_ok-clear_names.ensures.exact told) in
    let done = clear-done c.args.deeper c.args.folder.now c.in_ok-names.names (g.F.Tree.contents c.args.tree.now) (g.F.Tree.contents c.clear_names.new.tree) asked turn in
    let free = clear-unrefused c.args.deeper c.args.folder.now c.in_ok-names.names (g.F.Tree.contents c.args.tree.now) (g.F.Tree.contents c.clear_names.new.tree) c.requires.some there asked turn in
    subst (λ m. Does m (g.F.Tree.contents c.remove.new.tree) c.remove.result) (sym done) (c.remove.ensures.exact told free)

pub clear-returns-clause-own : goal.clear-returns-clause-own
clear-returns-clause-own g t c told =
    own-on g.F.Tree.calls _ _ _ _ (own-read g.F.Tree _ _ _ c.names_of.ensures.frame)
    (own-on g.F.Tree.calls _ _ _ _ (c.clear_names.ensures.own told)
    (own-wider g.F.Tree.calls (λ q. path_eq q c.args.folder.now) (is_held c.args.folder.now) _ _ (held-same c.args.folder.now) (c.remove.ensures.own told)))

pub clear_entry-returns-in_err-path-clause-exact : goal.clear_entry-returns-in_err-path-clause-exact
clear_entry-returns-in_err-path-clause-exact g t c told =
    let p = err_from_is_err_and c.from_residual.result c.from_residual.ensures.1 in
    rw (p.1, p.2) (⊎_elim (λ out. inl (inr (inr (inl out))))
    (λ deep. inr (entry-deep c.args.deeper c.args.folder.now c.args.name.now (g.F.Tree.contents c.args.tree.now) (omega (arith, deep.0)) ∙ ap (λ x. Err x) (sym deep.1)))
    c.in_err-path.ensures.refused)

pub clear_entry-returns-in_err-is_full-clause-exact : goal.clear_entry-returns-in_err-is_full-clause-exact
clear_entry-returns-in_err-is_full-clause-exact g t c told =
    let p = err_from_is_err_and c.from_residual-in_err-is_full.result c.from_residual-in_err-is_full.ensures.1 in
    let some : 0 < c.args.deeper = omega (arith, c.in_ok-path.ensures.room) in
    let why = rw c.in_ok-path.ensures.value at (c.in_err-is_full.ensures.exact told) in
    rw (p.1, p.2) (⊎_elim (λ free. inl free) (λ is. inr (entry-refused c.args.deeper c.args.folder.now c.args.name.now (g.F.Tree.contents c.args.tree.now) _ some is)) why)

pub clear_entry-returns-then-branch-clause-exact : goal.clear_entry-returns-then-branch-clause-exact
clear_entry-returns-then-branch-clause-exact g t c told =
    let path : PathValue = below c.args.folder.now (c.args.name.now ∷ []) in
    let some : 0 < c.args.deeper = omega (arith, c.in_ok-path.ensures.room) in
    let full : full_asked path (entry_at (g.F.Tree.contents c.args.tree.now) path) ≡ Ok true = (rw c.in_ok-path.ensures.value at (c.in_ok-is_full.ensures.exact told)) ∙ ap (λ b. Ok b) c.if-branch.true in
    let done = rw (c.in_ok-path.ensures.value, c.is_full.ensures.frame.same) at (c.clear.ensures.exact told) in
    subst (λ m. Does m (g.F.Tree.contents c.clear.new.tree) c.clear.result) (sym (entry-full c.args.deeper c.args.folder.now c.args.name.now (g.F.Tree.contents c.args.tree.now) some full)) (done (full-is path (entry_at (g.F.Tree.contents c.args.tree.now) path) full))

pub clear_entry-returns-then-branch-clause-own : goal.clear_entry-returns-then-branch-clause-own
clear_entry-returns-then-branch-clause-own g t c told =
    let went = rw c.in_ok-path.ensures.value at (c.clear.ensures.own told) in
    own-on g.F.Tree.calls _ _ _ _ (own-read g.F.Tree _ _ _ c.is_full.ensures.frame)
    (own-wider g.F.Tree.calls (is_held (below c.args.folder.now (c.args.name.now ∷ []))) (is_held c.args.folder.now) _ _ (held-above c.args.folder.now c.args.name.now) went)

pub clear_entry-returns-clause-exact : goal.clear_entry-returns-clause-exact
clear_entry-returns-clause-exact g t c told =
    let path : PathValue = below c.args.folder.now (c.args.name.now ∷ []) in
    let some : 0 < c.args.deeper = omega (arith, c.in_ok-path.ensures.room) in
    let other : full_asked path (entry_at (g.F.Tree.contents c.args.tree.now) path) ≡ Ok false = (rw c.in_ok-path.ensures.value at (c.in_ok-is_full.ensures.exact told)) ∙ ap (λ b. Ok b) c.if-branch.false in
    let done = rw (c.in_ok-path.ensures.value, c.is_full.ensures.frame.same) at (c.remove_file.ensures.exact told) in
    subst (λ m. Does m (g.F.Tree.contents c.remove_file.new.tree) c.remove_file.result) (sym (entry-other c.args.deeper c.args.folder.now c.args.name.now (g.F.Tree.contents c.args.tree.now) some other)) done

pub clear_entry-returns-clause-own : goal.clear_entry-returns-clause-own
clear_entry-returns-clause-own g t c told =
    let path : PathValue = below c.args.folder.now (c.args.name.now ∷ []) in
    let went = rw c.in_ok-path.ensures.value at (c.remove_file.ensures.own told) in
    own-on g.F.Tree.calls _ _ _ _ (own-read g.F.Tree _ _ _ c.is_full.ensures.frame)
    (own-wider g.F.Tree.calls (λ q. path_eq q path) (is_held c.args.folder.now) _ _ (λ q is. held-above c.args.folder.now c.args.name.now q (held-same path q is)) went)

pub clear_names-returns-in_err-clear_entry-clause-exact : goal.clear_names-returns-in_err-clear_entry-clause-exact
clear_names-returns-in_err-clear_entry-clause-exact g t c told =
    let p = err_from_is_err_and c.from_residual.result c.from_residual.ensures.1 in
    rw (p.1, p.2) (⊎_elim (λ free. inl free)
    (λ is. inr (sym (c.loop-at.invariant.meant told) ∙ turn-refused _ c.args.names.now c.loop-at.at _ (g.F.Tree.contents c.loop-at.tree) _ (omega arith) c.name_at.ensures is))
    (c.in_err-clear_entry.ensures.exact told))

pub clear_names-loop-at-preserved : goal.clear_names-loop-at-preserved
clear_names-loop-at-preserved g t c =
    record {
      frame = came-on g.F.Tree _ _ _ c.loop-at.invariant.frame c.clear_entry.ensures.frame;
      own = λ told. own-on g.F.Tree.calls _ _ _ _ (c.loop-at.invariant.own told) (c.clear_entry.ensures.own told);
      meant = λ told.
          sym (turn-more _ c.args.names.now c.loop-at.at _ (g.F.Tree.contents c.loop-at.tree) (g.F.Tree.contents c.clear_entry.new.tree) (omega arith) c.name_at.ensures (c.in_ok-clear_entry.ensures.exact told))
          ∙ c.loop-at.invariant.meant told;
    }

pub clear_names-returns-clause-exact : goal.clear_names-returns-clause-exact
clear_names-returns-clause-exact g t c told =
    sym (c.loop-at.invariant.meant told) ∙ turn-end _ c.args.names.now c.loop-at.at (g.F.Tree.contents c.loop-at.tree) (omega arith)

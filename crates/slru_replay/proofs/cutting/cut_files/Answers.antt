use Rattle.std.proofs.Common.{◌≡◌, List, ℕ, true, sym, ◌∙◌, inl, inr, ⊎_elim, subst, arith}
use Rattle.std.proofs.lemmas.Result.{err_from_is_err_and}
use Rattle.cluster_tree.specs.PathValue.{is_part}
use Rattle.file_edits.proofs.AnswerLemmas.{handed-on}
use Rattle.file_edits.proofs.ClearLemmas.{all-at, turn-end, turn-more, turn-refused}
use Rattle.file_edits.proofs.OwnLemmas.{own-on, came-on}
use Rattle.slru_replay.specs.Cutting.{file_cut}
use Rattle.slru_replay.proofs.cutting.cut_files.Goals as goal

pub cut_file-requires-clause-part : goal.cut_file-requires-clause-part
cut_file-requires-clause-part g c =
    subst (λ (n : List ℕ). is_part n ≡ true) (sym c.name_at-name.ensures) (all-at is_part c.args.names.now c.loop-at.at c.requires.parts (omega arith))

pub returns-in_err-cut_file-clause-exact : goal.returns-in_err-cut_file-clause-exact
returns-in_err-cut_file-clause-exact g c told =
    handed-on _ _ c.from_residual.result _ (err_from_is_err_and c.from_residual.result c.from_residual.ensures.1)
    (⊎_elim (λ free. inl free)
    (λ is. inr (sym (c.loop-at.invariant.meant told) ∙ turn-refused (file_cut c.args.area c.args.first c.args.last c.args.folder.now) c.args.names.now c.loop-at.at _ (g.F.Tree.contents c.loop-at.tree) _ (omega arith) c.name_at-name.ensures is))
    (c.in_err-cut_file.ensures.exact told))

pub loop-at-preserved : goal.loop-at-preserved
loop-at-preserved g c = record {
  frame = came-on g.F.Tree _ _ _ c.loop-at.invariant.frame c.cut_file.ensures.frame;
  own = λ told. own-on g.F.Tree.calls _ _ _ _ (c.loop-at.invariant.own told) (c.cut_file.ensures.own told);
  meant = λ told.
      sym (turn-more (file_cut c.args.area c.args.first c.args.last c.args.folder.now) c.args.names.now c.loop-at.at _ (g.F.Tree.contents c.loop-at.tree) (g.F.Tree.contents c.cut_file.new.tree) (omega arith) c.name_at-name.ensures (c.in_ok-cut_file.ensures.exact told))
      ∙ c.loop-at.invariant.meant told;
}

pub returns-clause-exact : goal.returns-clause-exact
returns-clause-exact g c told =
    sym (c.loop-at.invariant.meant told) ∙ turn-end (file_cut c.args.area c.args.first c.args.last c.args.folder.now) c.args.names.now c.loop-at.at (g.F.Tree.contents c.loop-at.tree) (omega arith)

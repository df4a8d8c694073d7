use Rattle.std.proofs.Common.{◌≡◌, List, ℕ, true, sym, ◌∙◌, inl, inr, ⊎_elim, subst, arith}
use Rattle.std.proofs.lemmas.Result.{err_from_is_err_and}
use Rattle.cluster_tree.specs.PathValue.{is_part}
use Rattle.file_edits.proofs.ClearLemmas.{all-at, turn-end, turn-more, turn-refused}
use Rattle.file_edits.proofs.OwnLemmas.{own-on, came-on}
use Rattle.storage_replay.specs.Cutting.{entry_swept}
use Rattle.file_edits.proofs.AnswerLemmas.{handed-on}
use Rattle.file_edits.proofs.SparingLemmas.{spared-on}
use Rattle.storage_replay.proofs.cutting.sweep_names.Goals as goal

pub sweep_entry-requires-clause-part : goal.sweep_entry-requires-clause-part
sweep_entry-requires-clause-part g c =
    subst (λ (n : List ℕ). is_part n ≡ true) (sym c.name_at.ensures) (all-at is_part c.args.names.now c.loop-at.at c.requires.parts (omega arith))

pub returns-in_err-sweep_entry-clause-exact : goal.returns-in_err-sweep_entry-clause-exact
returns-in_err-sweep_entry-clause-exact g c told =
    handed-on _ _ c.from_residual.result _ (err_from_is_err_and c.from_residual.result c.from_residual.ensures.1)
    (⊎_elim (λ free. inl free)
    (λ is. inr (sym (c.loop-at.invariant.meant told) ∙ turn-refused (entry_swept c.args.sweep c.args.relation c.args.folder.now) c.args.names.now c.loop-at.at _ (g.F.Tree.contents c.loop-at.tree) _ (omega arith) c.name_at.ensures is))
    (c.in_err-sweep_entry.ensures.exact told))

pub loop-at-preserved : goal.loop-at-preserved
loop-at-preserved g c = record {
  frame = came-on g.F.Tree _ _ _ c.loop-at.invariant.frame c.sweep_entry.ensures.frame;
  own = λ told. own-on g.F.Tree.calls _ _ _ _ (c.loop-at.invariant.own told) (c.sweep_entry.ensures.own told);
  spares = λ told piece away. spared-on g.F.Tree piece _ _ _ (c.loop-at.invariant.spares told piece away) (c.sweep_entry.ensures.spares told piece away);
  meant = λ told.
      sym (turn-more (entry_swept c.args.sweep c.args.relation c.args.folder.now) c.args.names.now c.loop-at.at _ (g.F.Tree.contents c.loop-at.tree) (g.F.Tree.contents c.sweep_entry.new.tree) (omega arith) c.name_at.ensures (c.in_ok-sweep_entry.ensures.exact told))
      ∙ c.loop-at.invariant.meant told;
}

pub returns-clause-exact : goal.returns-clause-exact
returns-clause-exact g c told =
    sym (c.loop-at.invariant.meant told) ∙ turn-end (entry_swept c.args.sweep c.args.relation c.args.folder.now) c.args.names.now c.loop-at.at (g.F.Tree.contents c.loop-at.tree) (omega arith)

pub returns-in_err-sweep_entry-clause-spares : goal.returns-in_err-sweep_entry-clause-spares
returns-in_err-sweep_entry-clause-spares g c told piece away = spared-on g.F.Tree piece _ _ _ (c.loop-at.invariant.spares told piece away) (c.sweep_entry.ensures.spares told piece away)

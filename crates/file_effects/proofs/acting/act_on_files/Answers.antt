use Rattle.std.proofs.lemmas.Result.{err_from_is_err_and}
use Rattle.file_edits.proofs.AnswerLemmas.{handed-on}
use Rattle.file_effects.proofs.DoneLemmas.{bits-refused, files-then}
use Rattle.std.proofs.Common.{refl}
use Rattle.storage_replay.specs.Sparing.{piece_of}
use Rattle.file_edits.proofs.SparingLemmas.{spared-on}
use Rattle.std.proofs.Common.{ap, ◌∙◌}
use Rattle.file_effects.specs.Touched.{takes_block}
use Rattle.file_effects.proofs.acting.act_on_files.Goals as goal

pub returns-in_err-clear_bits-clause-exact : goal.returns-in_err-clear_bits-clause-exact
returns-in_err-clear_bits-clause-exact g c told =
    handed-on _ _ c.from_residual.result _ (err_from_is_err_and c.from_residual.result c.from_residual.ensures.1)
    (bits-refused c.args.at.now.root c.args.at.now.per_file c.args.rec.now c.args.parts.now c.clears_in-clears.result c.clears_in-clears.ensures (g.F.Tree.contents c.args.tree.now) _ (c.in_err-clear_bits.ensures.exact told))

pub returns-clause-exact : goal.returns-clause-exact
returns-clause-exact g c told =
    files-then c.args.at.now.root c.args.at.now.per_file c.args.rec.now c.args.parts.now c.clears_in-clears.result c.clears_in-clears.ensures (g.F.Tree.contents c.args.tree.now) c.effect_in-effect.result (g.F.Tree.contents c.clear_bits.new.tree) (g.F.Tree.contents c.carry_out.new.tree) c.carry_out.result
    c.effect_in-effect.ensures (c.in_ok-clear_bits.ensures.exact told) (c.carry_out.ensures.exact told)

pub returns-in_err-clear_bits-clause-spares : goal.returns-in_err-clear_bits-clause-spares
returns-in_err-clear_bits-clause-spares g c told name is free = c.clear_bits.ensures.spares told name is refl

pub returns-clause-spares : goal.returns-clause-spares
returns-clause-spares g c told name is free = spared-on g.F.Tree (piece_of c.args.at.now.root c.args.at.now.per_file name) _ _ _ (c.clear_bits.ensures.spares told name is refl) (c.carry_out.ensures.spares told name is (ap (λ e. takes_block e name) c.effect_in-effect.ensures ∙ free))

use Rattle.std.proofs.lemmas.Result.{err_from_is_err_and}
use Rattle.file_edits.proofs.AnswerLemmas.{handed-on}
use Rattle.file_effects.specs.Done.{bits_cleared}
use Rattle.file_effects.specs.MapClears.{listed}
use Rattle.file_effects.proofs.DoneLemmas.{append-refused, append-then}
use Rattle.storage_replay.specs.Sparing.{piece_of}
use Rattle.file_edits.proofs.SparingLemmas.{spared-on}
use Rattle.file_effects.proofs.bits.clear_bits.Goals as goal

pub returns-in_err-clear_one-clause-exact : goal.returns-in_err-clear_one-clause-exact
returns-in_err-clear_one-clause-exact g c told =
    handed-on _ _ c.from_residual.result _ (err_from_is_err_and c.from_residual.result c.from_residual.ensures.1)
    (append-refused (bits_cleared c.args.at.now.root c.args.at.now.per_file) (listed c.args.clears.first) (listed c.args.clears.second) (g.F.Tree.contents c.args.tree.now) _ (c.in_err-clear_one.ensures.exact told))

pub returns-clause-exact : goal.returns-clause-exact
returns-clause-exact g c told =
    append-then (bits_cleared c.args.at.now.root c.args.at.now.per_file) (listed c.args.clears.first) (listed c.args.clears.second) (g.F.Tree.contents c.args.tree.now) (g.F.Tree.contents c.clear_one.new.tree) (g.F.Tree.contents c.clear_one-2.new.tree) c.clear_one-2.result
    (c.in_ok-clear_one.ensures.exact told) (c.clear_one-2.ensures.exact told)

pub returns-in_err-clear_one-clause-spares : goal.returns-in_err-clear_one-clause-spares
returns-in_err-clear_one-clause-spares g c told name is free = c.clear_one.ensures.spares told name is free

pub returns-clause-spares : goal.returns-clause-spares
returns-clause-spares g c told name is free = spared-on g.F.Tree (piece_of c.args.at.now.root c.args.at.now.per_file name) _ _ _ (c.clear_one.ensures.spares told name is free) (c.clear_one-2.ensures.spares told name is free)

use Rattle.std.proofs.Common.{◌+◌, ap, arith}
use Rattle.std.proofs.lemmas.Result.{err_from_is_err_and}
use Rattle.file_edits.proofs.OwnLemmas.{own-read, own-on}
use Rattle.storage_replay.specs.MapBits.{bits_edited, zeros_behind}
use Rattle.file_edits.proofs.AnswerLemmas.{handed-on}
use Rattle.file_edits.proofs.LaidLemmas.{read-refused}
use Rattle.storage_replay.proofs.EditLemmas.{bits-exact, byte-zeros}
use Rattle.file_edits.proofs.SparingLemmas.{spared-on, spared-read}
use Rattle.storage_replay.proofs.SparingLemmas.{write-apart}
use Rattle.storage_replay.proofs.visibility.edit_bits.Goals as goal

pub returns-in_err-read_or_zeros-clause-exact : goal.returns-in_err-read_or_zeros-clause-exact
returns-in_err-read_or_zeros-clause-exact g c told =
    handed-on _ _ c.from_residual.result _ (err_from_is_err_and c.from_residual.result c.from_residual.ensures.1)
    (read-refused c.args.root.now c.args.path.now (bits_edited c.args.per_file c.args.block c.args.edit) (g.F.Tree.contents c.args.tree.now) c.map_at-at.result 1 _ (c.in_err-read_or_zeros.ensures.exact told))

pub returns-clause-exact : goal.returns-clause-exact
returns-clause-exact g c told =
    bits-exact c.args.root.now c.args.path.now c.args.per_file c.args.block c.args.edit c.map_at-at.result c.new_byte.result c.read_or_zeros.new.into _ (g.F.Tree.contents c.args.tree.now) (g.F.Tree.contents c.read_or_zeros.new.tree) (g.F.Tree.contents c.lay.new.tree) c.lay.result
    c.requires.held c.requires.deeper c.map_at-at.ensures (c.in_ok-read_or_zeros.ensures.exact told) c.new_byte.ensures
    (byte-zeros 8192 (zeros_behind c.args.edit c.args.block) (c.zeros_behind-count.result + 1) c.new_byte.result (ap (λ k. k + 1) c.zeros_behind-count.ensures.value) (omega (arith, c.zeros_behind-count.ensures.within, c.zeros_behind-count.ensures.value)))
    c.read_or_zeros.ensures.frame.same (c.lay.ensures.exact told)

pub returns-clause-own : goal.returns-clause-own
returns-clause-own g c told = own-on g.F.Tree.calls _ _ _ _ (own-read g.F.Tree _ _ _ c.read_or_zeros.ensures.frame) (c.lay.ensures.own told)

pub returns-clause-spares : goal.returns-clause-spares
returns-clause-spares g c told piece apart = spared-on g.F.Tree piece _ _ _ (spared-read g.F.Tree piece _ _ c.read_or_zeros.ensures.frame) (c.lay.ensures.spares told piece (write-apart piece c.args.path.now _ _ apart))

use Rattle.std.proofs.Common.{inl, inr, ⊎_elim, arith}
use Rattle.std.proofs.lemmas.Result.{err_from_is_err_and}
use Rattle.file_edits.proofs.EditLemmas.{edited-stays}
use Rattle.storage_replay.specs.Blocks.{grown}
use Rattle.file_edits.proofs.AnswerLemmas.{handed-on}
use Rattle.storage_replay.proofs.GrowLemmas.{grown-whole, grown-laid}
use Rattle.storage_replay.proofs.SparingLemmas.{grown-spares}
use Rattle.std.proofs.Common.{refl}
use Rattle.storage_replay.proofs.blocks.grow_file.Goals as goal

pub returns-in_err-size-clause-exact : goal.returns-in_err-size-clause-exact
returns-in_err-size-clause-exact g c told =
    handed-on _ _ c.from_residual.result _ (err_from_is_err_and c.from_residual.result c.from_residual.ensures.1)
    (⊎_elim (λ free. inl free) (λ is. inr (edited-stays c.args.root.now c.args.path.now (grown c.args.blocks) (g.F.Tree.contents c.args.tree.now) _ is)) (c.in_err-size.ensures.exact told))

pub returns-then-there-wanted-clause-exact : goal.returns-then-there-wanted-clause-exact
returns-then-there-wanted-clause-exact g c told =
    grown-whole c.args.root.now c.args.path.now (g.F.Tree.contents c.args.tree.now) (g.F.Tree.contents c.ensure_file.new.tree) c.args.blocks c.in_ok-size.size (c.in_ok-size.ensures.exact told) (c.in_ok-size.ensures.size told)
    (omega (arith, c.if-there-wanted.true, c.from-wanted.ensures))

pub returns-clause-exact : goal.returns-clause-exact
returns-clause-exact g c told =
    grown-laid c.args.root.now c.args.path.now (g.F.Tree.contents c.args.tree.now) (g.F.Tree.contents c.ensure_file.new.tree) c.args.blocks c.in_ok-size.size (c.in_ok-size.ensures.exact told) (c.in_ok-size.ensures.size told)
    (g.F.Tree.contents c.lay_zeros.new.tree) c.lay_zeros.result c.from-wanted.result c.from-wanted.ensures (omega (arith, c.if-there-wanted.false)) (c.lay_zeros.ensures.exact told)

pub returns-in_err-size-clause-spares : goal.returns-in_err-size-clause-spares
returns-in_err-size-clause-spares g c told piece ends = c.ensure_file.ensures.spares told piece

pub returns-then-there-wanted-clause-spares : goal.returns-then-there-wanted-clause-spares
returns-then-there-wanted-clause-spares g c told piece ends = c.ensure_file.ensures.spares told piece

pub returns-clause-spares : goal.returns-clause-spares
returns-clause-spares g c told piece ends = grown-spares g.F.Tree piece c.args.path.now c.in_ok-size.size _ _ _ _ ends (c.ensure_file.ensures.spares told piece) (c.in_ok-size.ensures.size told) refl (c.lay_zeros.ensures.spares told piece)

use Rattle.std.proofs.Common.{◌∙◌, ap, sym, subst, take}
use Rattle.std.specs.List.{slice_get}
use Rattle.block_refs.specs.declared.block_ref.BlockRef.{BlockRef}
use Rattle.block_refs.specs.declared.placed.Placed.{Placed}
use Rattle.touched_blocks.specs.Named.{named_if_there}
use Rattle.touched_blocks.specs.Set.{Adds}
use Rattle.touched_blocks.specs.Touched.{named_by_block, named_by_references}
use Rattle.touched_blocks.proofs.SetLemmas.{adds_first, adds_next, by_place, on_err}
use Rattle.touched_blocks.proofs.touched.Touched.add_references.Goals as goal

pub returns-in_err-add_referenced-clause-first : goal.returns-in_err-add_referenced-clause-first
returns-in_err-add_referenced-clause-first c =
    let blocks = c.args.parts.now.blocks in
    on_err c.from_residual.result _ (adds_first (λ (p : Placed). named_by_block p.block.name) blocks c.loop-at.at c.args.self.now c.add_referenced.new.self
    (subst (λ s. Adds (named_by_references (take c.loop-at.at blocks)) c.args.self.now s) (sym c.in_err-add_referenced.ensures.kept) c.loop-at.invariant))

pub loop-at-preserved : goal.loop-at-preserved
loop-at-preserved c =
    let blocks = c.args.parts.now.blocks in
    adds_next (λ (p : Placed). named_by_block p.block.name) blocks c.loop-at.at c.args.self.now c.loop-at.self c.add_referenced.new.self c.loop-at.invariant
    (subst (λ names. Adds names c.loop-at.self c.add_referenced.new.self)
    (ap (λ o. named_if_there (λ (b : BlockRef). named_by_block b.name) o) c.get.ensures.value
    ∙ by_place (λ (b : BlockRef). named_by_block b.name) (λ (p : Placed). p.block) (slice_get blocks c.loop-at.at))
    c.in_ok-add_referenced.ensures.added)

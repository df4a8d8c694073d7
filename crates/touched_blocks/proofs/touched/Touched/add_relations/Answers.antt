use Rattle.std.proofs.Common.{ap, sym, subst, take}
use Rattle.std.specs.List.{flat_map}
use Rattle.touched_blocks.specs.Named.{named_if_there, whole_rel}
use Rattle.touched_blocks.specs.Set.{Adds}
use Rattle.touched_blocks.proofs.SetLemmas.{adds_first, adds_next, on_err}
use Rattle.touched_blocks.proofs.touched.Touched.add_relations.Goals as goal

pub returns-in_err-add_relation-clause-first : goal.returns-in_err-add_relation-clause-first
returns-in_err-add_relation-clause-first c =
    on_err c.from_residual.result _ (adds_first whole_rel c.args.rels.now c.loop-at.at c.args.self.now c.add_relation.new.self
    (subst (λ s. Adds (flat_map whole_rel (take c.loop-at.at c.args.rels.now)) c.args.self.now s) (sym c.in_err-add_relation.ensures.kept) c.loop-at.invariant))

pub loop-at-preserved : goal.loop-at-preserved
loop-at-preserved c =
    adds_next whole_rel c.args.rels.now c.loop-at.at c.args.self.now c.loop-at.self c.add_relation.new.self c.loop-at.invariant
    (subst (λ names. Adds names c.loop-at.self c.add_relation.new.self) (ap (λ o. named_if_there whole_rel o) c.get.ensures) c.in_ok-add_relation.ensures.added)

use Rattle.std.proofs.Common.{◌∙◌, ap, inl, inr, w64}
use Rattle.std.proofs.lemmas.Int.{to_z-of_z}
use Rattle.reset_plan.specs.Reset.{control_after}
use Rattle.reset_plan.proofs.PrepareLemmas.{known-segment, known-to, known-wal, names-same, of-names}
use Rattle.reset_plan.proofs.preparing.prepare_known.Goals as goal

pub returns-in-Err-clause-exact : goal.returns-in-Err-clause-exact
returns-in-Err-clause-exact g c told = inl (inr (inr c.in-Err.ensures.memory))

pub returns-in-Err-wal_names-clause-exact : goal.returns-in-Err-wal_names-clause-exact
returns-in-Err-wal_names-clause-exact g c told = known-wal (g.F.Tree.contents c.args.tree.now) c.args.root.now c.in-Ok.wal c.args.options.now c.args.now c.args.old.now c.in-Err-wal_names.fault c.in-Ok.ensures.is (c.in-Err-wal_names.ensures.exact told)

pub returns-in-Err-segment_of-clause-exact : goal.returns-in-Err-segment_of-clause-exact
returns-in-Err-segment_of-clause-exact g c told = known-segment (g.F.Tree.contents c.args.tree.now) c.args.root.now c.in-Ok.wal c.args.options.now c.args.now c.args.old.now c.in-Ok-wal_names.names c.in-Err-segment_of.fault c.in-Ok.ensures.is (c.in-Ok-wal_names.ensures.exact told) (c.in-Ok-wal_names.ensures.names told) c.in-Err-segment_of.ensures.exact

pub prepare_to-requires-clause-names : goal.prepare_to-requires-clause-names
prepare_to-requires-clause-names g c told = names-same (g.F.Tree.contents c.args.tree.now) (g.F.Tree.contents c.wal_names.new.tree) c.in-Ok.wal c.in-Ok-wal_names.names c.wal_names.ensures.reads.same (c.in-Ok-wal_names.ensures.names told)

pub returns-clause-exact : goal.returns-clause-exact
returns-clause-exact g c told = known-to (g.F.Tree.contents c.args.tree.now) (g.F.Tree.contents c.wal_names.new.tree) c.args.root.now c.in-Ok.wal c.args.options.now c.args.now c.args.old.now c.control_after-control.result c.in-Ok-wal_names.names c.in-Ok-segment_of.segment c.prepare_to.result c.in-Ok.ensures.is (c.in-Ok-wal_names.ensures.exact told) (c.in-Ok-wal_names.ensures.names told) c.in-Ok-segment_of.ensures.exact c.wal_names.ensures.reads.same (c.control_after-control.ensures.value ∙ ap (λ t. control_after c.args.options.now t c.in-Ok-segment_of.segment c.args.old.now) (to_z-of_z w64 c.args.now c.ranges.now)) (c.prepare_to.ensures.exact told)

pub returns-clause-form : goal.returns-clause-form
returns-clause-form g c = of-names c.args.root.now c.in-Ok.wal c.args.options.now c.args.now c.args.old.now c.control_after-control.result c.in-Ok-wal_names.names c.in-Ok-segment_of.segment c.prepare_to.result c.in-Ok.ensures.is c.in-Ok-segment_of.ensures.exact (c.control_after-control.ensures.value ∙ ap (λ t. control_after c.args.options.now t c.in-Ok-segment_of.segment c.args.old.now) (to_z-of_z w64 c.args.now c.ranges.now)) c.prepare_to.ensures.form

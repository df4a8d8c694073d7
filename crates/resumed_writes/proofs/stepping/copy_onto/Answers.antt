use Rattle.std.proofs.Common.{Err, Ok, ap, inl, inr, refl}
use Rattle.rewind_writes.specs.declared.step.Step.TheVariants.{Range}
use Rattle.resumed_writes.proofs.AgainLemmas.{found-not, found-so, look-refused, look-tried, source-broken}
use Rattle.resumed_writes.proofs.stepping.copy_onto.Goals as goal

pub returns-in-Ok-false-clause-takes : goal.returns-in-Ok-false-clause-takes
returns-in-Ok-false-clause-takes g c =
    look-refused g.F.Tree c.args.from c.args.to c.args.at c.args.size _ _ c.in-Ok-false.ensures.frame c.requires.long
    (λ told. found-not c.in-Ok-false.field-0 c.in-Ok-false.field-0-test (c.in-Ok-false.ensures.answer told))

pub returns-in-Err-clause-takes : goal.returns-in-Err-clause-takes
returns-in-Err-clause-takes g c = source-broken g.F.Tree (Range c.args.from c.args.to c.args.at c.args.size) c.args.from _ _ c.in-Err.fault _ c.at_source-in-Err.ensures c.in-Err.ensures.only c.in-Err.ensures.frame

pub returns-in-Ok-clause-takes : goal.returns-in-Ok-clause-takes
returns-in-Ok-clause-takes g c =
    look-tried g.F.Tree c.args.from c.args.to c.args.at c.args.size _ _ _ _ (Ok tt) c.in-Ok-true.ensures.frame c.in-Ok.ensures.carries
    (λ told. found-so c.in-Ok-true.field-0 c.in-Ok-true.field-0-test (c.in-Ok-true.ensures.answer told)) (inl (refl, refl))

pub returns-in-Err-copy_range-clause-takes : goal.returns-in-Err-copy_range-clause-takes
returns-in-Err-copy_range-clause-takes g c =
    look-tried g.F.Tree c.args.from c.args.to c.args.at c.args.size _ _ _ _ _ c.in-Ok-true.ensures.frame c.in-Err-copy_range.ensures.carries
    (λ told. found-so c.in-Ok-true.field-0 c.in-Ok-true.field-0-test (c.in-Ok-true.ensures.answer told)) (inr (c.in-Err-copy_range.fault, refl, ap Err c.at_source.ensures))

use Rattle.std.proofs.Common.{map, arith}
use Rattle.std.proofs.lemmas.List.{length-map}
use Rattle.plan_text.proofs.StepLemmas.{with_more, without_words}
use Rattle.plan_text.proofs.steps.step_of.Goals as goal

pub returns-in-empty : goal.returns-in-empty
returns-in-empty c =
    without_words c.args.roots.now.target.now c.args.roots.now.source.now (map (λ word. word.now) c.args.words.now) (omega (arith, length-map c.args.words.now (λ word. word.now)))

pub returns-in-len5-up : goal.returns-in-len5-up
returns-in-len5-up c =
    with_more c.args.roots.now.target.now c.args.roots.now.source.now (map (λ word. word.now) c.args.words.now) (omega (arith, length-map c.args.words.now (λ word. word.now)))

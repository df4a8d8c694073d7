use Rattle.std.proofs.Common.{List, ℕ, sym, subst, ◌∙◌}
use Rattle.std.specs.Str.Parse.{ParsesUnsigned}
use Rattle.plan_text.proofs.SumLemmas.{sum_is_text, sum_read}
use Rattle.plan_text.proofs.words.sum_in.Goals as goal

pub returns-in-Ok : goal.returns-in-Ok
returns-in-Ok c =
    c.ok.ensures.value
    ∙ sum_read c.args.word.now c.from_str_radix.result (sym c.if-not-is_sum.ensures)
    (subst (λ (text : List ℕ). ParsesUnsigned 32 16 text c.from_str_radix.result) c.in-Ok.ensures.cases.0 c.from_str_radix.ensures.value)

pub returns-in-Err : goal.returns-in-Err
returns-in-Err c = absurd (c.in-Err.ensures.cases.0 (sum_is_text c.args.word.now (sym c.if-not-is_sum.ensures)))

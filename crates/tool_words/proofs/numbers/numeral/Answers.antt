use Rattle.std.proofs.Common.{List, ℕ, sym, subst, ◌∙◌}
use Rattle.std.specs.Str.Parse.{ParsesUnsigned}
use Rattle.tool_words.proofs.NumberLemmas.{numeral-read, numeral-text}
use Rattle.tool_words.proofs.numbers.numeral.Goals as goal

pub returns-in-Ok : goal.returns-in-Ok
returns-in-Ok c =
    c.ok.ensures.value
    ∙ numeral-read c.args.radix c.args.text.now c.from_str_radix.result c.requires.upper (sym c.if-not-is_numeral.ensures)
    (subst (λ (text : List ℕ). ParsesUnsigned 32 c.args.radix text c.from_str_radix.result) c.in-Ok.ensures.cases.0 c.from_str_radix.ensures.value)

pub returns-in-Err : goal.returns-in-Err
returns-in-Err c = absurd (c.in-Err.ensures.cases.0 (numeral-text c.args.radix c.args.text.now c.requires.upper (sym c.if-not-is_numeral.ensures)))

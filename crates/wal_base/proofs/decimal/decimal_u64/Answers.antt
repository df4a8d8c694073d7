use Rattle.std.proofs.Common.{List, ℕ, sym, subst, ◌∙◌}
use Rattle.std.specs.Str.Parse.{ParsesUnsigned}
use Rattle.wal_base.proofs.DecimalLemmas.{decimal_is_text, number_parsed}
use Rattle.wal_base.proofs.decimal.decimal_u64.Goals as goal

pub returns-in-Ok : goal.returns-in-Ok
returns-in-Ok c =
    c.ok.ensures.value
    ∙ number_parsed 64 c.args.text.now c.parse.result (sym c.if-not-is_decimal.ensures)
    (subst (λ (text : List ℕ). ParsesUnsigned 64 10 text c.parse.result) c.in-Ok.ensures.cases.0 c.parse.ensures.value.0)

pub returns-in-Err : goal.returns-in-Err
returns-in-Err c = absurd (c.in-Err.ensures.cases.0 (decimal_is_text c.args.text.now (sym c.if-not-is_decimal.ensures)))

use Rattle.std.proofs.Common.{ap, sym, ◌∙◌, arith, lit<}
use Rattle.wal_base.specs.Hex.{hex_word}
use Rattle.wal_base.proofs.LsnLemmas.{no_slash, no_high, no_low, both_halves, shifted}
use Rattle.wal_base.proofs.lsn.Lsn.parse.Goals as goal

pub returns-in_err-high : goal.returns-in_err-high
returns-in_err-high c = record {
  value = c.from_residual.ensures ∙ sym (no_slash c.args.text.now (c.in_err-high.ensures.byte (lit< tt) (λ w o h. h)));
}

pub returns-in_err-high-2 : goal.returns-in_err-high-2
returns-in_err-high-2 c =
    let parts = c.in_ok-high.ensures.byte (lit< tt) (λ w o h. h) in
    let none = ap hex_word (sym (c.as_bytes.ensures.value ∙ parts.0)) ∙ sym c.in_err-high-2.ensures in
    record { value = c.from_residual-in_err-high-2.ensures ∙ sym (no_high c.args.text.now none) }

pub returns-in_err-low : goal.returns-in_err-low
returns-in_err-low c =
    let parts = c.in_ok-high.ensures.byte (lit< tt) (λ w o h. h) in
    let none = ap hex_word (sym (c.as_bytes-2.ensures.value ∙ parts.1)) ∙ sym c.in_err-low.ensures in
    record { value = c.from_residual-in_err-low.ensures ∙ sym (no_low c.args.text.now none) }

pub returns : goal.returns
returns c =
    let parts = c.in_ok-high.ensures.byte (lit< tt) (λ w o h. h) in
    let high = ap hex_word (sym (c.as_bytes.ensures.value ∙ parts.0)) ∙ sym c.in_ok-high-2.ensures in
    let low = ap hex_word (sym (c.as_bytes-2.ensures.value ∙ parts.1)) ∙ sym c.in_ok-low.ensures in
    record {
      value =
          rw (c.from.ensures, c.from-2.ensures)
          (sym (both_halves c.args.text.now c.in_ok-high-2.high c.in_ok-low.low high low ∙ shifted c.in_ok-high-2.high c.in_ok-low.low (omega arith)));
    }

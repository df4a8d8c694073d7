use Rattle.std.proofs.Common.{◌≡◌, ◌/◌, ◌%◌, ◌++◌, ap, ◌∙◌, arith, ◌<◌, ◌^◌, ℕ}
use Rattle.std.specs.Fmt.{digits_output, styled_digits_output}
use Rattle.wal_base.specs.Hex.{hex8}
use Rattle.wal_base.specs.Segment.{bytes_of, name_of, segment_named}
use Rattle.wal_base.proofs.HexText.{hex8_hole, three_holes}
use Rattle.wal_base.proofs.SegmentLemmas.{high_fits, low_fits, named_by_name}
use Rattle.wal_base.proofs.segment.Segment.name.Goals as goal

shown : (c : goal.After-from) → c.from.result ≡ name_of c.args.self
shown c =
    let per : ℕ = c.per_high-per_high.result in
    let is = c.per_high-per_high.ensures.value in
    let bytes : ℕ = bytes_of c.args.self.size in
    let high : c.args.self.number / per < 2 ^ 32 = rw is (high_fits bytes c.args.self.number c.args.self.size.is_size c.requires.fits) in
    let low : c.args.self.number % per < 2 ^ 32 = rw is (low_fits bytes c.args.self.number c.args.self.size.is_size) in
    c.from.ensures
    ∙ three_holes (styled_digits_output c.in_radix.result c.laid_out.result) (styled_digits_output c.in_radix-2.result c.laid_out-2.result)
    (styled_digits_output c.in_radix-3.result c.laid_out-3.result) (hex8 c.args.self.tli) (hex8 (c.args.self.number / per)) (hex8 (c.args.self.number % per)) _
    (rw c.laid_out.ensures (hex8_hole (digits_output c.in_radix.result) c.args.self.tli c.in_radix.ensures (omega arith)))
    (rw c.laid_out-2.ensures (hex8_hole (digits_output c.in_radix-2.result) (c.args.self.number / per) c.in_radix-2.ensures high))
    (rw c.laid_out-3.ensures (hex8_hole (digits_output c.in_radix-3.result) (c.args.self.number % per) c.in_radix-3.ensures low))
    c.in_ok-format.ensures.ok
    ∙ ap (λ n. hex8 c.args.self.tli ++ hex8 (c.args.self.number / n) ++ hex8 (c.args.self.number % n)) is

pub returns-clause-value : goal.returns-clause-value
returns-clause-value c = shown c

pub returns-clause-again : goal.returns-clause-again
returns-clause-again c =
    ap (segment_named c.args.self.size) (shown c) ∙ named_by_name c.args.self.size c.args.self.tli c.args.self.number (omega arith) c.requires.fits

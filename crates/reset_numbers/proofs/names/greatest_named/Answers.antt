use Rattle.std.proofs.Common.{◌∙◌, ap, rules, arith}
use Rattle.wal_base.specs.Segment.{bytes_of}
use Rattle.reset_numbers.specs.Names.{greatest_named}
use Rattle.reset_numbers.proofs.NameLemmas.{all_taken, greatest-none, greatest-on, no_name}
use Rattle.reset_numbers.proofs.names.greatest_named.Goals as goal

pub loop-at-init : goal.loop-at-init
loop-at-init c = greatest-none (bytes_of c.args.size) c.args.least

pub unreachable-requires : goal.unreachable-requires
unreachable-requires c = no_name c.args.names.now c.loop-at.at (omega (arith, c.loop-at-test.true, c.len-at-end.ensures)) c.in_default.ensures

pub loop-at-preserved : goal.loop-at-preserved
loop-at-preserved c =
    c.greater-greatest.ensures
    ∙ greatest-on (bytes_of c.args.size) c.args.least c.loop-at.greatest c.args.names.now c.loop-at.at c.as_bytes.result.now (search rules) c.loop-at.invariant

pub returns : goal.returns
returns c =
    c.loop-at.invariant
    ∙ ap (λ l. greatest_named (bytes_of c.args.size) c.args.least l) (all_taken c.args.names.now c.loop-at.at (omega (arith, c.loop-at-test.false, c.loop-at.auto.at-end, c.len-at-end.ensures)))

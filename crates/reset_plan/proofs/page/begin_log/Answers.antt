use Rattle.std.proofs.Common.{◌%◌, ◌∙◌, ap, arith}
use Rattle.wal_base.specs.Segment.{bytes_of}
use Rattle.wal_base.specs.declared.lsn.Lsn.{Lsn}
use Rattle.reset_plan.proofs.PageLemmas.{start_aligned}
use Rattle.reset_plan.proofs.page.begin_log.Goals as goal

pub new-requires-clause-starts : goal.new-requires-clause-starts
new-requires-clause-starts c =
    ap (λ (at : Lsn). at.0 % bytes_of c.args.segment.size) c.start-start.ensures.value
    ∙ start_aligned c.args.segment.number (bytes_of c.args.segment.size) (omega (arith, c.args.segment.size.is_size.least))

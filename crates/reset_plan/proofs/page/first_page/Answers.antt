use Rattle.std.proofs.Common.{Err, ap}
use Rattle.reset_plan.specs.NewSegment.{origin_of}
use Rattle.reset_plan.proofs.PageLemmas.{appends-low, not_long, one-record}
use Rattle.reset_plan.proofs.page.first_page.Goals as goal

pub append-requires-clause-low : goal.append-requires-clause-low
append-requires-clause-low c = λ short. appends-low c.in_ok-writer.writer c.args.control.now.sysid c.args.segment c.body_of-body.result c.in_ok-writer.ensures.begun c.requires c.body_of-body.ensures.size

pub unreachable-requires : goal.unreachable-requires
unreachable-requires c =
    not_long c.body_of-body.result c.in-Err-TooLong.total c.body_of-body.ensures.size
    ((c.in-Err-TooLong.ensures.too_long c.in-Err-TooLong.total).0 (ap (λ e. Err e) c.in-Err-TooLong.field-0-is))

pub returns-in-Ok-clause-page : goal.returns-in-Ok-clause-page
returns-in-Ok-clause-page c = one-record c.in_ok-writer.writer c.append.new.self (origin_of c.args.control.now.sysid c.args.segment) c.args.control.now.cp c.body_of-body.result c.in_ok-writer.ensures.begun c.body_of-body.ensures.value c.in-Ok.ensures.more

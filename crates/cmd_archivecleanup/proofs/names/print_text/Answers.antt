use Rattle.std.proofs.Common.{rules}
use Rattle.run_acts.proofs.AnswerSteps.{last_print}
use Rattle.cmd_archivecleanup.proofs.FormLemmas.{printed_empty, printed_text}
use Rattle.cmd_archivecleanup.proofs.names.print_text.Goals as goal

pub returns-then-is_empty-clause-performs : goal.returns-then-is_empty-clause-performs
returns-then-is_empty-clause-performs g c err_tells err contents calls = printed_empty c.args.text.now c.as_str-text.result.now c.is_empty.result c.as_str-text.ensures.value c.is_empty.ensures c.if-is_empty.true

pub returns-clause-performs : goal.returns-clause-performs
returns-clause-performs g c err_tells err contents calls =
    printed_text c.args.text.now c.as_str-text.result.now c.as_str-text.ensures.value (search rules)
    (last_print c.tell.result c.tell.ensures.whole c.tell.ensures.part c.tell.ensures.only c.as_str-text.ensures.value)

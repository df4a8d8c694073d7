use Rattle.std.proofs.Common.{◌∙◌, ap, sym}
use Rattle.wal_base.specs.Segment.{bytes_of}
use Rattle.wal_records.specs.Further.{pages_of}
use Rattle.rmgr_hooks.specs.Custom.{handed_in}
use Rattle.waldump_core.specs.Dump.{dump_of}
use Rattle.run_acts.proofs.AnswerSteps.{carries_told}
use Rattle.cmd_waldump.specs.Waldump.{log_answer}
use Rattle.cmd_waldump.proofs.DumpLemmas.{dump_carries, told}
use Rattle.cmd_waldump.proofs.shows.show_found.Goals as goal

pub returns-in-Ok-clause-carries : goal.returns-in-Ok-clause-carries
unfolding log_answer
returns-in-Ok-clause-carries g c err_tells err =
    let found = c.args.found in
    let dump = dump_of (handed_in g.M.Manager c.args.custom) (pages_of found.log (g.F.Tree.contents c.args.tree.now)) (bytes_of found.log.size) found.sel in
    carries_told (sym (ap told c.in-Ok.is)) (dump_carries g.F.Tree.tells dump c.dump_with.result c.dump_with.ensures.exact (λ t. c.dump_with.ensures.shown t err_tells err)
    c.dump_with.ensures.extends c.dump_with.ensures.later c.dump_with.ensures.sink_fault c.dump_with.ensures.reads.same c.dump_with.ensures.reads.uncalled)

pub returns-in-Err-clause-carries : goal.returns-in-Err-clause-carries
unfolding log_answer
returns-in-Err-clause-carries g c err_tells err =
    let found = c.args.found in
    let dump = dump_of (handed_in g.M.Manager c.args.custom) (pages_of found.log (g.F.Tree.contents c.args.tree.now)) (bytes_of found.log.size) found.sel in
    carries_told (c.dump_cause.ensures.value ∙ sym (ap told c.in-Err.is)) (dump_carries g.F.Tree.tells dump c.dump_with.result c.dump_with.ensures.exact (λ t. c.dump_with.ensures.shown t err_tells err)
    c.dump_with.ensures.extends c.dump_with.ensures.later c.dump_with.ensures.sink_fault c.dump_with.ensures.reads.same c.dump_with.ensures.reads.uncalled)

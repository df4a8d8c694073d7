use Rattle.std.proofs.Common.{None, Some, Err, ap, refl, ◌∙◌}
use Rattle.std.proofs.lemmas.Result.{err_from_is_err_and}
use Rattle.wal_base.specs.Segment.{bytes_of}
use Rattle.wal_records.specs.Further.{pages_of}
use Rattle.rmgr_hooks.specs.Custom.{handed_in}
use Rattle.waldump_core.specs.Dump.{dump_from, dump_of}
use Rattle.waldump_core.proofs.SinkLemmas.{paused_before, put_after_reads, refused_before}
use Rattle.waldump_core.proofs.StepLemmas.{from_first}
use Rattle.waldump_core.proofs.walk.dump_with.Goals as goal

-- nothing was read of the log, so no line was put
pub returns-in_err-place-clause-shown : goal.returns-in_err-place-clause-shown
returns-in_err-place-clause-shown g c = λ told err_tells err.
    let ended = err_from_is_err_and c.from_residual.result c.from_residual.ensures.1 in
    paused_before _ c.from_residual.result c.in_err-place.field-0.0 (ended.1 ∙ ap (λ x. Err x) ended.2) c.in_err-place.ensures.free c.in_err-place.ensures.reads.same c.in_err-place.ensures.reads.uncalled

pub returns-in-Some-clause-shown : goal.returns-in-Some-clause-shown
returns-in-Some-clause-shown g c = λ told err_tells err.
    let contents = g.F.Tree.contents c.args.tree.now in
    let later = g.F.Tree.contents c.place_from.new.tree in
    let pages = pages_of c.args.log in
    let size = bytes_of c.args.log.size in
    let custom = handed_in g.M.Manager c.args.custom in
    let whole = from_first custom c.args.sel.now c.args.log contents later c.in_ok-place.field-0 (Some c.in-Some.place) c.in_ok-place.ensures.reads.same (c.in_ok-place.ensures.place told) c.in-Some.is in
    put_after_reads (dump_of custom (pages contents) size c.args.sel.now) (dump_from custom (pages later) size c.args.sel.now (Some c.in-Some.place)) err_tells err whole
    (c.dump_at.ensures.reads.same ∙ c.in_ok-place.ensures.reads.same) (c.dump_at.ensures.reads.uncalled ∙ c.in_ok-place.ensures.reads.uncalled) (c.dump_at.ensures.shown told)

-- there is no place at which a record can begin
pub returns-in-None-clause-shown : goal.returns-in-None-clause-shown
returns-in-None-clause-shown g c = λ told err_tells err.
    let contents = g.F.Tree.contents c.args.tree.now in
    let pages = pages_of c.args.log in
    let size = bytes_of c.args.log.size in
    let custom = handed_in g.M.Manager c.args.custom in
    let whole = from_first custom c.args.sel.now c.args.log contents contents c.in_ok-place.field-0 None refl (c.in_ok-place.ensures.place told) c.in-None.is in
    refused_before (dump_of custom (pages contents) size c.args.sel.now) (dump_from custom (pages contents) size c.args.sel.now None) whole refl c.in_ok-place.ensures.reads.same c.in_ok-place.ensures.reads.uncalled

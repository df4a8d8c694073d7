use Rattle.std.proofs.Common.{◌<◌, length, arith, sym}
use Rattle.std.proofs.lemmas.Bool.{eqb-true}
use Rattle.std.proofs.lemmas.Bool.Decides.{nat_tests}
use Rattle.std.proofs.lemmas.Result.{err_from_is_err_and}
use Rattle.timeline_history.proofs.ReadingLemmas.{first_fault, one_more_read, all_read, all_passed}
use Rattle.timeline_history.proofs.reading.read_entries.Goals as goal

pub returns-in_err-add_line-clause-fault : goal.returns-in_err-add_line-clause-fault
returns-in_err-add_line-clause-fault c =
    let more : 0 < length c.loop-rest.rest.now = grind (arith, nat_tests, c.loop-rest-test.ensures) in
    let p = err_from_is_err_and c.from_residual.result c.from_residual.ensures.1 in
    rw (p.1, p.2)
    (λ known. first_fault c.args.tli c.args.bytes.now c.loop-rest.rest.now c.loop-rest.number c.loop-rest.entries.items c.loop-rest.invariant
    c.cut_at.result.0.now c.cut_at.result.1.now more c.cut_at.ensures.before c.cut_at.ensures.after c.in_err-add_line.field-0.0 (c.in_err-add_line.ensures.fault known))

pub loop-rest-preserved : goal.loop-rest-preserved
loop-rest-preserved c =
    let more : 0 < length c.loop-rest.rest.now = grind (arith, nat_tests, c.loop-rest-test.ensures) in
    one_more_read c.args.tli c.args.bytes.now c.loop-rest.rest.now c.loop-rest.number c.loop-rest.entries.items c.loop-rest.invariant
    c.cut_at.result.0.now c.cut_at.result.1.now more c.cut_at.ensures.before c.cut_at.ensures.after c.add_line.new.entries.items
    c.in_ok-add_line.ensures.ok c.in_ok-add_line.ensures.added

pub returns-clause-ok : goal.returns-clause-ok
returns-clause-ok c =
    all_passed c.args.tli c.args.bytes.now c.loop-rest.rest.now c.loop-rest.number c.loop-rest.entries.items c.loop-rest.invariant
    (eqb-true _ _ (sym c.loop-rest-test.ensures))

pub returns-clause-entries : goal.returns-clause-entries
returns-clause-entries c =
    all_read c.args.tli c.args.bytes.now c.loop-rest.rest.now c.loop-rest.number c.loop-rest.entries.items c.loop-rest.invariant
    (eqb-true _ _ (sym c.loop-rest-test.ensures))

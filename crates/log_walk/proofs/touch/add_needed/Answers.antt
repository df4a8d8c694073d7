use Rattle.std.proofs.Common.{◌∙◌, Err, Result, ap, arith, inr, refl, subst, sym}
use Rattle.std.proofs.lemmas.Result.{err_from_is_err_and}
use Rattle.cluster_tree.specs.Causes.{Passes}
use Rattle.log_walk.specs.declared.fault.LogWalkFault.{LogWalkFault}
use Rattle.log_walk.specs.Faults.{IsMemory}
use Rattle.log_walk.specs.Needed.{record_refusal}
use Rattle.log_walk.proofs.NeededLemmas.{names_refused, parts_refused, past_refused, unrefused}
use Rattle.log_walk.proofs.touch.add_needed.Goals as goal

pub returns-in_err-split_into-clause-refused : goal.returns-in_err-split_into-clause-refused
returns-in_err-split_into-clause-refused c =
    let ended = err_from_is_err_and c.from_residual.result c.from_residual.ensures.1 in
    let is = ended.1 ∙ ap (λ (x : LogWalkFault). Err x) ended.2 in
    subst (λ (k : Result (Unit {0}) LogWalkFault). Passes IsMemory (record_refusal c.args.end.0 c.args.rec.now) k) (sym is)
    (inr (parts_refused c.args.end.0 c.args.rec.now c.in_err-split_into.field-0.0 c.in_err-split_into.ensures.exact))

pub returns-in_err-add_record-clause-refused : goal.returns-in_err-add_record-clause-refused
returns-in_err-add_record-clause-refused c =
    let ended = err_from_is_err_and c.from_residual-in_err-add_record.result c.from_residual-in_err-add_record.ensures.1 in
    let is = ended.1 ∙ ap (λ (x : LogWalkFault). Err x) ended.2 in
    subst (λ (k : Result (Unit {0}) LogWalkFault). Passes IsMemory (record_refusal c.args.end.0 c.args.rec.now) k) (sym is)
    (names_refused c.args.end.0 c.args.rec.now c.split_into.new.parts _ c.in_err-add_record.field-0.0 c.in_ok-split_into.ensures.exact refl c.in_err-add_record.ensures.told)

pub returns-then-end-last-clause-refused : goal.returns-then-end-last-clause-refused
returns-then-end-last-clause-refused c =
    inr (past_refused c.args.end c.end-last.result c.args.rec.now c.split_into.new.parts _ c.in_ok-split_into.ensures.exact refl c.in_ok-add_record.ensures.told c.end-last.ensures.value (omega arith))

pub returns-clause-refused : goal.returns-clause-refused
returns-clause-refused c =
    unrefused c.args.end c.end-last.result c.args.rec.now c.split_into.new.parts _ c.in_ok-split_into.ensures.exact refl c.in_ok-add_record.ensures.told c.end-last.ensures.value (omega arith)

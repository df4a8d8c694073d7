use Rattle.std.proofs.Common.{◌≡◌, ◌⊎◌, ◌∙◌, false, Result, Some, Err, ap, refl, subst, sym}
use Rattle.rmgr_hooks.specs.Custom.{handed_in}
use Rattle.std.proofs.lemmas.Result.{err_from_is_err_and}
use Rattle.cluster_tree.specs.Causes.{Passes}
use Rattle.wal_base.specs.Segment.{bytes_of}
use Rattle.wal_base.specs.declared.lsn.Lsn.{Lsn}
use Rattle.wal_records.specs.Further.{pages_of}
use Rattle.wal_records.specs.Log.{Log, log_of}
use Rattle.replay_start.specs.Faults.{IsFree}
use Rattle.replay_start.specs.Scanned.{log_refusal}
use Rattle.replay_start.specs.Steps.{IsRefused, IsScanned}
use Rattle.replay_start.specs.declared.fault.ReplayFault.{ReplayFault}
use Rattle.replay_start.proofs.StageLemmas.{log_refused, log_seen}
use Rattle.replay_start.proofs.checking.check_log.Goals as goal

pub returns-in_err-scan_all-clause-answer : goal.returns-in_err-scan_all-clause-answer
returns-in_err-scan_all-clause-answer g c = λ told.
    let contents = g.F.Tree.contents c.args.tree.now in
    let records = (log_of (pages_of c.args.cursor.now.log contents) (bytes_of c.args.cursor.now.log.size) c.args.label.start.0).records in
    let ended = err_from_is_err_and c.from_residual.result c.from_residual.ensures.1 in
    let is = ended.1 ∙ ap (λ (x : ReplayFault). Err x) ended.2 in
    subst (λ (k : Result Lsn ReplayFault). Passes IsFree (log_refusal (handed_in g.M.Manager c.args.custom) c.args.root.now c.args.control.now c.args.label records) k) (sym is)
    (log_refused _ c.args.root.now c.args.control.now c.args.label records _
    (subst (λ (l : Log). IsRefused (handed_in g.M.Manager c.args.custom) l.records c.in_err-scan_all.field-0.0) (c.go_to.ensures.starts contents) (c.in_err-scan_all.ensures.all told)))

pub returns-in_err-check_seen-clause-answer : goal.returns-in_err-check_seen-clause-answer
returns-in_err-check_seen-clause-answer g c = λ told.
    let contents = g.F.Tree.contents c.args.tree.now in
    let records = (log_of (pages_of c.args.cursor.now.log contents) (bytes_of c.args.cursor.now.log.size) c.args.label.start.0).records in
    let seen = subst (λ (l : Log). IsScanned (handed_in g.M.Manager c.args.custom) c.args.label l.records (record { end = c.args.label.start; found = false }) c.scan_all.new.seen) (c.go_to.ensures.starts contents) (c.in_ok-scan_all.ensures.all told) in
    let ended = err_from_is_err_and c.from_residual-in_err-check_seen.result c.from_residual-in_err-check_seen.ensures.1 in
    let is = ended.1 ∙ ap (λ (x : ReplayFault). Err x) ended.2 in
    subst (λ (k : Result Lsn ReplayFault). Passes IsFree (log_refusal (handed_in g.M.Manager c.args.custom) c.args.root.now c.args.control.now c.args.label records) k) (sym is)
    (subst (λ refusal. IsFree c.in_err-check_seen.field-0.0 ⊎ (refusal ≡ Some c.in_err-check_seen.field-0.0))
    (sym (log_seen _ c.args.root.now c.args.control.now c.args.label records (record { end = c.args.label.start; found = false }) c.scan_all.new.seen refl refl seen)) c.in_err-check_seen.ensures.answer)

pub returns-clause-end : goal.returns-clause-end
returns-clause-end g c = λ told.
    let contents = g.F.Tree.contents c.args.tree.now in
    sym (subst (λ (l : Log). IsScanned (handed_in g.M.Manager c.args.custom) c.args.label l.records (record { end = c.args.label.start; found = false }) c.scan_all.new.seen) (c.go_to.ensures.starts contents) (c.in_ok-scan_all.ensures.all told)).end

pub returns-clause-answer : goal.returns-clause-answer
returns-clause-answer g c = λ told.
    let contents = g.F.Tree.contents c.args.tree.now in
    let records = (log_of (pages_of c.args.cursor.now.log contents) (bytes_of c.args.cursor.now.log.size) c.args.label.start.0).records in
    log_seen _ c.args.root.now c.args.control.now c.args.label records (record { end = c.args.label.start; found = false }) c.scan_all.new.seen refl refl
    (subst (λ (l : Log). IsScanned (handed_in g.M.Manager c.args.custom) c.args.label l.records (record { end = c.args.label.start; found = false }) c.scan_all.new.seen) (c.go_to.ensures.starts contents) (c.in_ok-scan_all.ensures.all told))
    ∙ c.in_ok-check_seen.ensures.answer

use Rattle.std.proofs.Common.{◌∙◌, refl, arith, inl, sym, ap, rules}
use Rattle.std.proofs.lemmas.Result.{err_from_is_err_and}
use Rattle.cluster_tree.proofs.RunLemmas.{reads_on}
use Rattle.acts.specs.Texts.{prints}
use Rattle.acts.proofs.LeadLemmas.{leads_as, leads_start}
use Rattle.acts.proofs.PrintLemmas.{broken, gathers_none, last_flushed, passed_on}
use Rattle.rmgr_hooks.specs.Custom.{handed_in}
use Rattle.waldump_core.specs.Dump.{Dump}
use Rattle.waldump_core.specs.Steps.{left}
use Rattle.waldump_core.specs.declared.progress.Progress.{Progress}
use Rattle.waldump_core.specs.declared.progress.Turn.TheVariants.{Goes, Stops}
use Rattle.waldump_core.proofs.StepLemmas.{fault_in, further_in, gives_in}
use Rattle.waldump_core.proofs.SinkLemmas.{extends_again, fault_flushed, gathers_given, gathers_kept, other_fault, sink_ending, walk_steps}
use Rattle.waldump_core.proofs.walk.walk.Goals as goal

pub records-init : goal.records-init
records-init g c = record {
  opened = c.requires.opened;
  log = refl;
  few = search rules;
  reads = search rules;
  knows = c.requires.knows;
  answer = λ told. search rules;
  gathers = λ told.
      let dump : Progress → Dump = λ p. left (handed_in g.M.Manager c.args.asked.now.custom) c.args.asked.now.sel p c.args.cursor.now (g.F.Tree.contents c.args.tree.now) in
      gathers_none _ _ _ c.requires.none (leads_as (ap (λ p. prints (dump p).lines) (sym c.new-progress.ensures)) leads_start);
  extends = λ shown. search (rules, walk_steps);
  quiet = λ quiet. (refl, c.requires.none);
  later = omega arith;
}

-- the last write failed, behind the record that fills the limit or at the stop
pub returns-in_err-flush-in-Ok-Stops-clause-shown : goal.returns-in_err-flush-in-Ok-Stops-clause-shown
returns-in_err-flush-in-Ok-Stops-clause-shown g c = λ told.
    let gives = gives_in _ c.args.asked.now.sel c.records.progress c.records.cursor c.advance.new.cursor (Stops c.in-Ok-Stops.dumped) c.in-Ok-Stops.field-0 (g.F.Tree.contents c.args.tree.now) (g.F.Tree.contents c.records.tree) _ _ c.records.invariant.reads.same c.in-Ok-Stops.field-0-is (c.in-Ok-Stops.ensures.step told) in
    let ended = err_from_is_err_and c.from_residual.result c.from_residual.ensures.1 in
    broken _ _ _ (gathers_given (c.records.invariant.gathers told) gives) c.in_err-flush-in-Ok-Stops.ensures.gathered c.in_err-flush-in-Ok-Stops.ensures.part (sink_ending c.from_residual.result ended.0 ended.1 ended.2)

pub returns-in-Ok-Stops-clause-shown : goal.returns-in-Ok-Stops-clause-shown
returns-in-Ok-Stops-clause-shown g c = λ told.
    let gives = gives_in _ c.args.asked.now.sel c.records.progress c.records.cursor c.advance.new.cursor (Stops c.in-Ok-Stops.dumped) c.in-Ok-Stops.field-0 (g.F.Tree.contents c.args.tree.now) (g.F.Tree.contents c.records.tree) _ _ c.records.invariant.reads.same c.in-Ok-Stops.field-0-is (c.in-Ok-Stops.ensures.step told) in
    last_flushed _ _ _ (gathers_given (c.records.invariant.gathers told) gives) refl (inl refl) c.in_ok-flush-in-Ok-Stops.ensures.whole

-- the last write failed, behind a fault or a refusal
pub returns-in_err-flush-in-Err-clause-shown : goal.returns-in_err-flush-in-Err-clause-shown
returns-in_err-flush-in-Err-clause-shown g c = λ told.
    let ended = err_from_is_err_and c.from_residual-in_err-flush-in-Err.result c.from_residual-in_err-flush-in-Err.ensures.1 in
    let kept = gathers_kept (c.records.invariant.gathers told) c.in-Err.ensures.kept in
    broken _ _ _ kept c.in_err-flush-in-Err.ensures.gathered c.in_err-flush-in-Err.ensures.part (sink_ending c.from_residual-in_err-flush-in-Err.result ended.0 ended.1 ended.2)

pub returns-in-Err-clause-shown : goal.returns-in-Err-clause-shown
returns-in-Err-clause-shown g c = λ told.
    let fault = fault_in _ c.args.asked.now.sel c.records.progress c.records.cursor (g.F.Tree.contents c.args.tree.now) (g.F.Tree.contents c.records.tree) c.in-Err.e c.records.invariant.reads.same (c.in-Err.ensures.step told) in
    let kept = gathers_kept (c.records.invariant.gathers told) c.in-Err.ensures.kept in
    fault_flushed _ _ c.in-Err.e kept c.in_ok-flush-in-Err.ensures.whole (other_fault c.advance.result c.in-Err.e c.in-Err.is c.advance.ensures.unwritten) fault

pub returns-in_err-flush_full-clause-shown : goal.returns-in_err-flush_full-clause-shown
returns-in_err-flush_full-clause-shown g c = λ told.
    let gives = gives_in _ c.args.asked.now.sel c.records.progress c.records.cursor c.advance.new.cursor (Goes c.in-Ok-Goes.next) c.in-Ok-Goes.field-0 (g.F.Tree.contents c.args.tree.now) (g.F.Tree.contents c.records.tree) _ _ c.records.invariant.reads.same c.in-Ok-Goes.field-0-is (c.in-Ok-Goes.ensures.step told) in
    let ended = err_from_is_err_and c.from_residual-in_err-flush_full.result c.from_residual-in_err-flush_full.ensures.1 in
    broken _ _ _ (gathers_given (c.records.invariant.gathers told) gives) c.in_err-flush_full.ensures.gathered c.in_err-flush_full.ensures.part (sink_ending c.from_residual-in_err-flush_full.result ended.0 ended.1 ended.2)

pub records-preserved : goal.records-preserved
records-preserved g c = record {
  opened = (further_in c.records.cursor c.advance.new.cursor c.in-Ok-Goes.next c.in-Ok-Goes.field-0 c.in-Ok-Goes.field-0-is c.in-Ok-Goes.ensures.goes_up).opened;
  log = c.in-Ok-Goes.ensures.log ∙ c.records.invariant.log;
  few = (further_in c.records.cursor c.advance.new.cursor c.in-Ok-Goes.next c.in-Ok-Goes.field-0 c.in-Ok-Goes.field-0-is c.in-Ok-Goes.ensures.goes_up).few;
  reads = reads_on g.F.Tree _ _ _ c.records.invariant.reads c.in-Ok-Goes.ensures.reads;
  knows = c.in-Ok-Goes.ensures.knows;
  answer = λ told.
      let gives = gives_in _ c.args.asked.now.sel c.records.progress c.records.cursor c.advance.new.cursor (Goes c.in-Ok-Goes.next) c.in-Ok-Goes.field-0 (g.F.Tree.contents c.args.tree.now) (g.F.Tree.contents c.records.tree) c.records.lines c.advance.new.lines c.records.invariant.reads.same c.in-Ok-Goes.field-0-is (c.in-Ok-Goes.ensures.step told) in
      sym gives.answer ∙ c.records.invariant.answer told;
  gathers = λ told.
      let gives = gives_in _ c.args.asked.now.sel c.records.progress c.records.cursor c.advance.new.cursor (Goes c.in-Ok-Goes.next) c.in-Ok-Goes.field-0 (g.F.Tree.contents c.args.tree.now) (g.F.Tree.contents c.records.tree) _ _ c.records.invariant.reads.same c.in-Ok-Goes.field-0-is (c.in-Ok-Goes.ensures.step told) in
      passed_on _ _ _ (gathers_given (c.records.invariant.gathers told) gives) c.in_ok-flush_full.ensures.whole;
  extends = λ shown. extends_again _ _ _ (c.records.invariant.extends shown) (c.in_ok-flush_full.ensures.extends shown);
  quiet = λ quiet.
      let none = c.in-Ok-Goes.ensures.quiet quiet ∙ (c.records.invariant.quiet quiet).1 in
      let kept = c.in_ok-flush_full.ensures.unwritten none in
      (kept.0 ∙ (c.records.invariant.quiet quiet).0, kept.1);
  later = omega (arith, c.records.invariant.later, c.in_ok-flush_full.ensures.later);
}

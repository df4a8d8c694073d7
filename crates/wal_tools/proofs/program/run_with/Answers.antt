use Rattle.std.proofs.Common.{FitsSigned, map, refl, rules, string_bytes, subst, w64}
use Rattle.rmgr_hooks.specs.Custom.{handed_in}
use Rattle.std.proofs.lemmas.Int.{to_z-of_z}
use Rattle.acts.specs.Acts.{seen, sunk}
use Rattle.cluster_tree.specs.Frame.{moment_of}
use Rattle.run_acts.proofs.UnseenSteps.{unseen_grow, unseen_told}
use Rattle.tool_words.specs.Command.{command_of}
use Rattle.cause_lines.specs.Lines.{line_of}
use Rattle.wal_tools.specs.Runs.{Says}
use Rattle.wal_tools.proofs.RestartLemmas.{goes_on_but, stops_left}
use Rattle.wal_tools.proofs.ConvergeLemmas.{converges_left, handed-sound}
use Rattle.wal_tools.proofs.RunLemmas.{at_time, exact_told, leaves_done, stays_told}
use Rattle.wal_tools.proofs.ResumableLemmas.{resumable_at, tries_told}
use Rattle.wal_tools.proofs.StopLemmas.{durable_done, left_at}
use Rattle.rewind_core.specs.Over.{without_own}
use Rattle.wal_tools.proofs.program.run_with.Goals as goal

pub returns-clause-exact : goal.returns-clause-exact
returns-clause-exact g c h =
    let fits : FitsSigned w64 c.args.now = search rules in
    exact_told _ g.F.Tree.tells (g.F.Tree.contents c.args.tree.now) c.args.now (command_of (map string_bytes c.args.words.now)) c.cause_of.ensures c.finish.ensures.cause
    (at_time _ g.F.Tree.tells (g.F.Tree.contents c.args.tree.now) (command_of (map string_bytes c.args.words.now)) (to_z-of_z w64 c.args.now fits) c.answer-outcome.ensures.carries) h

pub returns-clause-runs : goal.returns-clause-runs
returns-clause-runs g c =
    let fits : FitsSigned w64 c.args.now = search rules in
    record {
      outcome = c.cause_of.result;
      told = seen (g.F.Tree.contents c.answer-outcome.new.tree) (g.F.Tree.calls c.answer-outcome.new.tree)
          (sunk (g.O.Sink.written c.answer-outcome.new.out) (g.O.Sink.failed_writes c.answer-outcome.new.out))
          (sunk (g.E.Sink.written c.answer-outcome.new.err) (g.E.Sink.failed_writes c.answer-outcome.new.err));
      acts = unseen_told c.cause_of.ensures (at_time _ g.F.Tree.tells (g.F.Tree.contents c.args.tree.now) (command_of (map string_bytes c.args.words.now)) (to_z-of_z w64 c.args.now fits) c.answer-outcome.ensures.carries);
      out = (unseen_grow c.answer-outcome.ensures.carries).0;
      err = (unseen_grow c.answer-outcome.ensures.carries).1;
      cause = c.finish.ensures.cause;
      says = subst (λ n. Says g.E.Sink.tells (line_of n c.finish.result.cause)
          (sunk (g.E.Sink.written c.answer-outcome.new.err) (g.E.Sink.failed_writes c.answer-outcome.new.err))
          (sunk (g.E.Sink.written c.finish.new.err) (g.E.Sink.failed_writes c.finish.new.err))) c.name_of-name.ensures c.finish.ensures.says;
      last = refl;
    }

pub returns-clause-leaves : goal.returns-clause-leaves
returns-clause-leaves g c t done =
    let fits : FitsSigned w64 c.args.now = search rules in
    leaves_done (handed_in g.M.Manager c.args.custom) c.answer-outcome.result (command_of (map string_bytes c.args.words.now)) g.O.Sink.tells (g.F.Tree.contents c.args.tree.now) (g.F.Tree.contents c.answer-outcome.new.tree)
    (g.O.Sink.written c.args.out.now) (g.O.Sink.written c.answer-outcome.new.out) c.answer-outcome.ensures.undone c.cause_of.ensures c.finish.ensures.cause done
    (to_z-of_z w64 c.args.now fits) (c.answer-outcome.ensures.leaves t)

pub returns-clause-converges : goal.returns-clause-converges
returns-clause-converges g c t done =
    converges_left (handed_in g.M.Manager c.args.custom)
    (handed-sound g.M.Manager c.args.custom (record { respects = g.met.M.Manager.respects; makes_anew = g.met.M.Manager.makes_anew }))
    (command_of (map string_bytes c.args.words.now)) c.args.now g.O.Sink.tells (g.F.Tree.contents c.args.tree.now) (g.F.Tree.contents c.answer-outcome.new.tree)
    (g.O.Sink.written c.args.out.now) (g.O.Sink.written c.answer-outcome.new.out) (returns-clause-leaves g c t done)

pub returns-clause-stays : goal.returns-clause-stays
returns-clause-stays g c t =
    stays_told (handed_in g.M.Manager c.args.custom) (command_of (map string_bytes c.args.words.now)) (g.F.Tree.contents c.args.tree.now) (g.F.Tree.contents c.answer-outcome.new.tree)
    c.cause_of.ensures c.finish.ensures.cause (c.answer-outcome.ensures.stays t)

pub returns-clause-stops : goal.returns-clause-stops
returns-clause-stops g c t =
    let fits : FitsSigned w64 c.args.now = search rules in
    left_at (handed_in g.M.Manager c.args.custom) (command_of (map string_bytes c.args.words.now)) (moment_of g.F.Tree c.args.tree.now) (g.F.Tree.stops c.args.tree.now) (g.F.Tree.stops c.answer-outcome.new.tree) (to_z-of_z w64 c.args.now fits) (c.answer-outcome.ensures.stops t)

pub returns-clause-durable : goal.returns-clause-durable
returns-clause-durable g c t done =
    let fits : FitsSigned w64 c.args.now = search rules in
    durable_done c.answer-outcome.result (command_of (map string_bytes c.args.words.now)) (g.F.Tree.contents c.args.tree.now) (moment_of g.F.Tree c.answer-outcome.new.tree) c.answer-outcome.ensures.undone c.cause_of.ensures c.finish.ensures.cause done
    (to_z-of_z w64 c.args.now fits) (c.answer-outcome.ensures.durable t)

pub returns-clause-resumable : goal.returns-clause-resumable
returns-clause-resumable g c t rewind asked stands =
    let fits : FitsSigned w64 c.args.now = search rules in
    resumable_at rewind (g.F.Tree.contents c.args.tree.now) (g.F.Tree.contents c.args.tree.now) (g.F.Tree.stops c.args.tree.now) (g.F.Tree.stops c.answer-outcome.new.tree) (to_z-of_z w64 c.args.now fits) (c.answer-outcome.ensures.resumable t rewind asked stands)

pub returns-clause-fresh : goal.returns-clause-fresh
returns-clause-fresh g c t resume asked none stands =
    let fits : FitsSigned w64 c.args.now = search rules in
    resumable_at resume (without_own (g.F.Tree.contents c.args.tree.now) resume.target) (g.F.Tree.contents c.args.tree.now) (g.F.Tree.stops c.args.tree.now) (g.F.Tree.stops c.answer-outcome.new.tree) (to_z-of_z w64 c.args.now fits) (c.answer-outcome.ensures.fresh t resume asked none stands)

pub returns-clause-tries : goal.returns-clause-tries
returns-clause-tries g c t resume asked =
    tries_told resume (g.F.Tree.contents c.args.tree.now) (g.F.Tree.calls c.args.tree.now) (g.F.Tree.calls c.answer-outcome.new.tree) c.cause_of.ensures c.finish.ensures.cause
    (c.answer-outcome.ensures.tries t resume asked)

pub returns-clause-restartable : goal.returns-clause-restartable
returns-clause-restartable g c t words asked first is_first stops stands =
    stops_left (handed_in g.M.Manager c.args.custom)
    (handed-sound g.M.Manager c.args.custom (record { respects = g.met.M.Manager.respects; makes_anew = g.met.M.Manager.makes_anew }))
    words.root first (g.F.Tree.contents c.args.tree.now) is_first stops (g.F.Tree.stops c.args.tree.now) (g.F.Tree.stops c.answer-outcome.new.tree) (c.answer-outcome.ensures.restartable t words asked stands)

pub returns-clause-goes_on : goal.returns-clause-goes_on
returns-clause-goes_on g c t =
    goes_on_but (handed_in g.M.Manager c.args.custom)
    (handed-sound g.M.Manager c.args.custom (record { respects = g.met.M.Manager.respects; makes_anew = g.met.M.Manager.makes_anew }))
    (command_of (map string_bytes c.args.words.now)) (g.F.Tree.contents c.args.tree.now) (g.F.Tree.contents c.answer-outcome.new.tree) c.finish.result.cause (returns-clause-stays g c t)

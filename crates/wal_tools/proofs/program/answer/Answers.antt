use Rattle.std.proofs.Common.{◌∙◌, FitsSigned, Ok, map, rules, string_bytes, subst, sym, w64}
use Rattle.rmgr_hooks.specs.Custom.{handed_in}
use Rattle.std.proofs.lemmas.Int.{to_z-of_z}
use Rattle.cluster_tree.specs.Frame.{moment_of}
use Rattle.tool_words.specs.Command.{command_of}
use Rattle.wal_tools.specs.Words.{MayChange}
use Rattle.wal_tools.proofs.RunLemmas.{at_time, no_words, of_command, stays_refused, stays_unmade, words_refused}
use Rattle.wal_tools.proofs.ResumableLemmas.{again_still, resumable_at, resumable_still, tries_refused, tries_unmade}
use Rattle.wal_tools.proofs.RestartLemmas.{stopped_still}
use Rattle.wal_tools.proofs.StopLemmas.{durable_command, left_at, left_of_command, still_left}
use Rattle.rewind_core.specs.Over.{without_own}
use Rattle.wal_tools.proofs.program.answer.Goals as goal

pub returns-in-Ok-clause-carries : goal.returns-in-Ok-clause-carries
returns-in-Ok-clause-carries g c =
    let fits : FitsSigned w64 c.args.now = search rules in
    of_command _ g.F.Tree.tells (g.F.Tree.contents c.args.tree.now) c.args.now c.in-Ok.ensures.answer
    (at_time _ g.F.Tree.tells (g.F.Tree.contents c.args.tree.now) (Ok c.in-Ok.command) (to_z-of_z w64 c.args.now fits) c.carry_out.ensures.carries)

pub returns-in-Err-OutOfMemory-clause-carries : goal.returns-in-Err-OutOfMemory-clause-carries
returns-in-Err-OutOfMemory-clause-carries g c = no_words _ g.F.Tree.tells (g.F.Tree.contents c.args.tree.now) c.args.now (command_of (map string_bytes c.args.words.now))

pub returns-in-Err-clause-carries : goal.returns-in-Err-clause-carries
returns-in-Err-clause-carries g c = words_refused _ g.F.Tree.tells (g.F.Tree.contents c.args.tree.now) c.args.now (command_of (map string_bytes c.args.words.now)) c.in-Err.fault c.words_cause.result c.words_cause.ensures c.in-Err.ensures.answer

pub returns-in-Err-OutOfMemory-clause-stays : goal.returns-in-Err-OutOfMemory-clause-stays
returns-in-Err-OutOfMemory-clause-stays g c t = stays_unmade (handed_in g.M.Manager c.args.custom) (command_of (map string_bytes c.args.words.now)) (g.F.Tree.contents c.args.tree.now)

pub returns-in-Err-clause-stays : goal.returns-in-Err-clause-stays
returns-in-Err-clause-stays g c t =
    stays_refused (handed_in g.M.Manager c.args.custom) c.in-Err.fault (command_of (map string_bytes c.args.words.now)) (g.F.Tree.contents c.args.tree.now) c.words_cause.ensures c.in-Err.ensures.answer

pub returns-in-Ok-clause-stops : goal.returns-in-Ok-clause-stops
returns-in-Ok-clause-stops g c t =
    let fits : FitsSigned w64 c.args.now = search rules in
    left_of_command (handed_in g.M.Manager c.args.custom) (command_of (map string_bytes c.args.words.now)) c.args.now (moment_of g.F.Tree c.args.tree.now) (g.F.Tree.stops c.args.tree.now) (g.F.Tree.stops c.carry_out.new.tree) c.in-Ok.ensures.answer
    (left_at (handed_in g.M.Manager c.args.custom) (Ok c.in-Ok.command) (moment_of g.F.Tree c.args.tree.now) (g.F.Tree.stops c.args.tree.now) (g.F.Tree.stops c.carry_out.new.tree) (to_z-of_z w64 c.args.now fits) (c.carry_out.ensures.stops t))

pub returns-in-Err-OutOfMemory-clause-stops : goal.returns-in-Err-OutOfMemory-clause-stops
returns-in-Err-OutOfMemory-clause-stops g c t = still_left (handed_in g.M.Manager c.args.custom) (command_of (map string_bytes c.args.words.now)) c.args.now (moment_of g.F.Tree c.args.tree.now)

pub returns-in-Err-clause-stops : goal.returns-in-Err-clause-stops
returns-in-Err-clause-stops g c t = still_left (handed_in g.M.Manager c.args.custom) (command_of (map string_bytes c.args.words.now)) c.args.now (moment_of g.F.Tree c.args.tree.now)

pub returns-in-Ok-clause-durable : goal.returns-in-Ok-clause-durable
returns-in-Ok-clause-durable g c t =
    let fits : FitsSigned w64 c.args.now = search rules in
    durable_command c.carry_out.result (command_of (map string_bytes c.args.words.now)) (g.F.Tree.contents c.args.tree.now) (moment_of g.F.Tree c.carry_out.new.tree) c.in-Ok.ensures.answer (to_z-of_z w64 c.args.now fits) (c.carry_out.ensures.durable t)

pub returns-in-Ok-clause-reads : goal.returns-in-Ok-clause-reads
returns-in-Ok-clause-reads g c unmade = c.carry_out.ensures.reads (subst (λ asked. MayChange asked → ⊥) c.in-Ok.ensures.answer unmade)

pub returns-in-Ok-clause-resumable : goal.returns-in-Ok-clause-resumable
returns-in-Ok-clause-resumable g c t rewind asked stands =
    let fits : FitsSigned w64 c.args.now = search rules in
    let is = sym c.in-Ok.ensures.answer ∙ asked in
    resumable_at rewind (g.F.Tree.contents c.args.tree.now) (g.F.Tree.contents c.args.tree.now) (g.F.Tree.stops c.args.tree.now) (g.F.Tree.stops c.carry_out.new.tree) (to_z-of_z w64 c.args.now fits) (c.carry_out.ensures.resumable t rewind is stands)

pub returns-in-Err-OutOfMemory-clause-resumable : goal.returns-in-Err-OutOfMemory-clause-resumable
returns-in-Err-OutOfMemory-clause-resumable g c t rewind asked stands = resumable_still rewind c.args.now (g.F.Tree.contents c.args.tree.now) (g.F.Tree.contents c.args.tree.now) (moment_of g.F.Tree c.args.tree.now) stands

pub returns-in-Err-clause-resumable : goal.returns-in-Err-clause-resumable
returns-in-Err-clause-resumable g c t rewind asked stands = resumable_still rewind c.args.now (g.F.Tree.contents c.args.tree.now) (g.F.Tree.contents c.args.tree.now) (moment_of g.F.Tree c.args.tree.now) stands

pub returns-in-Ok-clause-fresh : goal.returns-in-Ok-clause-fresh
returns-in-Ok-clause-fresh g c t resume asked none stands =
    let fits : FitsSigned w64 c.args.now = search rules in
    let is = sym c.in-Ok.ensures.answer ∙ asked in
    resumable_at resume (without_own (g.F.Tree.contents c.args.tree.now) resume.target) (g.F.Tree.contents c.args.tree.now) (g.F.Tree.stops c.args.tree.now) (g.F.Tree.stops c.carry_out.new.tree) (to_z-of_z w64 c.args.now fits) (c.carry_out.ensures.fresh t resume is none stands)

pub returns-in-Err-OutOfMemory-clause-fresh : goal.returns-in-Err-OutOfMemory-clause-fresh
returns-in-Err-OutOfMemory-clause-fresh g c t resume asked none stands = resumable_still resume c.args.now (without_own (g.F.Tree.contents c.args.tree.now) resume.target) (g.F.Tree.contents c.args.tree.now) (moment_of g.F.Tree c.args.tree.now) stands

pub returns-in-Err-clause-fresh : goal.returns-in-Err-clause-fresh
returns-in-Err-clause-fresh g c t resume asked none stands = resumable_still resume c.args.now (without_own (g.F.Tree.contents c.args.tree.now) resume.target) (g.F.Tree.contents c.args.tree.now) (moment_of g.F.Tree c.args.tree.now) stands

pub returns-in-Ok-clause-again : goal.returns-in-Ok-clause-again
returns-in-Ok-clause-again g c t resume asked first before n plan stop stands =
    let is = sym c.in-Ok.ensures.answer ∙ asked in
    c.carry_out.ensures.again t resume is first before n plan stop stands

pub returns-in-Err-OutOfMemory-clause-again : goal.returns-in-Err-OutOfMemory-clause-again
returns-in-Err-OutOfMemory-clause-again g c t resume asked first before n plan stop stands =
    again_still first resume.target resume.source before n plan (g.F.Tree.contents c.args.tree.now) (moment_of g.F.Tree c.args.tree.now) stop stands

pub returns-in-Err-clause-again : goal.returns-in-Err-clause-again
returns-in-Err-clause-again g c t resume asked first before n plan stop stands =
    again_still first resume.target resume.source before n plan (g.F.Tree.contents c.args.tree.now) (moment_of g.F.Tree c.args.tree.now) stop stands

pub returns-in-Ok-clause-tries : goal.returns-in-Ok-clause-tries
returns-in-Ok-clause-tries g c t resume asked = c.carry_out.ensures.tries t resume (sym c.in-Ok.ensures.answer ∙ asked)

pub returns-in-Err-OutOfMemory-clause-tries : goal.returns-in-Err-OutOfMemory-clause-tries
returns-in-Err-OutOfMemory-clause-tries g c t resume asked = tries_unmade resume (g.F.Tree.contents c.args.tree.now) (g.F.Tree.calls c.args.tree.now)

pub returns-in-Err-clause-tries : goal.returns-in-Err-clause-tries
returns-in-Err-clause-tries g c t resume asked =
    tries_refused resume (g.F.Tree.contents c.args.tree.now) (g.F.Tree.calls c.args.tree.now) c.in-Err.fault c.words_cause.result c.words_cause.ensures

pub returns-in-Ok-clause-restartable : goal.returns-in-Ok-clause-restartable
returns-in-Ok-clause-restartable g c t words asked stands = c.carry_out.ensures.restartable t words (sym c.in-Ok.ensures.answer ∙ asked) stands

pub returns-in-Err-OutOfMemory-clause-restartable : goal.returns-in-Err-OutOfMemory-clause-restartable
returns-in-Err-OutOfMemory-clause-restartable g c t words asked stands =
    stopped_still (handed_in g.M.Manager c.args.custom) words (g.F.Tree.contents c.args.tree.now) (moment_of g.F.Tree c.args.tree.now) stands

pub returns-in-Err-clause-restartable : goal.returns-in-Err-clause-restartable
returns-in-Err-clause-restartable g c t words asked stands =
    stopped_still (handed_in g.M.Manager c.args.custom) words (g.F.Tree.contents c.args.tree.now) (moment_of g.F.Tree c.args.tree.now) stands

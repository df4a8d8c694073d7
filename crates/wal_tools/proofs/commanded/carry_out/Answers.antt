use Rattle.std.proofs.Common.{FitsSigned, Ok, rules, w64}
use Rattle.rmgr_hooks.specs.Custom.{handed_in}
use Rattle.std.proofs.lemmas.Int.{to_z-of_z}
use Rattle.acts.specs.Acts.{sunk}
use Rattle.cluster_tree.specs.Frame.{moment_of}
use Rattle.run_acts.specs.Causes.{cause_of}
use Rattle.wal_tools.proofs.RunLemmas.{at_time, beside_at, dried_cleanup, dried_reset, dried_rewind, of_archivecleanup, of_controldata, of_pair, of_resetwal, of_rewind, of_waldump, of_walcompare, of_walreplay, pair_may, paired_at, replay_may, replayed_at, rewound_at, same_at, stays_at}
use Rattle.wal_tools.proofs.RestartLemmas.{durable_restart, left_of_restart, of_restart, restart_may, restart_stays, restart_stopped, restarted_at}
use Rattle.wal_tools.proofs.ResumeLemmas.{dried_resume, durable_resume, left_of_resume, of_resume, resumed_at}
use Rattle.wal_tools.proofs.ResumableLemmas.{again_resume, resumable_resume, resumable_rewind, tries_resume}
use Rattle.wal_tools.proofs.StopLemmas.{durable_replay, durable_reset, durable_rewind, left_of_cleanup, left_of_pair, left_of_replay, left_of_reset, left_of_rewind, read_left}
use Rattle.wal_tools.proofs.commanded.carry_out.Goals as goal

pub returns-in-Rewind-clause-carries : goal.returns-in-Rewind-clause-carries
returns-in-Rewind-clause-carries g c =
    let fits : FitsSigned w64 c.args.now = search rules in
    at_time _ g.F.Tree.tells (g.F.Tree.contents c.args.tree.now) (Ok c.args.command.now) (to_z-of_z w64 c.args.now fits)
    (of_rewind _ g.F.Tree.tells (g.F.Tree.contents c.args.tree.now) _ c.in-Rewind.is
    (c.rewind.ensures.carries g.O.Sink.tells (sunk (g.O.Sink.written c.args.out.now) (g.O.Sink.failed_writes c.args.out.now))))

pub returns-in-Rewind-clause-reads : goal.returns-in-Rewind-clause-reads
returns-in-Rewind-clause-reads g c none = c.rewind.ensures.reads (dried_rewind c.in-Rewind.is none)

pub returns-in-Rewind-clause-leaves : goal.returns-in-Rewind-clause-leaves
returns-in-Rewind-clause-leaves g c t =
    let fits : FitsSigned w64 c.args.now = search rules in
    rewound_at (handed_in g.M.Manager c.args.custom) c.rewind.result g.O.Sink.tells (g.F.Tree.contents c.args.tree.now) (g.F.Tree.contents c.rewind.new.tree) (g.O.Sink.written c.args.out.now) (g.O.Sink.written c.args.out.now) c.in-Rewind.is (to_z-of_z w64 c.args.now fits) (c.rewind.ensures.rewound t)

pub returns-in-Controldata-clause-carries : goal.returns-in-Controldata-clause-carries
returns-in-Controldata-clause-carries g c =
    of_controldata _ g.F.Tree.tells (g.F.Tree.contents c.args.tree.now) c.args.now c.in-Controldata.is
    (c.controldata.ensures.carries g.E.Sink.tells (sunk (g.E.Sink.written c.args.err.now) (g.E.Sink.failed_writes c.args.err.now)))

pub returns-in-Waldump-clause-carries : goal.returns-in-Waldump-clause-carries
returns-in-Waldump-clause-carries g c =
    of_waldump _ g.F.Tree.tells (g.F.Tree.contents c.args.tree.now) c.args.now c.in-Waldump.is
    (c.waldump.ensures.carries g.E.Sink.tells (sunk (g.E.Sink.written c.args.err.now) (g.E.Sink.failed_writes c.args.err.now)))

pub returns-in-Rewind-clause-blames : goal.returns-in-Rewind-clause-blames
returns-in-Rewind-clause-blames g c = c.rewind.ensures.blames (g.O.Sink.failed_writes c.args.out.now)

pub returns-in-Controldata-clause-blames : goal.returns-in-Controldata-clause-blames
returns-in-Controldata-clause-blames g c = c.controldata.ensures.blames (g.E.Sink.failed_writes c.args.err.now)

pub returns-in-Waldump-clause-blames : goal.returns-in-Waldump-clause-blames
returns-in-Waldump-clause-blames g c = c.waldump.ensures.blames (g.E.Sink.failed_writes c.args.err.now)

pub returns-in-Resetwal-clause-carries : goal.returns-in-Resetwal-clause-carries
returns-in-Resetwal-clause-carries g c =
    let fits : FitsSigned w64 c.args.now = search rules in
    at_time _ g.F.Tree.tells (g.F.Tree.contents c.args.tree.now) (Ok c.args.command.now) (to_z-of_z w64 c.args.now fits)
    (of_resetwal _ g.F.Tree.tells (g.F.Tree.contents c.args.tree.now) _ c.in-Resetwal.is
    (c.resetwal.ensures.carries g.E.Sink.tells (sunk (g.E.Sink.written c.args.err.now) (g.E.Sink.failed_writes c.args.err.now))))

pub returns-in-Resetwal-clause-blames : goal.returns-in-Resetwal-clause-blames
returns-in-Resetwal-clause-blames g c = c.resetwal.ensures.blames (g.E.Sink.failed_writes c.args.err.now)

pub returns-in-Resetwal-clause-reads : goal.returns-in-Resetwal-clause-reads
returns-in-Resetwal-clause-reads g c none = c.resetwal.ensures.reads (dried_reset c.in-Resetwal.is none)

pub returns-in-Archivecleanup-clause-carries : goal.returns-in-Archivecleanup-clause-carries
returns-in-Archivecleanup-clause-carries g c =
    of_archivecleanup _ g.F.Tree.tells (g.F.Tree.contents c.args.tree.now) c.args.now c.in-Archivecleanup.is
    c.archivecleanup.ensures.carries

pub returns-in-Archivecleanup-clause-reads : goal.returns-in-Archivecleanup-clause-reads
returns-in-Archivecleanup-clause-reads g c none = c.archivecleanup.ensures.reads (dried_cleanup c.in-Archivecleanup.is none)

pub returns-in-Walreplay-clause-carries : goal.returns-in-Walreplay-clause-carries
returns-in-Walreplay-clause-carries g c =
    of_walreplay _ g.F.Tree.tells (g.F.Tree.contents c.args.tree.now) c.args.now c.in-Walreplay.is
    (c.walreplay.ensures.carries g.E.Sink.tells (sunk (g.E.Sink.written c.args.err.now) (g.E.Sink.failed_writes c.args.err.now)))

pub returns-in-Walreplay-clause-blames : goal.returns-in-Walreplay-clause-blames
returns-in-Walreplay-clause-blames g c = c.walreplay.ensures.blames (g.E.Sink.failed_writes c.args.err.now)

pub returns-in-Walreplay-clause-reads : goal.returns-in-Walreplay-clause-reads
returns-in-Walreplay-clause-reads g c none = absurd (none (replay_may c.in-Walreplay.is))

pub returns-in-Walreplay-clause-leaves : goal.returns-in-Walreplay-clause-leaves
returns-in-Walreplay-clause-leaves g c t =
    replayed_at (handed_in g.M.Manager c.args.custom) c.walreplay.result _ g.O.Sink.tells (g.F.Tree.contents c.args.tree.now) (g.F.Tree.contents c.walreplay.new.tree)
    (g.O.Sink.written c.args.out.now) (g.O.Sink.written c.walreplay.new.out) c.in-Walreplay.is (c.walreplay.ensures.replayed t)

pub returns-in-Walreplay-clause-stays : goal.returns-in-Walreplay-clause-stays
returns-in-Walreplay-clause-stays g c t =
    stays_at (handed_in g.M.Manager c.args.custom) (g.F.Tree.contents c.args.tree.now) (g.F.Tree.contents c.walreplay.new.tree) c.in-Walreplay.is (c.walreplay.ensures.stays t)

pub returns-in-Walcompare-clause-carries : goal.returns-in-Walcompare-clause-carries
returns-in-Walcompare-clause-carries g c =
    of_walcompare _ g.F.Tree.tells (g.F.Tree.contents c.args.tree.now) c.args.now c.in-Walcompare.is
    (c.walcompare.ensures.carries g.E.Sink.tells (sunk (g.E.Sink.written c.args.err.now) (g.E.Sink.failed_writes c.args.err.now)))

pub returns-in-Walcompare-clause-blames : goal.returns-in-Walcompare-clause-blames
returns-in-Walcompare-clause-blames g c = c.walcompare.ensures.blames (g.E.Sink.failed_writes c.args.err.now)

pub returns-in-Walcompare-clause-leaves : goal.returns-in-Walcompare-clause-leaves
returns-in-Walcompare-clause-leaves g c t =
    same_at (handed_in g.M.Manager c.args.custom) c.walcompare.result _ g.O.Sink.tells (g.F.Tree.contents c.args.tree.now) (g.F.Tree.contents c.walcompare.new.tree)
    (g.O.Sink.written c.args.out.now) (g.O.Sink.written c.walcompare.new.out) c.in-Walcompare.is (c.walcompare.ensures.same t)

pub returns-in-Rewind-clause-stops : goal.returns-in-Rewind-clause-stops
returns-in-Rewind-clause-stops g c t =
    let fits : FitsSigned w64 c.args.now = search rules in
    left_of_rewind (handed_in g.M.Manager c.args.custom) (moment_of g.F.Tree c.args.tree.now) (g.F.Tree.stops c.args.tree.now) (g.F.Tree.stops c.rewind.new.tree) c.in-Rewind.is (to_z-of_z w64 c.args.now fits) (c.rewind.ensures.stops t)

pub returns-in-Controldata-clause-stops : goal.returns-in-Controldata-clause-stops
returns-in-Controldata-clause-stops g c t = read_left (handed_in g.M.Manager c.args.custom) g.F.Tree (Ok c.args.command.now) c.args.now c.args.tree.now c.controldata.new.tree c.controldata.ensures.reads

pub returns-in-Waldump-clause-stops : goal.returns-in-Waldump-clause-stops
returns-in-Waldump-clause-stops g c t = read_left (handed_in g.M.Manager c.args.custom) g.F.Tree (Ok c.args.command.now) c.args.now c.args.tree.now c.waldump.new.tree c.waldump.ensures.reads

pub returns-in-Resetwal-clause-stops : goal.returns-in-Resetwal-clause-stops
returns-in-Resetwal-clause-stops g c t =
    let fits : FitsSigned w64 c.args.now = search rules in
    left_of_reset (handed_in g.M.Manager c.args.custom) (moment_of g.F.Tree c.args.tree.now) (g.F.Tree.stops c.args.tree.now) (g.F.Tree.stops c.resetwal.new.tree) c.in-Resetwal.is (to_z-of_z w64 c.args.now fits) (c.resetwal.ensures.stops t)

pub returns-in-Archivecleanup-clause-stops : goal.returns-in-Archivecleanup-clause-stops
returns-in-Archivecleanup-clause-stops g c t = left_of_cleanup (handed_in g.M.Manager c.args.custom) c.args.now (moment_of g.F.Tree c.args.tree.now) (g.F.Tree.stops c.args.tree.now) (g.F.Tree.stops c.archivecleanup.new.tree) c.in-Archivecleanup.is (c.archivecleanup.ensures.stops t)

pub returns-in-Walreplay-clause-stops : goal.returns-in-Walreplay-clause-stops
returns-in-Walreplay-clause-stops g c t = left_of_replay (handed_in g.M.Manager c.args.custom) c.args.now (moment_of g.F.Tree c.args.tree.now) (g.F.Tree.stops c.args.tree.now) (g.F.Tree.stops c.walreplay.new.tree) c.in-Walreplay.is (c.walreplay.ensures.stops t)

pub returns-in-Walcompare-clause-stops : goal.returns-in-Walcompare-clause-stops
returns-in-Walcompare-clause-stops g c t = read_left (handed_in g.M.Manager c.args.custom) g.F.Tree (Ok c.args.command.now) c.args.now c.args.tree.now c.walcompare.new.tree c.walcompare.ensures.reads

pub returns-in-Rewind-clause-durable : goal.returns-in-Rewind-clause-durable
returns-in-Rewind-clause-durable g c t =
    let fits : FitsSigned w64 c.args.now = search rules in
    durable_rewind c.rewind.result (g.F.Tree.contents c.args.tree.now) (moment_of g.F.Tree c.rewind.new.tree) c.in-Rewind.is (to_z-of_z w64 c.args.now fits) (c.rewind.ensures.synced t)

pub returns-in-Resetwal-clause-durable : goal.returns-in-Resetwal-clause-durable
returns-in-Resetwal-clause-durable g c t = durable_reset c.resetwal.result c.args.now (g.F.Tree.contents c.args.tree.now) (moment_of g.F.Tree c.resetwal.new.tree) c.in-Resetwal.is (c.resetwal.ensures.synced t)

pub returns-in-Walreplay-clause-durable : goal.returns-in-Walreplay-clause-durable
returns-in-Walreplay-clause-durable g c t = durable_replay c.walreplay.result c.args.now (g.F.Tree.contents c.args.tree.now) (moment_of g.F.Tree c.walreplay.new.tree) c.in-Walreplay.is (c.walreplay.ensures.synced t)

pub returns-in-Pair-clause-carries : goal.returns-in-Pair-clause-carries
returns-in-Pair-clause-carries g c =
    of_pair _ g.F.Tree.tells (g.F.Tree.contents c.args.tree.now) c.args.now c.in-Pair.is
    (c.pair.ensures.carries g.E.Sink.tells (sunk (g.E.Sink.written c.args.err.now) (g.E.Sink.failed_writes c.args.err.now)))

pub returns-in-Pair-clause-blames : goal.returns-in-Pair-clause-blames
returns-in-Pair-clause-blames g c = c.pair.ensures.blames (g.E.Sink.failed_writes c.args.err.now)

pub returns-in-Pair-clause-reads : goal.returns-in-Pair-clause-reads
returns-in-Pair-clause-reads g c none = absurd (none (pair_may c.in-Pair.is))

pub returns-in-Pair-clause-leaves : goal.returns-in-Pair-clause-leaves
returns-in-Pair-clause-leaves g c t =
    paired_at (handed_in g.M.Manager c.args.custom) c.pair.result _ g.O.Sink.tells (g.F.Tree.contents c.args.tree.now) (g.F.Tree.contents c.pair.new.tree)
    (g.O.Sink.written c.args.out.now) (g.O.Sink.written c.pair.new.out) c.in-Pair.is (c.pair.ensures.leaves t)

pub returns-in-Pair-clause-stays : goal.returns-in-Pair-clause-stays
returns-in-Pair-clause-stays g c t =
    beside_at (handed_in g.M.Manager c.args.custom) (g.F.Tree.contents c.args.tree.now) (g.F.Tree.contents c.pair.new.tree) (cause_of c.pair.result) c.in-Pair.is (c.pair.ensures.beside t)

pub returns-in-Pair-clause-stops : goal.returns-in-Pair-clause-stops
returns-in-Pair-clause-stops g c t = left_of_pair (handed_in g.M.Manager c.args.custom) c.args.now (moment_of g.F.Tree c.args.tree.now) (g.F.Tree.stops c.args.tree.now) (g.F.Tree.stops c.pair.new.tree) c.in-Pair.is (c.pair.ensures.stops t)

pub returns-in-Resume-clause-carries : goal.returns-in-Resume-clause-carries
returns-in-Resume-clause-carries g c =
    let fits : FitsSigned w64 c.args.now = search rules in
    at_time _ g.F.Tree.tells (g.F.Tree.contents c.args.tree.now) (Ok c.args.command.now) (to_z-of_z w64 c.args.now fits)
    (of_resume c.in-Resume.is _ g.F.Tree.tells (g.F.Tree.contents c.args.tree.now) _
    (c.resume.ensures.carries g.O.Sink.tells (sunk (g.O.Sink.written c.args.out.now) (g.O.Sink.failed_writes c.args.out.now))))

pub returns-in-Resume-clause-reads : goal.returns-in-Resume-clause-reads
returns-in-Resume-clause-reads g c none = c.resume.ensures.reads (dried_resume c.in-Resume.is none)

pub returns-in-Resume-clause-blames : goal.returns-in-Resume-clause-blames
returns-in-Resume-clause-blames g c = c.resume.ensures.blames (g.O.Sink.failed_writes c.args.out.now)

pub returns-in-Resume-clause-leaves : goal.returns-in-Resume-clause-leaves
returns-in-Resume-clause-leaves g c t =
    let fits : FitsSigned w64 c.args.now = search rules in
    resumed_at c.in-Resume.is (to_z-of_z w64 c.args.now fits) (handed_in g.M.Manager c.args.custom) c.resume.result g.O.Sink.tells (g.F.Tree.contents c.args.tree.now) (g.F.Tree.contents c.resume.new.tree) (g.O.Sink.written c.args.out.now) (g.O.Sink.written c.args.out.now) (c.resume.ensures.resumed t)

pub returns-in-Resume-clause-stops : goal.returns-in-Resume-clause-stops
returns-in-Resume-clause-stops g c t =
    let fits : FitsSigned w64 c.args.now = search rules in
    left_of_resume c.in-Resume.is (to_z-of_z w64 c.args.now fits) (handed_in g.M.Manager c.args.custom) (moment_of g.F.Tree c.args.tree.now) (g.F.Tree.stops c.args.tree.now) (g.F.Tree.stops c.resume.new.tree) (c.resume.ensures.stops t)

pub returns-in-Resume-clause-durable : goal.returns-in-Resume-clause-durable
returns-in-Resume-clause-durable g c t =
    let fits : FitsSigned w64 c.args.now = search rules in
    durable_resume c.in-Resume.is (to_z-of_z w64 c.args.now fits) c.resume.result (g.F.Tree.contents c.args.tree.now) (moment_of g.F.Tree c.resume.new.tree) (c.resume.ensures.synced t)

pub returns-in-Rewind-clause-resumable : goal.returns-in-Rewind-clause-resumable
returns-in-Rewind-clause-resumable g c t rewind asked stands =
    let fits : FitsSigned w64 c.args.now = search rules in
    resumable_rewind (g.F.Tree.contents c.args.tree.now) (g.F.Tree.stops c.args.tree.now) (g.F.Tree.stops c.rewind.new.tree) c.in-Rewind.is (to_z-of_z w64 c.args.now fits) (c.rewind.ensures.resumable t stands) rewind asked

pub returns-in-Resume-clause-fresh : goal.returns-in-Resume-clause-fresh
returns-in-Resume-clause-fresh g c t resume asked none stands =
    let fits : FitsSigned w64 c.args.now = search rules in
    resumable_resume (g.F.Tree.contents c.args.tree.now) (g.F.Tree.stops c.args.tree.now) (g.F.Tree.stops c.resume.new.tree) c.in-Resume.is (to_z-of_z w64 c.args.now fits) (λ free. c.resume.ensures.resumable t free stands) resume asked none

pub returns-in-Resume-clause-again : goal.returns-in-Resume-clause-again
returns-in-Resume-clause-again g c t resume asked first before n plan stop stands =
    again_resume (g.F.Tree.contents c.args.tree.now) (g.F.Tree.stops c.args.tree.now) (g.F.Tree.stops c.resume.new.tree) c.in-Resume.is (λ first before n plan stop. c.resume.ensures.again t first before n plan stop stands)
    resume asked first before n plan stop

pub returns-in-Resume-clause-tries : goal.returns-in-Resume-clause-tries
returns-in-Resume-clause-tries g c t resume asked =
    tries_resume (g.F.Tree.contents c.args.tree.now) (g.F.Tree.calls c.args.tree.now) (g.F.Tree.calls c.resume.new.tree) (cause_of c.resume.result) c.in-Resume.is (c.resume.ensures.tries t) resume asked

pub returns-in-Restart-clause-carries : goal.returns-in-Restart-clause-carries
returns-in-Restart-clause-carries g c =
    of_restart c.in-Restart.is _ g.F.Tree.tells (g.F.Tree.contents c.args.tree.now) c.args.now
    (c.restart_replay.ensures.carries g.E.Sink.tells (sunk (g.E.Sink.written c.args.err.now) (g.E.Sink.failed_writes c.args.err.now)))

pub returns-in-Restart-clause-blames : goal.returns-in-Restart-clause-blames
returns-in-Restart-clause-blames g c = c.restart_replay.ensures.blames (g.E.Sink.failed_writes c.args.err.now)

pub returns-in-Restart-clause-reads : goal.returns-in-Restart-clause-reads
returns-in-Restart-clause-reads g c none = absurd (none (restart_may c.in-Restart.is))

pub returns-in-Restart-clause-leaves : goal.returns-in-Restart-clause-leaves
returns-in-Restart-clause-leaves g c t =
    restarted_at c.in-Restart.is (handed_in g.M.Manager c.args.custom) c.restart_replay.result _ g.O.Sink.tells (g.F.Tree.contents c.args.tree.now) (g.F.Tree.contents c.restart_replay.new.tree)
    (g.O.Sink.written c.args.out.now) (g.O.Sink.written c.restart_replay.new.out) (c.restart_replay.ensures.restarted t)

pub returns-in-Restart-clause-stays : goal.returns-in-Restart-clause-stays
returns-in-Restart-clause-stays g c t =
    restart_stays c.in-Restart.is (handed_in g.M.Manager c.args.custom) (g.F.Tree.contents c.args.tree.now) (g.F.Tree.contents c.restart_replay.new.tree) (cause_of c.restart_replay.result) (c.restart_replay.ensures.stays t)

pub returns-in-Restart-clause-stops : goal.returns-in-Restart-clause-stops
returns-in-Restart-clause-stops g c t =
    left_of_restart c.in-Restart.is (handed_in g.M.Manager c.args.custom) c.args.now (moment_of g.F.Tree c.args.tree.now) (g.F.Tree.stops c.args.tree.now) (g.F.Tree.stops c.restart_replay.new.tree) (c.restart_replay.ensures.stops t)

pub returns-in-Restart-clause-durable : goal.returns-in-Restart-clause-durable
returns-in-Restart-clause-durable g c t =
    durable_restart c.in-Restart.is c.restart_replay.result c.args.now (g.F.Tree.contents c.args.tree.now) (moment_of g.F.Tree c.restart_replay.new.tree) (c.restart_replay.ensures.synced t)

pub returns-in-Restart-clause-restartable : goal.returns-in-Restart-clause-restartable
returns-in-Restart-clause-restartable g c t words asked stands =
    restart_stopped c.in-Restart.is (handed_in g.M.Manager c.args.custom) (g.F.Tree.contents c.args.tree.now) (g.F.Tree.stops c.args.tree.now) (g.F.Tree.stops c.restart_replay.new.tree) (c.restart_replay.ensures.left t stands) words asked

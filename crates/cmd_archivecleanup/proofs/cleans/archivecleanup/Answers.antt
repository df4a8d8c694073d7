use Rattle.std.proofs.Common.{inl, inr}
use Rattle.acts.specs.Acts.{sunk}
use Rattle.run_acts.proofs.UnseenSteps.{told_wet, unseen_by, unseen_seen}
use Rattle.cmd_archivecleanup.proofs.cleans.archivecleanup.Goals as goal

pub returns-then-words-clause-carries : goal.returns-then-words-clause-carries
returns-then-words-clause-carries g c = unseen_seen (inr c.if-words.true) (c.name_files.ensures.carries g.E.Sink.tells (sunk (g.E.Sink.written c.args.err.now) (g.E.Sink.failed_writes c.args.err.now)))

pub returns-else-words-clause-carries : goal.returns-else-words-clause-carries
returns-else-words-clause-carries g c =
    unseen_by (told_wet c.args.words.now.dry_run c.if-words.false) (λ told. inl told) (c.remove_files.ensures.carries g.O.Sink.tells (sunk (g.O.Sink.written c.args.out.now) (g.O.Sink.failed_writes c.args.out.now)))

pub returns-then-words-clause-blames : goal.returns-then-words-clause-blames
returns-then-words-clause-blames g c = c.name_files.ensures.blames (g.E.Sink.failed_writes c.args.err.now)

pub returns-else-words-clause-blames : goal.returns-else-words-clause-blames
returns-else-words-clause-blames g c = c.remove_files.ensures.blames (g.O.Sink.failed_writes c.args.out.now)

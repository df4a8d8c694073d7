use Rattle.std.proofs.Common.{◌≡◌, None, Ok, refl, subst}
use Rattle.rmgr_hooks.specs.Custom.{handed_in}
use Rattle.cluster_tree.specs.Contents.{Contents}
use Rattle.clusters.specs.RootHistory.{history_at}
use Rattle.wal_base.specs.Segment.{bytes_of}
use Rattle.wal_records.specs.Further.{pages_of}
use Rattle.wal_records.specs.Log.{end_after, log_of}
use Rattle.replay_start.specs.Faults.{told_by}
use Rattle.replay_start.specs.Scanned.{log_refusal}
use Rattle.replay_start.proofs.StageLemmas.{label_start}
use Rattle.replay_start.proofs.checking.check_label.Goals as goal

pub returns-clause-exact : goal.returns-clause-exact
returns-clause-exact g c = λ told.
    let contents = g.F.Tree.contents c.args.tree.now in
    let log = c.in_ok-cursor.cursor.log in
    let passed = subst (λ (x : Contents). log_refusal (handed_in g.M.Manager c.args.custom) c.args.root.now c.args.control c.args.label (log_of (pages_of log x) (bytes_of log.size) c.args.label.start.0).records ≡ None)
    c.history_at.ensures.reads.same (c.in_ok-end.ensures.answer told) in
    let end = subst (λ (x : Contents). c.in_ok-end.end.0 ≡ end_after c.args.label.start.0 (log_of (pages_of log x) (bytes_of log.size) c.args.label.start.0).records)
    c.history_at.ensures.reads.same (c.in_ok-end.ensures.end told) in
    let history = subst (λ tli. told_by (history_at contents c.args.root.now tli) ≡ Ok c.in_ok-history.history) c.timeline.ensures (c.in_ok-history.ensures.exact told) in (
      _,
      label_start _ contents c.args.root.now c.args.control c.args.label c.in_ok-history.history log history c.in_ok-cursor.ensures.log passed,
      record { control = refl; label = refl; log = c.check_log.ensures.log; end = end },
    )

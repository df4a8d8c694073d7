use Rattle.std.proofs.Common.{[], subst}
use Rattle.rmgr_hooks.specs.Custom.{handed_in}
use Rattle.first_effects.specs.Gathered.{Follows}
use Rattle.wal_base.specs.Segment.{bytes_of}
use Rattle.wal_records.specs.Further.{pages_of}
use Rattle.wal_records.specs.Log.{Log, log_of}
use Rattle.restart_start.specs.Gathered.{splits_of}
use Rattle.restart_start.specs.Records.{records_from}
use Rattle.restart_start.proofs.gather.first_changed.Goals as goal

pub returns-clause-exact : goal.returns-clause-exact
returns-clause-exact g c = λ told.
    let contents = g.F.Tree.contents c.args.tree.now in
    let custom = handed_in g.M.Manager c.args.custom in
    c.least_changed.ensures.least custom (splits_of (records_from c.args.checked.now contents))
    (subst (λ (l : Log). Follows custom (splits_of l.records) c.gather_all.new.firsts) {y = log_of (pages_of c.args.checked.now.cursor.log contents) (bytes_of c.args.checked.now.cursor.log.size) c.args.checked.now.label.start.0} (c.go_to.ensures.starts contents) (c.in_ok-gather_all.ensures.all told [] (c.new-firsts.ensures custom)))

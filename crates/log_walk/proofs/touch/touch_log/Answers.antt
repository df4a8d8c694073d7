use Rattle.wal_base.specs.Segment.{bytes_of}
use Rattle.wal_records.specs.Further.{pages_of}
use Rattle.wal_records.specs.Log.{log_of}
use Rattle.log_walk.specs.Needed.{needed}
use Rattle.log_walk.proofs.TouchLemmas.{named_has, whole_refused, whole_touched}
use Rattle.log_walk.proofs.touch.touch_log.Goals as goal

pub returns-in-Ok-clause-exact : goal.returns-in-Ok-clause-exact
returns-in-Ok-clause-exact g c = λ told.
    let contents = g.F.Tree.contents c.args.tree.now in
    let log = log_of (pages_of c.args.cursor.now.log contents) (bytes_of c.args.cursor.now.log.size) c.args.redo.0 in
    (whole_touched c.args.end.0 log c.go_to.new.self contents c.new-touched.result c.touch_all.new.touched (c.go_to.ensures.starts contents) c.new-touched.ensures (c.in-Ok.ensures.all told)).refusal

pub returns-in-Ok-clause-marks : goal.returns-in-Ok-clause-marks
returns-in-Ok-clause-marks g c = λ told rel block.
    let contents = g.F.Tree.contents c.args.tree.now in
    let log = log_of (pages_of c.args.cursor.now.log contents) (bytes_of c.args.cursor.now.log.size) c.args.redo.0 in
    named_has (needed c.args.end.0 log) c.touch_all.new.touched
    (whole_touched c.args.end.0 log c.go_to.new.self contents c.new-touched.result c.touch_all.new.touched (c.go_to.ensures.starts contents) c.new-touched.ensures (c.in-Ok.ensures.all told)).adds rel block

pub returns-in-Ok-clause-bound : goal.returns-in-Ok-clause-bound
returns-in-Ok-clause-bound g c = λ told.
    let contents = g.F.Tree.contents c.args.tree.now in
    let log = log_of (pages_of c.args.cursor.now.log contents) (bytes_of c.args.cursor.now.log.size) c.args.redo.0 in
    (whole_touched c.args.end.0 log c.go_to.new.self contents c.new-touched.result c.touch_all.new.touched (c.go_to.ensures.starts contents) c.new-touched.ensures (c.in-Ok.ensures.all told)).adds

pub returns-in-Err-clause-exact : goal.returns-in-Err-clause-exact
returns-in-Err-clause-exact g c = λ told.
    let contents = g.F.Tree.contents c.args.tree.now in
    let log = log_of (pages_of c.args.cursor.now.log contents) (bytes_of c.args.cursor.now.log.size) c.args.redo.0 in
    whole_refused c.args.end.0 log c.go_to.new.self contents c.in-Err.e (c.go_to.ensures.starts contents) (c.in-Err.ensures.all told)

use Rattle.std.proofs.Common.{◌≡◌, ◌++◌, ℕ, List, [], ◌∷◌, map, refl, sym, ap, ◌∙◌, subst}
use Rattle.std.proofs.lemmas.Result.{IfOk-weaker}
use Rattle.cluster_tree.specs.Contents.{Contents}
use Rattle.wal_base.specs.Segment.{bytes_of}
use Rattle.wal_pages.specs.declared.log_path.LogPath.{LogPath}
use Rattle.wal_records.specs.Further.{pages_of}
use Rattle.wal_records.specs.Reading.{LogRecord}
use Rattle.wal_records.specs.Log.{Log, log_of}
use Rattle.wal_records.specs.Cursor.{CursorView, to_come}
use Rattle.wal_records.specs.Writer.{NewRecord, Written, in_pages}
use Rattle.wal_records.specs.Stored.{Wrote, IsPathOf, IsStored, IsReadBack, LogIsReadBack, read_as}
use Rattle.log_tests.proofs.callers.written_xids.Goals as goal

xids_as : (l : List LogRecord) → map (λ (r : LogRecord). r.header.xid) l ≡ map (λ (r : NewRecord). r.xid) (map read_as l)
xids_as [] = refl
xids_as (r ∷ rest) = ap (λ (l : List ℕ). r.header.xid ∷ l) (xids_as rest)

-- the law over what a cursor at the start has to give
to_come_back : LogIsReadBack → (log : LogPath) (contents : Contents) (w : Written) (start : ℕ) (cursor : CursorView) → start ≡ w.origin.start → IsPathOf log w.origin
    → IsStored log contents start w.end (in_pages w.bytes) → to_come cursor contents ≡ log_of (pages_of log contents) (bytes_of log.size) start
    → (records : List NewRecord) → Wrote w records → IsReadBack (to_come cursor contents) w records
to_come_back law log contents w start cursor at path stored is records wrote =
    subst (λ (l : Log). IsReadBack l w records) (sym (is ∙ ap (λ (n : ℕ). log_of (pages_of log contents) (bytes_of log.size) n) at))
    (law log contents w records wrote path (subst (λ (n : ℕ). IsStored log contents n w.end (in_pages w.bytes)) at stored))

pub returns-clause-xids : goal.returns-clause-xids
returns-clause-xids g c = λ tells at path stored.
    let contents = g.F.Tree.contents c.args.tree.now in
    IfOk-weaker c.xids_of.result _ _ (λ e given records wrote.
    let back = to_come_back c.written_log_is_read_back.ensures c.args.log contents c.args.writer.now c.args.start.0 c.in-Ok.cursor at path stored (c.in-Ok.ensures.starts contents) records wrote in
    given ∙ ap (λ (l : List ℕ). c.args.xids.now.items ++ l) (xids_as (to_come c.in-Ok.cursor contents).records ∙ ap (map (λ (r : NewRecord). r.xid)) back.read))
    (c.xids_of.ensures.xids tells)

pub returns-clause-place : goal.returns-clause-place
returns-clause-place g c = λ tells at path stored.
    let contents = g.F.Tree.contents c.args.tree.now in
    IfOk-weaker c.xids_of.result _ _ (λ e given records wrote.
    let back = to_come_back c.written_log_is_read_back.ensures c.args.log contents c.args.writer.now c.args.start.0 c.in-Ok.cursor at path stored (c.in-Ok.ensures.starts contents) records wrote in
    sym given ∙ back.place)
    (c.xids_of.ensures.place tells)

pub returns-clause-why : goal.returns-clause-why
returns-clause-why g c = λ tells at path stored.
    let contents = g.F.Tree.contents c.args.tree.now in
    IfOk-weaker c.xids_of.result _ _ (λ e given records wrote.
    let back = to_come_back c.written_log_is_read_back.ensures c.args.log contents c.args.writer.now c.args.start.0 c.in-Ok.cursor at path stored (c.in-Ok.ensures.starts contents) records wrote in
    sym given ∙ back.why)
    (c.xids_of.ensures.why tells)

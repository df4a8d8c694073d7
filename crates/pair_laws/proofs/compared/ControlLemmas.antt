-- The control file that a replay of the log of a pair's copy leaves is read again.
use Rattle.std.proofs.Common.{◌≡◌, ℕ, ◌^◌, ◌<◌, ◌≤◌, List, [], ◌∷◌, length, Option, None, Some, Ok, lit<, refl, sym, ap, ap₂, subst, arith}
use Rattle.std.specs.Prelude.{IfSome}
use Rattle.std.specs.List.{AllByRecursion}
use Rattle.block_replay.specs.Blocks.{blocks_after}
use Rattle.block_replay.specs.Faults.{of_files}
use Rattle.block_replay.specs.World.{without_gone}
use Rattle.block_refs.specs.Parts.{PartsView}
use Rattle.cluster_tree.specs.Causes.{given as handed}
use Rattle.cluster_tree.specs.Contents.{Contents}
use Rattle.cluster_tree.specs.PathValue.{PathValue}
use Rattle.control_file.specs.Admission.{IsControl, control_of}
use Rattle.control_file.specs.Reading.{timeline_of}
use Rattle.control_file.specs.Rows.{build_rows, checkpoint_rows, head_rows, recovery_rows, rows_of, setting_rows}
use Rattle.control_file.specs.Writing.{control_bytes}
use Rattle.control_file.specs.declared.checkpoint.Checkpoint.{Checkpoint}
use Rattle.control_file.specs.declared.control.Control.{Control}
use Rattle.control_file.proofs.ReadingLemmas.{ok_is}
use Rattle.control_file.proofs.TableLemmas.{fits_of_parts}
use Rattle.control_file.proofs.WritingLemmas.{control_again}
use Rattle.file_effects.specs.Done.{files_after}
use Rattle.layout.specs.Rows.{RowFits}
use Rattle.replay_control.specs.Following.{control_after, control_left, with_checkpoint, with_settings}
use Rattle.replay_core.specs.Replayed.{end_of}
use Rattle.replay_laws.proofs.LogLemmas.{parts_in}
use Rattle.replay_laws.proofs.RecordLemmas.{OkWorld, one-world_of}
use Rattle.replay_laws.proofs.WorldLemmas.{given-ok, not-refused}
use Rattle.replay_world.specs.Records.{others_after, record_after, records_after, short_refusal}
use Rattle.replay_world.specs.World.{World, blocks_of}
use Rattle.wal_base.specs.Segment.{bytes_of}
use Rattle.wal_records.specs.Again.{IsNew, log_records, new_log_record}
use Rattle.wal_records.specs.Log.{end_after}
use Rattle.wal_records.specs.Place.{place_at}
use Rattle.wal_records.specs.Reading.{LogRecord}
use Rattle.wal_records.specs.Sound.{AllNew}
use Rattle.wal_records.specs.Writer.{NewRecord, Written, appended, begun, end_from}
use Rattle.wal_records.proofs.NextLemmas.{grown_end}
use Rattle.pair_maker.specs.Files.{control_with}
use Rattle.pair_maker.specs.Logs.{common_place, is_megabyte, last_checkpoint, last_place, origin_of, records_of}
use Rattle.pair_maker.specs.declared.side.Side.TheVariants.{Source}
use Rattle.pair_laws.specs.Life.{side_records}
use Rattle.pair_laws.specs.Start.{copy_control, copy_start}
use Rattle.pair_laws.proofs.LifeLemmas.{all-new}
use Rattle.pair_laws.proofs.NearLemmas.{place_near}
use Rattle.pair_laws.proofs.RecordLemmas.{given}
use Rattle.pair_laws.proofs.SmallLemmas.{checkpoint_with, last_low, rows_fit, time-fits}
use Rattle.pair_laws.proofs.StepsLemmas.{as-given}
use Rattle.pair_laws.proofs.compared.SaidLemmas.{IsLow, IsSaid, all-said, last-low}

-- a control file that is read again as it was written, of files of 131072 blocks
pub record IsKept (control : Control) : Type 0 where
  pub again : control_of (control_bytes control) ≡ Ok control
  pub long : length (control_bytes control) ≡ 8192
  pub per : control.relseg ≡ 131072

-- ---- a control file of a pair, with any checkpoint of its log

-- with this checkpoint's record at this place, in a state, and consistent from a position of a timeline on
abbrev control_along : (at : ℕ) → Checkpoint → (state point timeline : ℕ) → Control
control_along at cp state point timeline = record (control_with cp) { state = state; checkPoint = at; minRecoveryPoint = point; minRecoveryPointTli = timeline }

along-fits : (at place tli xid point timeline : ℕ) → at < 2 ^ 64 → place < 2 ^ 64 → tli < 2 ^ 32 → xid < 2 ^ 64 → point < 2 ^ 64 → timeline < 2 ^ 32
    → AllByRecursion RowFits (rows_of (control_along at (checkpoint_with place tli xid) 2 point timeline))
unfolding head_rows recovery_rows setting_rows build_rows
along-fits at place tli xid point timeline a l t x p m =
    fits_of_parts (control_along at (checkpoint_with place tli xid) 2 point timeline) (lit< tt, (lit< tt, (lit< tt, (lit< tt, (time-fits, (a, tt))))))
    (rows_fit 40 place tli xid l t x)
    (lit< tt, (p, (m, (lit< tt, (lit< tt, (lit< tt, tt))))))
    (lit< tt, (lit< tt, (lit< tt, (lit< tt, (lit< tt, (lit< tt, (lit< tt, (lit< tt, tt))))))))
    (lit< tt, (lit< tt, (lit< tt, (lit< tt, (lit< tt, (lit< tt, (lit< tt, (lit< tt, (lit< tt, (lit< tt, (lit< tt, (lit< tt, (refl, tt)))))))))))))

along-holds : (at place tli xid point timeline : ℕ) → IsControl (control_along at (checkpoint_with place tli xid) 2 point timeline)
unfolding rows_of head_rows checkpoint_rows recovery_rows setting_rows build_rows
along-holds at place tli xid point timeline = record { version = refl; catalog = refl; shape = (refl, (refl, (refl, (refl, (refl, (refl, (refl, (refl, (refl, (refl, (refl, (refl, (refl, (refl, (refl, (refl, (refl, (refl, (refl, (refl, (refl, (refl, (refl, (refl, (refl, (refl, (refl, (refl, (refl, (refl, (refl, (refl, (refl, (refl, (refl, (refl, (refl, (refl, (refl, (refl, (refl, (is_megabyte, (refl, (refl, (refl, (refl, (refl, (refl, (refl, tt))))))))))))))))))))))))))))))))))))))))))))))))) }

again-kept : (control : Control) → AllByRecursion RowFits (rows_of control) → IsControl control → control.relseg ≡ 131072 → IsKept control
again-kept control fits holds per =
    let again = control_again control fits holds in
    record { again = again; long = (ok_is (control_bytes control) control again).size; per = per }

along-kept : (at : ℕ) (cp : Checkpoint) (point timeline : ℕ) → at < 2 ^ 64 → IsLow cp → point < 2 ^ 64 → timeline < 2 ^ 32 → IsKept (control_along at cp 2 point timeline)
along-kept at cp point timeline a low p m =
    subst (λ c. IsKept (control_along at c 2 point timeline)) (sym low.is)
    (again-kept (control_along at (checkpoint_with low.place low.tli low.xid) 2 point timeline)
    (along-fits at low.place low.tli low.xid point timeline a low.place_low low.tli_low low.xid_low p m)
    (along-holds at low.place low.tli low.xid point timeline) refl)

-- ---- the control file that replay takes along

pub record IsAlong (control : Control) : Type 0 where
  pub at : ℕ
  pub cp : Checkpoint
  pub point : ℕ
  pub is : control ≡ control_along at cp 5 point 2
  pub start : at < 2 ^ 64
  pub low : IsLow cp

left-kept : (tli end : ℕ) (control : Control) → tli < 2 ^ 32 → end < 2 ^ 64 → IsAlong control → IsKept (control_left tli end control)
unfolding control_left
left-kept tli end control t e along =
    subst (λ c. IsKept (control_left tli end c)) (sym along.is) (along-kept along.at along.cp end tli along.start along.low e t)

checkpoint-along : (start : ℕ) (said : Option Checkpoint) (control : Control) → start < 2 ^ 64 → IfSome said IsLow → IsAlong control → IsAlong (with_checkpoint start said control)
checkpoint-along start None control low is along = along
checkpoint-along start (Some cp) control low is along =
    record { at = start; cp = cp; point = along.point; is = ap (with_checkpoint start (Some cp)) along.is; start = low; low = is }

-- ---- behind a record

after-said : (start end : ℕ) (before : Option ℕ) (n : NewRecord) (control : Control) (says : IsSaid n)
    → control_after (given start end before n) says.whole.parts control ≡ with_checkpoint start says.said control
unfolding control_after
after-said start end before n control says =
    ap₂ (λ settings cp. with_settings settings (with_checkpoint start cp control)) (says.settings start end before) (says.checkpoint start end before)

after-along : (w : Written) (n : NewRecord) (control : Control) → w.end < 2 ^ 63 → IsNew w.before n → IsSaid n → IsAlong control
    → IsAlong (control_after (new_log_record w n) (parts_in (new_log_record w n)) control)
after-along w n control low new says along =
    let start = place_at (bytes_of w.origin.size) w.end in
    let end = end_from w.origin w.before w.end n in
    as-given (λ rec parts. IsAlong (control_after rec parts control)) w n says.whole new
    (subst IsAlong (sym (after-said start end w.before n control says))
    (checkpoint-along start says.said control (omega (arith, low, place_near (bytes_of w.origin.size) w.end)) says.low along))

-- a world's control file behind a record
control-behind : (root : PathValue) (per : ℕ) (rec : LogRecord) (parts : PartsView) (w v : World) → record_after None root per rec parts w ≡ Ok v → v.control ≡ control_after rec parts w.control
unfolding record_after
control-behind root per rec parts w v made =
    let run = (not-refused (short_refusal rec parts) (handed (blocks_after None root per rec parts (blocks_of w)) (others_after root per rec parts w)) v made).1 in
    let two = given-ok (blocks_after None root per rec parts (blocks_of w)) (others_after root per rec parts w) v run in
    let after : Contents → World = λ c. record { files = c; control = control_after rec parts w.control; skipped = without_gone rec parts two.0.skipped } in
    let last = given-ok (of_files (files_after root per rec parts two.0.files)) (λ c. OkWorld (after c)) v two.2 in
    sym (ap (λ (u : World). u.control) (one-world_of (after last.0) v last.2))

-- ---- along a log

log-along : (root : PathValue) (per : ℕ) (ns : List NewRecord) (w : Written) (u v : World) → w.end < 2 ^ 63 → AllNew w ns → AllByRecursion IsSaid ns → IsAlong u.control
    → records_after None root per (log_records w ns) u ≡ Ok v → IsAlong v.control
unfolding records_after
log-along root per [] w u v low new says along made = subst (λ (x : World). IsAlong x.control) (one-world_of u v made) along
log-along root per (n ∷ ns) w u v low new says along made =
    let rec = new_log_record w n in
    let two = given-ok (record_after None root per rec (parts_in rec) u) (records_after None root per (log_records (appended w n) ns)) v made in
    log-along root per ns (appended w n) two.0 v (omega (arith, new.1, grown_end w n)) new.2 says.1
    (subst IsAlong (sym (control-behind root per rec (parts_in rec) u two.0 two.1)) (after-along w n u.control low new.0 says.0 along)) two.2

copy-along : (seed blocks : ℕ) (control : Control) → blocks ≤ 4096 → control ≡ copy_control seed blocks → IsAlong control
copy-along seed blocks control few is =
    let place = last_place Source seed blocks in
    let low = last_low Source seed blocks few in
    record { at = place; cp = last_checkpoint Source place; point = place; is = is; start = low; low = last-low Source place low }

pub log-controls : (root : PathValue) (seed blocks tli end : ℕ) (w v : World) → blocks ≤ 4096 → tli < 2 ^ 32 → end < 2 ^ 64 → w.control ≡ copy_control seed blocks
    → records_after None root 131072 (side_records Source seed blocks) w ≡ Ok v → IsKept (control_left tli end v.control)
log-controls root seed blocks tli end w v few timeline low is made =
    left-kept tli end v.control timeline low
    (log-along root 131072 (records_of Source seed blocks) (begun (origin_of Source)) w v (lit< tt) (all-new Source seed blocks few) (all-said Source seed blocks few)
    (copy-along seed blocks w.control few is) made)

-- ---- where it ends, and its timeline

ends-low : (ns : List NewRecord) (w : Written) (start : ℕ) → start < 2 ^ 63 → AllNew w ns → end_after start (log_records w ns) < 2 ^ 63
ends-low [] w start low new = low
ends-low (n ∷ ns) w start low new = ends-low ns (appended w n) (end_from w.origin w.before w.end n) new.1 new.2

wider : (n : ℕ) → n < 2 ^ 63 → n < 2 ^ 64
wider n low = omega (arith, low)

pub end-low : (other : PathValue) (seed blocks : ℕ) → blocks ≤ 4096 → end_of (copy_start other seed blocks) < 2 ^ 64
end-low other seed blocks few =
    wider (end_of (copy_start other seed blocks)) (ends-low (records_of Source seed blocks) (begun (origin_of Source)) common_place (lit< tt) (all-new Source seed blocks few))

pub tli-low : (seed blocks : ℕ) → timeline_of (copy_control seed blocks) < 2 ^ 32
tli-low seed blocks = lit< tt

-- The records of a pair's log pass what is asked of a log before it is replayed.
use Rattle.std.proofs.Common.{◌≡◌, ℕ, ◌≤◌, ◌&&◌, ◌||◌, Bool, true, false, cond, nat_eq, nat_lt, List, [], ◌∷◌, ◌++◌, Option, None, Some, Ok, Err, map, refl, ap, ◌∙◌, arith}
use Rattle.std.specs.List.{AllByRecursion, fold, list_any}
use Rattle.std.specs.Option.{option_map, option_map_or}
use Rattle.std.proofs.lemmas.Bool.Decides.{nat_tests}
use Rattle.backup_label.specs.Text.{places_of}
use Rattle.backup_label.specs.declared.reading.LabelPlaces.{LabelPlaces}
use Rattle.block_refs.specs.Outcomes.{start_of, told}
use Rattle.block_refs.specs.Parts.{PartsView}
use Rattle.cluster_tree.specs.Causes.{first_of}
use Rattle.cluster_tree.specs.PathValue.{PathValue}
use Rattle.control_file.specs.declared.checkpoint.Checkpoint.{Checkpoint}
use Rattle.record_layouts.specs.Operation.{operation_of}
use Rattle.record_layouts.specs.Xlog.{xlog_op_of}
use Rattle.replay_control.specs.Said.{checkpoint_said}
use Rattle.replay_laws.specs.Log.{split_of}
use Rattle.replay_profile.specs.Profile as profile
use Rattle.replay_profile.specs.Profile.{first_outside, judged, judged_by, outside}
use Rattle.replay_start.specs.Faults.{of_profile}
use Rattle.replay_start.specs.Scanned.{ends_too_soon, is_labelled, log_refusal, unlabelled}
use Rattle.replay_start.specs.declared.fault.ReplayFault.TheVariants as fault
use Rattle.reset_plan.specs.NewSegment.{checkpoint_record}
use Rattle.wal_base.specs.Segment.{bytes_of}
use Rattle.wal_records.specs.Again.{IsNew, log_records, new_log_record}
use Rattle.wal_records.specs.Log.{end_after}
use Rattle.wal_records.specs.Place.{place_at}
use Rattle.wal_records.specs.Reading.{LogRecord}
use Rattle.wal_records.specs.Sound.{AllNew}
use Rattle.wal_records.specs.Writer.{NewRecord, Written, appended, begun, end_from, written}
use Rattle.wal_records.specs.declared.log_origin.LogOrigin.{LogOrigin}
use Rattle.pair_maker.specs.Files.{pair_label}
use Rattle.pair_maker.specs.Inserts.{insert_blocks, insert_record}
use Rattle.pair_maker.specs.Logs.{common_checkpoint, common_place, last_checkpoint, last_place, log_upto, origin_of, records_of, records_upto}
use Rattle.pair_maker.specs.declared.side.Side.{Side}
use Rattle.pair_maker.specs.declared.side.Side.TheVariants.{Source}
use Rattle.pair_laws.specs.Life.{side_records}
use Rattle.pair_laws.specs.Start.{copy_control}
use Rattle.pair_laws.proofs.BodyLemmas.{checkpoint-said, no_blocks}
use Rattle.pair_laws.proofs.EffectLemmas.{IsWhole, checkpoint-whole, common-is}
use Rattle.pair_laws.proofs.LifeLemmas.{all-new, all-whole}
use Rattle.pair_laws.proofs.NearLemmas.{end-up}
use Rattle.pair_laws.proofs.RecordLemmas.{given, given_in}
use Rattle.pair_laws.proofs.RunLemmas.{run-origin}
use Rattle.pair_laws.proofs.StepsLemmas.{as-given}

-- ---- all are of the profile

judged-given : (w : Written) (n : NewRecord) (whole : IsWhole n) → judged None (given_in w n) ≡ Ok whole.parts
judged-given w n whole =
    ap (λ p. judged_by None (given_in w n) (told (start_of (given_in w n)) p)) whole.read
    ∙ ap (λ b. cond b (Ok whole.parts) (Err (outside (given_in w n)))) (whole.known (place_at (bytes_of w.origin.size) w.end) (end_from w.origin w.before w.end n) w.before)

judged-read : (w : Written) (n : NewRecord) (whole : IsWhole n) → IsNew w.before n → judged None (new_log_record w n) ≡ Ok (split_of (new_log_record w n)).parts
judged-read w n whole new = as-given (λ rec parts. judged None rec ≡ Ok parts) w n whole new (judged-given w n whole)

none-outside : (ns : List NewRecord) (w : Written) → AllNew w ns → AllByRecursion IsWhole ns → first_outside None (log_records w ns) ≡ None
none-outside [] w new whole = refl
none-outside (n ∷ ns) w new whole =
    ap (λ j. profile.first_of j (first_outside None (log_records (appended w n) ns))) (judged-read w n whole.0 new.0) ∙ none-outside ns (appended w n) new.2 whole.1

-- ---- the last one ends behind its place

ends-last : (ns : List NewRecord) (n : NewRecord) (w : Written) (at : ℕ) → end_after at (log_records w (ns ++ n ∷ []))
    ≡ end_from (fold appended w ns).origin (fold appended w ns).before (fold appended w ns).end n
ends-last [] n w at = refl
ends-last (m ∷ ns) n w at = ends-last ns n (appended w m) (end_from w.origin w.before w.end m)

late-enough : (side : Side) (seed blocks at : ℕ) → last_place side seed blocks ≤ end_after at (side_records side seed blocks)
unfolding last_place log_upto written
late-enough side seed blocks at =
    let ns : List NewRecord = records_upto side seed blocks in
    let last : NewRecord = checkpoint_record (last_checkpoint side (last_place side seed blocks)) in
    let v : Written = fold appended (begun (origin_of side)) ns in
    let same : place_at (bytes_of v.origin.size) v.end ≡ place_at 0x10_0000 v.end = ap (λ (o : LogOrigin). place_at (bytes_of o.size) v.end) (run-origin ns (begun (origin_of side))) in
    omega (arith, ends-last ns last (begun (origin_of side)) at, end-up v.origin v.before v.end last, same)

not-soon : (least end : ℕ) → least ≤ end → ends_too_soon least end ≡ None
not-soon least end h =
    let no : nat_lt end least ≡ false = grind (arith, nat_tests, h) in
    ap (λ b. cond b (Some (fault.EndsTooSoon (record { 0 = end }) (record { 0 = least }))) None) no

-- ---- the first one is the label's checkpoint

abbrev label : LabelPlaces
label = places_of pair_label

said-common : (start end : ℕ) (before : Option ℕ) → checkpoint_said (given start end before (checkpoint_record common_checkpoint)) no_blocks ≡ Some common_checkpoint
unfolding checkpoint_record operation_of xlog_op_of
said-common start end before = checkpoint-said common_checkpoint common-is.fits

abbrev labels : LogRecord → PartsView → Bool
labels r parts = nat_eq r.start label.checkpoint.0 && option_map_or (λ (cp : Checkpoint). nat_eq cp.redo label.start.0) (checkpoint_said r parts) false

first-labels : (side : Side) → IsNew (begun (origin_of side)).before (checkpoint_record common_checkpoint)
    → is_labelled label (new_log_record (begun (origin_of side)) (checkpoint_record common_checkpoint)) ≡ true
first-labels side new =
    let w : Written = begun (origin_of side) in
    let n : NewRecord = checkpoint_record common_checkpoint in
    as-given (λ rec parts. labels rec parts ≡ true) w n (checkpoint-whole common_checkpoint common-is) new
    (ap (λ o. true && option_map_or (λ (cp : Checkpoint). nat_eq cp.redo label.start.0) o false) (said-common (place_at (bytes_of w.origin.size) w.end) (end_from w.origin w.before w.end n) w.before))

any-labels : (side : Side) (seed blocks : ℕ) → blocks ≤ 4096 → list_any (is_labelled label) (side_records side seed blocks) ≡ true
any-labels side seed blocks few =
    let rest : List LogRecord = log_records (appended (begun (origin_of side)) (checkpoint_record common_checkpoint))
    (map (insert_record seed) (insert_blocks side seed blocks) ++ checkpoint_record (last_checkpoint side (last_place side seed blocks)) ∷ []) in
    ap (λ b. b || list_any (is_labelled label) rest) (first-labels side (all-new side seed blocks few).0)

-- ---- all

pub unrefused : (root : PathValue) (seed blocks : ℕ) → blocks ≤ 4096 → log_refusal None root (copy_control seed blocks) label (side_records Source seed blocks) ≡ None
unfolding log_refusal first_of
unrefused root seed blocks few =
    let records : List LogRecord = side_records Source seed blocks in
    let inside : first_outside None records ≡ None = none-outside (records_of Source seed blocks) (begun (origin_of Source)) (all-new Source seed blocks few) (all-whole Source seed blocks few) in
    let soon : ends_too_soon (last_place Source seed blocks) (end_after common_place records) ≡ None = not-soon (last_place Source seed blocks) (end_after common_place records) (late-enough Source seed blocks common_place) in
    ap (λ o. first_of (option_map of_profile o ∷ ends_too_soon (last_place Source seed blocks) (end_after common_place records) ∷ unlabelled root (list_any (is_labelled label) records) ∷ [])) inside
    ∙ ap (λ o. first_of (o ∷ unlabelled root (list_any (is_labelled label) records) ∷ [])) soon
    ∙ ap (λ b. first_of (unlabelled root b ∷ [])) (any-labels Source seed blocks few)

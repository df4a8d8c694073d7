-- What the first reading of a log answers, by what was seen.
use Rattle.std.proofs.Common.{Option, ◌≡◌, ◌⊎◌, ◌∙◌, inl, inr, List, [], ◌∷◌, None, Ok, Some, option_map, ◌||◌, false, ap, sym}
use Rattle.std.specs.List.{list_any}
use Rattle.backup_label.specs.declared.reading.LabelPlaces.{LabelPlaces}
use Rattle.cluster_tree.specs.PathValue.{PathValue}
use Rattle.cluster_tree.specs.Causes.{first_of, given, unless}
use Rattle.cluster_tree.specs.Contents.{Contents}
use Rattle.clusters.specs.RootHistory.{history_at}
use Rattle.control_file.specs.Reading.{timeline_of}
use Rattle.wal_base.specs.Segment.{bytes_of}
use Rattle.wal_base.specs.declared.spans.Span.{Span}
use Rattle.wal_pages.specs.declared.log_path.LogPath.{LogPath}
use Rattle.wal_records.specs.Further.{pages_of}
use Rattle.cluster_tree.proofs.PointLemmas.{first_of-none, first_of-some}
use Rattle.control_file.specs.declared.control.Control.{Control}
use Rattle.replay_profile.specs.Profile.{first_outside}
use Rattle.wal_records.specs.Log.{end_after, log_of}
use Rattle.wal_records.specs.Reading.{LogRecord}
use Rattle.replay_start.specs.Checked.{from_label, in_log, log_with}
use Rattle.replay_start.specs.Faults.{IsFree, of_profile, told_by}
use Rattle.replay_start.specs.Scanned.{ends_too_soon, is_labelled, log_refusal, unlabelled}
use Rattle.replay_start.specs.Steps.{IsRefused, IsScanned}
use Rattle.replay_start.specs.declared.fault.ReplayFault.{ReplayFault}
use Rattle.replay_start.specs.declared.scan.Seen.{Seen}
use Rattle.rmgr_hooks.specs.Custom.{Extension}

module _ (custom : Option Extension) (root : PathValue) (control : Control) (label : LabelPlaces) (records : List LogRecord) where
  -- a record that isn't taken
  pub log_refused : (e : ReplayFault) → IsRefused custom records e → IsFree e ⊎ (log_refusal custom root control label records ≡ Some e)
  unfolding log_refusal
  log_refused e (inl free) = inl free
  log_refused e (inr is) = inr (first_of-some (option_map of_profile (first_outside custom records)) e _ is)

  -- all are: then the end and the checkpoint decide
  pub log_seen : (before after : Seen) → before.end.0 ≡ label.start.0 → before.found ≡ false → IsScanned custom label records before after
      → log_refusal custom root control label records ≡ first_of (ends_too_soon control.minRecoveryPoint after.end.0 ∷ unlabelled root after.found ∷ [])
  unfolding log_refusal
  log_seen before after start none seen =
      first_of-none (option_map of_profile (first_outside custom records)) _ (ap (option_map of_profile) seen.taken)
      ∙ ap (λ end. first_of (ends_too_soon control.minRecoveryPoint end ∷ unlabelled root (list_any (is_labelled label) records) ∷ [])) (ap (λ at. end_after at records) (sym start) ∙ seen.end)
      ∙ ap (λ found. first_of (ends_too_soon control.minRecoveryPoint after.end.0 ∷ unlabelled root found ∷ [])) (ap (λ b. b || list_any (is_labelled label) records) (sym none) ∙ seen.found)

-- the history tells where the log lies, and the log is refused by nothing
pub label_start : (custom : Option Extension) (c : Contents) (root : PathValue) (control : Control) (label : LabelPlaces) (spans : List Span) (log : LogPath)
    → told_by (history_at c root (timeline_of control)) ≡ Ok spans → log_with root control spans ≡ Some log
    → log_refusal custom root control label (log_of (pages_of log c) (bytes_of log.size) label.start.0).records ≡ None
    → from_label custom c root control label ≡ Ok (record { control = control; label = label; log = log; records = (log_of (pages_of log c) (bytes_of log.size) label.start.0).records })
unfolding from_label
label_start custom c root control label spans log told lies passed =
    ap (λ m. given m (λ s. in_log custom c root control label (log_with root control s))) told
    ∙ ap (in_log custom c root control label) lies
    ∙ ap (λ r. unless r (Ok (record { control = control; label = label; log = log; records = (log_of (pages_of log c) (bytes_of log.size) label.start.0).records }))) passed

pub ruleset log_steps = (log_refused, log_seen)

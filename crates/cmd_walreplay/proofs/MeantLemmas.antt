-- Each refusal of a cluster, before the first change, comes while the command looks.
use Rattle.std.proofs.Common.{ℕ, Bool, true, false, List, [], ◌∷◌, inr, refl, Option, None, Some, option_map, nat_lt, Result, Ok, Err}
use Rattle.rmgr_hooks.specs.Custom.{Extension}
use Rattle.std.specs.Prelude.{if◌then◌else◌, ◌==◌}
use Rattle.std.specs.List.{list_any}
use Rattle.backup_label.specs.Reading.{label_of}
use Rattle.backup_label.specs.declared.fault.LabelFault.{LabelFault}
use Rattle.backup_label.specs.declared.fault.LabelFault.TheVariants as label
use Rattle.backup_label.specs.declared.reading.LabelPlaces.{LabelPlaces}
use Rattle.cluster_tree.specs.Causes.{first_of, given, unless}
use Rattle.cluster_tree.specs.Contents.{Contents}
use Rattle.cluster_tree.specs.PathValue.{PathValue}
use Rattle.cluster_tree.specs.declared.tree.TreeFault.{TreeFault}
use Rattle.clusters.specs.Marks.{unfinished}
use Rattle.clusters.specs.RootControl.{control_at}
use Rattle.clusters.specs.RootHistory.{history_at}
use Rattle.clusters.specs.declared.fault.ClusterFault.{ClusterFault}
use Rattle.control_file.specs.Reading.{timeline_of}
use Rattle.control_file.specs.declared.control.Control.{Control}
use Rattle.replay_profile.specs.Profile.{first_outside}
use Rattle.replay_profile.specs.declared.fault.ProfileFault.{ProfileFault}
use Rattle.replay_profile.specs.declared.fault.ProfileFault.TheVariants as profile
use Rattle.wal_pages.specs.declared.log_path.LogPath.{LogPath}
use Rattle.wal_records.specs.Log.{end_after}
use Rattle.wal_records.specs.Reading.{LogRecord}
use Rattle.replay_start.specs.Checked.{checksums_on, from_control, from_label, in_log, label_at, label_in, log_with, no_hints, start_of, with_label}
use Rattle.replay_start.specs.Faults.{of_profile, told_by}
use Rattle.replay_start.specs.Scanned.{ends_too_soon, is_labelled, log_refusal, unlabelled}
use Rattle.replay_start.specs.declared.fault.ReplayFault.{ReplayFault}
use Rattle.replay_start.specs.declared.fault.ReplayFault.TheVariants as fault
use Rattle.run_acts.specs.Causes.{IsOfLook}
use Rattle.cluster_causes.proofs.CauseLemmas.{cluster_looks}
use Rattle.cmd_walreplay.specs.Walreplay.{replay_cause}

-- a refusal comes while the command looks
abbrev pub Looks : ReplayFault → Type 0
Looks f = IsOfLook (replay_cause f)

-- if there is one
abbrev MayLook : Option ReplayFault → Type 0
MayLook None = Unit {0}
MayLook (Some f) = Looks f

abbrev pub LooksIn : {A : Type 0} → Result A ReplayFault → Type 0
LooksIn (Ok v) = Unit {0}
LooksIn (Err f) = Looks f

look-unless : {A : Type 0} (o : Option ReplayFault) (r : Result A ReplayFault) → MayLook o → LooksIn r → LooksIn (unless o r)
look-unless None r looks more = more
look-unless (Some f) r looks more = looks

look-given : {A B : Type 0} (r : Result A ReplayFault) (next : A → Result B ReplayFault) → LooksIn r → ((v : A) → LooksIn (next v)) → LooksIn (given r next)
look-given (Ok v) next looks more = more v
look-given (Err f) next looks more = looks

look-first : (o : Option ReplayFault) (os : List (Option ReplayFault)) → MayLook o → MayLook (first_of os) → MayLook (first_of (o ∷ os))
unfolding first_of
look-first None os looks more = more
look-first (Some f) os looks more = looks

look-none : MayLook (first_of [])
unfolding first_of
look-none = tt

told-looks : {A : Type 0} (r : Result A ClusterFault) → LooksIn (told_by r)
told-looks (Ok v) = tt
told-looks (Err f) = cluster_looks f

marks-look : (o : Option ClusterFault) → MayLook (option_map fault.Cluster o)
marks-look None = tt
marks-look (Some f) = cluster_looks f

profile-looks : (o : Option ProfileFault) → MayLook (option_map of_profile o)
profile-looks None = tt
profile-looks (Some (profile.BadParts start offset)) = inr (inr refl)
profile-looks (Some (profile.Compressed start id)) = inr (inr refl)
profile-looks (Some (profile.NotInProfile start manager info)) = inr (inr refl)

ends-look : (least end : ℕ) → MayLook (ends_too_soon least end)
ends-look least end = by (nat_lt end least)
  where
    by : (b : Bool) → MayLook (if b then Some (fault.EndsTooSoon (record { 0 = end }) (record { 0 = least })) else None)
    by true = inr (inr refl)
    by false = tt

unlabelled-looks : (root : PathValue) (found : Bool) → MayLook (unlabelled root found)
unlabelled-looks root true = tt
unlabelled-looks root false = inr (inr refl)

log-looks : (custom : Option Extension) (root : PathValue) (control : Control) (places : LabelPlaces) (records : List LogRecord) → MayLook (log_refusal custom root control places records)
unfolding log_refusal
log-looks custom root control places records =
    look-first (option_map of_profile (first_outside custom records)) _ (profile-looks (first_outside custom records))
    (look-first (ends_too_soon control.minRecoveryPoint (end_after places.start.0 records)) _ (ends-look control.minRecoveryPoint (end_after places.start.0 records))
    (look-first (unlabelled root (list_any (is_labelled places) records)) [] (unlabelled-looks root (list_any (is_labelled places) records)) look-none))

in_log-looks : (custom : Option Extension) (c : Contents) (root : PathValue) (control : Control) (places : LabelPlaces) (o : Option LogPath) → LooksIn (in_log custom c root control places o)
in_log-looks custom c root control places None = inr (inr refl)
in_log-looks custom c root control places (Some log) = look-unless _ _ (log-looks custom root control places _) tt

label-looks : (root : PathValue) (r : Result LabelPlaces LabelFault) → LooksIn (with_label root r)
label-looks root (Ok places) = tt
label-looks root (Err label.Start) = inr (inr refl)
label-looks root (Err label.Checkpoint) = inr (inr refl)

file-looks : (root : PathValue) (r : Result (List ℕ) TreeFault) → LooksIn (label_in root r)
file-looks root (Ok bytes) = label-looks root (label_of bytes)
file-looks root (Err f) = inr (inr refl)

label_at-looks : (c : Contents) (root : PathValue) → LooksIn (label_at c root)
unfolding label_at
label_at-looks c root = file-looks root _

from_label-looks : (custom : Option Extension) (c : Contents) (root : PathValue) (control : Control) (places : LabelPlaces) → LooksIn (from_label custom c root control places)
unfolding from_label
from_label-looks custom c root control places =
    look-given (told_by (history_at c root (timeline_of control))) _ (told-looks (history_at c root (timeline_of control)))
    (λ spans. in_log-looks custom c root control places (log_with root control spans))

checksums-look : (root : PathValue) (control : Control) → MayLook (checksums_on root control)
unfolding checksums_on
checksums-look root control = by (control.checksumVersion == 0)
  where
    by : (b : Bool) → MayLook (if b then None else Some (fault.ChecksumsOn root))
    by true = tt
    by false = inr (inr refl)

hints-look : (root : PathValue) (control : Control) → MayLook (no_hints root control)
unfolding no_hints
hints-look root control = by (control.walLogHints == 0)
  where
    by : (b : Bool) → MayLook (if b then Some (fault.NoHints root) else None)
    by true = inr (inr refl)
    by false = tt

from_control-looks : (custom : Option Extension) (c : Contents) (root : PathValue) (control : Control) → LooksIn (from_control custom c root control)
unfolding from_control
from_control-looks custom c root control =
    look-unless _ _ (look-first (checksums_on root control) _ (checksums-look root control) (look-first (no_hints root control) [] (hints-look root control) look-none))
    (look-given (label_at c root) _ (label_at-looks c root) (λ places. from_label-looks custom c root control places))

pub start-looks : (custom : Option Extension) (c : Contents) (root : PathValue) → LooksIn (start_of custom c root)
unfolding start_of
start-looks custom c root =
    look-unless (option_map fault.Cluster (unfinished c root)) _ (marks-look (unfinished c root))
    (look-given (told_by (control_at c root)) _ (told-looks (control_at c root)) (λ control. from_control-looks custom c root control))

-- A rewind that is needed is of the roots that were given, and the source's control file was read.
use Rattle.std.proofs.Common.{◌≡◌, ℤ, List, Option, None, Some, Result, Ok, Err, refl, sym, ap}
use Rattle.wal_base.specs.SizeOfBytes.{size_of_bytes}
use Rattle.wal_base.specs.declared.seg_size.SegSize.{SegSize}
use Rattle.cluster_tree.specs.Causes.{given, unless}
use Rattle.cluster_tree.specs.Contents.{Contents}
use Rattle.cluster_tree.specs.PathValue.{PathValue}
use Rattle.control_file.specs.declared.control.Control.{Control}
use Rattle.clusters.specs.RootControl.{control_at}
use Rattle.clusters.specs.declared.fault.ClusterFault.{ClusterFault}
use Rattle.file_walk.specs.Pairs.{pairs_of}
use Rattle.file_walk.specs.Walk.{walk_of}
use Rattle.file_walk.specs.declared.pair.Pair.{Pair}
use Rattle.rewind_survey.specs.Faults.{told_by}
use Rattle.rewind_survey.specs.Survey.{Parting, Survey, survey_of}
use Rattle.rewind_survey.specs.Survey as survey
use Rattle.rewind_core.specs.Faults.{seen}
use Rattle.rewind_core.specs.Planned.{Aim, Needing, Needs, aim_of, from_pairs, from_parting, from_size, from_survey, from_walks, pairs_refusal, planned_of}

-- ---- an answer that isn't refused

ok-given : {A B E : Type 0} (r : Result A E) (k : A → Result B E) (v : B) → given r k ≡ Ok v → (x : A) × (r ≡ Ok x) × (k x ≡ Ok v)
ok-given (Ok x) k v e = (x, refl, e)
ok-given (Err f) k v e = absurd (cc e)

ok-unless : {A E : Type 0} (o : Option E) (r : Result A E) (v : A) → unless o r ≡ Ok v → r ≡ Ok v
ok-unless None r v e = e
ok-unless (Some f) r v e = absurd (cc e)

ok-told : {A : Type 0} (r : Result A ClusterFault) (v : A) → told_by r ≡ Ok v → r ≡ Ok v
ok-told (Ok x) v e = cc e
ok-told (Err f) v e = absurd (cc e)

-- ---- from the pairs of both walks back to the survey

pairs-aim : (aim : Aim) (pairs : List Pair) (n : Needing) → from_pairs aim pairs ≡ Ok (Needs n) → n.aim ≡ aim
pairs-aim aim pairs n e =
    let made : Needing = record { aim = aim; pairs = pairs } in
    let same : made ≡ n = cc (ok-unless (pairs_refusal aim.between pairs) (Ok (Needs made)) (Needs n) e) in
    sym (ap (λ (m : Needing). m.aim) same)

walks-aim : (c : Contents) (aim : Aim) (n : Needing) → from_walks c aim ≡ Ok (Needs n) → n.aim ≡ aim
unfolding from_walks
walks-aim c aim n e =
    let ts = ok-given (seen (walk_of c aim.between.target)) _ (Needs n) e in
    let ss = ok-given (seen (walk_of c aim.between.source)) _ (Needs n) ts.2 in
    pairs-aim aim (pairs_of ts.0 ss.0) n ss.2

-- what is known of the roots of a rewind that is needed
pub record IsAimed (c : Contents) (target source : PathValue) (n : Needing) : Type 0 where
  pub target_is : n.aim.between.target ≡ target
  pub source_is : n.aim.between.source ≡ source
  pub control : Control
  pub control_is : control_at c source ≡ Ok control

size-aimed : (c : Contents) (target source : PathValue) (part : Parting) (t s : Control) (o : Option SegSize) (now : ℤ) (n : Needing) → control_at c source ≡ Ok s
    → from_size c target source part t s o now ≡ Ok (Needs n) → IsAimed c target source n
size-aimed c target source part t s (Some size) now n read e =
    let aim = walks-aim c (aim_of target source part t s size now) n e in
    record { target_is = ap (λ (a : Aim). a.between.target) aim; source_is = ap (λ (a : Aim). a.between.source) aim; control = s; control_is = read }
size-aimed c target source part t s None now n read e = absurd (cc e)

parting-aimed : (c : Contents) (target source : PathValue) (now : ℤ) (part : Parting) (n : Needing) → from_parting c target source now part ≡ Ok (Needs n) → IsAimed c target source n
unfolding from_parting
parting-aimed c target source now part n e =
    let t = ok-given (told_by (control_at c target)) _ (Needs n) e in
    let s = ok-given (told_by (control_at c source)) _ (Needs n) t.2 in
    size-aimed c target source part t.0 s.0 (size_of_bytes t.0.walSegSize) now n (ok-told (control_at c source) s.0 s.1) s.2

survey-aimed : (c : Contents) (target source : PathValue) (now : ℤ) (s : Survey) (n : Needing) → from_survey c target source now s ≡ Ok (Needs n) → IsAimed c target source n
survey-aimed c target source now survey.OneTimeline n e = absurd (cc e)
survey-aimed c target source now (survey.AtFork fork) n e = absurd (cc e)
survey-aimed c target source now (survey.Parted part) n e = parting-aimed c target source now part n e

pub needed-aimed : (c : Contents) (target source : PathValue) (now : ℤ) (n : Needing) → planned_of c target source now ≡ Ok (Needs n) → IsAimed c target source n
unfolding planned_of
needed-aimed c target source now n e =
    let s = ok-given (survey_of c target source) (from_survey c target source now) (Needs n) e in
    survey-aimed c target source now s.0 n s.2

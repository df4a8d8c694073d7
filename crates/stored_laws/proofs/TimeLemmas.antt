-- Whether a rewind is needed doesn't depend on the time.
use Rattle.std.proofs.Common.{◌≡◌, ℤ, List, Option, None, Some, Result, Ok, Err, refl, subst, sym}
use Rattle.cluster_tree.specs.Causes.{given, unless}
use Rattle.cluster_tree.specs.Contents.{Contents}
use Rattle.cluster_tree.specs.PathValue.{PathValue}
use Rattle.clusters.specs.RootControl.{control_at}
use Rattle.control_file.specs.declared.control.Control.{Control}
use Rattle.file_walk.specs.Pairs.{pairs_of}
use Rattle.file_walk.specs.Walk.{walk_of}
use Rattle.file_walk.specs.declared.entry.Entry.{Entry}
use Rattle.rewind_survey.specs.Faults.{told_by}
use Rattle.rewind_survey.specs.Survey.{Parting, Survey, survey_of}
use Rattle.rewind_survey.specs.Survey as survey
use Rattle.rewind_survey.specs.declared.fault.RewindFault.{RewindFault}
use Rattle.rewind_core.specs.Faults.{seen}
use Rattle.rewind_core.specs.Planned.{AtFork, Meant, Needing, Needs, OneTimeline, aim_of, between_of, from_pairs, from_parting, from_size, from_survey, from_walks, pairs_refusal, planned_of}
use Rattle.wal_base.specs.SizeOfBytes.{size_of_bytes}
use Rattle.wal_base.specs.declared.seg_size.SegSize.{SegSize}

abbrev IsNeeded : Result Meant RewindFault → Type 0
IsNeeded (Ok OneTimeline) = ⊥
IsNeeded (Ok (AtFork fork)) = ⊥
IsNeeded (Ok (Needs n)) = Unit {0}
IsNeeded (Err e) = ⊥

of-needed : (r : Result Meant RewindFault) → IsNeeded r → (n : Needing) × (r ≡ Ok (Needs n))
of-needed (Ok OneTimeline) is = absurd is
of-needed (Ok (AtFork fork)) is = absurd is
of-needed (Ok (Needs n)) is = (n, refl)
of-needed (Err e) is = absurd is

given-needed : {A : Type 0} (r : Result A RewindFault) (k k' : A → Result Meant RewindFault) → ((v : A) → IsNeeded (k v) → IsNeeded (k' v)) → IsNeeded (given r k) → IsNeeded (given r k')
given-needed (Ok v) k k' step is = step v is
given-needed (Err e) k k' step is = is

unless-needed : (o : Option RewindFault) (n m : Needing) → IsNeeded (unless o (Ok (Needs n))) → IsNeeded (unless o (Ok (Needs m)))
unless-needed None n m is = tt
unless-needed (Some e) n m is = is

module _ (c : Contents) (target source : PathValue) (before now : ℤ) where
  walks-needed : (part : Parting) (t s : Control) (size : SegSize) → IsNeeded (from_walks c (aim_of target source part t s size before)) → IsNeeded (from_walks c (aim_of target source part t s size now))
  unfolding from_walks
  walks-needed part t s size =
      let first = aim_of target source part t s size before in
      let later = aim_of target source part t s size now in
      let ended : Result (List Entry) RewindFault = seen (walk_of c source) in
      given-needed (seen (walk_of c target)) (λ ts. given ended (λ ss. from_pairs first (pairs_of ts ss))) (λ ts. given ended (λ ss. from_pairs later (pairs_of ts ss)))
      (λ ts. given-needed ended (λ ss. from_pairs first (pairs_of ts ss)) (λ ss. from_pairs later (pairs_of ts ss))
      (λ ss. unless-needed (pairs_refusal (between_of target source t part) (pairs_of ts ss)) (record { aim = first; pairs = pairs_of ts ss }) (record { aim = later; pairs = pairs_of ts ss })))

  size-needed : (part : Parting) (t s : Control) (o : Option SegSize) → IsNeeded (from_size c target source part t s o before) → IsNeeded (from_size c target source part t s o now)
  size-needed part t s (Some size) is = walks-needed part t s size is
  size-needed part t s None is = is

  parting-needed : (part : Parting) → IsNeeded (from_parting c target source before part) → IsNeeded (from_parting c target source now part)
  unfolding from_parting
  parting-needed part =
      let found : ℤ → Control → Control → Result Meant RewindFault = λ time t s. from_size c target source part t s (size_of_bytes t.walSegSize) time in
      let read : Result Control RewindFault = told_by (control_at c source) in
      given-needed (told_by (control_at c target)) (λ t. given read (found before t)) (λ t. given read (found now t))
      (λ t. given-needed read (found before t) (found now t) (λ s. size-needed part t s (size_of_bytes t.walSegSize)))

  survey-needed : (v : Survey) → IsNeeded (from_survey c target source before v) → IsNeeded (from_survey c target source now v)
  survey-needed survey.OneTimeline is = is
  survey-needed (survey.AtFork fork) is = is
  survey-needed (survey.Parted part) is = parting-needed part is

  planned-needed : IsNeeded (planned_of c target source before) → IsNeeded (planned_of c target source now)
  unfolding planned_of
  planned-needed = given-needed (survey_of c target source) (from_survey c target source before) (from_survey c target source now) survey-needed

-- a rewind that was needed is so at any other time
pub needed-at : (c : Contents) (target source : PathValue) (before now : ℤ) (n : Needing) → planned_of c target source before ≡ Ok (Needs n) → (m : Needing) × (planned_of c target source now ≡ Ok (Needs m))
needed-at c target source before now n is =
    let P : Result Meant RewindFault → Type 0 = IsNeeded in
    of-needed (planned_of c target source now) (planned-needed c target source before now (subst P (sym is) tt))

-- What is meant of two clusters that parted, and of what a survey says.
use Rattle.std.proofs.Common.{◌≡◌, ◌⊎◌, ℕ, ℤ, Bool, inl, inr, Option, None, Some, Result, Ok, Err, MatchResult, option_map, refl, ap, ap₂, sym, subst, ◌∙◌}
use Rattle.std.proofs.Math.Path.{fun_ext}
use Rattle.cluster_tree.specs.Causes.{given, unless}
use Rattle.cluster_tree.specs.Contents.{Contents}
use Rattle.cluster_tree.specs.PathValue.{PathValue}
use Rattle.block_refs.specs.declared.names.RelName.{RelName}
use Rattle.wal_base.specs.SizeOfBytes.{size_of_bytes}
use Rattle.wal_base.specs.declared.lsn.Lsn.{Lsn}
use Rattle.wal_base.specs.declared.seg_size.SegSize.{SegSize}
use Rattle.control_file.specs.declared.control.Control.{Control}
use Rattle.clusters.specs.Marks.{unfinished}
use Rattle.clusters.specs.RootControl.{control_at}
use Rattle.clusters.specs.declared.fault.ClusterFault.{ClusterFault}
use Rattle.touched_blocks.specs.Set.{TouchedView, has_in}
use Rattle.touched_blocks.specs.Touched.{touches}
use Rattle.rewound_tree.specs.RewoundControl.{rewound_control}
use Rattle.rewind_survey.specs.Faults.{IsFree, told_by}
use Rattle.rewind_survey.specs.Marks.{IsTouchedBy}
use Rattle.rewind_survey.specs.Survey.{Fits, FitsFound, HoldsParted, Parting, Survey, survey_of}
use Rattle.rewind_survey.specs.Survey as survey
use Rattle.rewind_survey.specs.declared.fault.RewindFault.{RewindFault}
use Rattle.rewind_survey.specs.declared.fault.RewindFault.TheVariants as fault
use Rattle.rewind_survey.specs.declared.outcome.Parted.{Parted}
use Rattle.rewind_survey.specs.declared.outcome.Surveyed.{Surveyed}
use Rattle.rewind_survey.specs.declared.outcome.Surveyed.TheVariants as surveyed
use Rattle.rewind_survey.specs.declared.outcome.Told.{Told}
use Rattle.timeline_history.specs.declared.ancestor.Divergence.{Divergence}
use Rattle.rewind_core.specs.Fits.{FitsMeant, IsPlanFor, PlansNeeded}
use Rattle.rewind_core.specs.Planned.{Aim, AtFork, Needing, Needs, OneTimeline, aim_of, from_parting, from_size, from_survey, from_walks, planned_of}
use Rattle.rewind_core.specs.Rooted.{IsRooted}
use Rattle.rewind_core.specs.declared.outcome.Planned.TheVariants as planned
use Rattle.rewind_core.specs.declared.outcome.Plan.{Plan}
use Rattle.rewind_core.proofs.PlanLemmas.{given-err, given-ok}

-- no run is unfinished where the marks refused nothing
finished-by : {A : Type 0} (a b : Option ClusterFault) (rest : Result A RewindFault) (v : A) → unless (option_map fault.Cluster a) (unless (option_map fault.Cluster b) rest) ≡ Ok v → (a ≡ None) × (b ≡ None)
finished-by None None rest v h = (refl, refl)
finished-by None (Some e) rest v h = absurd (cc h)
finished-by (Some e) b rest v h = absurd (cc h)

pub survey-finished : (c : Contents) (target source : PathValue) (v : Survey) → survey_of c target source ≡ Ok v → (unfinished c target ≡ None) × (unfinished c source ≡ None)
survey-finished c target source v h = finished-by (unfinished c target) (unfinished c source) _ v h

-- where control files are told, they are read
pub ok-told : {A : Type 0} (meant : Result A ClusterFault) (v : A) → told_by meant ≡ Ok v → meant ≡ Ok v
ok-told (Ok w) v h = cc h
ok-told (Err e) v h = absurd (cc h)

-- a root at which no run is unfinished, and whose control file is told
pub rooted-at : (c c' : Contents) (root : PathValue) (v : Control) → c' ≡ c → unfinished c root ≡ None → told_by (control_at c root) ≡ Ok v → IsRooted c' root
rooted-at c c' root v same none read = subst (λ x. IsRooted x root) (sym same) (none, v, ok-told (control_at c root) v read)

-- what code keeps of a parting is what is meant of it
abbrev as_lsn : ℕ → Lsn
as_lsn n = record { 0 = n }

lsn-of : (at : Lsn) (n : ℕ) → at.0 ≡ n → at ≡ as_lsn n
lsn-of at n h = ap as_lsn h

pub same-wanted : (part : Parting) (touched : TouchedView) → IsTouchedBy part.records touched → has_in touched ≡ touches part.records
same-wanted part touched h = fun_ext (λ rel. fun_ext (λ block. h rel block))

module _ (c : Contents) (target source : PathValue) (now : ℤ) (part : Parting) where
  -- a control file is refused
  pub target-control-refused : (e : RewindFault) → IsFree e ⊎ (told_by (control_at c target) ≡ Err e) → IsFree e ⊎ (from_parting c target source now part ≡ Err e)
  unfolding from_parting
  target-control-refused e h = given-err _ _ e h

  module _ (t : Control) (read : told_by (control_at c target) ≡ Ok t) where
    pub source-control-refused : (c' : Contents) (e : RewindFault) → c' ≡ c → IsFree e ⊎ (told_by (control_at c' source) ≡ Err e) → IsFree e ⊎ (from_parting c target source now part ≡ Err e)
    unfolding from_parting
    source-control-refused c' e same (inl free) = inl free
    source-control-refused c' e same (inr is) =
        inr (given-ok _ read ∙ ap (λ m. given m (λ s. from_size c target source part t s (size_of_bytes t.walSegSize) now))
        (ap (λ x. told_by (control_at x source)) (sym same) ∙ is))

    -- or both are read
    pub from-controls : (s : Control) (size : SegSize) → told_by (control_at c source) ≡ Ok s → size_of_bytes t.walSegSize ≡ Some size
        → from_parting c target source now part ≡ from_walks c (aim_of target source part t s size now)
    unfolding from_parting
    from-controls s size there sized =
        given-ok _ read ∙ (given-ok (λ s. from_size c target source part t s (size_of_bytes t.walSegSize) now) there
        ∙ ap (λ o. from_size c target source part t s o now) sized)

    pub parted-plans : (c' : Contents) (s : Control) (size : SegSize) (aim : Aim) (r : Result Plan RewindFault) → told_by (control_at c source) ≡ Ok s
        → size_of_bytes t.walSegSize ≡ Some size → aim ≡ aim_of target source part t s size now → c' ≡ c → PlansNeeded c' (from_walks c' aim) r
        → PlansNeeded c (from_parting c target source now part) r
    parted-plans c' s size aim r there sized is same plans =
        subst (λ m. PlansNeeded c m r) (ap (from_walks c) is ∙ sym (from-controls s size there sized))
        (subst (λ x. PlansNeeded x (from_walks x aim) r) same plans)

-- what is aimed at, by its parts
abbrev pub aim_by : (target source : PathValue) → Told → Lsn → (RelName → ℕ → Bool) → ℕ → Control → SegSize → ℤ → Aim
aim_by target source told redo wanted per_file control size now = record {
  told = told;
  between = record { target = target; source = source; per_file = per_file; wanted = wanted };
  control = control;
  label = record { start = redo; tli = told.tli; size = size; checkpoint = told.checkpoint; time = now };
}

pub same-aim : (target source : PathValue) (part : Parting) (t s : Control) (size : SegSize) (now : ℤ) (found : Parted) (control : Control)
    → HoldsParted part found → control ≡ rewound_control s now
    → aim_by target source found.told found.redo (has_in found.touched) t.relseg control size now ≡ aim_of target source part t s size now
same-aim target source part t s size now found control holds is =
    ap₂ (λ told control. aim_by target source told found.redo (has_in found.touched) t.relseg control size now) holds.told is
    ∙ ap₂ (λ redo wanted. aim_by target source part.told redo wanted t.relseg (rewound_control s now) size now)
    (lsn-of found.redo part.redo holds.redo) (same-wanted part found.touched holds.touched)

-- by what a survey says
module _ (c : Contents) (target source : PathValue) (now : ℤ) where
  pub from-survey : (v : Survey) → survey_of c target source ≡ Ok v → planned_of c target source now ≡ from_survey c target source now v
  unfolding planned_of
  from-survey v h = given-ok (from_survey c target source now) h

  pub survey-refused : (e : RewindFault) → IsFree e ⊎ (survey_of c target source ≡ Err e) → IsFree e ⊎ (planned_of c target source now ≡ Err e)
  unfolding planned_of
  survey-refused e h = given-err _ (from_survey c target source now) e h

  -- what was surveyed, and is planned without a rewind
  one-by : (v : Survey) → survey_of c target source ≡ Ok v → Fits v surveyed.SameTimeline → FitsMeant c (planned_of c target source now) planned.SameTimeline
  one-by survey.OneTimeline is fits = record { meaning = OneTimeline; found = from-survey survey.OneTimeline is; fits = tt }
  one-by (survey.AtFork fork) is fits = absurd fits
  one-by (survey.Parted part) is fits = absurd fits

  pub one-meant : (v : Surveyed) → FitsFound (survey_of c target source) v → v ≡ surveyed.SameTimeline → FitsMeant c (planned_of c target source now) planned.SameTimeline
  one-meant v found is = one-by found.survey found.found (subst (Fits found.survey) is found.fits)

  fork-by : (v : Survey) (at : Divergence) → survey_of c target source ≡ Ok v → Fits v (surveyed.EndsAtFork at) → FitsMeant c (planned_of c target source now) (planned.EndsAtFork at)
  fork-by survey.OneTimeline at is fits = absurd fits
  fork-by (survey.AtFork fork) at is fits = record { meaning = AtFork fork; found = from-survey (survey.AtFork fork) is; fits = fits }
  fork-by (survey.Parted part) at is fits = absurd fits

  pub fork-meant : (v : Surveyed) (at : Divergence) → FitsFound (survey_of c target source) v → v ≡ surveyed.EndsAtFork at → FitsMeant c (planned_of c target source now) (planned.EndsAtFork at)
  fork-meant v at found is = fork-by found.survey at found.found (subst (Fits found.survey) is found.fits)

  -- and with one
  parted-by : (v : Survey) (parted : Parted) (r : Result Plan RewindFault) → survey_of c target source ≡ Ok v → Fits v (surveyed.Parted parted)
      → ((part : Parting) → HoldsParted part parted → PlansNeeded c (from_parting c target source now part) r)
      → MatchResult r (λ plan. FitsMeant c (planned_of c target source now) (planned.Needed plan)) (λ e. IsFree e ⊎ (planned_of c target source now ≡ Err e))
  parted-by survey.OneTimeline parted r is fits plans = absurd fits
  parted-by (survey.AtFork fork) parted r is fits plans = absurd fits
  parted-by (survey.Parted part) parted (Ok plan) is fits plans =
      let p : (n : Needing) × (from_parting c target source now part ≡ Ok (Needs n)) × IsPlanFor c n plan = plans part fits in
      record { meaning = Needs p.0; found = from-survey (survey.Parted part) is ∙ p.1; fits = p.2 }
  parted-by (survey.Parted part) parted (Err e) is fits plans = refused-by (survey.Parted part) e is (plans part fits)
    where
      refused-by : (v : Survey) (e : RewindFault) → survey_of c target source ≡ Ok v → IsFree e ⊎ (from_survey c target source now v ≡ Err e) → IsFree e ⊎ (planned_of c target source now ≡ Err e)
      refused-by v e is (inl free) = inl free
      refused-by v e is (inr h) = inr (from-survey v is ∙ h)

  pub parted-meant : (c' : Contents) (v : Surveyed) (parted : Parted) (r : Result Plan RewindFault) → c' ≡ c → FitsFound (survey_of c target source) v → v ≡ surveyed.Parted parted
      → ((part : Parting) → HoldsParted part parted → PlansNeeded c' (from_parting c' target source now part) r)
      → MatchResult r (λ plan. FitsMeant c (planned_of c target source now) (planned.Needed plan)) (λ e. IsFree e ⊎ (planned_of c target source now ≡ Err e))
  parted-meant c' v parted r same found is plans =
      parted-by found.survey parted r found.found (subst (Fits found.survey) is found.fits)
      (λ part holds. subst (λ x. PlansNeeded x (from_parting x target source now part) r) same (plans part holds))

-- The rewind of a pair's target: it is needed, nothing refuses it, and it stays in its place.
use Rattle.std.proofs.Common.{◌≡◌, ◌∙◌, ℕ, ℤ, pos, Bool, [], ◌∷◌, Option, None, Some, Result, Ok, inl, inr, refl, sym, ap₂, subst}
use Rattle.acts.specs.Acts.{Changes}
use Rattle.cluster_tree.specs.Contents.{Contents}
use Rattle.cluster_tree.specs.PathValue.{PathValue}
use Rattle.cluster_tree.specs.Run.{State}
use Rattle.pair_laws.specs.Grew.{pair_rewind}
use Rattle.pair_laws.specs.Stands.{HasPair, source_of, target_of}
use Rattle.pair_laws.proofs.PairLemmas.{pair-needed}
use Rattle.pair_maker.specs.Logs.{made_at}
use Rattle.rewind_core.specs.Fits.{IsCause, IsDone, IsRewound, Went}
use Rattle.rewind_core.specs.Planned.{AtFork, Meant, Needing, Needs, OneTimeline, planned_of}
use Rattle.rewind_core.specs.declared.outcome.RewindDone.{RewindDone}
use Rattle.rewind_core.specs.declared.outcome.RewindDone.TheVariants as done
use Rattle.rewind_paths.proofs.BelowLemmas.{of-target}
use Rattle.rewind_survey.specs.declared.fault.RewindFault.{RewindFault}
use Rattle.rewind_survey.specs.declared.outcome.Told.{Told}
use Rattle.rewind_writes.specs.Plan.{plan_changes}
use Rattle.timeline_history.specs.declared.ancestor.Divergence.{Divergence}
use Rattle.run_acts.proofs.WithinSteps.{none-within, ran-within}
use Rattle.cmd_pair.specs.Stays.{StaysInPair}
use Rattle.cmd_pair.specs.Tried.{IsFreeRewind}
use Rattle.cmd_pair.proofs.StayLemmas.{at-target, bare, changes-stay, silent}

-- ---- how far it went

went_target : (target source : PathValue) (now : ℤ) (a b : State) (finished : Bool) → Went (planned_of a.contents target source now) a b finished → Changes (target ∷ []) (bare a) (bare b)
went_target target source now a b finished (inl same) = subst (λ (x : State). Changes (target ∷ []) (bare a) (bare x)) (sym same) (none-within (target ∷ []) a.contents a.calls silent silent)
went_target target source now a b finished (inr (n, plan, meant, for, ran)) =
    ran-within (target ∷ []) (plan_changes a.contents plan.text plan.writes) a.calls b.calls a.contents b.contents finished silent silent (of-target a.contents target source now n plan meant for) ran

pub rewind-stays : (root target source : PathValue) → target ≡ target_of root → (a b : State) (finished : Bool) → Went (planned_of a.contents target source (pos made_at)) a b finished → StaysInPair root a b
rewind-stays root target source is a b finished went = changes-stay root target a b (at-target root target is) (went_target target source (pos made_at) a b finished went)

-- ---- what it comes to

meant_same : (m n : Meant) → ◌≡◌ {A = Result Meant RewindFault} (Ok m) (Ok n) → m ≡ n
meant_same m n is = cc is

need_same : (m n : Needing) → Needs m ≡ Needs n → m ≡ n
need_same m n is = cc is

module _ (root target source : PathValue) (seed blocks : ℕ) (c c' : Contents) (at_target : target ≡ target_of root) (at_source : source ≡ source_of root) (pair : HasPair root seed blocks c) where
  needs : planned_of c target source (pos made_at) ≡ Ok (Needs (pair_rewind root seed blocks c))
  needs = ap₂ (λ x y. planned_of c x y (pos made_at)) at_target at_source ∙ pair-needed root seed blocks c (pos made_at) pair

  rewound_as : (told : Told) → IsDone c (planned_of c target source (pos made_at)) (done.Rewound told) c' → IsRewound c (pair_rewind root seed blocks c) c'
  rewound_as told (n, meant, same, rewound) =
      let is : n ≡ pair_rewind root seed blocks c = need_same n (pair_rewind root seed blocks c) (meant_same (Needs n) (Needs (pair_rewind root seed blocks c)) (sym meant ∙ needs)) in
      subst (λ m. IsRewound c m c') is rewound

  pub rewound-target : (v : RewindDone) {told : Told} → v ≡ done.Rewound told → IsDone c (planned_of c target source (pos made_at)) v c' → IsRewound c (pair_rewind root seed blocks c) c'
  rewound-target v {told} is h = rewound_as told (subst (λ x. IsDone c (planned_of c target source (pos made_at)) x c') is h)

  needless_not : (at : Option Divergence) → IsDone c (planned_of c target source (pos made_at)) (done.NotNeeded at) c' → ⊥
  needless_not None is = cc (meant_same OneTimeline (Needs (pair_rewind root seed blocks c)) (sym is.0 ∙ needs))
  needless_not (Some fork) is = cc (meant_same (AtFork fork) (Needs (pair_rewind root seed blocks c)) (sym is.0 ∙ needs))

  pub not-needless : (v : RewindDone) {at : Option Divergence} → v ≡ done.NotNeeded at → IsDone c (planned_of c target source (pos made_at)) v c' → ⊥
  not-needless v {at} is h = needless_not at (subst (λ x. IsDone c (planned_of c target source (pos made_at)) x c') is h)

  pub rewind-free : (e : RewindFault) → IsCause (planned_of c target source (pos made_at)) e → IsFreeRewind e
  rewind-free e (inl (inl is)) = subst IsFreeRewind (sym is) (inl refl)
  rewind-free e (inl (inr is)) = subst IsFreeRewind (sym is) (inr refl)
  rewind-free e (inr (inl is)) = subst IsFreeRewind (sym is) tt
  rewind-free e (inr (inr meant)) = absurd (cc (sym meant ∙ needs))

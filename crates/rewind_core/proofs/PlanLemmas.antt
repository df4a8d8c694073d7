-- What is meant, stage by stage.
use Rattle.std.proofs.Common.{◌≡◌, ◌⊎◌, ℕ, inl, inr, List, [], ◌∷◌, length, Option, None, Some, Result, Ok, Err, option_map, IfErr, IfOk, refl, ap, sym, subst, ◌∙◌}
use Rattle.cluster_tree.specs.Apart.{AreApart}
use Rattle.cluster_tree.specs.Causes.{first_of, given, unless}
use Rattle.cluster_tree.specs.Contents.{Contents, IsTree}
use Rattle.cluster_tree.specs.PathValue.{PathValue}
use Rattle.file_walk.specs.Pairs.{pairs_of}
use Rattle.file_walk.specs.Walk.{walk_of}
use Rattle.file_walk.specs.declared.entry.Entry.{Entry}
use Rattle.file_walk.specs.declared.fault.WalkFault.{WalkFault}
use Rattle.file_walk.specs.declared.pair.Pair.{Pair}
use Rattle.backup_label.specs.declared.label.Label.{Label}
use Rattle.control_file.specs.declared.control.Control.{Control}
use Rattle.plan_text.specs.Laws.{AllAreBetween, AllAreSized, InTurn, IsHeld, IsSaid}
use Rattle.plan_text.specs.Text.{plan_text}
use Rattle.rewind_plan.proofs.RoomLemmas.{none_lack}
use Rattle.rewind_plan.proofs.WalksFit.{walks-fit}
use Rattle.rewind_plan.specs.Checks.{first_difference}
use Rattle.rewind_plan.specs.PlanOf.{IsPlanOf}
use Rattle.rewind_plan.specs.Planned.{Between}
use Rattle.rewind_plan.specs.Room.{first_lacking}
use Rattle.rewind_plan.specs.Sides.{Sides}
use Rattle.rewind_writes.specs.Steps.{AllAreFit}
use Rattle.file_walk.specs.Walk.{HasParts}
use Rattle.rewind_survey.specs.Faults.{IsFree}
use Rattle.rewind_survey.specs.declared.fault.RewindFault.{RewindFault}
use Rattle.rewind_survey.specs.declared.fault.RewindFault.TheVariants as fault
use Rattle.rewind_core.specs.Faults.{seen}
use Rattle.rewind_core.specs.Fits.{IsPlanBetween, IsPlanFor, IsSaidIn, PlansNeeded}
use Rattle.rewind_core.specs.Planned.{Aim, Needing, Needs, from_pairs, from_walks, pairs_refusal}
use Rattle.rewind_core.specs.Rooted.{IsRooted}
use Rattle.rewind_core.specs.Text.{saying, sum_at}
use Rattle.rewind_core.specs.declared.outcome.Plan.{Plan}
use Rattle.rewind_core.proofs.SaidLemmas.{steps-between, steps-turn}

-- a plan of these pairs is one between its roots
pub made-between : (aim : Aim) (pairs : List Pair) (r : Result Plan RewindFault) → IfOk r (λ plan. IsPlanOf aim.between pairs aim.control aim.label plan.writes) → IfOk r (IsPlanBetween aim.between.target aim.between.source)
made-between aim pairs (Ok plan) made =
    record { between = aim.between; pairs = pairs; control = aim.control; label = aim.label; target_is = refl; source_is = refl; writes = made }
made-between aim pairs (Err e) made = tt

-- a fault that is handed on
pub handed : {A : Type 0} (P : Result A RewindFault → Type 0) (r : Result A RewindFault) (e : RewindFault) → ((f : RewindFault) × (r ≡ Err f) × (f ≡ e)) → P (Err e) → P r
handed P r e p why = subst P (sym (p.1 ∙ ap (λ x. Err x) p.2)) why

-- a reading that is refused
pub given-err : {A B : Type 0} (meant : Result A RewindFault) (k : A → Result B RewindFault) (e : RewindFault) → IsFree e ⊎ (meant ≡ Err e) → IsFree e ⊎ (given meant k ≡ Err e)
given-err meant k e (inl free) = inl free
given-err meant k e (inr is) = inr (ap (λ m. given m k) is)

-- and one that isn't
pub given-ok : {A B : Type 0} {meant : Result A RewindFault} {v : A} (k : A → Result B RewindFault) → meant ≡ Ok v → given meant k ≡ k v
given-ok k is = ap (λ m. given m k) is

pub ok-walk : {A : Type 0} (meant : Result A WalkFault) (v : A) → seen meant ≡ Ok v → meant ≡ Ok v
ok-walk (Ok w) v h = cc h
ok-walk (Err e) v h = absurd (cc h)

-- no refusal of the pairs is none of their kinds
no-difference : (a b : Option PathValue) → first_of (option_map fault.TooDeep a ∷ option_map fault.KindsDiffer b ∷ []) ≡ None → b ≡ None
unfolding first_of
no-difference None None h = refl
no-difference None (Some p) h = absurd (cc h)
no-difference (Some p) b h = absurd (cc h)

-- and each has room
no-lacking : (a b : Option PathValue) → first_of (option_map fault.TooDeep a ∷ option_map fault.KindsDiffer b ∷ []) ≡ None → a ≡ None
unfolding first_of
no-lacking None b h = refl
no-lacking (Some p) b h = absurd (cc h)

-- so what a program holds of a plan is what it says
said-of : (c : Contents) (w : Between) (pairs : List Pair) (control : Control) (label : Label) (sum : ℕ) (plan : Plan) → Sides c w pairs → HasParts c w.target → HasParts c w.source
    → pairs_refusal w pairs ≡ None → IsPlanOf w pairs control label plan.writes → IsHeld w.target (saying sum plan) → AllAreFit plan.writes.steps.items → IsSaid w.target w.source (saying sum plan)
said-of c w pairs control label sum plan sides target source none writes held fit =
    let room = none_lack w pairs (no-lacking (first_lacking w pairs) (first_difference pairs) none) in
    record {
      sum = held.sum;
      told = held.told;
      steps = subst (AllAreBetween w.target w.source) (sym writes.steps)
          (steps-between c w target source pairs sides.paired room (subst AllAreSized writes.steps held.sizes) (subst AllAreFit writes.steps fit));
      turns = subst (InTurn 0) (sym writes.steps) (steps-turn c w target source pairs sides.paired room);
      texts = held.texts;
      label = held.label;
      control = held.control;
      size = ap length writes.control_says ∙ writes.control_long;
    }

module _ (c : Contents) (aim : Aim) where
  abbrev w : Between
  w = aim.between

  -- a walk is refused
  pub target-refused : (e : RewindFault) → IsFree e ⊎ (seen (walk_of c w.target) ≡ Err e) → IsFree e ⊎ (from_walks c aim ≡ Err e)
  unfolding from_walks
  target-refused e h = given-err _ _ e h

  module _ (ts : List Entry) (told : seen (walk_of c w.target) ≡ Ok ts) where
    pub source-refused : (c' : Contents) (e : RewindFault) → c' ≡ c → IsFree e ⊎ (seen (walk_of c' w.source) ≡ Err e) → IsFree e ⊎ (from_walks c aim ≡ Err e)
    unfolding from_walks
    source-refused c' e same (inl free) = inl free
    source-refused c' e same (inr is) =
        inr (given-ok _ told ∙ ap (λ m. given m (λ ss. from_pairs aim (pairs_of ts ss))) (ap (λ x. seen (walk_of x w.source)) (sym same) ∙ is))

    module _ (c' : Contents) (ss : List Entry) (same : c' ≡ c) (seen-there : seen (walk_of c' w.source) ≡ Ok ss) where
      there : seen (walk_of c w.source) ≡ Ok ss
      there = ap (λ x. seen (walk_of x w.source)) (sym same) ∙ seen-there

      walked-on : from_walks c aim ≡ from_pairs aim (pairs_of ts ss)
      unfolding from_walks
      walked-on = given-ok _ told ∙ given-ok (λ ss. from_pairs aim (pairs_of ts ss)) there

      -- the pairs are refused
      pub pairs-refused : (e : RewindFault) → IsFree e ⊎ (pairs_refusal w (pairs_of ts ss) ≡ Some e) → IsFree e ⊎ (from_walks c aim ≡ Err e)
      pairs-refused e (inl free) = inl free
      pairs-refused e (inr is) = inr (walked-on ∙ ap (λ r. unless r (Ok (Needs (record { aim = aim; pairs = pairs_of ts ss })))) is)

      -- both clusters were seen
      sides-of : IsTree c → AreApart w.target w.source → IsRooted c w.target → IsRooted c w.source → HasParts c w.target → HasParts c w.source → pairs_refusal w (pairs_of ts ss) ≡ None → Sides c w (pairs_of ts ss)
      sides-of tree apart target source target_parts source_parts none = walks-fit c w target.1 source.1 ts ss
          (record { finished = target.0; read = target.2; parts = target_parts; walk = ok-walk _ ts told })
          (record { finished = source.0; read = source.2; parts = source_parts; walk = ok-walk _ ss there })
          tree apart (no-difference (first_lacking w (pairs_of ts ss)) (first_difference (pairs_of ts ss)) none)

      -- or the plan is made
      pub planned-for : (plan : Plan) → IsTree c → AreApart w.target w.source → IsRooted c w.target → IsRooted c w.source → HasParts c w.target → HasParts c w.source
          → pairs_refusal w (pairs_of ts ss) ≡ None → plan.told ≡ aim.told → plan.text ≡ plan_text w.target (saying (sum_at c w.source) plan) → IsPlanOf w (pairs_of ts ss) aim.control aim.label plan.writes
          → (n : Needing) × (from_walks c aim ≡ Ok (Needs n)) × IsPlanFor c n plan
      planned-for plan tree apart target source target_parts source_parts none is text writes = (
        record { aim = aim; pairs = pairs_of ts ss },
        walked-on ∙ ap (λ r. unless r (Ok (Needs (record { aim = aim; pairs = pairs_of ts ss })))) none,
        record {
          told = is;
          text = text;
          writes = writes;
          sides = sides-of tree apart target source target_parts source_parts none;
        },
      )

      pub walked-plans : (pairs : List Pair) → pairs ≡ pairs_of ts ss → IsTree c → AreApart w.target w.source → IsRooted c w.target → IsRooted c w.source
          → HasParts c w.target → HasParts c' w.source → (r : Result Plan RewindFault) → IfErr r (λ e. IsFree e ⊎ (pairs_refusal w pairs ≡ Some e))
          → IfOk r (λ plan. pairs_refusal w pairs ≡ None) → IfOk r (λ plan. plan.told ≡ aim.told) → (sum : ℕ) → sum ≡ sum_at c w.source → IfOk r (λ plan. plan.text ≡ plan_text w.target (saying sum plan))
          → IfOk r (λ plan. IsPlanOf w pairs aim.control aim.label plan.writes) → PlansNeeded c (from_walks c aim) r
      walked-plans pairs is tree apart t s tp sp (Ok plan) refused none told sum summed text made =
          planned-for plan tree apart t s tp (subst (λ x. HasParts x w.source) same sp) (subst (λ l. pairs_refusal w l ≡ None) is none) told
          (text ∙ ap (λ n. plan_text w.target (saying n plan)) summed)
          (subst (λ l. IsPlanOf w l aim.control aim.label plan.writes) is made)
      walked-plans pairs is tree apart t s tp sp (Err e) refused none told sum summed text made =
          pairs-refused e (subst (λ l. IsFree e ⊎ (pairs_refusal w l ≡ Some e)) is refused)

      -- and its text says it
      pub walked-said : (pairs : List Pair) → pairs ≡ pairs_of ts ss → IsTree c → AreApart w.target w.source → IsRooted c w.target → IsRooted c w.source
          → HasParts c w.target → HasParts c' w.source → (r : Result Plan RewindFault)
          → IfOk r (λ plan. pairs_refusal w pairs ≡ None) → (sum : ℕ) → sum ≡ sum_at c w.source → IfOk r (λ plan. IsPlanOf w pairs aim.control aim.label plan.writes)
          → IfOk r (λ plan. IsHeld w.target (saying sum plan)) → IfOk r (λ plan. AllAreFit plan.writes.steps.items) → IfOk r (IsSaidIn c w.target w.source)
      walked-said pairs is tree apart t s tp sp (Ok plan) none sum summed made held fit =
          let source_parts = subst (λ x. HasParts x w.source) same sp in
          let unrefused = subst (λ l. pairs_refusal w l ≡ None) is none in
          said-of c w (pairs_of ts ss) aim.control aim.label (sum_at c w.source) plan (sides-of tree apart t s tp source_parts unrefused) tp source_parts unrefused
          (subst (λ l. IsPlanOf w l aim.control aim.label plan.writes) is made) (subst (λ n. IsHeld w.target (saying n plan)) summed held) fit
      walked-said pairs is tree apart t s tp sp (Err e) none sum summed made held fit = tt

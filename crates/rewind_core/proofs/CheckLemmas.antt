-- Which of two refusals of pairs comes first.
use Rattle.std.proofs.Common.{◌≡◌, List, [], ◌∷◌, Option, None, Some, option_map, refl, ap, ap₂, sym, ◌∙◌}
use Rattle.cluster_tree.specs.Causes.{first_of}
use Rattle.cluster_tree.specs.PathValue.{PathValue}
use Rattle.file_walk.specs.declared.pair.Pair.{Pair}
use Rattle.rewind_plan.specs.Checks.{first_difference}
use Rattle.rewind_plan.specs.Planned.{Between}
use Rattle.rewind_plan.specs.Room.{first_lacking}
use Rattle.rewind_survey.specs.declared.fault.RewindFault.{RewindFault}
use Rattle.rewind_survey.specs.declared.fault.RewindFault.TheVariants as fault
use Rattle.rewind_core.specs.Planned.{pairs_refusal}

abbrev both : (a b : Option PathValue) → Option RewindFault
both a b = first_of (option_map fault.TooDeep a ∷ option_map fault.KindsDiffer b ∷ [])

first-deep : (b : Option PathValue) (p : PathValue) → both (Some p) b ≡ Some (fault.TooDeep p)
unfolding first_of
first-deep b p = refl

then-kinds : (p : PathValue) → both None (Some p) ≡ Some (fault.KindsDiffer p)
unfolding first_of
then-kinds p = refl

neither : both None None ≡ None
unfolding first_of
neither = refl

pub refused-deep : (w : Between) (pairs : List Pair) (p : PathValue) → Some p ≡ first_lacking w pairs → pairs_refusal w pairs ≡ Some (fault.TooDeep p)
refused-deep w pairs p h = ap (λ a. both a (first_difference pairs)) (sym h) ∙ first-deep (first_difference pairs) p

pub refused-kinds : (w : Between) (pairs : List Pair) (p : PathValue) → None ≡ first_lacking w pairs → Some p ≡ first_difference pairs → pairs_refusal w pairs ≡ Some (fault.KindsDiffer p)
refused-kinds w pairs p none h = ap₂ both (sym none) (sym h) ∙ then-kinds p

pub not-refused : (w : Between) (pairs : List Pair) → None ≡ first_lacking w pairs → None ≡ first_difference pairs → pairs_refusal w pairs ≡ None
not-refused w pairs none same = ap₂ both (sym none) (sym same) ∙ neither

pub ruleset check_steps = (refused-deep, refused-kinds, not-refused)

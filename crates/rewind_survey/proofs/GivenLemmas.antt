-- What is found out behind a reading, and behind a test.
use Rattle.std.proofs.Common.{◌≡◌, ◌⊎◌, inl, inr, Option, Some, Result, Ok, Err, ap, sym, subst}
use Rattle.cluster_tree.specs.Causes.{given, unless}
use Rattle.rewind_survey.specs.Faults.{IsFree}
use Rattle.rewind_survey.specs.Survey.{Surveys, Survey}
use Rattle.rewind_survey.specs.declared.fault.RewindFault.{RewindFault}
use Rattle.rewind_survey.specs.declared.outcome.Surveyed.{Surveyed}

-- at what was read
pub plans_given : {A : Type 0} {meant : Result A RewindFault} {v : A} (r : Result Surveyed RewindFault) (k : A → Result Survey RewindFault) → meant ≡ Ok v → Surveys (k v) r → Surveys (given meant k) r
plans_given r k is p = subst (λ m. Surveys (given m k) r) (sym is) p

-- refused there
pub given-err : {A : Type 0} (meant : Result A RewindFault) (k : A → Result Survey RewindFault) (e : RewindFault) → IsFree e ⊎ (meant ≡ Err e) → IsFree e ⊎ (given meant k ≡ Err e)
given-err meant k e (inl free) = inl free
given-err meant k e (inr is) = inr (ap (λ m. given m k) is)

pub unless-some : (refusal : Option RewindFault) (rest : Result Survey RewindFault) (e : RewindFault) → IsFree e ⊎ (refusal ≡ Some e) → IsFree e ⊎ (unless refusal rest ≡ Err e)
unless-some refusal rest e (inl free) = inl free
unless-some refusal rest e (inr is) = inr (ap (λ m. unless m rest) is)

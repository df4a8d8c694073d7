-- The changing calls of a resume, by what the mark was found to hold.
use Rattle.std.proofs.Common.{◌≡◌, ◌≢◌, ◌⊎◌, ◌∙◌, true, false, List, Option, None, Some, Result, Ok, Err, inl, inr, sym, ap, subst, true≢false}
use Rattle.cluster_tree.specs.Contents.{Contents}
use Rattle.cluster_tree.specs.PathValue.{PathValue}
use Rattle.cluster_tree.specs.declared.tree.ChangeCall.{ChangeCall}
use Rattle.plan_text.specs.Stored.{IsPlacedAt}
use Rattle.plan_text.specs.Text.{Saying, said_by}
use Rattle.plan_text.specs.declared.stored.StoredPlan.{StoredPlan}
use Rattle.resumed_laws.specs.Resumed.{resumed_changes}
use Rattle.resume_core.specs.Faults.{IsFree as IsFreeFault}
use Rattle.resume_core.specs.Stored.{stored_of}
use Rattle.resume_core.specs.declared.fault.ResumeFault.{ResumeFault}
use Rattle.commands.specs.declared.rewind.RewindWords.{RewindWords}
use Rattle.run_acts.specs.Causes.{IsFree}
use Rattle.run_acts.specs.declared.cause.Cause.{Cause}
use Rattle.run_acts.specs.declared.cause.Cause.TheVariants as cause
use Rattle.run_acts.specs.declared.cause.RewindCause.TheVariants as unfit
use Rattle.cmd_resume.specs.Calls.{MakesAgain, MakesTried}
use Rattle.cmd_resume.specs.Changes.{changes_again}
use Rattle.cmd_resume.specs.Resume.{resume_cause}
use Rattle.cmd_resume.proofs.CallLemmas.{none-tried}
use Rattle.cmd_resume.proofs.ResumeLemmas.{changes-as}

abbrev Found : Type 0
Found = Result (Option Saying) ResumeFault

one-found : (r : Found) (said said' : Saying) → r ≡ Ok (Some said) → r ≡ Ok (Some said') → said ≡ said'
one-found r said said' one other = let same : ◌≡◌ {A = Found} (Ok (Some said)) (Ok (Some said')) = sym one ∙ other in cc same

-- no complete mark was found
pub fresh-tried : (words : RewindWords) (c : Contents) (calls calls' : List ChangeCall) (ended : Cause) → stored_of c words.target words.source ≡ Ok None → MakesAgain words c calls calls' ended
fresh-tried words c calls calls' ended none said wet some = let same : ◌≡◌ {A = Found} (Ok None) (Ok (Some said)) = sym none ∙ some in absurd (cc same)

-- a plan was, and is made again
pub stored-tried : (words : RewindWords) (c mid : Contents) (calls between calls' : List ChangeCall) (ended : Cause) (stored : StoredPlan) → mid ≡ c → between ≡ calls → IsPlacedAt words.target stored.plan
    → stored_of c words.target words.source ≡ Ok (Some (said_by stored)) → (words.dry_run ≡ false → MakesTried mid (resumed_changes mid stored.plan) between calls' ended) → MakesAgain words c calls calls' ended
stored-tried words c mid calls between calls' ended stored same uncalled placed found made said wet some =
    let own : said_by stored ≡ said = one-found (stored_of c words.target words.source) (said_by stored) said found some in
    let changes : resumed_changes c stored.plan ≡ changes_again c words.target said = changes-as c words.target stored placed ∙ ap (changes_again c words.target) own in
    subst (λ xs. MakesTried c xs calls calls' ended) changes
    (subst (λ k. MakesTried c (resumed_changes c stored.plan) k calls' ended) uncalled
    (subst (λ d. MakesTried d (resumed_changes d stored.plan) between calls' ended) same (made wet)))

-- it was refused while it looked: by what was found, or for a fault of the device or want of memory
free-other : (ended : Cause) → IsFree ended → (way : PathValue) → ended ≢ cause.Rewind (unfit.TargetDiffers way)
free-other ended (inl read) way is = cc (sym read ∙ is)
free-other ended (inr (inl write)) way is = cc (sym write ∙ is)
free-other ended (inr (inr (inl sink))) way is = cc (sym sink ∙ is)
free-other ended (inr (inr (inr memory))) way is = cc (sym memory ∙ is)

freed : (words : RewindWords) (e : ResumeFault) (ended : Cause) → IsFreeFault e → (ended ≡ resume_cause words.source e) ⊎ (ended ≡ cause.OutOfMemory) → IsFree ended
freed words e ended free (inr none) = inr (inr (inr none))
freed words e ended (inl read) (inl is) = inl (is ∙ ap (resume_cause words.source) read)
freed words e ended (inr none) (inl is) = inr (inr (inr (is ∙ ap (resume_cause words.source) none)))

pub refused-tried : (words : RewindWords) (c : Contents) (calls calls' : List ChangeCall) (e : ResumeFault) (ended : Cause) → calls' ≡ calls → IsFreeFault e ⊎ (stored_of c words.target words.source ≡ Err e)
    → (ended ≡ resume_cause words.source e) ⊎ (ended ≡ cause.OutOfMemory) → MakesAgain words c calls calls' ended
refused-tried words c calls calls' e ended same (inl free) of said wet some =
    subst (λ k. MakesTried c (changes_again c words.target said) calls k ended) (sym same)
    (none-tried c (changes_again c words.target said) calls ended (free-other ended (freed words e ended free of)))
refused-tried words c calls calls' e ended same (inr is) of said wet some = let both : ◌≡◌ {A = Found} (Err e) (Ok (Some said)) = sym is ∙ some in absurd (cc both)

-- nothing is made in a dry run
pub dry-tried : {P : Type 0} (words : RewindWords) → words.dry_run ≡ true → words.dry_run ≡ false → P
dry-tried words dry wet = absurd (true≢false (sym dry ∙ wet))

-- How a run of a command carries out its answer, from what its calls left.
use Rattle.std.proofs.Common.{◌≡◌, ℕ, ◌⊎◌, Bool, List, [], ◌∷◌, inl, inr, refl, sym, ap, ◌∙◌, subst, Result, Ok, Err, OnOk, OnErr, IfErr}
use Rattle.cluster_tree.specs.Contents.{Contents}
use Rattle.cluster_tree.specs.declared.tree.ChangeCall.{ChangeCall}
use Rattle.acts.specs.Acts.{Act, Look, Print, Report, Do, Within, Ending, Refused, WriteFailed, ReadFailed, NoMemory, Sunk, Seen, seen, Puts, Breaks, Performs, ends}
use Rattle.acts.proofs.ActSteps.{after_reads, look_goes_on, look_breaks, print_goes_on, print_breaks, report_goes_on, report_breaks}
use Rattle.run_acts.specs.Answers.{Answer, Carries, cause_in, refused, does}
use Rattle.run_acts.specs.Causes.{IsFree, IsOfLook, cause_of, ending_of}
use Rattle.run_acts.specs.declared.cause.Cause.{Cause}
use Rattle.run_acts.specs.declared.cause.Cause.TheVariants as cause

-- a failure that may break off changes
abbrev pub IsBreak : Cause → Type 0
IsBreak e = (e ≡ cause.WriteFault) ⊎ (e ≡ cause.ReadFault) ⊎ (e ≡ cause.OutOfMemory)

pub break_free : {e : Cause} → IsBreak e → IsFree e
break_free (inl is) = inr (inl is)
break_free (inr (inl is)) = inl is
break_free (inr (inr is)) = inr (inr (inr is))

pub break_ends : {e : Cause} → IsBreak e → (ending_of e ≡ WriteFailed) ⊎ (ending_of e ≡ ReadFailed) ⊎ (ending_of e ≡ NoMemory)
break_ends (inl is) = inl (ap ending_of is)
break_ends (inr (inl is)) = inr (inl (ap ending_of is))
break_ends (inr (inr is)) = inr (inr (ap ending_of is))

-- acts that begin with a look
abbrev pub Looks : List Act → Type 0
Looks [] = ⊥
Looks (Look ∷ acts) = Unit {0}
Looks (Print text ∷ acts) = ⊥
Looks (Report text ∷ acts) = ⊥
Looks (Do calls after ∷ acts) = ⊥
Looks (Within roots after ∷ acts) = ⊥

pub unfree : (e : Cause) → ending_of e ≡ Refused → IsFree e → ⊥
unfree e is (inl f) = cc (sym is ∙ ap ending_of f)
unfree e is (inr (inl f)) = cc (sym is ∙ ap ending_of f)
unfree e is (inr (inr (inl f))) = cc (sym is ∙ ap ending_of f)
unfree e is (inr (inr (inr f))) = cc (sym is ∙ ap ending_of f)

refused_by : (e : Cause) (meant : Answer) → ending_of e ≡ Refused → IsFree e ⊎ (meant ≡ refused e) → meant ≡ refused e
refused_by e meant is (inl f) = absurd (unfree e is f)
refused_by e meant is (inr r) = r

stops_first : {o e : Bool} {c c' : Contents} {k k' : List ChangeCall} {out err : Sunk} {ending : Ending} (acts : List Act) → Looks acts → (ending ≡ ReadFailed) ⊎ (ending ≡ NoMemory) → c' ≡ c → k' ≡ k → Performs o e ending acts (seen c k out err) (seen c' k' out err)
stops_first [] l is ci ki = absurd l
stops_first (Look ∷ acts) l is ci ki = look_breaks is ci ki
stops_first (Print text ∷ acts) l is ci ki = absurd l
stops_first (Report text ∷ acts) l is ci ki = absurd l
stops_first (Do calls after ∷ acts) l is ci ki = absurd l
stops_first (Within roots after ∷ acts) l is ci ki = absurd l

module _ {Known : Type 0} {meant : Answer} {IsForm : Answer → Type 0} {o e : Bool} {c c' : Contents} {k k' : List ChangeCall} {out err : Sunk} where
  -- a failed read, or want of memory, before all else
  pub carries_fault : {ended : Cause} → IsForm meant → Looks meant.acts → (ended ≡ cause.ReadFault) ⊎ (ended ≡ cause.OutOfMemory)
      → c' ≡ c → k' ≡ k → Carries Known meant IsForm o e ended (seen c k out err) (seen c' k' out err)
  carries_fault {ended} form looks (inl is) ci ki = record {
    answer = meant;
    known = λ h. refl;
    form = form;
    exact = inl (inl is);
    acts = stops_first meant.acts looks (inl (ap ending_of is)) ci ki;
  }
  carries_fault {ended} form looks (inr is) ci ki = record {
    answer = meant;
    known = λ h. refl;
    form = form;
    exact = inl (inr (inr (inr is)));
    acts = stops_first meant.acts looks (inr (ap ending_of is)) ci ki;
  }

  -- a refusal with nothing done
  pub carries_refused : (why : Cause) → ending_of why ≡ Refused → (Known → refused why ≡ meant) → IsForm (refused why)
      → c' ≡ c → k' ≡ k → Carries Known meant IsForm o e why (seen c k out err) (seen c' k' out err)
  carries_refused why is known form ci ki = record {
    answer = refused why;
    known = known;
    form = form;
    exact = inr refl;
    acts = after_reads ci ki (look_goes_on (ends (inr is)));
  }

  -- what was answered while the command looked
  pub carries_look : (why : Cause) → IsForm meant → Looks meant.acts → IsForm (refused why) → IsOfLook why → (Known → IsFree why ⊎ (meant ≡ refused why))
      → c' ≡ c → k' ≡ k → Carries Known meant IsForm o e why (seen c k out err) (seen c' k' out err)
  carries_look why form looks refuses (inl is) passes ci ki = carries_fault form looks (inl is) ci ki
  carries_look why form looks refuses (inr (inl is)) passes ci ki = carries_fault form looks (inr is) ci ki
  carries_look why form looks refuses (inr (inr is)) passes ci ki = carries_refused why is (λ h. sym (refused_by why meant is (passes h))) refuses ci ki

  -- acts that were done after the look, all or the first of them
  pub carries_acts : {ended : Cause} {u : Seen} (acts : List Act) → (Known → does acts ≡ meant) → IsForm (does acts) → IsFree ended ⊎ (ended ≡ cause.Done)
      → c' ≡ c → k' ≡ k → Performs o e (ending_of ended) acts (seen c' k' out err) u → Carries Known meant IsForm o e ended (seen c k out err) u
  carries_acts acts known form exact ci ki p = record {
    answer = does acts;
    known = known;
    form = form;
    exact = exact;
    acts = after_reads ci ki (look_goes_on p);
  }

-- the cause under another name
pub carries_told : {Known : Type 0} {meant : Answer} {IsForm : Answer → Type 0} {o e : Bool} {ended own : Cause} {s u : Seen} → ended ≡ own → Carries Known meant IsForm o e own s u → Carries Known meant IsForm o e ended s u
carries_told {Known} {meant} {IsForm} {o} {e} {s = s} {u} is p = subst (λ x. Carries Known meant IsForm o e x s u) (sym is) p

-- what is meant under another name, after reads
pub carries_as : {Known Known' : Type 0} {meant meant' : Answer} {IsForm : Answer → Type 0} {o e : Bool} {ended : Cause} {c c' : Contents} {k k' : List ChangeCall} {out err : Sunk} {u : Seen}
    → (Known' → Known) → (Known' → meant ≡ meant') → c' ≡ c → k' ≡ k
    → Carries Known meant IsForm o e ended (seen c' k' out err) u → Carries Known' meant' IsForm o e ended (seen c k out err) u
carries_as known same ci ki p = record {
  answer = p.answer;
  known = λ h. p.known (known h) ∙ same h;
  form = p.form;
  exact = p.exact;
  acts = after_reads ci ki p.acts;
}

-- a text that is the last act, told by a call whose outcome is handed on
module _ {o e : Bool} {c : Contents} {k : List ChangeCall} {text text' : List ℕ} where
  pub last_print : {out out' err : Sunk} (r : Result (Unit {0}) Cause) → OnOk r (Puts o text' out out') → OnErr r (Breaks o text' out out') → IfErr r (λ x. x ≡ cause.SinkFault) → text' ≡ text
      → Performs o e (ending_of (cause_of r)) (Print text ∷ []) (seen c k out err) (seen c k out' err)
  last_print (Ok u) p b s is = print_goes_on p is (ends (inl refl))
  last_print (Err why) p b s is = print_breaks b is (ap ending_of s)

  pub last_report : {out err err' : Sunk} (r : Result (Unit {0}) Cause) → OnOk r (Puts e text' err err') → OnErr r (Breaks e text' err err') → IfErr r (λ x. x ≡ cause.SinkFault) → text' ≡ text
      → Performs o e (ending_of (cause_of r)) (Report text ∷ []) (seen c k out err) (seen c k out err')
  last_report (Ok u) p b s is = report_goes_on p is (ends (inl refl))
  last_report (Err why) p b s is = report_breaks b is (ap ending_of s)

pub last_exact : (r : Result (Unit {0}) Cause) → IfErr r (λ x. x ≡ cause.SinkFault) → IsFree (cause_of r) ⊎ (cause_of r ≡ cause.Done)
last_exact (Ok u) s = inr refl
last_exact (Err why) s = inl (inr (inr (inl s)))

-- where it is known what is meant, the cause is its own, or free
pub carries_exact : {Known : Type 0} {meant : Answer} {IsForm : Answer → Type 0} {o e : Bool} {ended : Cause} {s u : Seen} → Known → Carries Known meant IsForm o e ended s u → IsFree ended ⊎ (ended ≡ cause_in meant.refusal)
carries_exact {ended = ended} h p = subst (λ a. IsFree ended ⊎ (ended ≡ cause_in a.refusal)) (p.known h) p.exact

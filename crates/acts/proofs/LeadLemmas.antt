-- What a loop over acts keeps: what the rest of the acts leads to from here, all of them lead to from the start.
use Rattle.std.proofs.Common.{◌≡◌, ℕ, Bool, List, ◌∷◌, subst}
use Rattle.cluster_tree.specs.Contents.{Contents}
use Rattle.cluster_tree.specs.declared.tree.ChangeCall.{ChangeCall}
use Rattle.acts.specs.Acts.{Act, Report, Do, Ending, Sunk, Seen, seen, Puts, MakesAll, IsAfterChange, Performs}
use Rattle.acts.proofs.ActSteps.{report_goes_on, do_goes_on, after_reads}

-- of the endings that P allows
pub record Leads (P : Ending → Type 0) (o e : Bool) (all : List Act) (start : Seen) (rest : List Act) (here : Seen) : Type 0 where
  pub on : (ending : Ending) (u : Seen) → P ending → Performs o e ending rest here u → Performs o e ending all start u

module _ {P : Ending → Type 0} {o e : Bool} where
  pub leads_start : {acts : List Act} {s : Seen} → Leads P o e acts s acts s
  leads_start = record { on = λ ending u h p. p }

  pub leads_as : {all rest rest' : List Act} {start here : Seen} → rest ≡ rest' → Leads P o e all start rest here → Leads P o e all start rest' here
  leads_as {all} {start = start} {here} is l = subst (λ r. Leads P o e all start r here) is l

  pub leads_report : {all acts : List Act} {start : Seen} {c : Contents} {k : List ChangeCall} {text text' : List ℕ} {out err err' : Sunk}
      → Leads P o e all start (Report text ∷ acts) (seen c k out err) → Puts e text' err err' → text' ≡ text → Leads P o e all start acts (seen c k out err')
  leads_report l p is = record { on = λ ending u h r. l.on ending u h (report_goes_on p is r) }

  pub leads_do : {all acts : List Act} {start : Seen} {c c' after : Contents} {k k' plan : List ChangeCall} {out err : Sunk}
      → ((ending : Ending) → P ending → IsAfterChange ending)
      → Leads P o e all start (Do plan after ∷ acts) (seen c k out err) → MakesAll plan k k' → c' ≡ after → Leads P o e all start acts (seen c' k' out err)
  leads_do a l m is = record { on = λ ending u h r. l.on ending u h (do_goes_on m is (a ending h) r) }

  pub leads_read : {all acts : List Act} {start : Seen} {c c' : Contents} {k k' : List ChangeCall} {out err : Sunk}
      → c' ≡ c → k' ≡ k → Leads P o e all start acts (seen c k out err) → Leads P o e all start acts (seen c' k' out err)
  leads_read ci ki l = record { on = λ ending u h r. l.on ending u h (after_reads ci ki r) }

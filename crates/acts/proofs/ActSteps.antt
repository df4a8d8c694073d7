-- The steps of a run, from the front: what was done by the next act, and then by the rest.
use Rattle.std.proofs.Common.{◌≡◌, ℕ, ◌⊎◌, Bool, List, [], ◌∷◌, inl, inr, refl, subst, Option}
use Rattle.cluster_tree.specs.PathValue.{PathValue}
use Rattle.cluster_tree.specs.Contents.{Contents}
use Rattle.cluster_tree.specs.declared.tree.ChangeCall.{ChangeCall}
use Rattle.acts.specs.Acts.{Act, Look, Print, Report, Do, Within, Ending, Done, Refused, ReadFailed, WriteFailed, SinkFailed, NoMemory, Sunk, Seen, seen, Puts, Breaks, MakesAll, Begins, Changes, Leaves, IsAfterChange, Performs, ends, breaks, goes_on}

module _ {o e : Bool} {ending : Ending} where
  -- a text was put on standard output, and then the rest
  pub print_goes_on : {acts : List Act} {c : Contents} {k : List ChangeCall} {text text' : List ℕ} {out out' err : Sunk} {u : Seen}
      → Puts o text' out out' → text' ≡ text → Performs o e ending acts (seen c k out' err) u → Performs o e ending (Print text ∷ acts) (seen c k out err) u
  print_goes_on {out = out} {out'} p is r = goes_on (subst (λ t. Puts o t out out') is p, refl) tt r

  pub report_goes_on : {acts : List Act} {c : Contents} {k : List ChangeCall} {text text' : List ℕ} {out err err' : Sunk} {u : Seen}
      → Puts e text' err err' → text' ≡ text → Performs o e ending acts (seen c k out err') u → Performs o e ending (Report text ∷ acts) (seen c k out err) u
  report_goes_on {err = err} {err'} p is r = goes_on (subst (λ t. Puts e t err err') is p, refl) tt r

  pub print_breaks : {acts : List Act} {c : Contents} {k : List ChangeCall} {text text' : List ℕ} {out out' err : Sunk}
      → Breaks o text' out out' → text' ≡ text → ending ≡ SinkFailed → Performs o e ending (Print text ∷ acts) (seen c k out err) (seen c k out' err)
  print_breaks {out = out} {out'} b t_is is = breaks (is, subst (λ t. Breaks o t out out') t_is b, refl)

  pub report_breaks : {acts : List Act} {c : Contents} {k : List ChangeCall} {text text' : List ℕ} {out err err' : Sunk}
      → Breaks e text' err err' → text' ≡ text → ending ≡ SinkFailed → Performs o e ending (Report text ∷ acts) (seen c k out err) (seen c k out err')
  report_breaks {err = err} {err'} b t_is is = breaks (is, subst (λ t. Breaks e t err err') t_is b, refl)

  pub do_goes_on : {acts : List Act} {c c' after : Contents} {plan k k' : List ChangeCall} {out err : Sunk} {u : Seen}
      → MakesAll plan k k' → c' ≡ after → IsAfterChange ending
      → Performs o e ending acts (seen c' k' out err) u → Performs o e ending (Do plan after ∷ acts) (seen c k out err) u
  do_goes_on {acts} {k' = k'} {out} {err} {u} m is a r =
      goes_on (m, refl) a (subst (λ x. Performs o e ending acts (seen x k' out err) u) is r)

  pub do_breaks : {acts : List Act} {c c' after : Contents} {plan k k' : List ChangeCall} {out err : Sunk}
      → (ending ≡ WriteFailed) ⊎ (ending ≡ ReadFailed) → Begins plan k k'
      → Performs o e ending (Do plan after ∷ acts) (seen c k out err) (seen c' k' out err)
  do_breaks is b = breaks (is, b, refl)

  pub within_goes_on : {acts : List Act} {roots : List PathValue} {c c' : Contents} {after : Option Contents} {k k' : List ChangeCall} {out err : Sunk} {u : Seen}
      → Changes roots (seen c k out err) (seen c' k' out err) → Leaves after c'
      → Performs o e ending acts (seen c' k' out err) u → Performs o e ending (Within roots after ∷ acts) (seen c k out err) u
  within_goes_on ch l r = goes_on (ch, refl, l) tt r

  pub within_breaks : {acts : List Act} {roots : List PathValue} {c c' : Contents} {after : Option Contents} {k k' : List ChangeCall} {out err : Sunk}
      → (ending ≡ WriteFailed) ⊎ (ending ≡ ReadFailed) ⊎ (ending ≡ NoMemory) → Changes roots (seen c k out err) (seen c' k' out err)
      → Performs o e ending (Within roots after ∷ acts) (seen c k out err) (seen c' k' out err)
  within_breaks is ch = breaks (is, ch, refl)

  -- reads before the next act
  pub after_reads : {acts : List Act} {c c' : Contents} {k k' : List ChangeCall} {out err : Sunk} {u : Seen}
      → c' ≡ c → k' ≡ k
      → Performs o e ending acts (seen c' k' out err) u → Performs o e ending acts (seen c k out err) u
  after_reads {acts} {out = out} {err} {u} ci ki r =
      let P : Seen → Type 0 = λ s. Performs o e ending acts s u in
      subst P (λ i. seen (ci i) (ki i) out err) r

  pub done : {s : Seen} → ending ≡ Done → Performs o e ending [] s s
  done is = ends (inl is)

  pub refused : {s : Seen} → ending ≡ Refused → Performs o e ending [] s s
  refused is = ends (inr is)

  -- the next act is a look: it is passed, or ends the run
  pub look_goes_on : {acts : List Act} {s u : Seen} → Performs o e ending acts s u → Performs o e ending (Look ∷ acts) s u
  look_goes_on r = goes_on refl tt r

  pub look_breaks : {acts : List Act} {c c' : Contents} {k k' : List ChangeCall} {out err : Sunk}
      → (ending ≡ ReadFailed) ⊎ (ending ≡ NoMemory) → c' ≡ c → k' ≡ k → Performs o e ending (Look ∷ acts) (seen c k out err) (seen c' k' out err)
  look_breaks {out = out} {err} is ci ki = breaks (is, (λ i. seen (ci i) (ki i) out err))

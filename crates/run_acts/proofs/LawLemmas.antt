-- What follows of every run that performs acts for the texts on standard error.
use Rattle.std.proofs.Common.{◌≡◌, ◌⊎◌, ◌∙◌, ◌++◌, ℕ, ◌-◌, List, [], ◌∷◌, length, take, inl, inr, refl, sym, ap, subst, append-nil, append_assoc}
use Rattle.cluster_tree.specs.Sink.{AddsPart}
use Rattle.acts.specs.Acts.{Look, Print, Report, Do, Within, Ending, Done, Refused, ReadFailed, WriteFailed, SinkFailed, NoMemory, Seen, ends, breaks, goes_on}
use Rattle.acts.specs.Texts.{texts_of}
use Rattle.run_acts.specs.Laws.{ReportsInOrder, Told, next_of}

uncut : (ending : Ending) → ending ≡ SinkFailed → (ending ≡ Done) ⊎ (ending ≡ Refused) → ⊥
uncut ending is (inl other) = cc
uncut ending is (inr other) = cc

unpaused : (ending : Ending) → (ending ≡ ReadFailed) ⊎ (ending ≡ NoMemory) → (ending ≡ Done) ⊎ (ending ≡ Refused) → ⊥
unpaused ending (inl is) (inl other) = cc
unpaused ending (inl is) (inr other) = cc
unpaused ending (inr is) (inl other) = cc
unpaused ending (inr is) (inr other) = cc

unfailed : (ending : Ending) → (ending ≡ WriteFailed) ⊎ (ending ≡ ReadFailed) → (ending ≡ Done) ⊎ (ending ≡ Refused) → ⊥
unfailed ending (inl is) (inl other) = cc
unfailed ending (inl is) (inr other) = cc
unfailed ending (inr is) (inl other) = cc
unfailed ending (inr is) (inr other) = cc

unchanged : (ending : Ending) → (ending ≡ WriteFailed) ⊎ (ending ≡ ReadFailed) ⊎ (ending ≡ NoMemory) → (ending ≡ Done) ⊎ (ending ≡ Refused) → ⊥
unchanged ending (inl is) h = unfailed ending (inl is) h
unchanged ending (inr (inl is)) h = unfailed ending (inr is) h
unchanged ending (inr (inr is)) h = unpaused ending (inr is) h

same_err : {s t : Seen} → t ≡ s → t.err.text ≡ s.err.text
same_err is = ap (λ (x : Seen). x.err.text) is

-- nothing was told by a run that broke off
told_none : {ending : Ending} {texts : List (List ℕ)} {old new : List ℕ} → ((ending ≡ Done) ⊎ (ending ≡ Refused) → ⊥) → new ≡ old → Told ending texts old new
told_none {texts = texts} {old} broken is = record { told = []; rest = texts; count = 0; split = refl; is = is ∙ sym (append-nil old); whole = λ h. refl; all = λ h. absurd (broken h) }

told_all : {ending : Ending} {old new : List ℕ} → new ≡ old → Told ending [] old new
told_all {old = old} is = record { told = []; rest = []; count = 0; split = refl; is = is ∙ sym (append-nil old); whole = λ h. refl; all = λ h. refl }

told_more : {ending : Ending} {texts : List (List ℕ)} {text old mid new : List ℕ} → mid ≡ old ++ text → Told ending texts mid new → Told ending (text ∷ texts) old new
told_more {text = text} {old} {mid} is t = record {
  told = text ∷ t.told;
  rest = t.rest;
  count = t.count;
  split = ap (λ l. text ∷ l) t.split;
  is = t.is ∙ ap (λ l. l ++ (texts_of t.told ++ take t.count (next_of t.rest))) is ∙ append_assoc old text (texts_of t.told ++ take t.count (next_of t.rest))
      ∙ ap (λ l. old ++ l) (sym (append_assoc text (texts_of t.told) (take t.count (next_of t.rest))));
  whole = t.whole;
  all = t.all;
}

told_on : {ending : Ending} {texts : List (List ℕ)} {old mid new : List ℕ} → mid ≡ old → Told ending texts mid new → Told ending texts old new
told_on {ending} {texts} {new = new} is t = subst (λ x. Told ending texts x new) is t

told_cut : {ending : Ending} {texts : List (List ℕ)} {text old new : List ℕ} → ending ≡ SinkFailed → AddsPart text old new → Told ending (text ∷ texts) old new
told_cut {texts = texts} {text} {old} {new} is part = record {
  told = [];
  rest = text ∷ texts;
  count = length new - length old;
  split = refl;
  is = part;
  whole = λ other. absurd (other is);
  all = λ h. absurd (uncut _ is h);
}

pub reports-in_order : ReportsInOrder
reports-in_order o ending [] s u (ends is) = told_all refl
reports-in_order o ending (Look ∷ acts) s u (breaks p) = told_none (unpaused ending p.0) (same_err p.1)
reports-in_order o ending (Print text ∷ acts) s u (breaks p) = told_none (uncut ending p.0) (same_err p.2)
reports-in_order o ending (Report text ∷ acts) s u (breaks p) = told_cut p.0 (p.1.part refl)
reports-in_order o ending (Do calls after ∷ acts) s u (breaks p) = told_none (unfailed ending p.0) (same_err p.2)
reports-in_order o ending (Within roots after ∷ acts) s u (breaks p) = told_none (unchanged ending p.0) (same_err p.2)
reports-in_order o ending (Look ∷ acts) s u (goes_on {t = t} w a r) = told_on (same_err w) (reports-in_order o ending acts t u r)
reports-in_order o ending (Print text ∷ acts) s u (goes_on {t = t} w a r) = told_on (same_err w.1) (reports-in_order o ending acts t u r)
reports-in_order o ending (Report text ∷ acts) s u (goes_on {t = t} w a r) = told_more (w.0.added refl) (reports-in_order o ending acts t u r)
reports-in_order o ending (Do calls after ∷ acts) s u (goes_on {t = t} w a r) = told_on (same_err w.1) (reports-in_order o ending acts t u r)
reports-in_order o ending (Within roots after ∷ acts) s u (goes_on {t = t} w a r) = told_on (same_err w.1) (reports-in_order o ending acts t u r)

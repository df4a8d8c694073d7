-- What follows of every run that performs acts.
use Rattle.std.proofs.Common.{◌≡◌, ◌⊎◌, ◌++◌, ℕ, suc, List, [], ◌∷◌, take, inl, inr, refl, sym, ap, ◌∙◌, append-nil, append_assoc}
use Rattle.acts.specs.Acts.{Look, Print, Report, Do, Within, Ending, Done, Refused, ReadFailed, WriteFailed, SinkFailed, NoMemory, Seen, IsAfterChange, ends, breaks, goes_on}
use Rattle.acts.specs.Texts.{texts_of}
use Rattle.acts.specs.Laws.{NoSinkFault, NoHalf, AllPrinted, FaultsFirst, NoMemoryUnchanged, LineFirst, AllMade}

pub sink_fault-no : NoSinkFault
sink_fault-no o e s u (ends (inl is)) = cc is
sink_fault-no o e s u (ends (inr is)) = cc is

unbroken : (ending : Ending) → (ending ≡ ReadFailed) ⊎ (ending ≡ NoMemory) → ending ≡ SinkFailed → ⊥
unbroken ending (inl is) other = cc
unbroken ending (inr is) other = cc

none_put : (text : List ℕ) → text ≡ text ++ texts_of []
none_put text = sym (append-nil text)

same_out : {s t : Seen} → t ≡ s → t.out.text ≡ s.out.text
same_out is = ap (λ (x : Seen). x.out.text) is

pub half-no : NoHalf
half-no e ending [] s u h (breaks p) = (0, same_out p.1 ∙ none_put s.out.text)
half-no e ending [] s u h (goes_on w a (ends is)) = (0, same_out w ∙ none_put s.out.text)
half-no e ending (first ∷ texts) s u h (breaks p) = (0, same_out p.1 ∙ none_put s.out.text)
half-no e ending (first ∷ texts) s u h (goes_on w a (breaks p)) = absurd (unbroken ending h p.0)
half-no e ending (first ∷ texts) s u h (goes_on w a (goes_on {t = t} v b r)) =
    let rest = half-no e ending texts t u h r in
    (suc rest.0, rest.1 ∙ ap (λ l. l ++ texts_of (take rest.0 texts)) (v.0.added refl ∙ ap (λ l. l ++ first) (same_out w)) ∙ append_assoc s.out.text first (texts_of (take rest.0 texts)))

unpaused : (ending : Ending) → (ending ≡ Done) ⊎ (ending ≡ Refused) → (ending ≡ ReadFailed) ⊎ (ending ≡ NoMemory) → ⊥
unpaused ending (inl is) (inl other) = cc
unpaused ending (inl is) (inr other) = cc
unpaused ending (inr is) (inl other) = cc
unpaused ending (inr is) (inr other) = cc

uncut : (ending : Ending) → (ending ≡ Done) ⊎ (ending ≡ Refused) → ending ≡ SinkFailed → ⊥
uncut ending (inl is) other = cc
uncut ending (inr is) other = cc

pub printed-all : AllPrinted
printed-all e ending [] s u h (breaks p) = absurd (unpaused ending h p.0)
printed-all e ending [] s u h (goes_on w a (ends is)) = same_out w ∙ none_put s.out.text
printed-all e ending (first ∷ texts) s u h (breaks p) = absurd (unpaused ending h p.0)
printed-all e ending (first ∷ texts) s u h (goes_on w a (breaks p)) = absurd (uncut ending h p.0)
printed-all e ending (first ∷ texts) s u h (goes_on w a (goes_on {t = t} v b r)) =
    printed-all e ending texts t u h r ∙ ap (λ l. l ++ texts_of texts) (v.0.added refl ∙ ap (λ l. l ++ first) (same_out w)) ∙ append_assoc s.out.text first (texts_of texts)

pub faults-first : FaultsFirst
faults-first o e ending text s u h (breaks p) = p.1
faults-first o e ending text s u h (goes_on w a (breaks p)) = absurd (unbroken ending h p.0)
faults-first o e ending text s u h (goes_on w a (goes_on v b (ends is))) = absurd (unpaused ending is h)

before_change : (ending : Ending) → (ending ≡ NoMemory) ⊎ (ending ≡ Refused) → IsAfterChange ending → ⊥
before_change NoMemory h a = a
before_change Refused h a = a
before_change Done (inl is) a = cc is
before_change Done (inr is) a = cc is
before_change ReadFailed (inl is) a = cc is
before_change ReadFailed (inr is) a = cc is
before_change WriteFailed (inl is) a = cc is
before_change WriteFailed (inr is) a = cc is
before_change SinkFailed (inl is) a = cc is
before_change SinkFailed (inr is) a = cc is

unfailed : (ending : Ending) → (ending ≡ NoMemory) ⊎ (ending ≡ Refused) → (ending ≡ WriteFailed) ⊎ (ending ≡ ReadFailed) → ⊥
unfailed ending (inl is) (inl other) = cc
unfailed ending (inl is) (inr other) = cc
unfailed ending (inr is) (inl other) = cc
unfailed ending (inr is) (inr other) = cc

pub unchanged-no_memory : NoMemoryUnchanged
unchanged-no_memory o e ending [] s u h st (ends is) = (refl, refl)
unchanged-no_memory o e ending (Look ∷ acts) s u h st (breaks p) = (ap (λ (x : Seen). x.contents) p.1, ap (λ (x : Seen). x.calls) p.1)
unchanged-no_memory o e ending (Look ∷ acts) s u h st (goes_on {t = t} w a r) =
    let rest = unchanged-no_memory o e ending acts t u h st r in
    (rest.0 ∙ ap (λ (x : Seen). x.contents) w, rest.1 ∙ ap (λ (x : Seen). x.calls) w)
unchanged-no_memory o e ending (Print text ∷ acts) s u h st (breaks p) = (ap (λ (x : Seen). x.contents) p.2, ap (λ (x : Seen). x.calls) p.2)
unchanged-no_memory o e ending (Report text ∷ acts) s u h st (breaks p) = (ap (λ (x : Seen). x.contents) p.2, ap (λ (x : Seen). x.calls) p.2)
unchanged-no_memory o e ending (Do calls after ∷ acts) s u h st (breaks p) = absurd (unfailed ending h p.0)
unchanged-no_memory o e ending (Within roots after ∷ acts) s u h st r = absurd st
unchanged-no_memory o e ending (Print text ∷ acts) s u h st (goes_on {t = t} w a r) =
    let rest = unchanged-no_memory o e ending acts t u h st r in
    (rest.0 ∙ ap (λ (x : Seen). x.contents) w.1, rest.1 ∙ ap (λ (x : Seen). x.calls) w.1)
unchanged-no_memory o e ending (Report text ∷ acts) s u h st (goes_on {t = t} w a r) =
    let rest = unchanged-no_memory o e ending acts t u h st r in
    (rest.0 ∙ ap (λ (x : Seen). x.contents) w.1, rest.1 ∙ ap (λ (x : Seen). x.calls) w.1)
unchanged-no_memory o e ending (Do calls after ∷ acts) s u h st (goes_on w a r) = absurd (before_change ending h a)

pub line-first : LineFirst
line-first o ending text plan after acts s u (breaks p) = inl (ap (λ (x : Seen). x.calls) p.2)
line-first o ending text plan after acts s u (goes_on {t = t} w a r) = inr (t, w.0.added refl, r)

pub made-all : AllMade
made-all o e plan after s u (breaks (inl is, b, r)) = cc is
made-all o e plan after s u (breaks (inr is, b, r)) = cc is
made-all o e plan after s u (goes_on w a (ends is)) = (w.0, ap (λ (x : Seen). x.contents) w.1)

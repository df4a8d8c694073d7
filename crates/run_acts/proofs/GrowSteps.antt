-- What stood on a sink stays, whatever acts a run performs.
use Rattle.std.proofs.Common.{◌≡◌, ◌∙◌, ℕ, ◌-◌, ◌++◌, Bool, List, [], ◌∷◌, length, take, refl, sym, ap, append-nil, append_assoc}
use Rattle.acts.specs.Acts.{Act, Look, Print, Report, Do, Within, Ending, Sunk, Seen, Puts, Breaks, InPart, Whole, Performs, ends, breaks, goes_on}
use Rattle.run_acts.specs.Answers.{Grows}

pub grows_same : (tells : Bool) (s t : Sunk) → t ≡ s → Grows tells s t
grows_same tells s t is = record { text = []; added = λ h. ap (λ (x : Sunk). x.text) is ∙ sym (append-nil s.text) }

pub grows_then : (tells : Bool) (a b c : Sunk) → Grows tells a b → Grows tells b c → Grows tells a c
grows_then tells a b c g h = record {
  text = g.text ++ h.text;
  added = λ t. h.added t ∙ ap (λ x. x ++ h.text) (g.added t) ∙ append_assoc a.text g.text h.text;
}

pub grows_put : (tells : Bool) (text : List ℕ) (a b : Sunk) → Puts tells text a b → Grows tells a b
grows_put tells text a b p = record { text = text; added = p.added }

pub grows_broken : (tells : Bool) (text : List ℕ) (a b : Sunk) → Breaks tells text a b → Grows tells a b
grows_broken tells text a b p = record { text = take (length b.text - length a.text) text; added = p.part }

-- both sinks
abbrev pub BothGrow : Bool → Bool → Seen → Seen → Type 0
BothGrow o e s u = Grows o s.out u.out × Grows e s.err u.err

both_then : (o e : Bool) (s t u : Seen) → BothGrow o e s t → BothGrow o e t u → BothGrow o e s u
both_then o e s t u g h = (grows_then o s.out t.out u.out g.0 h.0, grows_then e s.err t.err u.err g.1 h.1)

both_same : (o e : Bool) (s u : Seen) → u.out ≡ s.out → u.err ≡ s.err → BothGrow o e s u
both_same o e s u is js = (grows_same o s.out u.out is, grows_same e s.err u.err js)

of_whole : (o e : Bool) (act : Act) (s t : Seen) → Whole o e act s t → BothGrow o e s t
of_whole o e Look s t w = both_same o e s t (ap (λ (x : Seen). x.out) w) (ap (λ (x : Seen). x.err) w)
of_whole o e (Print text) s t w = (grows_put o text s.out t.out w.0, grows_same e s.err t.err (ap (λ (x : Seen). x.err) w.1))
of_whole o e (Report text) s t w = (grows_same o s.out t.out (ap (λ (x : Seen). x.out) w.1), grows_put e text s.err t.err w.0)
of_whole o e (Do calls after) s t w = both_same o e s t (ap (λ (x : Seen). x.out) w.1) (ap (λ (x : Seen). x.err) w.1)
of_whole o e (Within roots after) s t w = both_same o e s t (ap (λ (x : Seen). x.out) w.1) (ap (λ (x : Seen). x.err) w.1)

of_part : (o e : Bool) (ending : Ending) (act : Act) (s t : Seen) → InPart o e ending act s t → BothGrow o e s t
of_part o e ending Look s t w = both_same o e s t (ap (λ (x : Seen). x.out) w.1) (ap (λ (x : Seen). x.err) w.1)
of_part o e ending (Print text) s t w = (grows_broken o text s.out t.out w.1, grows_same e s.err t.err (ap (λ (x : Seen). x.err) w.2))
of_part o e ending (Report text) s t w = (grows_same o s.out t.out (ap (λ (x : Seen). x.out) w.2), grows_broken e text s.err t.err w.1)
of_part o e ending (Do calls after) s t w = both_same o e s t (ap (λ (x : Seen). x.out) w.2) (ap (λ (x : Seen). x.err) w.2)
of_part o e ending (Within roots after) s t w = both_same o e s t (ap (λ (x : Seen). x.out) w.2) (ap (λ (x : Seen). x.err) w.2)

-- of a run that performs acts
pub performs_grow : (o e : Bool) (ending : Ending) (acts : List Act) (s u : Seen) → Performs o e ending acts s u → BothGrow o e s u
performs_grow o e ending [] s u (ends is) = both_same o e s u refl refl
performs_grow o e ending (act ∷ acts) s u (breaks p) = of_part o e ending act s u p
performs_grow o e ending (act ∷ acts) s u (goes_on {t = t} w a r) = both_then o e s t u (of_whole o e act s t w) (performs_grow o e ending acts t u r)

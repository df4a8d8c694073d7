-- What follows of every run that performs acts for the texts on standard error. Own: "A command is a script of acts".
use Rattle.std.specs.Prelude.{◌≡◌, ◌≢◌, ◌⊎◌, ℕ, ◌++◌, Bool, true, List, [], ◌∷◌, take}
use Rattle.acts.specs.Acts.{Act, Look, Print, Report, Do, Within, Ending, Done, Refused, SinkFailed, Seen, Performs}
use Rattle.acts.specs.Texts.{texts_of}
use Rattle.run_acts.specs.Answers.{Grows}

-- the texts that acts put on standard error
abbrev pub reported : List Act → List (List ℕ)
reported [] = []
reported (Look ∷ acts) = reported acts
reported (Print text ∷ acts) = reported acts
reported (Report text ∷ acts) = text ∷ reported acts
reported (Do calls after ∷ acts) = reported acts
reported (Within roots after ∷ acts) = reported acts

-- the next of some texts, empty where there is none
abbrev pub next_of : List (List ℕ) → List ℕ
next_of [] = []
next_of (text ∷ texts) = text

-- A sink goes on by the first of these texts, each whole, and then the first bytes of the next one: none but where its write failed. All are there where
-- the run is done or refused.
pub record Told (ending : Ending) (texts : List (List ℕ)) (old new : List ℕ) : Type 0 where
  pub told : List (List ℕ)
  pub rest : List (List ℕ)
  pub count : ℕ
  pub split : texts ≡ told ++ rest
  pub is : new ≡ old ++ (texts_of told ++ take count (next_of rest))
  pub whole : ending ≢ SinkFailed → count ≡ 0
  pub all : (ending ≡ Done) ⊎ (ending ≡ Refused) → rest ≡ []

-- standard error goes on by the texts of the acts, in order, as far as they came
abbrev pub ReportsInOrder : Type 0
ReportsInOrder = (o : Bool) (ending : Ending) (acts : List Act) (s u : Seen) → Performs o true ending acts s u → Told ending (reported acts) s.err.text u.err.text

-- what stood on both sinks stays
abbrev pub SinksGrow : Type 0
SinksGrow = (o e : Bool) (ending : Ending) (acts : List Act) (s u : Seen) → Performs o e ending acts s u → Grows o s.out u.out × Grows e s.err u.err

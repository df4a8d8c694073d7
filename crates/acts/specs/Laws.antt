-- What follows of every run that performs acts. Own: "A command is a script of acts".
use Rattle.std.specs.Prelude.{◌≡◌, ℕ, ◌++◌, ◌⊎◌, Bool, true, List, [], ◌∷◌, take}
use Rattle.cluster_tree.specs.Contents.{Contents}
use Rattle.cluster_tree.specs.declared.tree.ChangeCall.{ChangeCall}
use Rattle.acts.specs.Acts.{Act, Look, Print, Report, Do, Within, Done, Refused, ReadFailed, SinkFailed, NoMemory, Ending, Seen, MakesAll, Performs}
use Rattle.acts.specs.Texts.{texts_of, prints}

-- no run ends in a failed write where no text is left to be put
abbrev pub NoSinkFault : Type 0
NoSinkFault = (o e : Bool) (s u : Seen) → Performs o e SinkFailed [] s u → ⊥

-- where a read failed or memory was wanting, each text that was begun is whole
abbrev pub NoHalf : Type 0
NoHalf = (e : Bool) (ending : Ending) (texts : List (List ℕ)) (s u : Seen) → (ending ≡ ReadFailed) ⊎ (ending ≡ NoMemory) → Performs true e ending (prints texts) s u
    → (k : ℕ) × (u.out.text ≡ s.out.text ++ texts_of (take k texts))

-- a run that is done or refused has put all texts
abbrev pub AllPrinted : Type 0
AllPrinted = (e : Bool) (ending : Ending) (texts : List (List ℕ)) (s u : Seen) → (ending ≡ Done) ⊎ (ending ≡ Refused) → Performs true e ending (prints texts) s u
    → u.out.text ≡ s.out.text ++ texts_of texts

-- a single text stands nowhere where a read failed or memory was wanting: both come before it
abbrev pub FaultsFirst : Type 0
FaultsFirst = (o e : Bool) (ending : Ending) (text : List ℕ) (s u : Seen) → (ending ≡ ReadFailed) ⊎ (ending ≡ NoMemory) → Performs o e ending (Look ∷ Print text ∷ []) s u → u ≡ s

-- acts of which none is left open in its changes
abbrev pub AreStated : List Act → Type 0
AreStated [] = Unit {0}
AreStated (Look ∷ acts) = AreStated acts
AreStated (Print text ∷ acts) = AreStated acts
AreStated (Report text ∷ acts) = AreStated acts
AreStated (Do calls after ∷ acts) = AreStated acts
AreStated (Within roots after ∷ acts) = ⊥

-- neither want of memory nor a refusal comes after a change that is stated
abbrev pub NoMemoryUnchanged : Type 0
NoMemoryUnchanged = (o e : Bool) (ending : Ending) (acts : List Act) (s u : Seen) → (ending ≡ NoMemory) ⊎ (ending ≡ Refused) → AreStated acts → Performs o e ending acts s u
    → (u.contents ≡ s.contents) × (u.calls ≡ s.calls)

-- no call is made before the line that stands before it, and none after that line failed
abbrev pub LineFirst : Type 0
LineFirst = (o : Bool) (ending : Ending) (text : List ℕ) (plan : List ChangeCall) (after : Contents) (acts : List Act) (s u : Seen) → Performs o true ending (Report text ∷ Do plan after ∷ acts) s u
    → (u.calls ≡ s.calls) ⊎ ((t : Seen) × (t.err.text ≡ s.err.text ++ text) × Performs o true ending (Do plan after ∷ acts) t u)

-- a run that is done leaves no call out, and the contents are those that were stated
abbrev pub AllMade : Type 0
AllMade = (o e : Bool) (plan : List ChangeCall) (after : Contents) (s u : Seen) → Performs o e Done (Do plan after ∷ []) s u → MakesAll plan s.calls u.calls × (u.contents ≡ after)

-- What a command does, why it is refused after that, and how a run carries that out. Own: "A command is a script of acts".
use Rattle.std.specs.Prelude.{◌≡◌, ℕ, ◌≤◌, ◌++◌, ◌⊎◌, Bool, IsTrue, List, [], ◌∷◌, Option, None, Some}
use Rattle.cluster_tree.specs.Causes.{Rose}
use Rattle.acts.specs.Acts.{Act, Look, Seen, Sunk, Performs}
use Rattle.run_acts.specs.Causes.{IsFree, ending_of}
use Rattle.run_acts.specs.declared.cause.Cause.{Cause}
use Rattle.run_acts.specs.declared.cause.Cause.TheVariants as cause

-- what a command does, act by act, and why it is refused after that, if so
pub record Answer : Type 0 where
  pub acts : List Act
  pub refusal : Option Cause

-- the cause of an answer
abbrev pub cause_in : Option Cause → Cause
cause_in None = cause.Done
cause_in (Some e) = e

-- refused with nothing done but looking
abbrev pub refused : Cause → Answer
refused e = record { acts = Look ∷ []; refusal = Some e }

-- these acts after a look
abbrev pub does : List Act → Answer
does acts = record { acts = Look ∷ acts; refusal = None }

-- A run of a command carries out an answer of the command's form, and where it is known which, as over a tree that tells its contents, the one
-- that is meant: its acts came in order, as far as they came, and the cause is the answer's, a fault of a device, or want of memory.
pub record Carries (Known : Type 0) (meant : Answer) (IsForm : Answer → Type 0) (out_tells err_tells : Bool) (ended : Cause) (old new : Seen) : Type 0 where
  pub answer : Answer
  pub known : Known → answer ≡ meant
  pub form : IsForm answer
  pub exact : IsFree ended ⊎ (ended ≡ cause_in answer.refusal)
  pub acts : Performs out_tells err_tells (ending_of ended) answer.acts old new

-- each fault of a device comes only where its own count rose, and no count falls
pub record Blames (ended : Cause) (reads reads' changes changes' out out' err err' : ℕ) : Type 0 where
  pub read : ended ≡ cause.ReadFault → Rose reads reads'
  pub write : ended ≡ cause.WriteFault → Rose changes changes'
  pub sink : ended ≡ cause.SinkFault → Rose out out' ⊎ Rose err err'
  pub reads_later : reads ≤ reads'
  pub changes_later : changes ≤ changes'
  pub out_later : out ≤ out'
  pub err_later : err ≤ err'

-- what stood on a sink stays, whatever was added
pub record Grows (tells : Bool) (old new : Sunk) : Type 0 where
  pub text : List ℕ
  pub added : IsTrue tells → new.text ≡ old.text ++ text

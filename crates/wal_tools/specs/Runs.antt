-- A whole run: the acts of the command, and then the line of the cause. Own: "A command is a script of acts", "The line of a cause".
use Rattle.std.specs.Prelude.{◌≡◌, ◌≢◌, ◌⊎◌, ℕ, Bool, IsTrue, List, []}
use Rattle.acts.specs.Acts.{Seen, Sunk, Puts, Breaks}
use Rattle.run_acts.specs.Answers.{Answer, Grows}
use Rattle.run_acts.specs.Causes.{has_values}
use Rattle.run_acts.specs.Unseen.{CarriesUnseen}
use Rattle.run_acts.specs.declared.cause.Cause.{Cause}
use Rattle.run_acts.specs.declared.cause.Cause.TheVariants as cause

-- a line was put on a sink, or a write of it failed and left the first bytes of it; nothing is written of a line that is empty
abbrev pub Says : Bool → List ℕ → Sunk → Sunk → Type 0
Says tells line old new = ((line ≡ []) × (new ≡ old)) ⊎ ((line ≢ []) × (Puts tells line old new ⊎ Breaks tells line old new))

-- The command carried out its answer up to `told`, and ended in its outcome. That is the cause of the run; one with values, for whose line there was
-- no memory, becomes OutOfMemory. Then came the line of the cause on standard error, and nothing else. What stood on both sinks stays.
pub record Runs (Seeing Known : Type 0) (meant : Answer) (IsForm : Answer → Type 0) (out_tells err_tells : Bool) (ended : Cause) (line : List ℕ) (old new : Seen) : Type 0 where
  pub outcome : Cause
  pub told : Seen
  pub acts : CarriesUnseen Seeing Known meant IsForm out_tells err_tells outcome old told
  pub out : Grows out_tells old.out told.out
  pub err : Grows err_tells old.err told.err
  pub cause : (ended ≡ outcome) ⊎ (IsTrue (has_values outcome) × (ended ≡ cause.OutOfMemory))
  pub says : Says err_tells line told.err new.err
  pub last : new ≡ record told { err = new.err }

-- The changing calls of a resume, by what the plan in the mark says: PostgreSQL 16, src/bin/pg_rewind/file_ops.c. Own: "A rewind that is resumed".
use Rattle.std.specs.Prelude.{◌≡◌, false, List, map, Some, Ok}
use Rattle.cluster_tree.specs.Change.{Change, call_of}
use Rattle.cluster_tree.specs.Contents.{Contents}
use Rattle.cluster_tree.specs.PathValue.{PathValue}
use Rattle.cluster_tree.specs.declared.tree.ChangeCall.{ChangeCall}
use Rattle.plan_text.specs.Text.{Saying}
use Rattle.resume_core.specs.Stored.{stored_of}
use Rattle.commands.specs.declared.rewind.RewindWords.{RewindWords}
use Rattle.acts.specs.Acts.{Begins, MakesAll}
use Rattle.run_acts.specs.declared.cause.Cause.{Cause}
use Rattle.run_acts.specs.declared.cause.Cause.TheVariants as cause
use Rattle.run_acts.specs.declared.cause.RewindCause.TheVariants as unfit
use Rattle.cmd_resume.specs.Changes.{changes_again, tried}

-- The first of these changes were made, of the last write perhaps only the front; and where what stands differs, just those before the first change that
-- it refuses.
pub record MakesTried (c : Contents) (changes : List Change) (calls calls' : List ChangeCall) (ended : Cause) : Type 0 where
  pub first : Begins (map call_of changes) calls calls'
  pub differs : (way : PathValue) → ended ≡ cause.Rewind (unfit.TargetDiffers way) → MakesAll (map call_of (tried c changes).before) calls calls'

-- so it is of the changes that the plan in the mark says, where no run is dry
abbrev pub MakesAgain : RewindWords → Contents → (calls calls' : List ChangeCall) → (ended : Cause) → Type 0
MakesAgain words c calls calls' ended =
    (said : Saying) → words.dry_run ≡ false → stored_of c words.target words.source ≡ Ok (Some said) → MakesTried c (changes_again c words.target said) calls calls' ended

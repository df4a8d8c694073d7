-- The steps of a removal: its line, and the file. Own: "A command is a script of acts".
use Rattle.std.specs.Prelude.{◌≡◌, ◌⊎◌, ℕ, Bool, List, map, Option, None, Some}
use Rattle.cluster_tree.specs.PathValue.{PathValue}
use Rattle.acts.specs.Acts.{Sunk, Puts, Breaks as BreaksOff}
use Rattle.run_acts.specs.declared.cause.Cause.{Cause}
use Rattle.run_acts.specs.declared.cause.Cause.TheVariants as cause
use Rattle.cmd_archivecleanup.specs.declared.plan.Removal.{Removal}

-- the paths of the files that are removed
abbrev pub paths_of : List Removal → List PathValue
paths_of items = map (λ (r : Removal). r.path) items

-- a line was put, where there is one
abbrev pub Tells : Bool → Option (List ℕ) → Sunk → Sunk → Type 0
Tells tells None old new = new ≡ old
Tells tells (Some line) old new = Puts tells line old new

-- or its write failed
abbrev pub Breaks : Bool → Option (List ℕ) → Sunk → Sunk → Type 0
Breaks tells None old new = ⊥
Breaks tells (Some line) old new = BreaksOff tells line old new

-- what a removal answers that isn't done
abbrev pub IsOfRemoval : Cause → Type 0
IsOfRemoval e = (e ≡ cause.WriteFault) ⊎ ((p : PathValue) × (e ≡ cause.Changed p))

-- The blocks of a file that are copied: PostgreSQL 16, src/bin/pg_rewind/filemap.c and datapagemap.c. Own: "The plan of a rewind".
use Rattle.std.specs.Prelude.{ℕ, zero, suc, ◌+◌, ◌*◌, ◌/◌, ◌==◌, ◌≤◌, ◌||◌, Bool, cond, List, [], ◌∷◌, ◌++◌, map, nat_le, nat_lt}
use Rattle.cluster_tree.specs.PathValue.{PathValue}
use Rattle.rewind_plan.specs.declared.runs.Run.{Run}
use Rattle.rewind_writes.specs.declared.step.Step.{Step}
use Rattle.rewind_writes.specs.declared.step.Step.TheVariants.{Cut, Range}

-- a block joins the run behind it
abbrev pub onto_runs : ℕ → List Run → List Run
onto_runs block [] = record { first = block; count = 1 } ∷ []
onto_runs block (run ∷ runs) =
    cond (run.first == block + 1) (record { first = block; count = run.count + 1 } ∷ runs) (record { first = block; count = 1 } ∷ run ∷ runs)

-- the longest runs of the blocks that are wanted, of so many from one on
abbrev pub runs_of : (ℕ → Bool) → (block count : ℕ) → List Run
runs_of wanted block zero = []
runs_of wanted block (suc count) = cond (wanted block) (onto_runs block (runs_of wanted (block + 1) count)) (runs_of wanted (block + 1) count)

-- all end at a block or before it
abbrev pub AllEnd : ℕ → List Run → Type 0
AllEnd end [] = Unit {0}
AllEnd end (run ∷ runs) = (run.first + run.count ≤ end) × AllEnd end runs

-- a run of blocks of 8192 bytes is copied
abbrev pub range_step : (from to : PathValue) → Run → Step
range_step from to run = Range from to (run.first * 8192) (run.count * 8192)

-- a block is copied where it is wanted, or where the target's file has none of it
abbrev pub is_copied : (ℕ → Bool) → ℕ → ℕ → Bool
is_copied wanted old block = wanted block || nat_le (old / 8192) block

-- a file of blocks with its old size and its new one: it is cut first where it was longer
abbrev pub block_steps : (from to : PathValue) → (ℕ → Bool) → (old new : ℕ) → List Step
block_steps from to wanted old new =
    cond (nat_lt new old) (Cut to new ∷ []) [] ++ map (range_step from to) (runs_of (is_copied wanted old) 0 (new / 8192))

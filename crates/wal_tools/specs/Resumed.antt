-- The promise of pg_rewind, of a rewind that was stopped and is resumed: PostgreSQL 16 manual, reference page of pg_rewind, "How It Works". Own: "A rewind that
-- is resumed".
use Rattle.std.specs.Prelude.{Option, ◌≡◌, ◌⊎◌, ℤ, false, None, Ok}
use Rattle.rmgr_hooks.specs.Custom.{Extension}
use Rattle.cluster_tree.specs.Contents.{Contents}
use Rattle.commands.specs.declared.rewind.RewindWords.{RewindWords}
use Rattle.rewind_core.specs.Fits.{IsPlanFor, IsRewound}
use Rattle.rewind_core.specs.Over.{without_own}
use Rattle.rewind_core.specs.Planned.{Needing, Needs, planned_of}
use Rattle.rewind_core.specs.declared.outcome.Plan.{Plan}
use Rattle.rewind_writes.specs.Plan.{IsResumable}
use Rattle.resume_core.specs.Stored.{stored_of}
use Rattle.stored_laws.specs.Laws.{IsStopped}
use Rattle.rewound_laws.specs.Converge.{Follows}

-- A rewind that was stopped and is resumed leaves the rewound tree of the run that was stopped, and a target that follows its source, whatever contents that
-- run was needed from and whenever it began. Where no complete mark stands it is a rewind of what is seen without one.
pub record ConvergesResumed (custom : Option Extension) (words : RewindWords) (now : ℤ) (c c' : Contents) : Type 0 where
  pub fresh : stored_of c words.target words.source ≡ Ok None → (n : Needing) → words.dry_run ≡ false → planned_of (without_own c words.target) words.target words.source now ≡ Ok (Needs n)
      → Follows custom (without_own c words.target) words.target n c'
  pub stored : words.dry_run ≡ false → (c0 : Contents) (before : ℤ) (n : Needing) (plan : Plan)
      → IsStopped c0 words.target words.source before n plan c → IsRewound c0 n c' × Follows custom c0 words.target n c'
  -- so does one that left no complete mark, by the time of this run, unless it left the rewound tree
  pub anew : words.dry_run ≡ false → stored_of c words.target words.source ≡ Ok None → (c0 : Contents) (before : ℤ) (n : Needing) (plan : Plan)
      → planned_of c0 words.target words.source before ≡ Ok (Needs n) → IsPlanFor c0 n plan → IsResumable c0 plan.text plan.writes c
      → IsRewound c0 n c ⊎ ((m : Needing) × (planned_of c0 words.target words.source now ≡ Ok (Needs m)) × IsRewound c0 m c' × Follows custom c0 words.target m c')

-- What pg_rewind does: PostgreSQL 16 manual, reference page of pg_rewind; src/bin/pg_rewind/pg_rewind.c, main.
use Rattle.std.specs.Prelude.{◌≡◌, ◌⊎◌, ℕ, ℤ, if◌then◌else◌, IsTrue, Bool, false, List, [], ◌∷◌, map, codes, Result, Ok, Err}
use Rattle.std.specs.Fmt.{decimal}
use Rattle.std.specs.List.{concat}
use Rattle.cluster_tree.specs.Change.{Change, all_changed, call_of}
use Rattle.cluster_tree.specs.Contents.{Contents}
use Rattle.cluster_tree.specs.Run.{Moment}
use Rattle.marked_runs.specs.Moments.{IsUntouched, StandsSynced}
use Rattle.wal_base.specs.Lsn.{lsn_text}
use Rattle.timeline_history.specs.declared.ancestor.Divergence.{Divergence}
use Rattle.rewind_survey.specs.declared.fault.RewindFault.{RewindFault}
use Rattle.rewind_survey.specs.declared.outcome.Told.{Told}
use Rattle.rewind_core.specs.Fits.{IsPlanFor, IsRewound, IsSaidIn}
use Rattle.rewind_core.specs.Planned.{AtFork, Meant, Needing, Needs, OneTimeline, planned_of}
use Rattle.rewind_core.specs.Stops.{IsUnderway}
use Rattle.rewind_core.specs.declared.outcome.Plan.{Plan}
use Rattle.rewind_writes.specs.Plan.{IsResumable}
use Rattle.rewind_paths.specs.Laws.{AreOf}
use Rattle.commands.specs.declared.rewind.RewindWords.{RewindWords}
use Rattle.acts.specs.Acts.{Act, Do, Report}
use Rattle.run_acts.specs.Answers.{Answer, refused, does}
use Rattle.run_acts.specs.Causes.{IsOfLook}
use Rattle.run_acts.specs.declared.cause.Cause.{Cause}
use Rattle.cluster_causes.specs.Rewind.{rewind_cause}
use Rattle.cmd_rewind.specs.Changes.{needed_changes}

unfoldable pub same_timeline : List ℕ
same_timeline = codes "pg_rewind: source and target cluster are on the same timeline\n"

unfoldable pub no_rewind : List ℕ
no_rewind = codes "pg_rewind: no rewind required\n"

-- where the clusters parted
unfoldable pub diverged : Divergence → List ℕ
diverged fork = concat (codes "pg_rewind: servers diverged at WAL location " ∷ lsn_text fork.at.0 ∷ codes " on timeline " ∷ decimal fork.tli ∷ codes "\n" ∷ [])

-- from where the target is rewound
unfoldable pub rewinding : Told → List ℕ
rewinding told =
    concat (codes "pg_rewind: rewinding from last common checkpoint at " ∷ lsn_text told.checkpoint.0 ∷ codes " on timeline " ∷ decimal told.tli ∷ codes "\n" ∷ [])

unfoldable pub all_done : List ℕ
all_done = codes "pg_rewind: Done!\n"

-- both clusters are on one timeline, and nothing is to be done: two lines on standard error
abbrev pub same_report : List Act
same_report = Report same_timeline ∷ Report no_rewind ∷ []

-- the target's log ends at the fork, and nothing is to be done: two lines
abbrev pub fork_report : Divergence → List Act
fork_report fork = Report (diverged fork) ∷ Report no_rewind ∷ []

-- a rewind is needed: three lines
abbrev pub rewind_report : Told → List Act
rewind_report told = Report (diverged told.fork) ∷ Report (rewinding told) ∷ Report all_done ∷ []

-- a rewind that is made: two lines, the changes, of these contents, and the last line
abbrev pub made_acts : Told → Contents → List Change → List Act
made_acts told c changes =
    Report (diverged told.fork) ∷ Report (rewinding told) ∷ Do (map call_of changes) (all_changed c changes) ∷ Report all_done ∷ []

-- a rewind that is needed is reported in a dry run (-n), and else made
abbrev pub needed_answer : Bool → (seen c : Contents) → Needing → Answer
needed_answer dry_run seen c n = if dry_run then does (rewind_report n.aim.told) else does (made_acts n.aim.told c (needed_changes seen c n))

-- what is done about two clusters
abbrev pub meant_answer : Bool → (seen c : Contents) → Meant → Answer
meant_answer dry_run seen c OneTimeline = does same_report
meant_answer dry_run seen c (AtFork fork) = does (fork_report fork)
meant_answer dry_run seen c (Needs n) = needed_answer dry_run seen c n

-- that, or why the rewind is refused
abbrev pub found_answer : Bool → (seen c : Contents) → Result Meant RewindFault → Answer
found_answer dry_run seen c (Ok meant) = meant_answer dry_run seen c meant
found_answer dry_run seen c (Err fault) = refused (rewind_cause fault)

-- What is done, by what is seen of the contents: all of them, or where a rewind is begun anew all but its own mark. The time is in seconds since 1970.
abbrev pub rewind_answer : (seen c : Contents) → RewindWords → ℤ → Answer
rewind_answer seen c words now = found_answer words.dry_run seen c (planned_of seen words.target words.source now)

-- over every tree: a report, of a rewind only in a dry run; or else a rewind that is made, all of whose changes are of the target; or a refusal
-- while it looks
abbrev pub IsRewind : RewindWords → Answer → Type 0
IsRewind words answer =
    (answer ≡ does same_report)
    ⊎ ((fork : Divergence) × (answer ≡ does (fork_report fork)))
    ⊎ ((told : Told) × IsTrue words.dry_run × (answer ≡ does (rewind_report told)))
    ⊎ ((told : Told) × (c : Contents) × (changes : List Change) × (words.dry_run ≡ false) × AreOf words.target changes × (answer ≡ does (made_acts told c changes)))
    ⊎ ((e : Cause) × IsOfLook e × (answer ≡ refused e))

-- a rewind that is needed, by what is seen, and made leaves the rewound tree below the target's root, path by path
abbrev pub LeavesRewound : RewindWords → ℤ → (seen after : Contents) → Type 0
LeavesRewound words now seen after =
    (n : Needing) → words.dry_run ≡ false → planned_of seen words.target words.source now ≡ Ok (Needs n) → IsRewound seen n after

-- a stop at any moment leaves the target untouched, and only where a rewind is needed, and no run is dry, marked or rewound
abbrev pub IsLeftByRewind : RewindWords → ℤ → (seen : Contents) → Moment → Contents → Type 0
IsLeftByRewind words now seen first c =
    IsUntouched first c
    ⊎ ((n : Needing) × (words.dry_run ≡ false) × (planned_of seen words.target words.source now ≡ Ok (Needs n)) × IsUnderway words.target seen n c)

-- A rewind that begins on synced contents leaves these at any stop, or what a plan of just what is needed left of what was seen, whose text is read as just that
-- plan. Where its mark reads as complete, a resume completes it, and else begins it anew.
abbrev pub IsLeftToResume : RewindWords → ℤ → (seen c i : Contents) → Type 0
IsLeftToResume words now seen c i =
    (i ≡ c)
    ⊎ ((n : Needing) × (plan : Plan) × (words.dry_run ≡ false) × (planned_of seen words.target words.source now ≡ Ok (Needs n)) × IsPlanFor seen n plan
    × IsSaidIn seen words.target words.source plan × IsResumable seen plan.text plan.writes i)

-- once a rewind that is needed is made, a stop leaves what stands
abbrev pub IsDurable : RewindWords → ℤ → (seen : Contents) → Moment → Type 0
IsDurable words now seen moment =
    (n : Needing) → words.dry_run ≡ false → planned_of seen words.target words.source now ≡ Ok (Needs n) → StandsSynced moment.state.contents moment

-- What is done about a plan that the mark holds, by the plan itself: the code's own, over every tree. Own: "A command is a script of acts".
use Rattle.std.specs.Prelude.{◌≡◌, ◌⊎◌, if◌then◌else◌, false, ℕ, List, Option}
use Rattle.cluster_tree.specs.Change.{Change}
use Rattle.cluster_tree.specs.Contents.{Contents}
use Rattle.cluster_tree.specs.PathValue.{PathValue}
use Rattle.cluster_tree.specs.Run.{Moment}
use Rattle.marked_runs.specs.Moments.{IsSafe, IsUntouched}
use Rattle.plan_text.specs.declared.stored.StoredPlan.{StoredPlan}
use Rattle.rewind_writes.specs.declared.plan.Plan.{Plan}
use Rattle.rewind_paths.specs.Laws.{AreOf}
use Rattle.resumed_laws.specs.Resumed.{resumed_changes}
use Rattle.resumed_writes.specs.Again.{resumed_end}
use Rattle.commands.specs.declared.rewind.RewindWords.{RewindWords}
use Rattle.run_acts.specs.Answers.{Answer, does}
use Rattle.cmd_rewind.specs.Rewind.{rewind_report}
use Rattle.cmd_resume.specs.Resume.{behind_line, differing_rest, made_rest, rest_of, told_answer}

-- what is done behind the two lines
abbrev pub again_rest : PathValue → Contents → Plan → Answer
again_rest target c plan = rest_of target c (resumed_changes c plan)

-- the report in a dry run, else that
abbrev pub again_answer : RewindWords → Contents → StoredPlan → Answer
again_answer words c stored =
    if words.dry_run then does (rewind_report stored.told) else told_answer stored.told (again_rest words.target c stored.plan)

-- changes of the target and the last line, or some changes of it and a refusal
abbrev pub IsRest : PathValue → Answer → Type 0
IsRest target answer =
    ((c : Contents) × (changes : List Change) × AreOf target changes × (answer ≡ made_rest c changes))
    ⊎ ((after : Option Contents) × (way : PathValue) × (answer ≡ differing_rest target after way))

-- of that form behind a line
abbrev pub IsBehind : List ℕ → (Answer → Type 0) → Answer → Type 0
IsBehind line IsForm answer = (rest : Answer) × IsForm rest × (answer ≡ behind_line line rest)

-- what a stop may leave: untouched, and only where no run is dry marked or made
abbrev pub IsLeftAgain : RewindWords → Plan → Moment → Contents → Type 0
IsLeftAgain words plan first d = IsUntouched first d ⊎ ((words.dry_run ≡ false) × IsSafe plan.mark first (resumed_end first.state.contents plan) d)

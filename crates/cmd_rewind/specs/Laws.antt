-- A run that isn't finished is refused, for callers. Own: "Mark files".
use Rattle.std.specs.Prelude.{◌≡◌, ℤ}
use Rattle.cluster_tree.specs.Contents.{Contents}
use Rattle.cluster_tree.specs.Marks.{marks_of}
use Rattle.cluster_tree.specs.PathValue.{PathValue}
use Rattle.commands.specs.declared.rewind.RewindWords.{RewindWords}
use Rattle.marked_runs.specs.Moments.{IsMarked}
use Rattle.rewind_core.specs.Laws.{IsMarkThere}
use Rattle.run_acts.specs.Answers.{refused}
use Rattle.run_acts.specs.declared.cause.Cause.TheVariants as cause
use Rattle.cmd_rewind.specs.Rewind.{rewind_answer}

-- where a mark stands in the target, the answer is that it does, of the first that does, and nothing is done
abbrev pub MarkedIsRefused : Type 0
MarkedIsRefused = (c : Contents) (words : RewindWords) (now : ℤ) (mark : PathValue) → IsMarkThere (marks_of words.target) c mark →
    (first : PathValue) × IsMarkThere (marks_of words.target) c first × (rewind_answer c c words now ≡ refused (cause.Unfinished first))

-- so it is of what a stopped rewind left, where it left its mark
abbrev pub UnfinishedIsRefused : Type 0
UnfinishedIsRefused = (c : Contents) (words : RewindWords) (now : ℤ) → IsMarked (marks_of words.target).rewind c →
    rewind_answer c c words now ≡ refused (cause.Unfinished (marks_of words.target).rewind)

-- What the plan in a mark says, or its first line that is at fault. Own: "The plan of a rewind as text".
use Rattle.std.specs.Prelude.{ℕ, ◌+◌, ◌^◌, ◌==◌, List, [], ◌∷◌, bytes_eq, codes, drop, length, nat_le, Option, None, Some, Result, Ok, option_and_then, option_map, if◌then◌else◌}
use Rattle.cluster_tree.specs.PathValue.{PathValue}
use Rattle.wal_base.specs.Decimal.{decimal_number}
use Rattle.wal_base.specs.declared.lsn.Lsn.{Lsn}
use Rattle.rewind_survey.specs.declared.outcome.Told.{Told}
use Rattle.rewind_writes.specs.declared.step.Step.{Step}
use Rattle.mark_lines.specs.Words.{bytes_in, words_of}
use Rattle.mark_lines.specs.Lines.{and_then, end_of, ended_by, first_line, led_by, pieces_of, said_first}
use Rattle.plan_text.specs.Words.{lsn_in, sum_in}
use Rattle.plan_text.specs.Steps.{step_of, turn}
use Rattle.plan_text.specs.Text.{Saying}

-- the sum in the first line
abbrev pub source_of : List (List ℕ) → Option ℕ
source_of (verb ∷ sum ∷ []) = if bytes_eq verb (codes "source") then sum_in sum else None
source_of words = None

-- a timeline of 32 bits
abbrev pub tli_in : List ℕ → Option ℕ
tli_in word = decimal_number (2 ^ 32) word

-- these told together
abbrev pub told_with : (tli : ℕ) → (at checkpoint : Lsn) → ℕ → Told
told_with tli at checkpoint theirs = record { fork = record { tli = tli; at = at }; checkpoint = checkpoint; tli = theirs }

-- the fork, the checkpoint and its timeline, each by its word
abbrev pub told_by : (tli at checkpoint theirs : List ℕ) → Option Told
told_by tli at checkpoint theirs =
    option_and_then (λ t. option_and_then (λ a. option_and_then (λ c. option_map (told_with t a c) (tli_in theirs)) (lsn_in checkpoint)) (lsn_in at)) (tli_in tli)

-- .. in the second line
abbrev pub told_of : List (List ℕ) → Option Told
told_of (verb ∷ tli ∷ at ∷ checkpoint ∷ theirs ∷ []) = if bytes_eq verb (codes "told") then told_by tli at checkpoint theirs else None
told_of words = None

-- the bytes behind a word
abbrev pub bytes_of : List ℕ → List (List ℕ) → Option (List ℕ)
bytes_of name (verb ∷ digits ∷ []) = if bytes_eq verb name then bytes_in digits else None
bytes_of name words = None

-- a control file has 8192 bytes
abbrev pub sized_control : List ℕ → Option (List ℕ)
sized_control bytes = if length bytes == 8192 then Some bytes else None

-- .. behind its word
abbrev pub control_of : List (List ℕ) → Option (List ℕ)
control_of words = option_and_then sized_control (bytes_of (codes "control") words)

-- the step that a line says, where its turn is come
abbrev pub in_turn : ℕ → Step → Option Step
in_turn least step = if nat_le least (turn step) then Some step else None

-- .. that these words say
abbrev pub next_step : (target source : PathValue) → ℕ → List ℕ → Option Step
next_step target source least line = option_and_then (in_turn least) (step_of target source (words_of line))

-- .. that the first line says
abbrev pub first_step : (target source : PathValue) → ℕ → List (List ℕ) → Option Step
first_step target source least pieces = option_and_then (λ cut. next_step target source least cut.0) (first_line pieces)

-- the steps at the front, each in its turn
unfoldable pub steps_in : (target source : PathValue) → ℕ → List (List ℕ) → List Step
steps_in target source least [] = []
steps_in target source least (line ∷ []) = []
steps_in target source least (line ∷ (next ∷ more)) =
    led_by (next_step target source least line) (λ step. steps_in target source (turn step) (next ∷ more))

-- what stands in the lines behind the steps
pub record Closing : Type 0 where
  pub label : List ℕ
  pub control : List ℕ

-- the label, the control file and the end, from the line of a number on
abbrev pub closing_in : ℕ → List (List ℕ) → Result Closing ℕ
closing_in n pieces =
    and_then (said_first (bytes_of (codes "label")) n pieces) (λ label.
    and_then (said_first control_of (n + 1) label.1) (λ control.
    and_then (said_first end_of (n + 2) control.1) (λ end.
    ended_by (record { label = label.0; control = control.0 }) (n + 3) end.1)))

-- the plan with these
abbrev pub with_closing : ℕ → Told → List Step → Closing → Saying
with_closing source told steps closing =
    record { source = source; told = told; steps = steps; label = closing.label; control = closing.control }

-- the steps, and what closes the plan
abbrev pub behind_head : (target source : PathValue) → ℕ → Told → List (List ℕ) → Result Saying ℕ
behind_head target source sum told pieces =
    let steps = steps_in target source 0 pieces in
    and_then (closing_in (length steps + 3) (drop (length steps) pieces)) (λ closing. Ok (with_closing sum told steps closing))

-- a plan's text, or the number of its first line that isn't of its form or its place
unfoldable pub said_in : (target source : PathValue) → List (List ℕ) → Result Saying ℕ
said_in target source pieces =
    and_then (said_first source_of 1 pieces) (λ sum.
    and_then (said_first told_of 2 sum.1) (λ told.
    behind_head target source sum.0 told.0 told.1))

-- .. of its bytes
abbrev pub said_of : (target source : PathValue) → List ℕ → Result Saying ℕ
said_of target source text = said_in target source (pieces_of text)

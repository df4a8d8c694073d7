-- What was written is read again.
use Rattle.std.proofs.Common.{◌≡◌, ℕ, ◌+◌, ◌<◌, ◌^◌, ◌==◌, true, List, [], ◌∷◌, ◌++◌, codes, length, None, Some, option_and_then, Ok, refl, sym, ap, ◌∙◌, arith, if◌then◌else◌}
use Rattle.std.specs.List.{join_with_byte, list_all}
use Rattle.hex.specs.Hex.{IsBytes, encode_lower}
use Rattle.wal_base.specs.Hex.{hex8}
use Rattle.wal_base.proofs.HexDigits.{and_both}
use Rattle.cluster_tree.specs.PathValue.{PathValue}
use Rattle.rewind_survey.specs.declared.outcome.Told.{Told}
use Rattle.mark_lines.specs.Words.{line}
use Rattle.plan_text.specs.Steps.{step_of}
use Rattle.plan_text.specs.Text.{Saying, bytes_line, plan_text, source_line, step_lines, told_line, told_words}
use Rattle.mark_lines.specs.Lines.{and_then, end_of, ended_by, pieces_of, said_first}
use Rattle.plan_text.specs.Reading.{behind_head, bytes_of, closing_in, control_of, first_step, in_turn, next_step, sized_control, source_of, told_of, with_closing}
use Rattle.plan_text.specs.Laws.{IsSaid, IsTold, PlanTextsAreRead}
use Rattle.mark_lines.proofs.DigitLemmas.{bytes_back, plain_bytes}
use Rattle.plan_text.proofs.SumLemmas.{plain_sum, sum_back}
use Rattle.plan_text.proofs.ToldLemmas.{told_back, told_plain}
use Rattle.mark_lines.proofs.LineLemmas.{are_plain, first_back, is_plain, line_back, said_line, words_back}
use Rattle.plan_text.proofs.ReadingLemmas.{closed, headed}
use Rattle.plan_text.proofs.StepBackLemmas.{behind_steps, steps_back}

-- the label, the control file and the end
abbrev end_line : List ℕ
end_line = line (codes "end" ∷ [])

abbrev control_on : List ℕ → List ℕ
control_on control = bytes_line (codes "control") control ++ end_line

label_plain : (label : List ℕ) → IsBytes label → are_plain (codes "label" ∷ encode_lower label ∷ []) ≡ true
label_plain label bytes = and_both (list_all is_plain (encode_lower label)) true (plain_bytes label bytes) refl

control_plain : (control : List ℕ) → IsBytes control → are_plain (codes "control" ∷ encode_lower control ∷ []) ≡ true
control_plain control bytes = and_both (list_all is_plain (encode_lower control)) true (plain_bytes control bytes) refl

label_read : (n : ℕ) (label rest : List ℕ) → IsBytes label → said_first (bytes_of (codes "label")) n (pieces_of (bytes_line (codes "label") label ++ rest)) ≡ Ok (label, pieces_of rest)
label_read n label rest bytes =
    said_line (bytes_of (codes "label")) n (codes "label" ∷ encode_lower label ∷ []) rest label (omega arith) (label_plain label bytes) (bytes_back label bytes)

control_back : (control : List ℕ) → IsBytes control → length control ≡ 8192 → control_of (codes "control" ∷ encode_lower control ∷ []) ≡ Some control
control_back control bytes size = ap (option_and_then sized_control) (bytes_back control bytes) ∙ ap (λ n. if n == 8192 then Some control else None) size

control_read : (n : ℕ) (control rest : List ℕ) → IsBytes control → length control ≡ 8192
    → said_first control_of n (pieces_of (bytes_line (codes "control") control ++ rest)) ≡ Ok (control, pieces_of rest)
control_read n control rest bytes size =
    said_line control_of n (codes "control" ∷ encode_lower control ∷ []) rest control (omega arith) (control_plain control bytes) (control_back control bytes size)

closing_back : (n : ℕ) (label control : List ℕ) → IsBytes label → IsBytes control → length control ≡ 8192
    → closing_in n (pieces_of (bytes_line (codes "label") label ++ control_on control)) ≡ Ok (record { label = label; control = control })
closing_back n label control lb cb size =
    ap (λ r. and_then r (λ l. and_then (said_first control_of (n + 1) l.1) (λ c. and_then (said_first end_of (n + 2) c.1)
    (λ e. ended_by (record { label = l.0; control = c.0 }) (n + 3) e.1)))) (label_read n label (control_on control) lb)
    ∙ ap (λ r. and_then r (λ c. and_then (said_first end_of (n + 2) c.1) (λ e. ended_by (record { label = label; control = c.0 }) (n + 3) e.1)))
    (control_read (n + 1) control end_line cb size)

-- no step stands there
no_step : (target source : PathValue) (label rest : List ℕ) → IsBytes label → (n : ℕ) → first_step target source n (pieces_of (bytes_line (codes "label") label ++ rest)) ≡ None
no_step target source label rest bytes n =
    let words = codes "label" ∷ encode_lower label ∷ [] in
    ap (first_step target source n) (line_back words rest (label_plain label bytes))
    ∙ ap (option_and_then (λ cut. next_step target source n cut.0)) (first_back (join_with_byte 32 words) rest)
    ∙ ap (λ w. option_and_then (in_turn n) (step_of target source w)) (words_back words (omega arith) (label_plain label bytes))

-- what stands behind the first two lines
abbrev behind_told : PathValue → Saying → List ℕ
behind_told target said = step_lines target said.steps ++ (bytes_line (codes "label") said.label ++ control_on said.control)

behind_back : (target source : PathValue) (said : Saying) → IsSaid target source said → behind_head target source said.source said.told (pieces_of (behind_told target said)) ≡ Ok said
behind_back target source said is =
    let rest = bytes_line (codes "label") said.label ++ control_on said.control in
    let steps = steps_back target source 0 said.steps rest is.steps is.turns is.texts (no_step target source said.label (control_on said.control) is.label) in
    closed target source said.source said.told (pieces_of (behind_told target said)) said.steps (sym steps)
    ∙ ap (λ p. and_then (closing_in (length said.steps + 3) p) (λ closing. Ok (with_closing said.source said.told said.steps closing)))
    (behind_steps target source said.steps rest is.steps is.texts)
    ∙ ap (λ r. and_then r (λ closing. Ok (with_closing said.source said.told said.steps closing)))
    (closing_back (length said.steps + 3) said.label said.control is.label is.control is.size)

source_read : (sum : ℕ) (rest : List ℕ) → sum < 2 ^ 32 → said_first source_of 1 (pieces_of (source_line sum ++ rest)) ≡ Ok (sum, pieces_of rest)
source_read sum rest h =
    said_line source_of 1 (codes "source" ∷ hex8 sum ∷ []) rest sum (omega arith) (and_both (list_all is_plain (hex8 sum)) true (plain_sum sum) refl) (sum_back sum h)

told_read : (told : Told) (rest : List ℕ) → IsTold told → said_first told_of 2 (pieces_of (told_line told ++ rest)) ≡ Ok (told, pieces_of rest)
told_read told rest is = said_line told_of 2 (told_words told) rest told (omega arith) (told_plain told is) (told_back told is)

pub all_read : PlanTextsAreRead
unfolding plan_text
all_read target source said is =
    let rest = behind_told target said in
    sym (headed target source (pieces_of (source_line said.source ++ (told_line said.told ++ rest))) (pieces_of (told_line said.told ++ rest)) (pieces_of rest) said.source said.told
    (source_read said.source (told_line said.told ++ rest) is.sum) (told_read said.told rest is.told))
    ∙ behind_back target source said is

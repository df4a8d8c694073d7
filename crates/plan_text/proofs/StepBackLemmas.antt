-- Steps that were written as lines, read again.
use Rattle.std.proofs.Common.{◌≡◌, ℕ, suc, ◌+◌, ◌<◌, ◌≤◌, ◌^◌, true, List, [], ◌∷◌, ◌++◌, codes, decimal, drop, length, nat_le, nat_lt, None, Some, option_and_then, option_map, refl, sym, ap, ◌∙◌, arith, append_assoc, if◌then◌else◌}
use Rattle.std.proofs.lemmas.Bool.{and_parts}
use Rattle.std.proofs.lemmas.Bool.Decides.{nat_tests}
use Rattle.std.specs.List.{join_with_byte, list_all}
use Rattle.std.specs.Str.{is_utf8}
use Rattle.wal_base.proofs.HexDigits.{and_both}
use Rattle.cluster_tree.specs.PathValue.{PathValue, below}
use Rattle.cluster_tree.proofs.RootLemmas.{held-below}
use Rattle.rewind_writes.specs.declared.step.Step.{Step}
use Rattle.rewind_writes.specs.declared.step.Step.TheVariants.{Folder, Whole, Cut, Range, Remove}
use Rattle.mark_lines.specs.Words.{line, size_in}
use Rattle.mark_lines.specs.Paths.{parts_below, path_word, way_of}
use Rattle.plan_text.specs.Paths.{step_parts_in}
use Rattle.plan_text.specs.Steps.{depth, of_size, range_in, step_of, step_words, turn}
use Rattle.plan_text.specs.Text.{step_lines}
use Rattle.plan_text.specs.Reading.{first_step, in_turn, next_step, steps_in}
use Rattle.mark_lines.specs.Lines.{pieces_of}
use Rattle.plan_text.specs.Laws.{AllAreBetween, InTurn, IsBelow, IsBetween, IsCopied, are_texts, is_text}
use Rattle.mark_lines.proofs.DigitLemmas.{plain_decimal, plain_path, size_back}
use Rattle.mark_lines.proofs.LineLemmas.{are_plain, first_back, is_plain, line_back, words_back}
use Rattle.plan_text.proofs.StepLemmas.{ended, led}
use Rattle.plan_text.proofs.OwnWayLemmas.{parts_back}

-- a step at a path is read from the path's word
made_back : (room : ℕ) (root path : PathValue) (make : List (List ℕ) → Step) (step : Step) → IsBelow room root path → is_utf8 (way_of root path) ≡ true
    → make (parts_below root path) ≡ step → option_map make (step_parts_in room (path_word root path)) ≡ Some step
made_back room root path make step is text e = ap (option_map make) (parts_back room (parts_below root path) is.way text) ∙ ap Some e

placed : (room : ℕ) (root path : PathValue) → IsBelow room root path → below root (parts_below root path) ≡ path
placed room root path is = sym (held-below root path is.held)

whole_back : (target source from to : PathValue) (size : ℕ) → IsCopied target source from to → is_utf8 (way_of target to) ≡ true
    → option_map (λ parts. Whole (below source parts) (below target parts) size) (step_parts_in (depth target source) (path_word target to)) ≡ Some (Whole from to size)
whole_back target source from to size is text =
    made_back (depth target source) target to (λ parts. Whole (below source parts) (below target parts) size) (Whole from to size) is.placed text
    (λ i. Whole (sym is.same i) (placed (depth target source) target to is.placed i) size)

range_back : (target source from to : PathValue) (at size : ℕ) → IsCopied target source from to → is_utf8 (way_of target to) ≡ true
    → at + size < 2 ^ 64 → range_in target source (path_word target to) at size ≡ Some (Range from to at size)
range_back target source from to at size is text fits =
    let test : nat_lt (at + size) (2 ^ 64) ≡ true = grind (arith, nat_tests, fits) in
    ap (λ b. if b then option_map (λ parts. Range (below source parts) (below target parts) at size) (step_parts_in (depth target source) (path_word target to)) else None) test
    ∙ made_back (depth target source) target to (λ parts. Range (below source parts) (below target parts) at size) (Range from to at size) is.placed text
    (λ i. Range (sym is.same i) (placed (depth target source) target to is.placed i) at size)

step_back : (target source : PathValue) (step : Step) → IsBetween target source step → is_text target step ≡ true → step_of target source (step_words target step) ≡ Some step
step_back target source (Folder path) is text =
    made_back (depth target source) target path (λ parts. Folder (below target parts)) (Folder path) is text (ap Folder (placed (depth target source) target path is))
step_back target source (Whole from to size) is text =
    ap (option_and_then (of_size target source (codes "whole") (path_word target to))) (size_back size is.1) ∙ whole_back target source from to size is.0 text
step_back target source (Cut path size) is text =
    ap (option_and_then (of_size target source (codes "cut") (path_word target path))) (size_back size is.1)
    ∙ made_back (depth target source) target path (λ parts. Cut (below target parts) size) (Cut path size) is.0 text (ap (λ p. Cut p size) (placed (depth target source) target path is.0))
step_back target source (Range from to at size) is text =
    ap (option_and_then (λ n. option_and_then (range_in target source (path_word target to) n) (size_in (decimal size)))) (size_back at (omega (arith, is.1)))
    ∙ ap (option_and_then (range_in target source (path_word target to) at)) (size_back size (omega (arith, is.1)))
    ∙ range_back target source from to at size is.0 text is.1
step_back target source (Remove path) is text =
    made_back (length target.parts) target path (λ parts. Remove (below target parts)) (Remove path) is text (ap Remove (placed (length target.parts) target path is))

-- its words are plain
plain_step : (target source : PathValue) (step : Step) → IsBetween target source step → is_text target step ≡ true → are_plain (step_words target step) ≡ true
plain_step target source (Folder path) is text = and_both (list_all is_plain (path_word target path)) true (plain_path target path text) refl
plain_step target source (Whole from to size) is text =
    and_both (list_all is_plain (path_word target to)) _ (plain_path target to text) (and_both (list_all is_plain (decimal size)) true (plain_decimal size is.1) refl)
plain_step target source (Cut path size) is text =
    and_both (list_all is_plain (path_word target path)) _ (plain_path target path text) (and_both (list_all is_plain (decimal size)) true (plain_decimal size is.1) refl)
plain_step target source (Range from to at size) is text =
    and_both (list_all is_plain (path_word target to)) _ (plain_path target to text)
    (and_both (list_all is_plain (decimal at)) _ (plain_decimal at (omega (arith, is.1)))
    (and_both (list_all is_plain (decimal size)) true (plain_decimal size (omega (arith, is.1))) refl))
plain_step target source (Remove path) is text = and_both (list_all is_plain (path_word target path)) true (plain_path target path text) refl

some_words : (target : PathValue) (step : Step) → 0 < length (step_words target step)
some_words target (Folder path) = omega arith
some_words target (Whole from to size) = omega arith
some_words target (Cut path size) = omega arith
some_words target (Range from to at size) = omega arith
some_words target (Remove path) = omega arith

-- the first step of a text
taken : (least : ℕ) (step : Step) → least ≤ turn step → in_turn least step ≡ Some step
taken least step le = let test : nat_le least (turn step) ≡ true = grind (arith, nat_tests, le) in ap (λ b. if b then Some step else None) test

first_read : (target source : PathValue) (least : ℕ) (step : Step) (rest : List ℕ) → IsBetween target source step → is_text target step ≡ true → least ≤ turn step
    → first_step target source least (join_with_byte 32 (step_words target step) ∷ pieces_of rest) ≡ Some step
first_read target source least step rest is text le =
    ap (option_and_then (λ cut. next_step target source least cut.0)) (first_back (join_with_byte 32 (step_words target step)) rest)
    ∙ ap (λ words. option_and_then (in_turn least) (step_of target source words)) (words_back (step_words target step) (some_words target step) (plain_step target source step is text))
    ∙ ap (option_and_then (in_turn least)) (step_back target source step is text)
    ∙ taken least step le

lines_cut : (target source : PathValue) (step : Step) (steps : List Step) (rest : List ℕ) → IsBetween target source step → is_text target step ≡ true
    → pieces_of (step_lines target (step ∷ steps) ++ rest) ≡ join_with_byte 32 (step_words target step) ∷ pieces_of (step_lines target steps ++ rest)
lines_cut target source step steps rest is text =
    ap pieces_of (append_assoc (line (step_words target step)) (step_lines target steps) rest)
    ∙ line_back (step_words target step) (step_lines target steps ++ rest) (plain_step target source step is text)

-- all steps, where no further one stands behind them
pub steps_back : (target source : PathValue) (least : ℕ) (steps : List Step) (rest : List ℕ) → AllAreBetween target source steps → InTurn least steps
    → are_texts target steps ≡ true → ((n : ℕ) → first_step target source n (pieces_of rest) ≡ None)
    → steps_in target source least (pieces_of (step_lines target steps ++ rest)) ≡ steps
steps_back target source least [] rest are turns texts stop = ended target source least (pieces_of rest) (stop least)
steps_back target source least (step ∷ steps) rest are turns texts stop =
    let text = step_lines target steps ++ rest in
    let t = and_parts (is_text target step) (are_texts target steps) texts in
    let first = led target source least (join_with_byte 32 (step_words target step) ∷ pieces_of text) step (first_read target source least step text are.0 t.0 turns.0) in
    ap (steps_in target source least) (lines_cut target source step steps rest are.0 t.0) ∙ first.1
    ∙ ap (λ l. step ∷ l) (steps_back target source (turn step) steps rest are.1 turns.1 t.1 stop)

pub behind_steps : (target source : PathValue) (steps : List Step) (rest : List ℕ) → AllAreBetween target source steps → are_texts target steps ≡ true
    → drop (length steps) (pieces_of (step_lines target steps ++ rest)) ≡ pieces_of rest
behind_steps target source [] rest are texts = refl
behind_steps target source (step ∷ steps) rest are texts =
    let t = and_parts (is_text target step) (are_texts target steps) texts in
    ap (drop (suc (length steps))) (lines_cut target source step steps rest are.0 t.0) ∙ behind_steps target source steps rest are.1 t.1

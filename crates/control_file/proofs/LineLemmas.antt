-- A line as its pieces are appended.
use Rattle.std.proofs.Common.{◌≡◌, ℕ, ◌-◌, List, [], ◌∷◌, ◌++◌, length, replicate, Option, Some, None, append_assoc, refl, sym, ◌∙◌}
use Rattle.std.specs.List.{concat}
use Rattle.std.proofs.lemmas.List.{append-nil}
use Rattle.std.specs.Prelude.{IfSome}
use Rattle.std.specs.Fmt.{AppendsText, ◌++?◌}
use Rattle.control_file.specs.Text.{line, with_lines, lines_of, control_text_of, head_lines, redo_file_line, checkpoint_lines, oldest_lines, recovery_lines, setting_lines, size_lines, storage_lines}
use Rattle.control_file.specs.declared.control.Control.{Control}

pub line_is : (old labelled new label : List ℕ) (value : Option (List ℕ)) → labelled ≡ old ++ (label ++ replicate (38 - length label) 32) → AppendsText labelled new (value ++? Some (10 ∷ [])) → IfSome value (λ text. new ≡ old ++ line label text)
unfolding line
line_is old labelled new label None front written = tt
line_is old labelled new label (Some text) front written = rw (written, front) (simp append_assoc)

-- lines appended are their texts joined
pub with_lines-concat : (text : List ℕ) (lines : List (List ℕ)) → with_lines text lines ≡ text ++ concat lines
with_lines-concat text [] = sym (append-nil text)
with_lines-concat text (more ∷ lines) = with_lines-concat (text ++ more) lines ∙ append_assoc text more (concat lines)

-- part by part
pub with_lines-append : (text : List ℕ) (xs ys : List (List ℕ)) → with_lines text (xs ++ ys) ≡ with_lines (with_lines text xs) ys
with_lines-append text [] ys = refl
with_lines-append text (more ∷ xs) ys = with_lines-append (text ++ more) xs ys

-- the whole text, part by part
pub control_text_of-parts : (c : Control) → control_text_of c ≡ with_lines (with_lines (with_lines (with_lines (with_lines (with_lines (with_lines [] (head_lines c) ++ redo_file_line c) (checkpoint_lines c.cp)) (oldest_lines c.cp)) (recovery_lines c)) (setting_lines c)) (size_lines c)) (storage_lines c)
unfolding control_text_of lines_of
control_text_of-parts c = sym (with_lines-concat [] (lines_of c)) ∙ simp with_lines-append

-- A column and what fills it; a position.
use Rattle.std.proofs.Common.{◌≡◌, ℕ, ◌-◌, List, ◌++◌, Result, Ok, Err, length, replicate, ap, ◌∙◌, arith, append_assoc, length-append}
use Rattle.std.specs.Prelude.{IfOk, OnOk}
use Rattle.std.specs.Str.{IsAscii, IsUtf8}
use Rattle.std.proofs.lemmas.Str.{IsUtf8-from_ascii}
use Rattle.waldump_core.specs.Line.{left_in}

grown : (old name : List ℕ) → length (old ++ name) - length old ≡ length name
grown old name = omega (arith, length-append old name)

pub column_filled : (width : ℕ) (old name : List ℕ) → (old ++ name) ++ replicate (width - (length (old ++ name) - length old)) 32 ≡ old ++ left_in width name
column_filled width old name =
    ap (λ n. (old ++ name) ++ replicate (width - n) 32) (grown old name) ∙ append_assoc old name (replicate (width - length name) 32)

-- what an Ok leaves
pub on_ok : {A E : Type 0} (r : Result A E) (P : Type 0) → OnOk r P → IfOk r (λ _. P)
on_ok (Ok v) P h = h
on_ok (Err e) P h = tt

-- ASCII is text
pub text_of_ascii : (bytes : List ℕ) → IsAscii bytes → IsUtf8 bytes
text_of_ascii bytes is = IsUtf8-from_ascii bytes is

pub ruleset column_steps = (column_filled)
